use Rattle.std.proofs.Common.{◌≡◌, ℕ, ◌/◌, min, sym, subst, ◌∙◌}
use Rattle.plan_file.specs.Places.{ArePlaces}
use Rattle.stable.specs.Store.{Image}
use Rattle.v7_map.proofs.Whole.{as_long}
use Rattle.plan_name.proofs.LayingOut.{lays-so, lays-left, all-lowest}
use Rattle.plan_name.proofs.laying_out.lay_out.Goals as goal

pub returns-clause-lays : goal.returns-clause-lays
returns-clause-lays g c = λ tells d inodes may.
    let S = g.S.Stable in
    let image : Image = S.image c.args.store.now in
    let count : c.sectors.result ≡ S.sector_count c.args.store.now = c.sectors.ensures ∙ c.in_ok-places.ensures.looked.sectors in
    let long = (as_long S.sector_count g.met.S.Stable.clocked g.met.S.Stable.shape c.args.store.now tells).size in
    lays-so image d c.args.inode.now c.args.blocks.now inodes may c.in_ok-places.places c.sectors.result (count ∙ sym long)
    (subst (λ (n : ℕ). ArePlaces image (min n 1048576) c.args.inode.now c.in_ok-places.places) (sym count) (c.in_ok-places.ensures.places tells))
    c.lay.result c.lay.ensures.laid c.lay.ensures.none

pub returns-clause-left : goal.returns-clause-left
returns-clause-left g c = λ tells d inodes may.
    let S = g.S.Stable in
    let image : Image = S.image c.args.store.now in
    let count : c.sectors.result ≡ S.sector_count c.args.store.now = c.sectors.ensures ∙ c.in_ok-places.ensures.looked.sectors in
    let long = (as_long S.sector_count g.met.S.Stable.clocked g.met.S.Stable.shape c.args.store.now tells).size in
    lays-left image d c.args.inode.now c.args.blocks.now inodes may c.in_ok-places.places c.sectors.result (count ∙ sym long)
    (subst (λ (n : ℕ). ArePlaces image (min n 1048576) c.args.inode.now c.in_ok-places.places) (sym count) (c.in_ok-places.ensures.places tells))
    c.in_ok-places.ensures.through c.lay.result c.lay.ensures.laid

pub returns-clause-lowest : goal.returns-clause-lowest
returns-clause-lowest g c = all-lowest c.args.blocks.now c.in_ok-places.places (c.args.inode.now.size / 16 / 32) c.lay.result c.lay.ensures.laid
