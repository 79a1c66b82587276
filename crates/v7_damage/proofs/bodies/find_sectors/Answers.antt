use Rattle.std.proofs.Common.{◌≡◌, ◌∙◌, ℕ, ap}
use Rattle.std.proofs.lemmas.List.{get_or_read}
use Rattle.stable.specs.Store.{Image}
use Rattle.v7_map.specs.Image.{inode_at}
use Rattle.v7_map.specs.Frame.{address_of, head_of}
use Rattle.v7_map.specs.Damage.{place_at}
use Rattle.v7_damage.specs.Tables.{start_kept}
use Rattle.v7_damage.proofs.ReadSlots.{at_places, in_table, is_there}
use Rattle.v7_damage.proofs.bodies.find_sectors.Goals as goal

pub returns-then-start-clause-sectors : goal.returns-then-start-clause-sectors
returns-then-start-clause-sectors g c = λ tells can.
    let read : c.index-start.result.now ≡ start_kept c.args.bodies.now c.args.ino = get_or_read c.args.bodies.now.starts.items c.args.ino _ c.requires.starts c.index-start.ensures 0 in
    in_table (g.S.Stable.image c.args.store.now) c.args.bodies.now c.args.ino can c.index-start.result.now read c.if-start.true

pub returns-clause-sectors : goal.returns-clause-sectors
returns-clause-sectors g c = λ tells can.
    let image : Image = g.S.Stable.image c.args.store.now in
    let i : ℕ = c.args.ino in
    let inode : c.in_ok-inode.inode ≡ inode_at image i = c.in_ok-inode.ensures.inode tells (record { kept = λ some. absurd (some c.new-reader.ensures) }) (is_there image c.args.bodies.now i can) in
    at_places image c.args.bodies.now i can c.in_ok-inode.inode c.in_ok-places.places inode
    (λ k lt. (c.in_ok-places.ensures.places tells).each k lt ∙ ap (λ (x : Image). address_of x (head_of c.in_ok-inode.inode) (place_at k)) c.in_ok-inode.ensures.looked.image)
