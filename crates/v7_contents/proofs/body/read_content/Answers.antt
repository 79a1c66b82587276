use Rattle.std.proofs.Common.{◌≡◌, ℕ, ◌<◌, min, get_or, length, IfOk, ap, sym, subst, ◌∙◌}
use Rattle.plan_file.specs.Places.{ArePlaces}
use Rattle.stable.specs.Store.{Image}
use Rattle.v7_layout.specs.declared.inode.Inode.{Inode}
use Rattle.v7_map.specs.Image.{IsImage}
use Rattle.v7_map.specs.Stored.{sector_in, read_bytes}
use Rattle.v7_map.proofs.Whole.{as_long, whole_image}
use Rattle.v7_contents.proofs.Bytes.{places_in}
use Rattle.v7_contents.proofs.body.read_content.Goals as goal

pub returns-clause-read : goal.returns-clause-read
returns-clause-read g c = λ tells strong file is.
    let S = g.S.Stable in
    let old : Image = S.image c.args.store.now in
    let n : Inode = c.args.found.now.inode in
    let first : S.image c.file_places.new.store ≡ old = c.in_ok-places.ensures.looked.image in
    let whole : IsImage old = whole_image S.sector_count g.met.S.Stable.clocked g.met.S.Stable.shape c.args.store.now tells in
    let long = (as_long S.sector_count g.met.S.Stable.clocked g.met.S.Stable.shape c.args.store.now tells).size in
    let sectors : min (S.sector_count c.args.store.now) 1048576 ≡ min (length old) 1048576 = ap (λ m. min m 1048576) (sym long) in
    let are : ArePlaces old (min (S.sector_count c.args.store.now) 1048576) n c.in_ok-places.places = c.in_ok-places.ensures.places tells in
    let at : (k : ℕ) → k < 138 → get_or c.in_ok-places.places.body k 0 ≡ sector_in (S.image c.file_places.new.store) n k =
    λ k lt. places_in old strong whole file c.args.found.now is c.in_ok-places.places _ sectors are k lt ∙ sym (ap (λ (x : Image). sector_in x n k) first) in
    subst (λ (x : Image). IfOk c.read_body.result (λ bytes. bytes.items ≡ read_bytes x n c.args.offset c.args.count)) first
    (c.read_body.ensures.read tells (whole_image S.sector_count g.met.S.Stable.clocked g.met.S.Stable.shape c.file_places.new.store tells) at)
