-- A sector of a body, also where it is missing.
use Rattle.std.proofs.Common.{◌≡◌, ◌≢◌, ℕ, ◌-◌, ◌*◌, ◌==◌, cond, List, [], get_or, sym, ap, ◌∙◌, ⊎_elim}
use Rattle.std.proofs.lemmas.Bool.{cases_eq, eq-eqb, ne_eqb}
use Rattle.std.proofs.lemmas.List.{drop-replicate}
use Rattle.files_model.specs.Files.{clipped}
use Rattle.files_model.specs.Step.{zeros}
use Rattle.files_model.proofs.Clips.{clipped_fixed}
use Rattle.stable.specs.Store.{Image}
use Rattle.v7_layout.specs.declared.inode.Inode.{Inode}
use Rattle.v7_map.specs.Stored.{sector_in, stored_sector}
use Rattle.v7_map.proofs.Contents.{sector-none, sector-some}

-- what stands at an address, zeros where it is 0
abbrev pub sector_at_or_zeros : Image → ℕ → List ℕ
sector_at_or_zeros image a = cond (a == 0) zeros (get_or image a [])

-- with zeros past the size it is the body's sector
pub clipped_sector : (image : Image) (n : Inode) (k : ℕ) → clipped n.size k (sector_at_or_zeros image (sector_in image n k)) ≡ stored_sector image n k
clipped_sector image n k = ⊎_elim
    (λ (none : sector_in image n k ≡ 0).
    ap (clipped n.size k) (λ z. cond (eq-eqb (sector_in image n k) 0 none z) zeros (get_or image (sector_in image n k) []))
    ∙ clipped_fixed n.size k zeros (drop-replicate (n.size - 512 * k) 512 0)
    ∙ sym (sector-none image n k none))
    (λ (some : sector_in image n k ≢ 0).
    ap (clipped n.size k) (λ z. cond (ne_eqb (sector_in image n k) 0 some z) zeros (get_or image (sector_in image n k) []))
    ∙ sym (sector-some image n k some))
    (cases_eq (sector_in image n k) 0)
