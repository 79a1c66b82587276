-- Where no blocks can be chosen, too few are free.
use Rattle.std.proofs.Common.{◌≡◌, ◌≢◌, ℕ, ◌+◌, ◌<◌, ◌≤◌, Bool, List, get_or, ap, arith, ⊎_elim, leb, ◌==◌, ◌&&◌, eq-eqb, None}
use Rattle.std.proofs.lemmas.Bool.{cases_eq, cases_lt, le-leb}
use Rattle.files_model.specs.Batch.{one_if}
use Rattle.index_sets.specs.Free.{IsLowestFrom, count_free}
use Rattle.plan_file.specs.Free.{count_from}
use Rattle.plan_file.specs.Places.{AreThrough}
use Rattle.plan_file.specs.declared.places.Places.{Places}
use Rattle.plan_file.proofs.Placing.{lowest-there, lowest-next}
use Rattle.plan_name.specs.LayingOut.{IsSectorBlock, needed_blocks}

none-free : (bits : List Bool) (from : ℕ) → IsLowestFrom bits from None → count_from bits from ≡ 0
none-free bits from h = ⊎_elim
    (λ (lt : 0 < count_from bits from). absurd (lowest-there bits from lt h))
    (λ (le : count_from bits from ≤ 0). omega arith)
    (cases_lt 0 (count_from bits from))

module _ (blocks : List Bool) (places : Places) (q : ℕ) where
  sector-new : get_or places.body q 0 ≡ 0 → one_if (get_or places.body q 0 == 0) ≡ 1
  sector-new z = ap one_if (eq-eqb (get_or places.body q 0) 0 z)

  pub lacks-sector : get_or places.body q 0 ≡ 0 → IsLowestFrom blocks 0 None → count_free blocks < needed_blocks places q
  lacks-sector z h = let n : count_free blocks ≡ 0 = none-free blocks 0 h in let one = sector-new z in omega arith

  pub lacks-map : AreThrough places → (a : ℕ) → IsSectorBlock blocks places q a → places.single ≡ 0 → 10 ≤ q → IsLowestFrom blocks (a + 1) None → count_free blocks < needed_blocks places q
  lacks-map through a chosen z ge h =
      let none : get_or places.body q 0 ≡ 0 = ⊎_elim (λ (e : get_or places.body q 0 ≡ 0). e) (λ (nz : get_or places.body q 0 ≢ 0). absurd (through q ge nz z)) (cases_eq (get_or places.body q 0) 0) in
      let all : count_free blocks ≡ count_from blocks (a + 1) + 1 = lowest-next blocks 0 a (chosen.new none) in
      let rest = none-free blocks (a + 1) h in
      let one = sector-new none in
      let two : one_if (leb 10 q && (places.single == 0)) ≡ 1 = (λ t. one_if (le-leb 10 q ge t && eq-eqb places.single 0 z t)) in omega arith
