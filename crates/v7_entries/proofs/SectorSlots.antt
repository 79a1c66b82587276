-- Slots in the bytes of a sector.
use Rattle.std.proofs.Common.{◌≡◌, ℕ, ◌+◌, ◌-◌, ◌*◌, ◌/◌, ◌<◌, ◌≤◌, min, Bool, true, false, cond, not, ◌==◌, List, length, take, drop, Option, Some, None, refl, sym, ap, subst, ◌∙◌, arith, eqb}
use Rattle.std.proofs.lemmas.Bool.{eqb-true}
use Rattle.std.proofs.lemmas.List.{drop-take, take-take, length-take-le}
use Rattle.std.specs.List.{position, take_while}
use Rattle.std.specs.Option.{is_some}
use Rattle.files_model.specs.Files.{Slot}
use Rattle.files_model.specs.Names.{number_of}
use Rattle.v7_layout.specs.Numbers.{part}
use Rattle.v7_layout.specs.Records.{slot_of_bytes}
use Rattle.v7_map.specs.Frame.{slot_of}
use Rattle.v7_dir.specs.Slots.{slot_in, slots_in}
use Rattle.v7_dir.proofs.Firsts.{passes_at, fails_all}

-- the i-number that is stored is that in the slot
pub number-slot : (bytes : List ℕ) → (slot_of_bytes bytes).ino ≡ number_of (slot_of bytes)
unfolding slot_of
number-slot bytes = by_test ((slot_of_bytes bytes).ino == 0) refl
  where
    by_test : (b : Bool) → ((slot_of_bytes bytes).ino == 0) ≡ b → (slot_of_bytes bytes).ino ≡ number_of (cond b None (Some ((slot_of_bytes bytes).ino, take_while (λ x. not (x == 0)) (slot_of_bytes bytes).name)))
    by_test true e = eqb-true (slot_of_bytes bytes).ino 0 e
    by_test false e = refl

-- a part that lies in the front
part-take : (bytes : List ℕ) (m at n : ℕ) → at + n ≤ m → part (take m bytes) at n ≡ part bytes at n
unfolding part
part-take bytes m at n le =
    let whole : m ≡ at + (m - at) = omega arith in
    ap (λ k. take n (drop at (take k bytes))) whole ∙ ap (take n) (drop-take at (m - at) bytes) ∙ take-take n (m - at) (drop at bytes) (omega arith)

module _ (p : Slot → Bool) (bytes : List ℕ) (count : ℕ) (fits : 16 * count ≤ length bytes) where
  few : length (take (16 * count) bytes) / 16 ≡ count
  few = let l = length-take-le (16 * count) bytes fits in omega arith

  slot-front : (k : ℕ) → k < count → slot_in (take (16 * count) bytes) k ≡ slot_in bytes k
  slot-front k lt = ap slot_of (part-take bytes (16 * count) (16 * k) 16 (omega arith))

  -- the first of the first slots that passes
  pub first_passes : (k : ℕ) → position p (slots_in (take (16 * count) bytes)) ≡ Some k → (k < count) × (p (slot_in bytes k) ≡ true) × ((j : ℕ) → j < k → p (slot_in bytes j) ≡ false)
  unfolding slots_in
  first_passes k is =
      let h = passes_at p (slot_in (take (16 * count) bytes)) (length (take (16 * count) bytes) / 16) k is in
      let f = few in
      let lt : k < count = let below = h.0 in omega arith in
      (lt, ap p (sym (slot-front k lt)) ∙ h.1, (λ j below. ap p (sym (slot-front j (omega arith))) ∙ h.2 j below))

  pub none_passes : position p (slots_in (take (16 * count) bytes)) ≡ None → (k : ℕ) → k < count → p (slot_in bytes k) ≡ false
  unfolding slots_in
  none_passes is k lt =
      let f = few in
      ap p (sym (slot-front k lt)) ∙ fails_all p (slot_in (take (16 * count) bytes)) (length (take (16 * count) bytes) / 16) is k (omega arith)

-- a slot isn't empty where its i-number isn't 0
pub used-slot : (bytes : List ℕ) → is_some (slot_of bytes) ≡ not (number_of (slot_of bytes) == 0)
unfolding slot_of
used-slot bytes = by_test ((slot_of_bytes bytes).ino == 0) refl
  where
    by_test : (b : Bool) → ((slot_of_bytes bytes).ino == 0) ≡ b → is_some {T = ℕ × List ℕ} (cond b None (Some ((slot_of_bytes bytes).ino, take_while (λ x. not (x == 0)) (slot_of_bytes bytes).name))) ≡ not (number_of (cond b None (Some ((slot_of_bytes bytes).ino, take_while (λ x. not (x == 0)) (slot_of_bytes bytes).name))) == 0)
    by_test true e = refl
    by_test false e = sym (ap not e)
