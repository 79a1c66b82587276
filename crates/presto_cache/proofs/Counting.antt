-- As many entries are listed as are dirty.
use Rattle.std.proofs.Common.{◌≡◌, ℕ, zero, suc, ◌+◌, ◌<◌, Bool, true, false, cond, if◌then◌else◌, List, [], ◌∷◌, length, refl, sym, ◌∙◌, ap, arith}
use Rattle.std.specs.List.{count_by}
use Rattle.std.proofs.lemmas.List.Recursion.{is_count_by}
use Rattle.presto_cache.specs.Slots.{at, is_dirty}
use Rattle.presto_cache.specs.Order.{times, IsOrderOf, without}
use Rattle.presto_cache.specs.declared.slot.Slot.{Slot}
use Rattle.presto_cache.proofs.Listing.{by_head, times_here, times_there, length_without, times_without_same, times_without_other}

-- lists with each index as often are as long
same_times : (xs ys : List ℕ) → ((q : ℕ) → times q xs ≡ times q ys) → length xs ≡ length ys
same_times [] [] h = refl
same_times [] (y ∷ ys) h = let e = h y in let t = times_here y y ys refl in absurd (omega (arith, e, t))
same_times (x ∷ xs) ys h =
    let here = times_here x x xs refl in
    let e = h x in
    let shorter = length_without x ys (omega (arith, here, e)) in
    let rest = same_times xs (without x ys) (λ q. by_head x q
    (λ same. let w = times_without_same q ys in let t = times_here x q xs same in let n = h q in
    sym (ap (λ k. times q (without k ys)) same ∙ w ∙ omega (arith, t, n)))
    (λ ne. sym (times_there x q xs ne) ∙ h q ∙ sym (times_without_other q x ys (λ f. ne (sym f))))) in
    omega (arith, shorter, rest)

-- the dirty entries by index
abbrev by_index : ℕ → List Slot → List ℕ
by_index k [] = []
by_index k (s ∷ ss) = if is_dirty s then k ∷ by_index (suc k) ss else by_index (suc k) ss

unlisted_before : (ss : List Slot) (k q : ℕ) → q < k → times q (by_index k ss) ≡ 0
unlisted_before [] k q lt = refl
unlisted_before (s ∷ ss) k q lt = case (is_dirty s) (unlisted_before ss (suc k) q (omega (arith, lt)))
  where
    case : (b : Bool) → times q (by_index (suc k) ss) ≡ 0 → times q (if b then k ∷ by_index (suc k) ss else by_index (suc k) ss) ≡ 0
    case true rest = times_there k q (by_index (suc k) ss) (λ e. omega (arith, e, lt)) ∙ rest
    case false rest = rest

by_index_times : (ss : List Slot) (k i : ℕ) → times (k + i) (by_index k ss) ≡ (if is_dirty (at ss i) then 1 else 0)
by_index_times [] k i = refl
by_index_times (s ∷ ss) k zero = case (is_dirty s) (unlisted_before ss (suc k) (k + 0) (omega arith))
  where
    case : (b : Bool) → times (k + 0) (by_index (suc k) ss) ≡ 0 → times (k + 0) (if b then k ∷ by_index (suc k) ss else by_index (suc k) ss) ≡ (if b then 1 else 0)
    case true rest = times_here k (k + 0) (by_index (suc k) ss) (omega arith) ∙ ap suc rest
    case false rest = rest
by_index_times (s ∷ ss) k (suc i) = case (is_dirty s) (ap (λ n. times n (by_index (suc k) ss)) (sym next) ∙ by_index_times ss (suc k) i)
  where
    next : suc k + i ≡ k + suc i
    next = omega arith

    case : (b : Bool) → times (k + suc i) (by_index (suc k) ss) ≡ (if is_dirty (at ss i) then 1 else 0) → times (k + suc i) (if b then k ∷ by_index (suc k) ss else by_index (suc k) ss) ≡ (if is_dirty (at ss i) then 1 else 0)
    case true rest = times_there k (k + suc i) (by_index (suc k) ss) (λ e. omega (arith, e)) ∙ rest
    case false rest = rest

by_index_length : (k : ℕ) (ss : List Slot) → length (by_index k ss) ≡ count_by is_dirty ss
by_index_length k ss = same k ss ∙ is_count_by (λ l. length (by_index 0 l)) is_dirty refl (λ s rest. step s rest) ss
  where
    shift : (a b : ℕ) (l : List Slot) → length (by_index a l) ≡ length (by_index b l)
    shift a b [] = refl
    shift a b (s ∷ l) = case (is_dirty s) (shift (suc a) (suc b) l)
      where
        case : (t : Bool) → length (by_index (suc a) l) ≡ length (by_index (suc b) l) → length (if t then a ∷ by_index (suc a) l else by_index (suc a) l) ≡ length (if t then b ∷ by_index (suc b) l else by_index (suc b) l)
        case true e = ap suc e
        case false e = e

    same : (a : ℕ) (l : List Slot) → length (by_index a l) ≡ length (by_index 0 l)
    same a l = shift a 0 l

    step : (s : Slot) (l : List Slot) → length (by_index 0 (s ∷ l)) ≡ cond (is_dirty s) (1 + length (by_index 0 l)) (length (by_index 0 l))
    step s l = case (is_dirty s) (shift 1 0 l)
      where
        case : (t : Bool) → length (by_index 1 l) ≡ length (by_index 0 l) → length (if t then 0 ∷ by_index 1 l else by_index 1 l) ≡ cond t (1 + length (by_index 0 l)) (length (by_index 0 l))
        case true e = omega (arith, e)
        case false e = e

-- as many are listed as are dirty
pub listed_count : (slots : List Slot) (order : List ℕ) → IsOrderOf slots order → length order ≡ count_by is_dirty slots
listed_count slots order is = same_times order (by_index 0 slots) (λ q. is q ∙ sym (ap (λ n. times n (by_index 0 slots)) (plain q) ∙ by_index_times slots 0 q)) ∙ by_index_length 0 slots
  where
    plain : (q : ℕ) → q ≡ 0 + q
    plain q = omega arith
