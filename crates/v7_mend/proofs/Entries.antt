-- Addresses in a block.
use Rattle.std.proofs.Common.{◌≡◌, ◌≢◌, ℕ, ◌+◌, ◌-◌, ◌*◌, ◌<◌, ◌≤◌, zero, suc, Bool, true, false, cond, not, ◌==◌, ◌&&◌, ◌||◌, List, length, take, drop, replicate, length-take, take-append-drop, refl, sym, ap, subst, ◌∙◌, arith, ⊎_elim, ltb}
use Rattle.std.proofs.lemmas.Bool.{cases_Bool, cases_lt, lt-ltb, le-ltb, ne_eqb}
use Rattle.std.specs.List.{range_with_len, list_any}
use Rattle.std.proofs.lemmas.List.{drop-replicate, take-replicate}
use Rattle.v7_layout.specs.Numbers.{little, part, field}
use Rattle.v7_layout.proofs.Parts.{part-append_front, part-append_back}
use Rattle.files_model.specs.Files.{clipped}
use Rattle.v7_map.proofs.Members.{any_is, any_in, In-range, in_range_of}
use Rattle.v7_map.proofs.Walks.{and_both}
use Rattle.v7_mend.specs.Settled.{entry, holds_below, trimmed}

-- one that stands is found
pub holds_at : (block : List ℕ) (sectors k : ℕ) → 10 ≤ k → k < 138 → k < sectors → entry block k ≢ 0 → holds_below block sectors ≡ true
unfolding holds_below
holds_at block sectors k low high below there =
    any_in (λ q. ltb q sectors && not (entry block q == 0)) k (range_with_len 10 128) (In-range k 10 128 low high)
    (and_both (ltb k sectors) (not (entry block k == 0)) (lt-ltb k sectors below) (ap not (ne_eqb (entry block k) 0 there)))

-- none is found where none stands
pub holds_none : (block : List ℕ) (sectors : ℕ) → ((k : ℕ) → 10 ≤ k → k < 138 → (ltb k sectors && not (entry block k == 0)) ≡ false) → holds_below block sectors ≡ false
unfolding holds_below
holds_none block sectors none = ⊎_elim
    (λ (some : list_any (λ q. ltb q sectors && not (entry block q == 0)) (range_with_len 10 128) ≡ true).
    let a = any_is (λ q. ltb q sectors && not (entry block q == 0)) (range_with_len 10 128) some in
    let r = in_range_of a.0 10 128 a.1 in
    absurd (differ (ltb a.0 sectors && not (entry block a.0 == 0)) a.2 (none a.0 r.0 r.1)))
    (λ (no' : list_any (λ q. ltb q sectors && not (entry block q == 0)) (range_with_len 10 128) ≡ false). no')
    (cases_Bool (list_any (λ q. ltb q sectors && not (entry block q == 0)) (range_with_len 10 128)))
  where
    differ : (b : Bool) → b ≡ true → b ≡ false → ⊥
    differ true t f = absurd (cc)
    differ false t f = absurd (cc)

-- none that was tried stood, and neither does this one
pub none_more : (block : List ℕ) (sectors index : ℕ) → ((k : ℕ) → 10 ≤ k → k < index → (ltb k sectors && not (entry block k == 0)) ≡ false)
    → (ltb index sectors && not (entry block index == 0)) ≡ false → (k : ℕ) → 10 ≤ k → k < index + 1 → (ltb k sectors && not (entry block k == 0)) ≡ false
none_more block sectors index before here k low high = ⊎_elim
    (λ (lt : k < index). before k low lt)
    (λ (ge : index ≤ k). let e : index ≡ k = omega arith in subst (λ q. (ltb q sectors && not (entry block q == 0)) ≡ false) e here)
    (cases_lt k index)

any_range_same : (p q : ℕ → Bool) (a n : ℕ) → ((k : ℕ) → a ≤ k → k < a + n → p k ≡ q k) → list_any p (range_with_len a n) ≡ list_any q (range_with_len a n)
any_range_same p q a zero h = refl
any_range_same p q a (suc n) h = λ z. h a (omega arith) (omega arith) z || any_range_same p q (a + 1) n (λ k low high. h k (omega arith) (omega arith)) z

and_same : (b : Bool) (x y : Bool) → (b ≡ true → x ≡ y) → (b && x) ≡ (b && y)
and_same true x y h = h refl
and_same false x y h = refl

-- what stands below the size decides
pub holds_same : (block other : List ℕ) (sectors : ℕ) → ((k : ℕ) → 10 ≤ k → k < 138 → k < sectors → entry block k ≡ entry other k) → holds_below block sectors ≡ holds_below other sectors
unfolding holds_below
holds_same block other sectors h =
    any_range_same (λ k. ltb k sectors && not (entry block k == 0)) (λ k. ltb k sectors && not (entry other k == 0)) 10 128
    (λ k low high. and_same (ltb k sectors) _ _ (λ lt. ap (λ e. not (e == 0)) (h k low (omega arith) (ltb-lt k sectors lt))))
  where
    ltb-lt : (a b : ℕ) → ltb a b ≡ true → a < b
    ltb-lt a b e = grind arith

part_zeros : (n at : ℕ) → at + 4 ≤ n → part (replicate n 0) at 4 ≡ replicate 4 0
unfolding part
part_zeros n at room = ap (take 4) (drop-replicate at n 0) ∙ take-replicate 4 (n - at) 0 (omega (arith, room))

-- an address of a trimmed block: it stays below the size, and is none past it
pub entry-trimmed : (block : List ℕ) (sectors k : ℕ) → length block ≡ 512 → sectors ≤ 138 → 10 ≤ k → k < 138 → entry (trimmed block sectors) k ≡ cond (ltb k sectors) (entry block k) 0
unfolding entry trimmed clipped field
entry-trimmed block sectors k long most low high = ⊎_elim
    (λ (lt : k < sectors).
    ap little (part-append_front (take size block) (replicate (512 - size) 0) (4 * (k - 10)) 4 (omega (arith, front)))
    ∙ ap little (sym (part-append_front (take size block) (drop size block) (4 * (k - 10)) 4 (omega (arith, front))) ∙ ap (λ b. part b (4 * (k - 10)) 4) (take-append-drop size block))
    ∙ ap (λ b. cond b (little (part block (4 * (k - 10)) 4)) 0) (sym (lt-ltb k sectors lt)))
    (λ (ge : sectors ≤ k).
    ap little (part-append_back (take size block) (replicate (512 - size) 0) (4 * (k - 10)) (4 * (k - 10) - size) 4 (omega (arith, front)))
    ∙ ap little (part_zeros (512 - size) (4 * (k - 10) - size) (omega arith))
    ∙ ap (λ b. cond b (little (part block (4 * (k - 10)) 4)) 0) (sym (le-ltb k sectors ge)))
    (cases_lt k sectors)
  where
    size : ℕ
    size = 4 * (sectors - 10) - 512 * 0

    front : length (take size block) ≡ size
    front = simp (length-take) (omega arith)
