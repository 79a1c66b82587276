-- A part of bytes, where bytes are joined end to end or one part is replaced.
use Rattle.std.proofs.Common.{◌≡◌, ℕ, ◌+◌, ◌-◌, ◌≤◌, List, ◌++◌, length, take, drop, refl, sym, ap, ◌∙◌, arith, length-append, length-drop}
use Rattle.std.proofs.lemmas.List.{append_assoc, drop-append-le, drop-drop, drop_at, length-take-le, take-append-drop, take-append-le, take_at}
use Rattle.std.proofs.lemmas.Slice.{drop-put_mid, take-put_mid}
use borrow.Rule.Slice.PartMut.{put_mid}
use Rattle.v7_layout.specs.Numbers.{part, field, little, IsPutAt}

-- a part that lies in the front of joined bytes
pub part-append_front : (xs ys : List ℕ) (at n : ℕ) → at + n ≤ length xs → part (xs ++ ys) at n ≡ part xs at n
unfolding part
part-append_front xs ys at n h =
    ap (take n) (drop-append-le at xs ys (omega arith))
    ∙ take-append-le n (drop at xs) ys (omega (arith, length-drop at xs))

-- a part that lies behind the front of joined bytes
pub part-append_back : (xs ys : List ℕ) (at k n : ℕ) → length xs + k ≡ at → part (xs ++ ys) at n ≡ part ys k n
unfolding part
part-append_back xs ys at k n e =
    ap (λ (j : ℕ). take n (drop j (xs ++ ys))) (sym e)
    ∙ ap (take n) (sym (drop-drop k (length xs) (xs ++ ys)))
    ∙ ap (λ (l : List ℕ). take n (drop k l)) (drop_at xs ys (length xs) refl)

-- the bytes between, whole
pub part-append_middle : (xs ys zs : List ℕ) (at n : ℕ) → length xs ≡ at → length ys ≡ n → part (xs ++ ys ++ zs) at n ≡ ys
unfolding part
part-append_middle xs ys zs at n e f =
    ap (λ (l : List ℕ). take n (drop at l)) (append_assoc xs ys zs)
    ∙ ap (take n) (drop_at xs (ys ++ zs) at e)
    ∙ take_at ys zs n f

-- replacing a part keeps the length
pub length-splice : (bytes new : List ℕ) (at : ℕ) → at + length new ≤ length bytes → length (take at bytes ++ new ++ drop (at + length new) bytes) ≡ length bytes
length-splice bytes new at h =
    let a : length (take at bytes) ≡ at = length-take-le at bytes (omega arith) in
    let b = length-drop (at + length new) bytes in
    let c = length-append (take at bytes ++ new) (drop (at + length new) bytes) in
    let d = length-append (take at bytes) new in omega arith

-- the part that replaces another
pub part-splice : (bytes new : List ℕ) (at : ℕ) → at + length new ≤ length bytes → part (take at bytes ++ new ++ drop (at + length new) bytes) at (length new) ≡ new
part-splice bytes new at h =
    part-append_middle (take at bytes) new (drop (at + length new) bytes) at (length new) (length-take-le at bytes (omega arith)) refl

-- a part before the one that is replaced
pub part-splice_before : (bytes new : List ℕ) (at b n : ℕ) → at + length new ≤ length bytes → b + n ≤ at → part (take at bytes ++ new ++ drop (at + length new) bytes) b n ≡ part bytes b n
part-splice_before bytes new at b n h before =
    let a : length (take at bytes) ≡ at = length-take-le at bytes (omega arith) in
    ap (λ (l : List ℕ). part l b n) (append_assoc (take at bytes) new (drop (at + length new) bytes))
    ∙ part-append_front (take at bytes) (new ++ drop (at + length new) bytes) b n (omega arith)
    ∙ sym (part-append_front (take at bytes) (drop at bytes) b n (omega arith))
    ∙ ap (λ (l : List ℕ). part l b n) (take-append-drop at bytes)

-- a part after the one that is replaced
pub part-splice_after : (bytes new : List ℕ) (at b n : ℕ) → at + length new ≤ length bytes → at + length new ≤ b → part (take at bytes ++ new ++ drop (at + length new) bytes) b n ≡ part bytes b n
part-splice_after bytes new at b n h after =
    let a : length (take at bytes) ≡ at = length-take-le at bytes (omega arith) in
    let l : length (take at bytes ++ new) ≡ at + length new = length-append (take at bytes) new ∙ ap (λ (k : ℕ). k + length new) a in
    let k : length (take (at + length new) bytes) ≡ at + length new = length-take-le (at + length new) bytes h in
    part-append_back (take at bytes ++ new) (drop (at + length new) bytes) b (b - (at + length new)) n (omega arith)
    ∙ sym (part-append_back (take (at + length new) bytes) (drop (at + length new) bytes) b (b - (at + length new)) n (omega arith))
    ∙ ap (λ (l : List ℕ). part l b n) (take-append-drop (at + length new) bytes)

-- the part that a write to a sub-slice replaced, and those around it, as the same bytes joined
pub put_mid-splice : (at k : ℕ) (bytes new : List ℕ) → length new ≡ k → put_mid at k bytes new ≡ take at bytes ++ new ++ drop (at + length new) bytes
put_mid-splice at k bytes new e =
    ap (λ (l : List ℕ). take at bytes ++ (new ++ l)) (drop-drop k at bytes)
    ∙ ap (λ (j : ℕ). take at bytes ++ (new ++ drop (at + j) bytes)) (sym e)
    ∙ sym (append_assoc (take at bytes) new (drop (at + length new) bytes))

-- what a write to a sub-slice of n bytes leaves
pub put_at : (at k n : ℕ) (bytes piece new : List ℕ) → k ≡ n → at + n ≤ length bytes → length new ≡ k → new ≡ piece → IsPutAt at n piece bytes (put_mid at k bytes new)
put_at at k n bytes piece new e h l same = record {
  front = take-put_mid at k bytes new (at + n) (omega arith) (omega arith) ∙ ap (λ (put : List ℕ). take at bytes ++ put) same;
  rest = drop-put_mid at k bytes new (at + n) (omega arith) (omega arith) l;
}

-- what a sub-slice from a place to its end, n bytes further on, holds
pub part-cut : (bytes : List ℕ) (at n : ℕ) → take (at + n - at) (drop at bytes) ≡ part bytes at n
unfolding part
part-cut bytes at n =
    let e : at + n - at ≡ n = omega arith in
    ap (λ (k : ℕ). take k (drop at bytes)) e

-- the same for the numbers that stand there
pub field-splice : (bytes new : List ℕ) (at : ℕ) → at + length new ≤ length bytes → field (take at bytes ++ new ++ drop (at + length new) bytes) at (length new) ≡ little new
unfolding field
field-splice bytes new at h = ap little (part-splice bytes new at h)

pub field-splice_before : (bytes new : List ℕ) (at b n : ℕ) → at + length new ≤ length bytes → b + n ≤ at → field (take at bytes ++ new ++ drop (at + length new) bytes) b n ≡ field bytes b n
unfolding field
field-splice_before bytes new at b n h before = ap little (part-splice_before bytes new at b n h before)

pub field-splice_after : (bytes new : List ℕ) (at b n : ℕ) → at + length new ≤ length bytes → at + length new ≤ b → field (take at bytes ++ new ++ drop (at + length new) bytes) b n ≡ field bytes b n
unfolding field
field-splice_after bytes new at b n h after = ap little (part-splice_after bytes new at b n h after)

-- the part that a write to a sub-slice of n bytes put there
pub part-put_mid : (at k n : ℕ) (bytes new : List ℕ) → k ≡ n → length new ≡ n → at + n ≤ length bytes → part (put_mid at k bytes new) at n ≡ new
part-put_mid at k n bytes new e l h =
    ap (λ (all : List ℕ). part all at n) (put_mid-splice at k bytes new (l ∙ sym e))
    ∙ ap (λ (m : ℕ). part (take at bytes ++ new ++ drop (at + length new) bytes) at m) (sym l)
    ∙ part-splice bytes new at (omega arith)

-- a part before a write to a sub-slice
pub part-put_mid_before : (at k b n : ℕ) (bytes new : List ℕ) → length new ≡ k → at + k ≤ length bytes → b + n ≤ at → part (put_mid at k bytes new) b n ≡ part bytes b n
part-put_mid_before at k b n bytes new l h before =
    ap (λ (all : List ℕ). part all b n) (put_mid-splice at k bytes new l) ∙ part-splice_before bytes new at b n (omega arith) before

-- a part after a write to a sub-slice
pub part-put_mid_after : (at k b n : ℕ) (bytes new : List ℕ) → length new ≡ k → at + k ≤ length bytes → at + k ≤ b → part (put_mid at k bytes new) b n ≡ part bytes b n
part-put_mid_after at k b n bytes new l h after =
    ap (λ (all : List ℕ). part all b n) (put_mid-splice at k bytes new l) ∙ part-splice_after bytes new at b n (omega arith) (omega arith)
