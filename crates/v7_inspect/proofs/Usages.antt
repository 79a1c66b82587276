-- The blocks that are in use, sector by sector and inode by inode.
use Rattle.std.proofs.Common.{◌≡◌, ℕ, zero, suc, ◌+◌, ◌-◌, ◌<◌, ◌≤◌, Bool, true, false, not, ◌&&◌, ◌||◌, ◌==◌, List, [], ◌∷◌, length, get_or, refl, sym, ap, subst, ◌∙◌, arith, ⊎_elim, ◌≢◌, eq-eqb, leb}
use Rattle.std.specs.Prelude.{replicate, set}
use Rattle.std.specs.List.{range_with_len, list_any, sum_by}
use Rattle.std.proofs.lemmas.Bool.{cases_eq, ne_eqb}
use Rattle.std.proofs.lemmas.List.{get_or-set_same, get_or-set_other}
use Rattle.std.proofs.lemmas.List.Sums.{sum_by-append}
use Rattle.stable.specs.Store.{Image}
use Rattle.v7_layout.specs.declared.inode.Inode.{Inode}
use Rattle.v7_map.specs.Image.{inode_at}
use Rattle.v7_map.specs.Frame.{Body, Single, frame, head_of, address_of}
use Rattle.v7_map.specs.Tree.{tree, is_named}
use Rattle.v7_map.specs.Damage.{place_at}
use Rattle.v7_damage.specs.Stored.{place_of_body, body_at}
use Rattle.v7_damage.specs.Marks.{mark_at}
use Rattle.v7_damage.proofs.WalkSteps.{no-marks}
use Rattle.v7_damage.specs.Summaries.{sectors_in_size}
use Rattle.v7_inspect.specs.Usage.{AreNeeded, needs_block, is_needed_by}
use Rattle.v7_damage.proofs.BodyPlaces.{place-body}
use Rattle.v7_damage.proofs.Ranges.{any_same, any_step, or_none, or_true}

-- ---- sums

sum_cons : (g : ℕ → ℕ) (x : ℕ) (xs : List ℕ) → sum_by g (x ∷ xs) ≡ g x + sum_by g xs
sum_cons g x xs = sum_by-append g (x ∷ []) xs ∙ (let e : 0 + g x ≡ g x = omega arith in ap (λ n. n + sum_by g xs) e)

sum_step : (g : ℕ → ℕ) (a n : ℕ) → sum_by g (range_with_len a (suc n)) ≡ sum_by g (range_with_len a n) + g (a + n)
sum_step g a zero = sum_cons g a [] ∙ (let e : a ≡ a + 0 = omega arith in (λ z. g (e z) + 0)) ∙ (let e : g (a + 0) + 0 ≡ 0 + g (a + 0) = omega arith in e)
sum_step g a (suc n) =
    sum_cons g a (range_with_len (a + 1) (suc n)) ∙ ap (λ m. g a + m) (sum_step g (a + 1) n ∙ (let at : (a + 1) + n ≡ a + suc n = omega arith in ap (λ i. sum_by g (range_with_len (a + 1) n) + g i) at))
    ∙ (let e : g a + (sum_by g (range_with_len (a + 1) n) + g (a + suc n)) ≡ (g a + sum_by g (range_with_len (a + 1) n)) + g (a + suc n) = omega arith in e)
    ∙ ap (λ m. m + g (a + suc n)) (sym (sum_cons g a (range_with_len (a + 1) n)))

pub sum_more : (g : ℕ → ℕ) (k : ℕ) → 1 ≤ k → sum_by g (range_with_len 1 (k + 1 - 1)) ≡ sum_by g (range_with_len 1 (k - 1)) + g k
sum_more g k low =
    let m : k + 1 - 1 ≡ suc (k - 1) = omega arith in
    let at : 1 + (k - 1) ≡ k = omega arith in
    ap (λ n. sum_by g (range_with_len 1 n)) m ∙ sum_step g 1 (k - 1) ∙ ap (λ i. sum_by g (range_with_len 1 (k - 1)) + g i) at

pub sum_same : (g h : ℕ → ℕ) (a n : ℕ) → ((i : ℕ) → a ≤ i → i < a + n → g i ≡ h i) → sum_by g (range_with_len a n) ≡ sum_by h (range_with_len a n)
sum_same g h a zero same = refl
sum_same g h a (suc n) same =
    let here = same a (omega arith) (omega arith) in let rest = sum_same g h (a + 1) n (λ i low high. same i (omega arith) (omega arith)) in
    sum_cons g a (range_with_len (a + 1) n) ∙ (λ z. here z + rest z) ∙ sym (sum_cons h a (range_with_len (a + 1) n))

-- ---- marks of the blocks

-- one number more is marked
pub mark-more : (marks : List Bool) (x b : ℕ) → b < length marks → mark_at (set marks x true) b ≡ (mark_at marks b || (x == b))
mark-more marks x b lt = ⊎_elim
    (λ (e : b ≡ x). ap (λ y. mark_at (set marks x true) y) e ∙ get_or-set_same marks x true false (subst (λ y. y < length marks) e lt) ∙ sym (ap (λ c. mark_at marks b || c) (eq-eqb x b (sym e)) ∙ or_true (mark_at marks b)))
    (λ (ne : b ≢ x). get_or-set_other marks x b true false ne ∙ sym (ap (λ c. mark_at marks b || c) (ne_eqb x b (λ e. ne (sym e))) ∙ or_none (mark_at marks b)))
    (cases_eq b x)

-- the blocks that were read are the frame's
pub needed_read : (image : Image) (i : ℕ) (n : Inode) (places : List ℕ) (named : Bool) (b : ℕ) → n ≡ inode_at image i → ((k : ℕ) → k < 140 → get_or places k 0 ≡ address_of image (head_of n) (place_at k)) → named ≡ is_named (tree (frame image)) i
    → (named && needs_block (body_at places) (get_or places 10 0) (sectors_in_size n.size) b) ≡ is_needed_by image b i
unfolding is_needed_by frame
needed_read image i n places named b is blocks names =
    let at : (k : ℕ) → k < 138 → body_at places k ≡ address_of image (head_of (inode_at image i)) (Body k) =
    (λ k lt. let p = place-body k lt in blocks (place_of_body k) p.0 ∙ (λ z. address_of image (head_of (is z)) (p.1 z))) in
    let one : get_or places 10 0 ≡ address_of image (head_of (inode_at image i)) Single = blocks 10 (omega arith) ∙ ap (λ (m : Inode). address_of image (head_of m) Single) is in
    let count : ℕ = sectors_in_size n.size in
    let near = any_same (λ k. body_at places k == b) (λ k. address_of image (head_of (inode_at image i)) (Body k) == b) 0 count (λ k low high. ap (λ a. a == b) (at k (omega arith))) in
    let far = any_same (λ k. leb 10 k && not (body_at places k == 0)) (λ k. leb 10 k && not (address_of image (head_of (inode_at image i)) (Body k) == 0)) 0 count (λ k low high. ap (λ a. leb 10 k && not (a == 0)) (at k (omega arith))) in
    (λ z. names z && (near z || (far z && (one z == b))))
    ∙ (λ z. is_named (tree (frame image)) i && needs_block (λ k. address_of image (head_of (inode_at image i)) (Body k)) (address_of image (head_of (inode_at image i)) Single) (sectors_in_size (is z).size) b)

-- one inode more
pub any_from : (q : ℕ → Bool) (k : ℕ) → 1 ≤ k → list_any q (range_with_len 1 (k + 1 - 1)) ≡ (list_any q (range_with_len 1 (k - 1)) || q k)
any_from q k low =
    let m : k + 1 - 1 ≡ suc (k - 1) = omega arith in
    let at : 1 + (k - 1) ≡ k = omega arith in
    ap (λ n. list_any q (range_with_len 1 n)) m ∙ any_step q 1 (k - 1) ∙ ap (λ i. list_any q (range_with_len 1 (k - 1)) || q i) at

-- before the first
pub needed_none : (image : Image) (marks : List Bool) (n : ℕ) → marks ≡ replicate n false → AreNeeded image marks 0
needed_none image marks n none = record { each = λ b some lt. ap (λ m. mark_at m b) none ∙ no-marks n b }
