-- Numbers that are given to a set one after the other.
use Rattle.std.proofs.Common.{◌≡◌, ◌≢◌, ℕ, ◌+◌, ◌-◌, ◌^◌, ◌<◌, ◌≤◌, zero, suc, Bool, true, false, not, ◌&&◌, List, length, replicate, set, refl, sym, ap, subst, ◌∙◌, arith, ⊎_elim, ltb, leb}
use Rattle.std.proofs.lemmas.Bool.{cases_eq, cases_lt, ltb-true, leb-true, lt-ltb, le-ltb, le-leb}
use Rattle.std.proofs.lemmas.List.{get_or-set_same, get_or-set_other}
use Rattle.index_sets.specs.Free.{is_free}
use Rattle.stable.specs.Store.{Image}
use Rattle.v7_layout.specs.declared.inode.Inode.{Inode}
use Rattle.v7_map.specs.Image.{inode_at, inodes_before, isize_of}
use Rattle.v7_map.specs.Frame.{frame}
use Rattle.v7_map.specs.Tree.{tree, is_named}
use Rattle.v7_map.proofs.Frames.{and_left, and_right}
use Rattle.v7_map.proofs.Walks.{and_both}
use Rattle.v7_damage.specs.Marks.{mark_at}
use Rattle.v7_repair.specs.Free.{is_left, is_unnamed, is_fresh}

-- the set has the numbers below k that pass the test
abbrev pub HasBelow : (ℕ → Bool) → List Bool → ℕ → Type 0
HasBelow p free k = (b : ℕ) → is_free free b ≡ (ltb b k && p b)

none-free : (n b : ℕ) → is_free (replicate n false) b ≡ false
none-free zero b = refl
none-free (suc n) zero = refl
none-free (suc n) (suc b) = none-free n b

falls : (a b : Bool) → (a ≡ true → b ≡ true → ⊥) → false ≡ (a && b)
falls true true never = absurd (never refl refl)
falls true false never = refl
falls false b never = refl

same-and : (a b p : Bool) → (p ≡ true → a ≡ b) → (a && p) ≡ (b && p)
same-and a b true same = ap (λ x. x && true) (same refl)
same-and true true false same = refl
same-and true false false same = refl
same-and false true false same = refl
same-and false false false same = refl

below-next : (b k : ℕ) → b ≢ k → ltb b k ≡ ltb b (k + 1)
below-next b k ne = ⊎_elim
    (λ (lt : b < k). lt-ltb b k lt ∙ sym (lt-ltb b (k + 1) (omega (arith, lt))))
    (λ (ge : k ≤ b). le-ltb b k ge ∙ sym (le-ltb b (k + 1) (let n = ne in omega (arith, ge, n))))
    (cases_lt b k)

module _ (p : ℕ → Bool) where
  -- before the first
  pub given_none : (n k : ℕ) → ((b : ℕ) → p b ≡ true → k ≤ b) → HasBelow p (replicate n false) k
  given_none n k low b = none-free n b ∙ falls (ltb b k) (p b) (λ lt is. let l = ltb-true b k lt in let ge = low b is in absurd (omega (arith, l, ge)))

  -- one that fails the test
  pub passed_by : (free : List Bool) (k : ℕ) → p k ≡ false → HasBelow p free k → HasBelow p free (k + 1)
  passed_by free k fails has b = has b ∙ same-and (ltb b k) (ltb b (k + 1)) (p b) (λ is. below-next b k (λ e. differ (p k) (subst (λ x. p x ≡ true) e is) fails))
    where
      differ : (x : Bool) → x ≡ true → x ≡ false → ⊥
      differ true t f = absurd (cc)
      differ false t f = absurd (cc)

  -- one that passes it
  pub given_one : (free : List Bool) (k : ℕ) → k < length free → p k ≡ true → HasBelow p free k → HasBelow p (set free k true) (k + 1)
  given_one free k lt passes has b = ⊎_elim
      (λ (e : b ≡ k). ap (λ x. is_free (set free k true) x) e ∙ get_or-set_same free k true false lt ∙ sym (and_both (ltb b (k + 1)) (p b) (lt-ltb b (k + 1) (omega (arith, e))) (ap p e ∙ passes)))
      (λ (ne : b ≢ k). get_or-set_other free k b true false ne ∙ has b ∙ ap (λ x. x && p b) (below-next b k ne))
      (cases_eq b k)

  -- after the last
  pub given_all : (free : List Bool) (k : ℕ) → ((b : ℕ) → p b ≡ true → b < k) → HasBelow p free k → (b : ℕ) → is_free free b ≡ p b
  given_all free k high has b = has b ∙ all (p b) refl
    where
      all : (x : Bool) → p b ≡ x → (ltb b k && x) ≡ x
      all true is = and_both _ _ (lt-ltb b k (high b is)) refl
      all false is = none (ltb b k)
        where
          none : (y : Bool) → (y && false) ≡ false
          none true = refl
          none false = refl

-- ---- blocks

module _ (isize : ℕ) (needed : List Bool) where
  pub left_above : (b : ℕ) → is_left isize needed b ≡ true → isize ≤ b
  unfolding is_left
  left_above b e = leb-true isize b (and_left _ _ e)

  pub left_below : (b : ℕ) → is_left isize needed b ≡ true → b < length needed
  unfolding is_left
  left_below b e = ltb-true b (length needed) (and_left _ _ (and_right _ _ e))

  pub left_unmarked : (b : ℕ) → isize ≤ b → b < length needed → mark_at needed b ≡ false → is_left isize needed b ≡ true
  unfolding is_left
  left_unmarked b ge lt none = and_both _ _ (le-leb isize b ge) (and_both _ _ (lt-ltb b (length needed) lt) (ap not none))

  pub left_marked : (b : ℕ) → mark_at needed b ≡ true → is_left isize needed b ≡ false
  unfolding is_left
  left_marked b e = (λ z. leb isize b && (ltb b (length needed) && not (e z))) ∙ none (leb isize b) (ltb b (length needed))
    where
      none : (x y : Bool) → (x && (y && false)) ≡ false
      none true true = refl
      none true false = refl
      none false y = refl

-- ---- i-numbers

module _ (image : Image) (i : ℕ) where
  pub named_not : is_named (tree (frame image)) i ≡ true → false ≡ is_unnamed image i
  unfolding is_unnamed
  named_not e = sym (λ z. not (e z) && ltb (inode_at image i).generation (2 ^ 32 - 1))

  pub unnamed_is : (n : Inode) → n ≡ inode_at image i → is_named (tree (frame image)) i ≡ false → ltb n.generation 4294967295 ≡ is_unnamed image i
  unfolding is_unnamed
  unnamed_is n is e = (λ z. ltb (is z).generation 4294967295) ∙ sym (λ z. not (e z) && ltb (inode_at image i).generation (2 ^ 32 - 1))

  pub fresh_above : is_fresh image i ≡ true → 3 ≤ i
  unfolding is_fresh
  fresh_above e = leb-true 3 i (and_left _ _ e)

  pub fresh_below : is_fresh image i ≡ true → i ≤ (tree (frame image)).inodes
  unfolding is_fresh frame
  fresh_below e = leb-true i _ (and_left _ _ (and_right _ _ e))

  -- of an i-number past the root's
  pub fresh_is : 3 ≤ i → i ≤ (tree (frame image)).inodes → is_fresh image i ≡ is_unnamed image i
  unfolding is_fresh frame
  fresh_is low high = (λ z. le-leb 3 i low z && (le-leb i (inodes_before (isize_of image)) high z && is_unnamed image i))
