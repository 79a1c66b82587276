-- Blocks that are chosen for a text.
use Rattle.std.proofs.Common.{◌≡◌, ◌≢◌, ℕ, zero, suc, ◌+◌, ◌<◌, ◌≤◌, max, min, Bool, true, false, ◌||◌, ◌==◌, List, [], ◌∷◌, ◌++◌, length, get_or, refl, sym, ap, subst, ◌∙◌, arith, ⊎_elim, eq-eqb, Option, Some, None, IfSome}
use Rattle.std.proofs.lemmas.Bool.{cases_eq, cases_lt, ne_eqb}
use Rattle.std.specs.List.{AllByRecursion}
use Rattle.files_model.specs.Among.{is_among}
use Rattle.files_model.specs.Files.{sectors_of}
use Rattle.index_sets.specs.Free.{is_free, IsLowestFrom, count_free}
use Rattle.plan_file.specs.Free.{count_from}
use Rattle.plan_file.proofs.Placing.{lowest-there, lowest-next}
use Rattle.name_plans.specs.Taken.{taken}
use Rattle.stable.specs.Store.{Image}
use Rattle.v7_map.specs.Frame.{frame}
use Rattle.v7_sets.specs.Sets.{AreSetsOf, IsFreeBlock}
use Rattle.longer_plans.specs.SymlinkPuts.{AreTextBlocks}
use Rattle.plan_name.specs.LayingOut.{new_list, one_of, past, past_new}
use Rattle.plan_name.specs.declared.laying_out.NewBlocks.{NewBlocks}
use Rattle.plan_symlink.specs.Making.{AreOthers}
use Rattle.plan_symlink.specs.TextBlocks.{AreLowestFrom, AreWithin}

-- ---- where none can be chosen, too few are free

pub lacks-first : (free : List Bool) (from : ℕ) → IsLowestFrom free from None → count_from free from ≡ 0
lacks-first free from h = ⊎_elim
    (λ (lt : 0 < count_from free from). absurd (lowest-there free from lt h))
    (λ (le : count_from free from ≤ 0). omega arith)
    (cases_lt 0 (count_from free from))

pub lacks-second : (free : List Bool) (from a : ℕ) → IsLowestFrom free from (Some a) → IsLowestFrom free (a + 1) None → count_from free from ≡ 1
lacks-second free from a first none = lowest-next free from a first ∙ ap (λ n. n + 1) (lacks-first free (a + 1) none)

-- ---- those that are chosen

-- they come from the number on, and the later ones are higher
lowest-above : (free : List Bool) (from : ℕ) (blocks : List ℕ) → AreLowestFrom free from blocks → (k : ℕ) → k < length blocks → from ≤ get_or blocks k 0
lowest-above free from [] h k lt = absurd (omega arith)
lowest-above free from (a ∷ rest) h zero lt = h.0.0
lowest-above free from (a ∷ rest) h (suc k) lt = let r = lowest-above free (a + 1) rest h.1 k (omega arith) in let low : from ≤ a = h.0.0 in omega arith

lowest-apart : (free : List Bool) (from : ℕ) (blocks : List ℕ) → AreLowestFrom free from blocks → (j k : ℕ) → j < length blocks → k < length blocks → get_or blocks j 0 ≡ get_or blocks k 0 → j ≡ k
lowest-apart free from [] h j k lj lk e = absurd (omega arith)
lowest-apart free from (a ∷ rest) h zero zero lj lk e = refl
lowest-apart free from (a ∷ rest) h zero (suc k) lj lk e = let above = lowest-above free (a + 1) rest h.1 k (omega arith) in absurd (omega arith)
lowest-apart free from (a ∷ rest) h (suc j) zero lj lk e = let above = lowest-above free (a + 1) rest h.1 j (omega arith) in absurd (omega arith)
lowest-apart free from (a ∷ rest) h (suc j) (suc k) lj lk e = ap suc (lowest-apart free (a + 1) rest h.1 j k (omega arith) (omega arith) e)

lowest-free : (image : Image) (free inodes : List Bool) (from : ℕ) (blocks : List ℕ) → AreSetsOf image free inodes → AreLowestFrom free from blocks → AllByRecursion (λ a. IsFreeBlock (frame image) a) blocks
lowest-free image free inodes from [] sets h = tt
lowest-free image free inodes from (a ∷ rest) sets h = (sets.free a h.0.1, lowest-free image free inodes (a + 1) rest sets h.1)

-- so they may be those of a text
pub lowest-text : (image : Image) (free inodes : List Bool) (from : ℕ) (text blocks : List ℕ) → AreSetsOf image free inodes → length text ≤ 1024 → length blocks ≡ sectors_of (length text) → AreLowestFrom free from blocks → AreTextBlocks image text blocks
lowest-text image free inodes from text blocks sets short each h = record {
  short = short;
  each = each;
  free = lowest-free image free inodes from blocks sets h;
  apart = lowest-apart free from blocks h;
}

-- ---- and others than the new ones of a directory

among-below : (k : ℕ) (xs : List ℕ) (most : ℕ) → AllByRecursion (λ x. x < most) xs → is_among k xs ≡ true → k < most
among-below k [] most h e = absurd (cc)
among-below k (x ∷ xs) most h e = ⊎_elim
    (λ (same : x ≡ k). subst (λ z. z < most) same h.0)
    (λ (ne : x ≢ k). among-below k xs most h.1 ((λ z. sym (ne_eqb x k ne) z || is_among k xs) ∙ e))
    (cases_eq x k)

above-not : (k : ℕ) (free : List Bool) (from : ℕ) (blocks : List ℕ) → AreLowestFrom free from blocks → k < from → is_among k blocks ≡ false
above-not k free from [] h lt = refl
above-not k free from (a ∷ rest) h lt =
    let low : from ≤ a = h.0.0 in
    (λ z. ne_eqb a k (λ e. omega arith) z || is_among k rest) ∙ above-not k free (a + 1) rest h.1 (omega arith)

pub new-others : (new : NewBlocks) (free : List Bool) (blocks : List ℕ) → AreLowestFrom free (past_new new) blocks → AreOthers (new_list new) blocks
new-others new free blocks h a e = above-not a free (past_new new) blocks h (among-below a (new_list new) (past_new new) (all-below new.sector new.map) e)
  where
    all-below : (s m : Option ℕ) → AllByRecursion (λ x. x < max (past s) (past m)) (one_of s ++ one_of m)
    all-below None None = tt
    all-below None (Some b) = (omega arith, tt)
    all-below (Some a) None = (omega arith, tt)
    all-below (Some a) (Some b) = (omega arith, (omega arith, tt))

-- taken one after the other, they are taken all
pub taken-both : (xs ys : List ℕ) (free : List Bool) → taken (xs ++ ys) free ≡ taken ys (taken xs free)
taken-both [] ys free = refl
taken-both (x ∷ xs) ys free = taken-both xs ys _
