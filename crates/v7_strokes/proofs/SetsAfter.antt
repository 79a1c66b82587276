-- The sets of free blocks and i-numbers after one inode changed.
use Rattle.std.proofs.Common.{◌≡◌, ◌≢◌, ℕ, ◌+◌, ◌<◌, ◌≤◌, Bool, true, false, List, length, set, sym, ap, subst, ◌∙◌, arith, ⊎_elim, get_or-set_other, get_or-set_same, length-set}
use Rattle.std.proofs.lemmas.Bool.{cases_eq, cases_lt, cases_Bool}
use Rattle.std.proofs.lemmas.List.{get_or_past}
use Rattle.std.specs.Ordering.{nat_cmp}
use Rattle.std.specs.FinMap.{FinMap, get}
use Rattle.v7_layout.specs.declared.inode.Inode.{Inode}
use Rattle.index_sets.specs.Free.{is_free}
use Rattle.stable.specs.Store.{Image}
use Rattle.v7_map.specs.Image.{inodes_before}
use Rattle.v7_map.specs.Frame.{Frame, Place, frame}
use Rattle.v7_map.specs.View.{view}
use Rattle.v7_map.specs.Weak.{IsWeak}
use Rattle.v7_sets.specs.Sets.{IsFreeBlock, IsFreeNumber, AreSets}
use Rattle.v7_strokes.specs.Freed.{FreesBlocks, ChangesNumber}
use Rattle.v7_strokes.specs.FreeSets.{HoldsBlocks, HoldsNumbers, GivesBlocks, TakesBlocks, GainsBlocks, KeepsNumbers}

clash : {b : Bool} → b ≡ true → b ≡ false → ⊥
clash {b = b} x y = cc

-- a block that isn't known not to be in a set is in it
in_set : (blocks : List Bool) (b : ℕ) → (is_free blocks b ≡ false → ⊥) → is_free blocks b ≡ true
in_set blocks b h = ⊎_elim (λ (t : is_free blocks b ≡ true). t) (λ (n : is_free blocks b ≡ false). absurd (h n)) (cases_Bool (is_free blocks b))

-- ---- blocks

pub blocks-given : (f g : Frame) (i : ℕ) (old new : List Bool) → IsWeak f → FreesBlocks i f g → g.isize ≡ f.isize → HoldsBlocks f old → GivesBlocks f i old new → HoldsBlocks g new
blocks-given f g i old new weak freed isize holds gives = record {
  free = λ b h. ⊎_elim
      (λ (was : is_free old b ≡ true). freed.kept b (holds.free b was))
      (λ (place : (p : Place) × (f.address i p ≢ 0) × (f.address i p ≡ b)). subst (IsFreeBlock g) place.2 (freed.freed place.0 place.1))
      (gives.only b h);
  each = λ b free. in_set new b (λ out.
      let some : b ≢ 0 = λ z. let low = weak.sizes.low in let from = free.low in omega arith in
      let nowhere : (p : Place) → f.address i p ≢ b = λ p e. clash (subst (λ a. is_free new a ≡ true) e (gives.given p (λ z. some (sym e ∙ z)))) out in
      clash (gives.kept b (holds.each b (freed.only b free nowhere))) out);
}

pub blocks-taken : (f g : Frame) (i : ℕ) (old new : List Bool) → IsWeak f → GainsBlocks i f g → HoldsBlocks f old → TakesBlocks g i old new → HoldsBlocks g new
blocks-taken f g i old new weak gains holds takes = record {
  free = λ b h. let was = holds.free b (takes.only b h) in let some : b ≢ 0 = λ z. let low = weak.sizes.low in let from = was.low in omega arith in record {
    low = subst (λ n. n ≤ b) (sym gains.isize) was.low;
    high = subst (λ n. b < n) (sym gains.fsize) was.high;
    nowhere = λ j p e. ⊎_elim
        (λ (same : j ≡ i). let here : g.address i p ≡ b = subst (λ q. g.address q p ≡ b) same e in clash h (subst (λ a. is_free new a ≡ false) here (takes.taken p (λ z. some (sym here ∙ z)))))
        (λ (ne : j ≢ i). was.nowhere j p (sym (gains.others j ne p) ∙ e))
        (cases_eq j i);
  };
  each = λ b free. let low = weak.sizes.low in let from : f.isize ≤ b = subst (λ n. n ≤ b) gains.isize free.low in let some : b ≢ 0 = λ z. omega arith in
      takes.kept b (holds.each b (record {
        low = from;
        high = subst (λ n. b < n) gains.fsize free.high;
        nowhere = λ j p e. ⊎_elim
            (λ (same : j ≡ i). let here : f.address i p ≡ b = subst (λ q. f.address q p ≡ b) same e in free.nowhere i p (gains.own p (λ z. some (sym here ∙ z)) ∙ here))
            (λ (ne : j ≢ i). free.nowhere j p (gains.others j ne p ∙ e))
            (cases_eq j i);
      })) (λ p. free.nowhere i p);
}

-- ---- i-numbers

pub numbers-stay : (f g : Frame) (before after : FinMap nat_cmp ℕ) (inodes : List Bool) → KeepsNumbers f g before after → HoldsNumbers f before inodes → HoldsNumbers g after inodes
numbers-stay f g before after inodes keeps holds = record {
  free = λ i h. let was = holds.free i h in record {
    past = was.past;
    within = subst (λ n. i ≤ inodes_before n) (sym keeps.isize) was.within;
    unused = keeps.used i ∙ was.unused;
    fresh = λ n e. was.fresh n (ap (λ m. get m i) (sym keeps.same) ∙ e);
  };
  each = λ i free. holds.each i (record {
    past = free.past;
    within = subst (λ n. i ≤ inodes_before n) keeps.isize free.within;
    unused = sym (keeps.used i) ∙ free.unused;
    fresh = λ n e. free.fresh n (ap (λ m. get m i) keeps.same ∙ e);
  });
}

module _ (old new : Image) (i : ℕ) (n : Inode) (inodes : List Bool) (c : ChangesNumber old new i n) (holds : HoldsNumbers (frame old) (view old).generations inodes) where
  other_free : (v : Bool) (j : ℕ) → j ≢ i → is_free (set inodes i v) j ≡ is_free inodes j
  other_free v j ne = get_or-set_other inodes i j v false ne

  -- the number is taken, or its generation can't go up
  pub number-taken : (IsFreeNumber (frame new) (view new).generations i → ⊥) → HoldsNumbers (frame new) (view new).generations (set inodes i false)
  number-taken taken = record {
    free = λ j h. ⊎_elim
        (λ (same : j ≡ i). absurd (clash (subst (λ q. is_free (set inodes i false) q ≡ true) same h) gone))
        (λ (ne : j ≢ i). c.kept j ne (holds.free j (sym (other_free false j ne) ∙ h)))
        (cases_eq j i);
    each = λ j free. ⊎_elim
        (λ (same : j ≡ i). absurd (taken (subst (IsFreeNumber (frame new) (view new).generations) same free)))
        (λ (ne : j ≢ i). other_free false j ne ∙ holds.each j (c.only j ne free))
        (cases_eq j i);
  }
    where
      gone : is_free (set inodes i false) i ≡ false
      gone = ⊎_elim (λ (lt : i < length inodes). get_or-set_same inodes i false false lt) (λ (ge : length inodes ≤ i). get_or_past (set inodes i false) i false (let e = length-set inodes i false in omega arith)) (cases_lt i (length inodes))

  -- it is free
  pub number-given : i < length inodes → IsFreeNumber (frame new) (view new).generations i → HoldsNumbers (frame new) (view new).generations (set inodes i true)
  number-given room free_now = record {
    free = λ j h. ⊎_elim
        (λ (same : j ≡ i). subst (IsFreeNumber (frame new) (view new).generations) (sym same) free_now)
        (λ (ne : j ≢ i). c.kept j ne (holds.free j (sym (other_free true j ne) ∙ h)))
        (cases_eq j i);
    each = λ j free. ⊎_elim
        (λ (same : j ≡ i). subst (λ q. is_free (set inodes i true) q ≡ true) (sym same) (get_or-set_same inodes i true false room))
        (λ (ne : j ≢ i). other_free true j ne ∙ holds.each j (c.only j ne free))
        (cases_eq j i);
  }

-- ---- both

pub sets-of : (f : Frame) (generations : FinMap nat_cmp ℕ) (blocks inodes : List Bool) → length blocks ≡ f.fsize → length inodes ≡ inodes_before f.isize + 1
    → HoldsBlocks f blocks → HoldsNumbers f generations inodes → AreSets f generations blocks inodes
sets-of f generations blocks inodes blocks_room inodes_room b n = record { blocks_room = blocks_room; inodes_room = inodes_room; free = b.free; all_free = b.each; numbers = n.free; all_numbers = n.each }

pub halves-of : (f : Frame) (generations : FinMap nat_cmp ℕ) (blocks inodes : List Bool) → AreSets f generations blocks inodes → HoldsBlocks f blocks × HoldsNumbers f generations inodes
halves-of f generations blocks inodes s = (record { free = s.free; each = s.all_free }, record { free = s.numbers; each = s.all_numbers })
