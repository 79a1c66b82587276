-- What is left by the tables is what is free after a repair.
use Rattle.std.proofs.Common.{◌≡◌, ◌≢◌, ◌⊎◌, inl, inr, ℕ, ◌+◌, ◌-◌, ◌^◌, ◌<◌, ◌≤◌, Bool, true, false, cond, not, ◌==◌, ◌&&◌, List, length, refl, sym, ap, subst, ◌∙◌, arith, leb, eq-eqb, Some, None}
use Rattle.std.proofs.lemmas.Bool.{eqb-true, ltb-true, leb-true, lt-ltb, le-leb, ne_eqb}
use Rattle.std.specs.FinMap.{get}
use Rattle.std.specs.List.{range_with_len, list_any}
use Rattle.v7_layout.specs.Numbers.{field}
use Rattle.files_model.specs.Files.{Node, Files, sectors_of}
use Rattle.files_model.proofs.Maps.{get-tabulated}
use Rattle.stable.specs.Store.{Image}
use Rattle.v7_map.specs.Image.{sector_at, inode_at, isize_of, inodes_before}
use Rattle.v7_map.specs.Frame.{Place, Body, Single, Double, frame}
use Rattle.v7_map.specs.Tree.{tree, is_named}
use Rattle.v7_map.specs.View.{view, files_of, node_at}
use Rattle.v7_map.specs.Weak.{IsWeak}
use Rattle.v7_map.proofs.AnyFrame.{frame-IsFrame}
use Rattle.v7_map.proofs.Frames.{and_left, and_right}
use Rattle.v7_map.proofs.Members.{In-range, any_is, any_in, in_range_of}
use Rattle.v7_map.proofs.Used.{named_used}
use Rattle.v7_map.proofs.Walks.{and_both, or_cases, or_left, or_right}
use Rattle.v7_damage.specs.Marks.{mark_at}
use Rattle.v7_damage.specs.Summaries.{sectors_in_size}
use Rattle.v7_inspect.specs.Usage.{AreNeeded, is_needed_by}
use Rattle.v7_inspect.proofs.Tallies.{node-at}
use Rattle.v7_mend.specs.Repairs.{Repairs, IsNeeded}
use Rattle.v7_mend.proofs.Held.{stands_needed, needed_stands}
use Rattle.v7_sets.specs.Sets.{IsFreeBlock, IsFreeNumber, AreSetsOf}
use Rattle.v7_sets.specs.declared.sets.Sets.{Sets}
use Rattle.v7_repair.specs.Free.{AreLeft, is_left, is_unnamed, is_fresh}

clash : (b : Bool) → b ≡ true → not b ≡ true → ⊥
clash true t u = absurd (cc)
clash false t u = absurd (cc)

both : (b : Bool) → b ≡ true → b ≡ false → ⊥
both true t f = absurd (cc)
both false t f = absurd (cc)

unset : (b : Bool) → not b ≡ true → b ≡ false
unset true e = absurd (cc)
unset false e = refl

same_test : (a b : Bool) (m n : Node) → cond a (Some m) None ≡ cond b (Some n) None → a ≡ b
same_test true true m n e = refl
same_test true false m n e = absurd (cc)
same_test false true m n e = absurd (cc)
same_test false false m n e = refl

size_at : (image : Image) (i : ℕ) → ((frame image).head i).size ≡ (inode_at image i).size
unfolding frame
size_at image i = refl

-- the generation of an inode
generation_at : (image : Image) (i : ℕ) → 1 ≤ i → i < (tree (frame image)).inodes + 1 → get (view image).generations i ≡ Some (inode_at image i).generation
unfolding view files_of
generation_at image i low high =
    get-tabulated (λ i. cond (i == 0) None (Some (inode_at image i).generation)) ((tree (frame image)).inodes + 1) i high
    ∙ ap (λ b. cond b None (Some (inode_at image i).generation)) (ne_eqb i 0 (λ z. absurd (omega (arith, low, z))))

-- ---- blocks

module _ (image : Image) (i b : ℕ) where
  -- what is needed at a place is marked
  place_needed : (p : Place) → IsNeeded image i p → (frame image).address i p ≡ b → b ≢ 0 → is_needed_by image b i ≡ true
  unfolding is_needed_by
  place_needed (Body k) (named, below) at some =
      let can : k < 138 = ((frame-IsFrame image).places i (Body k) (λ z. some (sym at ∙ z))).1 in
      let here : k < sectors_of ((frame image).head i).size = subst (λ n. k < sectors_of n) (sym (size_at image i)) below in
      and_both _ _ named (or_left _ _ (any_in (λ k. (frame image).address i (Body k) == b) k (range_with_len 0 (sectors_in_size ((frame image).head i).size)) (In-range k 0 _ (omega arith) (omega (arith, can, here))) (eq-eqb _ b at)))
  place_needed Single (named, (k, ge, below, nz)) at some =
      let can : k < 138 = ((frame-IsFrame image).places i (Body k) nz).1 in
      let here : k < sectors_of ((frame image).head i).size = subst (λ n. k < sectors_of n) (sym (size_at image i)) below in
      and_both _ _ named (or_right _ _ (and_both _ _
      (any_in (λ k. leb 10 k && not ((frame image).address i (Body k) == 0)) k (range_with_len 0 (sectors_in_size ((frame image).head i).size)) (In-range k 0 _ (omega arith) (omega (arith, can, here)))
      (and_both _ _ (le-leb 10 k ge) (ap not (ne_eqb _ 0 nz)))) (eq-eqb _ b at)))
  place_needed Double none at some = absurd none

  -- and what is marked is needed at a place
  needed_place : is_needed_by image b i ≡ true → (p : Place) × IsNeeded image i p × ((frame image).address i p ≡ b)
  unfolding is_needed_by
  needed_place e = by (or_cases _ _ (and_right _ _ e))
    where
      named : is_named (tree (frame image)) i ≡ true
      named = and_left _ _ e

      count : ℕ
      count = sectors_in_size ((frame image).head i).size

      below : (k : ℕ) → k < 0 + count → k < sectors_of (inode_at image i).size
      below k lt = subst (λ n. k < sectors_of n) (size_at image i) (omega (arith, lt))

      by : (list_any (λ k. (frame image).address i (Body k) == b) (range_with_len 0 count) ≡ true)
          ⊎ ((list_any (λ k. leb 10 k && not ((frame image).address i (Body k) == 0)) (range_with_len 0 count) && ((frame image).address i Single == b)) ≡ true)
          → (p : Place) × IsNeeded image i p × ((frame image).address i p ≡ b)
      by (inl near) =
          let a = any_is (λ k. (frame image).address i (Body k) == b) (range_with_len 0 count) near in
          (Body a.0, (named, below a.0 (in_range_of a.0 0 count a.1).1), eqb-true _ b a.2)
      by (inr far) =
          let a = any_is (λ k. leb 10 k && not ((frame image).address i (Body k) == 0)) (range_with_len 0 count) (and_left _ _ far) in (
            Single,
            (named, (a.0, leb-true 10 a.0 (and_left _ _ a.2), below a.0 (in_range_of a.0 0 count a.1).1, λ z. clash ((frame image).address i (Body a.0) == 0) (eq-eqb _ 0 z) (and_right _ _ a.2))),
            eqb-true _ b (and_right _ _ far),
          )

module _ (old new : Image) (weak : IsWeak (frame old)) (r : Repairs old new) (super : sector_at new 1 ≡ sector_at old 1) where
  same_isize : (frame new).isize ≡ (frame old).isize
  unfolding frame
  same_isize = ap (λ s. field s 0 2) super

  same_fsize : (frame new).fsize ≡ (frame old).fsize
  unfolding frame
  same_fsize = ap (λ s. field s 2 4) super

  -- ---- blocks

  module _ (needed : List Bool) (are : AreNeeded old needed (tree (frame old)).inodes) where
    -- a block that stands afterwards is marked
    stands_marked : (b i : ℕ) (p : Place) → b ≢ 0 → b < length needed → (frame new).address i p ≡ b → mark_at needed b ≡ true
    stands_marked b i p some lt at =
        let nz : (frame new).address i p ≢ 0 = λ z. some (sym at ∙ z) in
        let was : (frame old).address i p ≡ b = sym (r.places i p nz) ∙ at in
        let used = ((frame-IsFrame old).places i p (λ z. some (sym was ∙ z))).0 in
        let in' = (frame-IsFrame old).numbers i used in
        are.each b some lt ∙ any_in (is_needed_by old b) i (range_with_len 1 (tree (frame old)).inodes) (In-range i 1 _ in'.0 (let high = in'.1 in omega (arith, high))) (place_needed old i b p (stands_needed old new weak r i p nz) was some)

    -- a marked block stands afterwards
    marked_stands : (b : ℕ) → b ≢ 0 → b < length needed → mark_at needed b ≡ true → (i : ℕ) × (p : Place) × ((frame new).address i p ≡ b)
    marked_stands b some lt e =
        let a = any_is (is_needed_by old b) (range_with_len 1 (tree (frame old)).inodes) (sym (are.each b some lt) ∙ e) in
        let n = needed_place old a.0 b a.2 in
        (a.0, n.0, needed_stands old new weak r a.0 n.0 n.1 ∙ n.2)

  -- ---- i-numbers

  same_inodes : (tree (frame new)).inodes ≡ (tree (frame old)).inodes
  same_inodes = ap inodes_before same_isize

  -- the same inodes have names
  same_named : (i : ℕ) → i < (tree (frame old)).inodes + 1 → is_named (tree (frame new)) i ≡ is_named (tree (frame old)) i
  same_named i lt =
      let same = same_inodes in
      same_test (is_named (tree (frame new)) i) (is_named (tree (frame old)) i) (node_at new i) (node_at old i) (sym (node-at new i (omega (arith, lt, same))) ∙ ap (λ (f : Files). get f.nodes i) r.view ∙ node-at old i lt)

  same_generation : (i : ℕ) → 1 ≤ i → i < (tree (frame old)).inodes + 1 → get (view new).generations i ≡ Some (inode_at old i).generation
  same_generation i low lt = ap (λ (f : Files). get f.generations i) r.view ∙ generation_at old i low lt

  -- what is unnamed before is free afterwards
  unnamed_unused : (i : ℕ) → is_named (tree (frame old)) i ≡ false → (b : Bool) → ((frame new).head i).is_used ≡ b → b ≡ false
  unnamed_unused i none false used = refl
  unnamed_unused i none true used =
      let in' = (frame-IsFrame new).numbers i used in
      let same = same_inodes in
      absurd (both (is_named (tree (frame new)) i) (r.strong.named i used) (same_named i (let high = in'.1 in omega (arith, high, same)) ∙ none))

  -- what is free afterwards is unnamed before
  unused_unnamed : (i : ℕ) → i < (tree (frame old)).inodes + 1 → ((frame new).head i).is_used ≡ false → (b : Bool) → is_named (tree (frame old)) i ≡ b → b ≡ false
  unused_unnamed i lt free false named = refl
  unused_unnamed i lt free true named = absurd (both ((frame new).head i).is_used (named_used (frame new) r.strong.weak (frame-IsFrame new).directories i (same_named i lt ∙ named)) free)

  module _ (i : ℕ) where
    fresh_free : is_fresh old i ≡ true → IsFreeNumber (frame new) (view new).generations i
    unfolding is_fresh is_unnamed frame
    fresh_free e =
        let past = leb-true 3 i (and_left _ _ e) in
        let within = leb-true i (tree (frame old)).inodes (and_left _ _ (and_right _ _ e)) in
        let u = and_right _ _ (and_right _ _ e) in
        let none = unset (is_named (tree (frame old)) i) (and_left _ _ u) in
        let low = ltb-true (inode_at old i).generation (2 ^ 32 - 1) (and_right _ _ u) in
        let same = same_inodes in
        record {
          past = past;
          within = omega (arith, within, same);
          unused = unnamed_unused i none ((frame new).head i).is_used refl;
          fresh = λ g at. (let is : Some (inode_at old i).generation ≡ Some g = sym (same_generation i (omega (arith, past)) (omega (arith, within))) ∙ at in subst (λ x. x < 2 ^ 32 - 1) (some_is _ g is) low);
        }
      where
        some_is : (x y : ℕ) → Some x ≡ Some y → x ≡ y
        some_is x y e = cc

    free_fresh : IsFreeNumber (frame new) (view new).generations i → is_fresh old i ≡ true
    unfolding is_fresh is_unnamed frame
    free_fresh n =
        let past = n.past in
        let high = n.within in
        let same = same_inodes in
        let within : i ≤ (tree (frame old)).inodes = omega (arith, high, same) in
        and_both _ _ (le-leb 3 i past) (and_both _ _ (le-leb i _ within)
        (and_both _ _ (ap not (unused_unnamed i (omega (arith, within)) n.unused (is_named (tree (frame old)) i) refl))
        (lt-ltb (inode_at old i).generation (2 ^ 32 - 1) (n.fresh (inode_at old i).generation (same_generation i (omega (arith, past)) (omega (arith, within)))))))

  low_isize : 3 ≤ (frame old).isize
  low_isize = weak.sizes.low

  start : isize_of old ≡ (frame old).isize
  unfolding frame
  start = refl

  -- ---- both

  module _ (needed : List Bool) (are : AreNeeded old needed (tree (frame old)).inodes) (long : length needed ≡ (frame old).fsize) where
    left_free : (b : ℕ) → is_left (isize_of old) needed b ≡ true → IsFreeBlock (frame new) b
    unfolding is_left
    left_free b e =
        let past = leb-true (isize_of old) b (and_left _ _ e) in
        let within = ltb-true b (length needed) (and_left _ _ (and_right _ _ e)) in
        let none = unset (mark_at needed b) (and_right _ _ (and_right _ _ e)) in
        let isize = same_isize in
        let fsize = same_fsize in
        let l = low_isize in
        let s = start in
        record {
          low = omega (arith, past, isize, s);
          high = omega (arith, within, long, fsize);
          nowhere = λ i p at. both (mark_at needed b) (stands_marked needed are b i p (λ z. absurd (omega (arith, z, past, l, s))) within at) none;
        }

    unmarked : (b : ℕ) → IsFreeBlock (frame new) b → b ≢ 0 → b < length needed → (m : Bool) → mark_at needed b ≡ m → not m ≡ true
    unmarked b is some lt false m = refl
    unmarked b is some lt true m = let s = marked_stands needed are b some lt m in absurd (is.nowhere s.0 s.1 s.2)

    free_left : (b : ℕ) → IsFreeBlock (frame new) b → is_left (isize_of old) needed b ≡ true
    unfolding is_left
    free_left b is =
        let past = is.low in
        let high = is.high in
        let isize = same_isize in
        let fsize = same_fsize in
        let l = low_isize in
        let s = start in
        let lt : b < length needed = omega (arith, high, fsize, long) in
        and_both _ _ (le-leb (isize_of old) b (omega (arith, past, isize, s))) (and_both _ _ (lt-ltb b (length needed) lt) (unmarked b is (λ z. absurd (omega (arith, z, past, isize, l))) lt (mark_at needed b) refl))

    pub sets_are : (sets : Sets) → AreLeft old needed sets → length sets.blocks ≡ (frame old).fsize → length sets.inodes ≡ (tree (frame old)).inodes + 1 → AreSetsOf new sets.blocks sets.inodes
    sets_are sets left room numbers = record {
      blocks_room = room ∙ sym same_fsize;
      inodes_room = numbers ∙ ap (λ n. n + 1) (sym same_inodes);
      free = λ b e. left_free b (sym (left.blocks b) ∙ e);
      all_free = λ b e. left.blocks b ∙ free_left b e;
      numbers = λ i e. fresh_free i (sym (left.inodes i) ∙ e);
      all_numbers = λ i e. left.inodes i ∙ free_fresh i e;
    }
