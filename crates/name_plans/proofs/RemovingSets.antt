-- What is free after a removal: the blocks of a node that ended, and its i-number.
use Rattle.std.proofs.Common.{◌≡◌, ◌≢◌, ℕ, ◌+◌, ◌-◌, ◌^◌, ◌<◌, ◌≤◌, Bool, true, false, ◌==◌, ◌&&◌, if◌then◌else◌, List, length, set, refl, sym, ap, subst, ◌∙◌, arith, inl, inr, ⊎_elim, ltb, nat_lt, Option, Some, None, unwrap_or, length-set, get_or-set_other, get_or-set_same}
use Rattle.std.proofs.lemmas.Bool.{cases_eq, cases_Bool}
use Rattle.std.specs.FinMap.{get}
use Rattle.files_model.specs.declared.attributes.FileId.{FileId}
use Rattle.files_model.specs.declared.credential.Cred.{Cred}
use Rattle.files_model.specs.Among.{is_among}
use Rattle.files_model.specs.Files.{Node, Files}
use Rattle.index_sets.specs.Free.{is_free}
use Rattle.stable.specs.Puts.{put_all}
use Rattle.stable.specs.Store.{Image}
use Rattle.v7_map.specs.Image.{inodes_before}
use Rattle.v7_map.specs.Frame.{Frame, Place, frame}
use Rattle.v7_map.specs.Tree.{tree}
use Rattle.v7_map.specs.View.{view}
use Rattle.v7_map.specs.Weak.{IsWeak, IsStrong}
use Rattle.v7_map.proofs.AnyFrame.{frame-IsFrame}
use Rattle.v7_map.proofs.Nodes.{view-node}
use Rattle.v7_map.proofs.Used.{named_used}
use Rattle.v7_sets.specs.Given.{given}
use Rattle.v7_sets.specs.Sets.{IsFreeNumber, AreSetsOf}
use Rattle.v7_sets.proofs.Given.{length-given, given-has, given-new, given-only}
use Rattle.v7_strokes.specs.Changes.{changed}
use Rattle.v7_strokes.specs.Freed.{IsFreed}
use Rattle.v7_strokes.specs.FreeSets.{HoldsBlocks, HoldsNumbers}
use Rattle.v7_strokes.proofs.Absent.{absent-free}
use Rattle.v7_strokes.proofs.Changed.{changed-here, changed-there, changed-other}
use Rattle.v7_strokes.proofs.Freeing.{frees-blocks}
use Rattle.v7_strokes.proofs.Loser.{lost_of}
use Rattle.v7_strokes.proofs.SetsAfter.{blocks-given, sets-of, halves-of}
use Rattle.name_plans.specs.Removed.{AreFreed, frees_number, number_given}
use Rattle.name_plans.specs.Removing.{IsRemoval, TakesName, removing_puts}
use Rattle.name_plans.proofs.RemovingAccepted.{removal-at, removal-changed}
use Rattle.name_plans.proofs.RemovingPlan.{removal-plan, removal-freed, removal-low, removal-apart}

clash : {b : Bool} → b ≡ true → b ≡ false → ⊥
clash {b = b} x y = cc

below_of : (a b : ℕ) → ltb a b ≡ true → a < b
below_of a b e = grind arith

above_of : (a b : ℕ) → ltb a b ≡ false → a < b → ⊥
above_of a b e lt = grind arith

-- ---- blocks

none_freed : (f : Frame) (i : ℕ) (freed : List ℕ) → AreFreed false f i freed → (b : ℕ) → is_among b freed ≡ false
none_freed f i freed x b = ⊎_elim (λ (h : is_among b freed ≡ true). absurd (clash (x.only b h).0 refl)) (λ (h : is_among b freed ≡ false). h) (cases_Bool (is_among b freed))

-- nothing ended
blocks-same : (f g : Frame) (i : ℕ) (freed : List ℕ) (blocks : List Bool) → IsFreed false i f g → AreFreed false f i freed → HoldsBlocks f blocks → HoldsBlocks g (given freed blocks)
blocks-same f g i freed blocks x y holds = record {
  free = λ b h. let was = holds.free b (⊎_elim (λ (o : is_free blocks b ≡ true). o) (λ (n : is_among b freed ≡ true). absurd (clash n (none_freed f i freed y b))) (given-only freed blocks b h)) in record {
    low = subst (λ n. n ≤ b) (sym x.isize) was.low;
    high = subst (λ n. b < n) (sym x.fsize) was.high;
    nowhere = λ j p e. was.nowhere j p (sym (address j p) ∙ e);
  };
  each = λ b free. given-has freed blocks b (holds.each b (record {
    low = subst (λ n. n ≤ b) x.isize free.low;
    high = subst (λ n. b < n) x.fsize free.high;
    nowhere = λ j p e. free.nowhere j p (address j p ∙ e);
  }));
}
  where
    address : (j : ℕ) (p : Place) → g.address j p ≡ f.address j p
    address j p = ⊎_elim
        (λ (e : j ≡ i). subst (λ q. g.address q p ≡ f.address q p) (sym e) (x.own p))
        (λ (ne : j ≢ i). x.others j ne p)
        (cases_eq j i)

pub blocks-after : (ended : Bool) (f g : Frame) (i : ℕ) (freed : List ℕ) (blocks : List Bool) → IsWeak f → length blocks ≡ f.fsize → IsFreed ended i f g → AreFreed ended f i freed → HoldsBlocks f blocks → HoldsBlocks g (given freed blocks)
blocks-after false f g i freed blocks weak room x y holds = blocks-same f g i freed blocks x y holds
blocks-after true f g i freed blocks weak room x y holds = blocks-given f g i blocks (given freed blocks) weak (frees-blocks i f g weak x) x.isize holds (record {
  given = λ p nz. given-new freed blocks (f.address i p) (y.each refl p nz) (let high = (weak.data_block i p nz).1 in omega arith);
  kept = λ b h. given-has freed blocks b h;
  only = λ b h. ⊎_elim (λ (o : is_free blocks b ≡ true). inl o) (λ (n : is_among b freed ≡ true). inr (y.only b n).1) (given-only freed blocks b h);
})

-- ---- i-numbers

-- an inode is used where a node stands
node-used : (image : Image) (j : ℕ) (m : Node) → IsStrong (frame image) → get (view image).nodes j ≡ Some m → ((frame image).head j).is_used ≡ true
node-used image j m strong at = named_used (frame image) strong.weak (frame-IsFrame image).directories j (view-node image j m at).named

no_node : (image : Image) (j : ℕ) → IsStrong (frame image) → ((frame image).head j).is_used ≡ false → get (view image).nodes j ≡ None
no_node image j strong free = elim (get (view image).nodes j) as (λ o. get (view image).nodes j ≡ o → o ≡ None) [
  | None ↦ λ e. refl
  | Some m ↦ λ e. absurd (clash (node-used image j m strong e) free)
] refl

-- no other node comes or goes
pub record KeepsNodes (old new : Files) (i : ℕ) (x : Option Node) : Type 0 where
  pub generations : new.generations ≡ old.generations
  pub here : get new.nodes i ≡ x
  pub gone : (j : ℕ) → j ≢ i → get old.nodes j ≡ None → get new.nodes j ≡ None
  pub came : (j : ℕ) → j ≢ i → get new.nodes j ≡ None → get old.nodes j ≡ None

no_some : (o : Option Node) (m : Node) → o ≡ Some m → o ≡ None → ⊥
no_some o m e f = none_some m (sym f ∙ e)
  where
    none_some : (m : Node) → ◌≡◌ {A = Option Node} None (Some m) → ⊥
    none_some m e = cc

pub keeps-changed : (old new : Files) (i p : ℕ) (x : Option Node) (y d : Node) → new ≡ changed old i x p y → i ≢ p → get old.nodes p ≡ Some d → KeepsNodes old new i x
keeps-changed old new i p x y d after apart at_dir = record {
  generations = ap (λ (f : Files). f.generations) after;
  here = ap (λ (f : Files). get f.nodes i) after ∙ changed-there old i x p y apart;
  gone = λ j ni h. other j ni (λ e. no_some (get old.nodes j) d (ap (get old.nodes) e ∙ at_dir) h) ∙ h;
  came = λ j ni h. sym (other j ni (λ e. no_some (get new.nodes j) y (ap (get new.nodes) e ∙ ap (λ (f : Files). get f.nodes p) after ∙ changed-here old i x p y) h)) ∙ h;
}
  where
    other : (j : ℕ) → j ≢ i → j ≢ p → get new.nodes j ≡ get old.nodes j
    other j ni np = ap (λ (f : Files). get f.nodes j) after ∙ changed-other old i x p y j ni np

module _ (old new : Image) (i : ℕ) (x : Option Node) (n : Node) (ends : Bool) (strong : IsStrong (frame old)) (strong' : IsStrong (frame new)) (isize : (frame new).isize ≡ (frame old).isize)
    (keeps : KeepsNodes (view old) (view new) i x) (at_node : get (view old).nodes i ≡ Some n) (low : 3 ≤ i) (inside : i ≤ inodes_before (frame old).isize)
    (ended : ends ≡ true → x ≡ None) (stays : ends ≡ false → (m : Node) × (x ≡ Some m)) (inodes : List Bool) (room : length inodes ≡ inodes_before (frame old).isize + 1) (holds : HoldsNumbers (frame old) (view old).generations inodes) where
  generations : (view new).generations ≡ (view old).generations
  generations = keeps.generations

  here : get (view new).nodes i ≡ x
  here = keeps.here

  in_tree : (image : Image) (j : ℕ) → j ≤ inodes_before (frame image).isize → j < (tree (frame image)).inodes + 1
  unfolding frame
  in_tree image j le = omega arith

  keep : (j : ℕ) → j ≢ i → IsFreeNumber (frame old) (view old).generations j → IsFreeNumber (frame new) (view new).generations j
  keep j ni was =
      let within : j ≤ inodes_before (frame new).isize = subst (λ z. j ≤ inodes_before z) (sym isize) was.within in record {
        past = was.past;
        within = within;
        unused = absent-free new j strong' (keeps.gone j ni (no_node old j strong was.unused)) (in_tree new j within);
        fresh = λ g e. was.fresh g (ap (λ m. get m j) (sym generations) ∙ e);
      }

  back : (j : ℕ) → j ≢ i → IsFreeNumber (frame new) (view new).generations j → IsFreeNumber (frame old) (view old).generations j
  back j ni is =
      let within : j ≤ inodes_before (frame old).isize = subst (λ z. j ≤ inodes_before z) isize is.within in record {
        past = is.past;
        within = within;
        unused = absent-free old j strong (keeps.came j ni (no_node new j strong' is.unused)) (in_tree old j within);
        fresh = λ g e. is.fresh g (ap (λ m. get m j) generations ∙ e);
      }

  -- the node ended, and its number can be used again
  pub number-comes : ends ≡ true → unwrap_or (get (view old).generations i) 0 < 2 ^ 32 - 1 → HoldsNumbers (frame new) (view new).generations (set inodes i true)
  number-comes e fresh = record {
    free = λ j h. ⊎_elim
        (λ (s : j ≡ i). subst (IsFreeNumber (frame new) (view new).generations) (sym s) free_i)
        (λ (ne : j ≢ i). keep j ne (holds.free j (sym (get_or-set_other inodes i j true false ne) ∙ h)))
        (cases_eq j i);
    each = λ j is. ⊎_elim
        (λ (s : j ≡ i). subst (λ q. is_free (set inodes i true) q ≡ true) (sym s) (get_or-set_same inodes i true false (omega arith)))
        (λ (ne : j ≢ i). get_or-set_other inodes i j true false ne ∙ holds.each j (back j ne is))
        (cases_eq j i);
  }
    where
      some_is : (a b : ℕ) → Some a ≡ Some b → a ≡ b
      some_is a b e = cc

      within' : i ≤ inodes_before (frame new).isize
      within' = subst (λ z. i ≤ inodes_before z) (sym isize) inside

      free_i : IsFreeNumber (frame new) (view new).generations i
      free_i = record {
        past = low;
        within = within';
        unused = absent-free new i strong' (here ∙ ended e) (in_tree new i within');
        fresh = λ g at. let same : unwrap_or (get (view old).generations i) 0 ≡ g = ap (λ o. unwrap_or o 0) (ap (λ m. get m i) (sym generations) ∙ at) in subst (λ v. v < 2 ^ 32 - 1) same fresh;
      }

  -- it stays, or its number is used up
  pub number-stays : (IsFreeNumber (frame new) (view new).generations i → ⊥) → HoldsNumbers (frame new) (view new).generations inodes
  number-stays never = record {
    free = λ j h. keep j (λ s. clash (node-used old i n strong at_node) (subst (λ q. ((frame old).head q).is_used ≡ false) s (holds.free j h).unused)) (holds.free j h);
    each = λ j is. ⊎_elim
        (λ (s : j ≡ i). absurd (never (subst (IsFreeNumber (frame new) (view new).generations) s is)))
        (λ (ne : j ≢ i). holds.each j (back j ne is))
        (cases_eq j i);
  }

  -- a node that stays is used
  pub stays-used : ends ≡ false → IsFreeNumber (frame new) (view new).generations i → ⊥
  stays-used e is = let m = stays e in clash (node-used new i m.0 strong' (here ∙ m.1)) is.unused

-- ---- after a call by which a node loses a name

module _ (image last : Image) (now i : ℕ) (n : Node) (strong : IsStrong (frame image)) (strong_last : IsStrong (frame last)) (moved : IsFreed (n.nlink == 1) i (frame image) (frame last))
    (keeps : KeepsNodes (view image) (view last) i (lost_of n now)) (at_node : get (view image).nodes i ≡ Some n) (low : 3 ≤ i)
    (freed : List ℕ) (are : AreFreed (n.nlink == 1) (frame image) i freed) (blocks inodes : List Bool) (sets : AreSetsOf image blocks inodes) where
  inside : i ≤ inodes_before (frame image).isize
  unfolding frame
  inside = let within = (view-node image i n at_node).within in omega arith

  ended : (n.nlink == 1) ≡ true → lost_of n now ≡ None
  ended e = ap (λ t. if t then None else Some (record n { nlink = n.nlink - 1; ctime = now })) e

  stays : (n.nlink == 1) ≡ false → (m : Node) × (lost_of n now ≡ Some m)
  stays e = (record n { nlink = n.nlink - 1; ctime = now }, ap (λ t. if t then None else Some (record n { nlink = n.nlink - 1; ctime = now })) e)

  numbers : (ends fresh : Bool) → (n.nlink == 1) ≡ ends → nat_lt (unwrap_or (get (view image).generations i) 0) 4294967295 ≡ fresh
      → HoldsNumbers (frame last) (view last).generations (number_given (ends && fresh) i inodes)
  numbers true true e f = number-comes image last i (lost_of n now) n (n.nlink == 1) strong strong_last moved.isize keeps at_node low inside ended stays inodes sets.inodes_room
      (halves-of (frame image) (view image).generations blocks inodes sets).1 e (below_of (unwrap_or (get (view image).generations i) 0) 4294967295 f)
  numbers true false e f = number-stays image last i (lost_of n now) n (n.nlink == 1) strong strong_last moved.isize keeps at_node low inside ended stays inodes sets.inodes_room
      (halves-of (frame image) (view image).generations blocks inodes sets).1 (λ is. used_up is f)
    where
      used_up : IsFreeNumber (frame last) (view last).generations i → nat_lt (unwrap_or (get (view image).generations i) 0) 4294967295 ≡ false → ⊥
      used_up is f = elim (get (view image).generations i) as (λ o. get (view image).generations i ≡ o → nat_lt (unwrap_or o 0) 4294967295 ≡ false → ⊥) [
        | None ↦ λ e f. cc
        | Some g ↦ λ e f. let lt : g < 4294967295 = is.fresh g (ap (λ m. get m i) keeps.generations ∙ e) in above_of g 4294967295 f lt
      ] refl f
  numbers false fresh e f = number-stays image last i (lost_of n now) n (n.nlink == 1) strong strong_last moved.isize keeps at_node low inside ended stays inodes sets.inodes_room
      (halves-of (frame image) (view image).generations blocks inodes sets).1
      (stays-used image last i (lost_of n now) n (n.nlink == 1) strong strong_last moved.isize keeps at_node low inside ended stays inodes sets.inodes_room
      (halves-of (frame image) (view image).generations blocks inodes sets).1 e)

  long : length (number_given (frees_number (view image) i n) i inodes) ≡ length inodes
  long = elim (frees_number (view image) i n) as (λ b. length (number_given b i inodes) ≡ length inodes) [ true ↦ length-set inodes i true | false ↦ refl ]

  pub lost-sets : AreSetsOf last (given freed blocks) (number_given (frees_number (view image) i n) i inodes)
  lost-sets = sets-of (frame last) (view last).generations (given freed blocks) (number_given (frees_number (view image) i n) i inodes)
      (length-given freed blocks ∙ sets.blocks_room ∙ sym moved.fsize)
      (long ∙ sets.inodes_room ∙ ap (λ q. inodes_before q + 1) (sym moved.isize))
      (blocks-after (n.nlink == 1) (frame image) (frame last) i freed blocks strong.weak sets.blocks_room moved are (halves-of (frame image) (view image).generations blocks inodes sets).0)
      (numbers (n.nlink == 1) (nat_lt (unwrap_or (get (view image).generations i) 0) 4294967295) refl refl)

-- ---- after a removal

pub removal-sets : (image : Image) (dir : FileId) (name : List ℕ) (cred : Cred) (now : ℕ) (d : Node) (k i : ℕ) (n : Node) (before after : List ℕ) (b1 : List ℕ) (bs cs : List (List ℕ)) (b : List ℕ)
    → IsStrong (frame image) → IsRemoval (view image) dir name cred d k i n → TakesName image now dir.ino k i n before after b1 bs cs b
    → (freed : List ℕ) → AreFreed (n.nlink == 1) (frame image) i freed → (blocks inodes : List Bool) → AreSetsOf image blocks inodes
    → AreSetsOf (put_all (removing_puts image dir.ino k i before after b1 bs cs b) image) (given freed blocks) (number_given (frees_number (view image) i n) i inodes)
removal-sets image dir name cred now d k i n before after b1 bs cs b strong c t freed are blocks inodes sets =
    let last : Image = put_all (removing_puts image dir.ino k i before after b1 bs cs b) image in
    let plan = removal-plan image dir name cred now d k i n strong c before after b1 bs cs b t in
    lost-sets image last now i n strong plan.strong (removal-freed image dir name cred now d k i n strong c before after b1 bs cs b t)
    (keeps-changed (view image) (view last) i dir.ino (lost_of n now) (record d { slots = set d.slots k None; mtime = now; ctime = now }) d (plan.after ∙ removal-changed image dir name cred now d k i n strong c) (removal-apart image dir name cred now d k i n strong c) (removal-at image dir name cred now d k i n strong c))
    c.node (removal-low image dir name cred now d k i n strong c) freed are blocks inodes sets
