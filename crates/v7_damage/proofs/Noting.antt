-- Directory by directory through the second reading.
use Rattle.std.proofs.Common.{◌≡◌, ℕ, ◌+◌, ◌/◌, ◌<◌, ◌≤◌, Bool, true, false, List, length, sym, ap, subst, ◌∙◌, arith, ⊎_elim, Some, None}
use Rattle.std.specs.Prelude.{is_some, replicate}
use Rattle.std.proofs.lemmas.Bool.{cases_lt}
use Rattle.std.proofs.lemmas.List.{length-replicate}
use Rattle.stable.specs.Store.{Image}
use Rattle.v7_map.specs.Frame.{Frame, Body, frame}
use Rattle.v7_map.specs.Tree.{Tree, tree, is_walked}
use Rattle.v7_map.proofs.Walks.{walked_reached}
use Rattle.v7_map.proofs.Used.{walked_is_dir}
use Rattle.v7_map.specs.Damage.{Entry}
use Rattle.v7_damage.specs.declared.names.Kept.{Kept}
use Rattle.v7_damage.specs.declared.names.WrongSlot.{WrongSlot}
use Rattle.v7_damage.specs.declared.bodies.Bodies.{Bodies}
use Rattle.v7_damage.specs.declared.walk.Walks.{Walks}
use Rattle.v7_damage.specs.declared.noted.Noted.{Noted}
use Rattle.v7_damage.specs.Marks.{mark_at}
use Rattle.v7_damage.specs.Names.{AreTypes, AreDotted, HasKept, HasTested, HasNoted, HasRoom, IsWrong, SlotsPass, tests_of_slots}
use Rattle.v7_damage.specs.Noted.{IsNothing}
use Rattle.v7_damage.specs.Walk.{AreWalked, CanWalk}
use Rattle.v7_damage.specs.Tests.{first_failing}
use Rattle.v7_damage.proofs.DirectoryTests.{kept_other}
use Rattle.v7_damage.proofs.HeldSteps.{held_none}
use Rattle.v7_damage.proofs.Passed.{kept_start}
use Rattle.v7_damage.proofs.WalkSteps.{dir-numbers, no-marks}

module _ (f : Frame) (d : ℕ) where
  -- a directory that isn't walked, or whose slots pass
  pass_other : is_walked (tree f) d ≡ false → SlotsPass f d → SlotsPass f (d + 1)
  pass_other other was = record {
    each = λ i some lt walks. ⊎_elim
        (λ (before : i < d). was.each i some before walks)
        (λ (ge : d ≤ i). let same : i ≡ d = omega arith in let no : is_walked (tree f) i ≡ false = subst (λ j. is_walked (tree f) j ≡ false) (sym same) other in let clash : true ≡ false = sym walks ∙ no in absurd (cc))
        (cases_lt i d);
  }

  pass_more : first_failing f (tests_of_slots (tree f) d 0 (length (f.slots d))) ≡ None → SlotsPass f d → SlotsPass f (d + 1)
  pass_more none was = record {
    each = λ i some lt walks. ⊎_elim
        (λ (before : i < d). was.each i some before walks)
        (λ (ge : d ≤ i). let same : i ≡ d = omega arith in subst (λ j. first_failing f (tests_of_slots (tree f) j 0 (length (f.slots j))) ≡ None) (sym same) none)
        (cases_lt i d);
  }

  wrong_more : (wrong : WrongSlot) → IsWrong f d wrong → IsWrong f (d + 1) wrong
  wrong_more wrong is = record { some = is.some; below = let lt = is.below in omega arith; walked = is.walked; before = is.before; inside = is.inside; stands = is.stands; fails = is.fails }

  module _ (types : List ℕ) (some : 1 ≤ d) where
    -- a slot was wrong before
    pub tested_on : (kept : Kept) → is_some kept.wrong ≡ true → HasTested f types kept d → HasTested f types kept (d + 1)
    tested_on kept had was = record {
      passed = λ none. let clash : true ≡ false = sym had ∙ ap is_some none in absurd (cc);
      counted = λ none. let clash : true ≡ false = sym had ∙ ap is_some none in absurd (cc);
      failed = λ wrong is. wrong_more wrong (was.failed wrong is);
    }

    -- each slot passes
    pub tested_more : (old new : Kept) → is_some old.wrong ≡ false → new.wrong ≡ old.wrong → HasTested f types old d → first_failing f (tests_of_slots (tree f) d 0 (length (f.slots d))) ≡ None
        → HasKept f types new.counts.items new.named (d + 1) 0 → HasTested f types new (d + 1)
    tested_more old new none same was passes kept = record {
      passed = λ e. pass_more passes (was.passed (sym same ∙ e));
      counted = λ e. kept;
      failed = λ wrong is. let clash : false ≡ true = sym none ∙ ap is_some (sym same ∙ is) in absurd (cc);
    }

    -- a slot is wrong
    pub tested_wrong : (old new : Kept) (k s : ℕ) → old.wrong ≡ None → new.wrong ≡ Some (record { ino = d; index = k; sector = s }) → s ≡ f.address d (Body (k / 32)) → is_walked (tree f) d ≡ true → HasTested f types old d → k < length (f.slots d)
        → first_failing f (tests_of_slots (tree f) d 0 (length (f.slots d))) ≡ Some (Entry d k) → HasTested f types new (d + 1)
    tested_wrong old new k s none is stands walks was inside fails =
        let here : IsWrong f (d + 1) (record { ino = d; index = k; sector = s }) = record { some = some; below = omega arith; walked = walks; before = was.passed none; inside = inside; stands = stands; fails = fails } in
        record {
          passed = λ e. let clash : Some (record { ino = d; index = k; sector = s }) ≡ None = sym is ∙ e in absurd (cc);
          counted = λ e. let clash : Some (record { ino = d; index = k; sector = s }) ≡ None = sym is ∙ e in absurd (cc);
          failed = λ wrong e. let some' : Some (record { ino = d; index = k; sector = s }) ≡ Some wrong = sym is ∙ e in let same : record { ino = d; index = k; sector = s } ≡ wrong = cc in subst (IsWrong f (d + 1)) same here;
        }

    -- it isn't walked
    pub tested_other : (kept : Kept) → is_walked (tree f) d ≡ false → HasTested f types kept d → HasTested f types kept (d + 1)
    tested_other kept other was = record {
      passed = λ e. pass_other other (was.passed e);
      counted = λ e. kept_other f types kept.counts.items kept.named d some other (was.counted e);
      failed = λ wrong is. wrong_more wrong (was.failed wrong is);
    }

-- ---- `.` and `..`

-- no directory is walked below 1
dotted_none : (t : Tree) → ((i : ℕ) → t.is_dir i ≡ true → (1 ≤ i) × (i < 1 + t.inodes)) → (dotted : List Bool) (n : ℕ) → dotted ≡ replicate n false → AreDotted t dotted 1
dotted_none t numbers dotted n none = record {
  each = λ i lt walks. let r = numbers i (walked_is_dir (walked_reached t i walks)) in let low = r.0 in absurd (omega arith);
  none = λ i ge. ap (λ m. mark_at m i) none ∙ no-marks n i;
}

module _ (t : Tree) (d : ℕ) where
  -- it isn't walked
  pub dotted_other : (dotted : List Bool) → is_walked t d ≡ false → AreDotted t dotted d → AreDotted t dotted (d + 1)
  dotted_other dotted other was = record {
    each = λ i lt walks. ⊎_elim
        (λ (before : i < d). was.each i before walks)
        (λ (ge : d ≤ i). let same : i ≡ d = omega arith in let no : is_walked t i ≡ false = subst (λ j. is_walked t j ≡ false) (sym same) other in let clash : true ≡ false = sym walks ∙ no in absurd (cc))
        (cases_lt i d);
    none = λ i ge. was.none i (omega arith);
  }

-- ---- before the first

pub noted_first : (image : Image) (types : List ℕ) (bodies : Bodies) (walks : Walks) (noted : Noted) (n : ℕ) → AreTypes (frame image) types → CanWalk image types bodies
    → AreWalked (tree (frame image)) walks.found walks.ups.items → IsNothing n noted → HasNoted image types bodies walks noted.parents noted.kept 1
noted_first image types bodies walks noted n types_are can are nothing = record {
  can = can.read;
  walks_are = are;
  held = held_none image walks.found walks.ups.items are noted.parents.held n nothing.held;
  dotted = dotted_none (tree (frame image)) (dir-numbers image) noted.parents.dotted n nothing.dotted;
  tested = record {
    passed = λ e. record { each = λ i some lt walks. absurd (omega arith) };
    counted = λ e. kept_start (frame image) types noted.kept.counts.items noted.kept.named n n types_are nothing.counts nothing.named;
    failed = λ wrong is. let clash : None ≡ Some wrong = sym nothing.wrong ∙ is in absurd (cc);
  };
}

pub room_first : (noted : Noted) (size n : ℕ) → size ≡ n → IsNothing size noted → HasRoom n noted.parents noted.kept
room_first noted size n is nothing = record {
  held = ap length nothing.held ∙ length-replicate size false ∙ is;
  dotted = ap length nothing.dotted ∙ length-replicate size false ∙ is;
  counts = ap length nothing.counts ∙ length-replicate {A = ℕ} size 0 ∙ is;
  named = ap length nothing.named ∙ length-replicate size false ∙ is;
}
