use Rattle.std.proofs.Common.{◌≡◌, ◌<◌, ◌≤◌, ◌-◌, ℕ, true, false, length, get_or}
use Rattle.stable.specs.Looked.{Looked}
use Rattle.v7_map.specs.Frame.{frame}
use Rattle.v7_map.specs.Tree.{tree, is_walked, has_slot_of}
use Rattle.v7_map.specs.Weak.{parent}
use Rattle.v7_damage.specs.Marks.{mark_at}
use Rattle.v7_damage.specs.Names.{AreTypes}
use Rattle.v7_damage.specs.Tallied.{HasTally, HasTallyRoom}
use Rattle.v7_damage.specs.Walk.{AreListed, CanWalk}
use Rattle.v7_damage.proofs.walk.walk.Given as goal

abbrev pub invariant-walking : goal.invariant-walking
invariant-walking g l =
    let S = g.S.Stable in
    record {
      listed : AreListed l.found l.list.items;
      long : length l.found ≡ length l.types;
      below : l.next ≤ length l.list.items;
      first : S.tells → CanWalk (S.image l.fn.store) l.types l.bodies → (tree (frame (S.image l.fn.store))).is_dir 2 ≡ true → mark_at l.found 2 ≡ true;
      reached : S.tells → CanWalk (S.image l.fn.store) l.types l.bodies → (i : ℕ) → mark_at l.found i ≡ true → is_walked (tree (frame (S.image l.fn.store))) i ≡ true;
      closed : S.tells → CanWalk (S.image l.fn.store) l.types l.bodies → (k i : ℕ) → k < l.next → has_slot_of (tree (frame (S.image l.fn.store))) (get_or l.list.items k 0) i ≡ true
          → (tree (frame (S.image l.fn.store))).is_dir i ≡ true → mark_at l.found i ≡ true;
      ups : S.tells → CanWalk (S.image l.fn.store) l.types l.bodies → (k : ℕ) → k < l.next → get_or l.ups.items (get_or l.list.items k 0) 0 ≡ parent (tree (frame (S.image l.fn.store))) (get_or l.list.items k 0);
      none : mark_at l.found 0 ≡ false;
      tally : S.tells → AreTypes (frame (S.image l.fn.store)) l.types → CanWalk (S.image l.fn.store) l.types l.bodies → HasTally (frame (S.image l.fn.store)) l.types l.fn.tally → HasTally (frame (S.image l.fn.store)) l.types l.tally;
      room : HasTallyRoom (length l.types) l.tally;
      ups_long : length l.ups.items ≡ length l.fn.ups.items;
      looked : Looked S l.fn.store l.store;
    }

abbrev pub decreases-walking : goal.decreases-walking
decreases-walking g l = length l.found - l.next
