use Rattle.std.proofs.Common.{◌≡◌, ◌-◌, ℕ, length}
use Rattle.v7_map.specs.Frame.{Frame}
use Rattle.v7_damage.specs.Marks.{AreSeen}
use Rattle.v7_damage.specs.Tests.{HasInode, first_failing, place_tests, earlier_blocks}
use Rattle.v7_damage.proofs.places.test_places.Given as goal

abbrev pub invariant-loop-place : goal.invariant-loop-place
invariant-loop-place l = record {
  rest : (f : Frame) (i : ℕ) → HasInode f i l.isize l.fsize l.inode l.places → AreSeen l.fn.seen (earlier_blocks f i 0)
      → first_failing f (place_tests i 0 140) ≡ first_failing f (place_tests i l.place (140 - l.place));
  seen : (f : Frame) (i : ℕ) → HasInode f i l.isize l.fsize l.inode l.places → AreSeen l.fn.seen (earlier_blocks f i 0) → AreSeen l.seen (earlier_blocks f i l.place);
  length : length l.seen ≡ length l.fn.seen;
}
