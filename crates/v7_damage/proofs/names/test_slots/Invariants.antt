use Rattle.std.proofs.Common.{◌≡◌, ◌-◌, ◌<◌, ◌++◌, ℕ, List, true, None, length, map, get_or, take, drop}
use Rattle.v7_map.specs.Frame.{Frame}
use Rattle.v7_map.specs.Tree.{tree}
use Rattle.v7_damage.specs.Names.{HasKept, tests_of_slots}
use Rattle.v7_damage.specs.Slots.{seen_slot}
use Rattle.v7_damage.specs.Tests.{first_failing}
use Rattle.files_model.specs.Files.{Slot as Seen}
use Rattle.v7_damage.specs.Names.{AreTypes}
use Rattle.v7_damage.specs.Tallied.{AreTallied, is_good}
use Rattle.v7_damage.proofs.names.test_slots.Given as goal

abbrev pub invariant-loop-index : goal.invariant-loop-index
invariant-loop-index l = record {
  rest : (f : Frame) (d : ℕ) → HasKept f l.types l.fn.kept.counts.items l.fn.kept.named d 0 → map seen_slot l.slots ≡ f.slots d
      → first_failing f (tests_of_slots (tree f) d 0 (length l.slots)) ≡ first_failing f (tests_of_slots (tree f) d l.index (length l.slots - l.index));
  kept : (f : Frame) (d : ℕ) → HasKept f l.types l.fn.kept.counts.items l.fn.kept.named d 0 → map seen_slot l.slots ≡ f.slots d → HasKept f l.types l.kept.counts.items l.kept.named d l.index;
  good : (f : Frame) → AreTypes f l.types → (k : ℕ) → k < l.index → is_good f (get_or (map seen_slot l.slots) k None) ≡ true;
  tallied : (all past : List Seen) → AreTallied l.types l.fn.kept.counts.items l.fn.kept.named all past → AreTallied l.types l.kept.counts.items l.kept.named (all ++ take l.index (map seen_slot l.slots)) (past ++ drop 2 (take l.index (map seen_slot l.slots)));
  counts : length l.kept.counts.items ≡ length l.fn.kept.counts.items;
  named : length l.kept.named ≡ length l.fn.kept.named;
  wrong : l.kept.wrong ≡ l.fn.kept.wrong;
}
