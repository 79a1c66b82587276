use Rattle.std.proofs.Common.{◌≡◌, ◌++◌, ◌∷◌, [], length, map}
use Rattle.std.specs.List.{range_with_len}
use Rattle.v7_damage.specs.Stored.{body_at}
use Rattle.v7_damage.specs.Summaries.{summary_by}
use Rattle.v7_damage.specs.Tables.{slots_kept}
use Rattle.v7_damage.proofs.bodies.keep_body.Given as goal

abbrev pub invariant-loop-index : goal.invariant-loop-index
invariant-loop-index l = record {
  summaries : l.bodies.summaries.items ≡ l.fn.bodies.summaries.items ++ summary_by l.inode l.places ∷ [];
  slots : l.bodies.slots.items ≡ l.fn.bodies.slots.items ++ slots_kept l.inode ∷ [];
  starts : l.bodies.starts.items ≡ l.fn.bodies.starts.items ++ length l.fn.bodies.blocks.items ∷ [];
  blocks : l.bodies.blocks.items ≡ l.fn.bodies.blocks.items ++ map (body_at l.places) (range_with_len 0 l.index);
}
