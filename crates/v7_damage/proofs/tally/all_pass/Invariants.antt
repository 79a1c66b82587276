use Rattle.std.proofs.Common.{◌<◌, ℕ}
use Rattle.v7_damage.specs.Tallied.{IsCovered}
use Rattle.v7_damage.proofs.tally.all_pass.Given as goal

abbrev pub invariant-loop-ino : goal.invariant-loop-ino
invariant-loop-ino l = record {
  covered : (i : ℕ) → i < l.ino → IsCovered l.walks l.tally i;
}
