use Rattle.std.proofs.Common.{◌≡◌, false, take}
use Rattle.std.specs.List.{list_any}
use Rattle.plan_file.specs.Accepted.{covers}
use Rattle.plan_file.specs.Accepted.{kept_of}
use Rattle.plan_file.proofs.accepted.is_covered.Given as goal

abbrev pub invariant-loop-at : goal.invariant-loop-at
invariant-loop-at l = record { none : list_any (covers l.index) (kept_of (take l.at l.batch) (take l.at l.replies)) ≡ false }
