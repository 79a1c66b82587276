use Rattle.std.proofs.Common.{◌≡◌, ◌≤◌, drop}
use Rattle.run_lines.specs.Numbers.{digits}
use Rattle.run_lines.proofs.numbers.number.Given as goal

abbrev pub invariant-loop-b : goal.invariant-loop-b
invariant-loop-b l = record { left : digits l.most l.n (drop l.b-index l.text) ≡ digits l.most 0 l.text; small : l.n ≤ l.most }
