use Rattle.std.proofs.Common.{[], sym}
use Rattle.std.proofs.lemmas.List.{append-nil}
use Rattle.plan_file.specs.Shorter.{gone, left}
use Rattle.plan_file.proofs.Adding.{fits-none}
use Rattle.plan_file.proofs.shorter.add_left.Goals as goal

pub returns-then-new-eq0-clause-added : goal.returns-then-new-eq0-clause-added
returns-then-new-eq0-clause-added c = ([], sym (append-nil c.args.plan.now.puts), gone c.if-new-eq0.true)

pub returns-then-new-eq0-clause-fits : goal.returns-then-new-eq0-clause-fits
returns-then-new-eq0-clause-fits c = λ sectors within. fits-none sectors 1 c.args.plan.now

pub returns-clause-added : goal.returns-clause-added
returns-clause-added c = let a = c.add_map.ensures.added in (a.0, a.1, left a.0 c.if-new-eq0.false a.2)

pub returns-clause-fits : goal.returns-clause-fits
returns-clause-fits c = λ sectors within. c.add_map.ensures.fits sectors (λ k ge lt differs. within c.if-new-eq0.false)
