use Rattle.run_lines.proofs.Sayings.{said_one}
use Rattle.run_lines.proofs.telling.offer.Goals as goal

pub returns-clause-said : goal.returns-clause-said
returns-clause-said g c = said_one g.O.Say c.args.line.now c.say-said.result c.say-said.ensures.said c.say-said.ensures.unsaid c.say-said.ensures.cause
