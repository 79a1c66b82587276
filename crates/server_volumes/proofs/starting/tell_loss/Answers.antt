use Rattle.std.proofs.Common.{[], ◌∷◌, List, ℕ, Bool, sym, ap, ◌∙◌}
use Rattle.server_volumes.specs.Lines.{loss_line, loss_lines}
use Rattle.run_lines.proofs.Sayings.{told_none, told_as}
use Rattle.server_volumes.proofs.starting.tell_loss.Goals as goal

pub returns-then-lost : goal.returns-then-lost
returns-then-lost g c = told_as g.H.Host g.H.Say (ap (λ (line : List ℕ). line ∷ []) (c.as_str.ensures.value ∙ c.loss_line.ensures) ∙ ap (loss_lines c.args.number) (sym c.if-lost.true)) c.tell.ensures

pub returns-else-lost : goal.returns-else-lost
returns-else-lost g c = told_as g.H.Host g.H.Say (ap (loss_lines c.args.number) (sym c.if-lost.false)) (told_none g.H.Host g.H.Say)
