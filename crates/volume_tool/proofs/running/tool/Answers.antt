use Rattle.std.proofs.Common.{arith, map, string_bytes, refl, sym}
use Rattle.volume_tool.specs.Course.{Usage}
use Rattle.volume_tool.specs.Words.{asked_by}
use Rattle.volume_tool.proofs.Lent.{outcome_told}
use Rattle.volume_tool.proofs.running.tool.Goals as goal

pub returns-in_default-clause-outcome : goal.returns-in_default-clause-outcome
returns-in_default-clause-outcome g c =
    let told = c.tell.ensures in
    outcome_told g.H.Host g.H.Say g.H.R.Rig (asked_by (map string_bytes c.args.words.now)) Usage (sym c.in_default.ensures.asked) refl (λ e. omega (arith, e)) record { same = told.same; answers = (refl, told.said) }
