use Rattle.v7_mend.proofs.KeptFiles.{keeps_same}
use Rattle.v7_mend.proofs.Running.{look_fails}
use Rattle.v7_mend.proofs.trim_all.trim_sector.Goals as goal

pub returns-in_err-held-clause-puts : goal.returns-in_err-held-clause-puts
returns-in_err-held-clause-puts g c =
    let S = g.S.Stable in
    look_fails S g.met.S.Stable.clocked g.met.S.Stable.counted 8 c.in_err-held.ensures.looked c.in_err-held.ensures.cause.failed (λ tells. keeps_same (S.image c.args.store.now)) c.from_residual.result c.from_residual.ensures.0
