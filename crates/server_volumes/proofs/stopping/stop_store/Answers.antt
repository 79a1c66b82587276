use Rattle.std.proofs.Common.{[]}
use Rattle.nfs_worker.proofs.Accounts.{grew_after, grew_before}
use Rattle.server_volumes.proofs.stopping.stop_store.Goals as goal

pub returns : goal.returns
returns g c =
    let s = g.S.Stable in
    let law = g.met.S.Stable.clocked in
    let down = c.go_down.ensures in
    record {
      grows = down.grows;
      since = λ old mid holds first then. grew_after s law holds (grew_before s law holds first then) down.grows;
      unused = λ old first. grew_after s law [] first down.grows;
      stops = down.stops;
      polls = down.polls;
    }
