use Rattle.std.proofs.Common.{◌≡◌, false, subst, ap}
use Rattle.stable.specs.Puts.{Reserved}
use Rattle.stable.specs.Store.{Image}
use Rattle.v7_read.specs.Found.{Finds}
use Rattle.v7_map.specs.Stored.{is_standing}
use Rattle.plan_file.proofs.SetDone.{stale-set, same-planned}
use Rattle.plan_file.proofs.set_plan.plan_setattr.Goals as goal

pub returns-in-None-clause-planned : goal.returns-in-None-clause-planned
returns-in-None-clause-planned g c = λ tells strong.
    let image : Image = g.S.Stable.image c.args.store.now in
    let stale : is_standing image c.args.file ≡ false = subst (Finds image c.args.file) c.in-None.is (c.in_ok-found.ensures.found tells strong) in
    same-planned image c.args.file c.args.wanted.now c.args.cred.now c.args.now (ap (λ (p : Reserved). p.puts) c.refused.ensures.plan) c.refused.ensures.reply c.refused.ensures.freed (stale-set image strong c.args.file c.args.wanted.now c.args.cred.now c.args.now stale)
