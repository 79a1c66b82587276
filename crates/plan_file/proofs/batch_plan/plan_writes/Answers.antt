use Rattle.std.proofs.Common.{◌≡◌, false, ap, sym, subst}
use Rattle.stable.specs.Puts.{Reserved}
use Rattle.stable.specs.Store.{Image}
use Rattle.v7_read.specs.Found.{Finds}
use Rattle.v7_map.specs.Stored.{is_standing}
use Rattle.plan_file.specs.Planned.{IsPlanned}
use Rattle.plan_file.proofs.Adding.{stale-answers}
use Rattle.plan_file.proofs.Planning.{stale-done}
use Rattle.plan_file.proofs.batch_plan.plan_writes.Goals as goal

pub returns-in-None-clause-planned : goal.returns-in-None-clause-planned
returns-in-None-clause-planned g c = λ tells strong are.
    let image : Image = g.S.Stable.image c.args.store.now in
    let stale : is_standing image c.args.file ≡ false = subst (Finds image c.args.file) c.in-None.is (c.in_ok-found.ensures.found tells strong) in
    subst (λ ps. IsPlanned image c.args.file c.args.batch.now c.args.now c.args.sets.now ps c.stale_replies.result.items) (sym (ap (λ (p : Reserved). p.puts) c.empty.ensures))
    (stale-done image c.args.file c.args.batch.now c.args.now c.args.sets.now strong are stale c.stale_replies.result.items c.stale_replies.ensures)

pub returns-in-None-clause-fits : goal.returns-in-None-clause-fits
returns-in-None-clause-fits g c =
    stale-answers (g.S.Stable.sector_count c.args.store.now) c.args.batch.now c.empty.result c.stale_replies.result.items c.empty.ensures c.stale_replies.ensures
