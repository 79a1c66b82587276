use Rattle.std.proofs.Common.{◌≡◌, ap, sym, subst, ◌∙◌, arith, rules}
use Rattle.stable.specs.Puts.{Reserved}
use Rattle.stable.specs.Store.{Image}
use Rattle.plan_name.specs.Creating.{CanBePut}
use Rattle.rename_puts.specs.Renamed.{asked_of, IsPlannedStaying}
use Rattle.plan_rename.proofs.Planned.{can-more, named-done, staying-planned}
use Rattle.plan_rename.proofs.putting.put_new_name.Goals as goal

pub returns-clause-planned : goal.returns-clause-planned
returns-clause-planned g c = λ tells strong call x left are.
    let image : Image = g.S.Stable.image c.args.store.now in
    let said = c.done.ensures in
    staying-planned image call c.args.now strong left c.done.result are
    (subst (IsPlannedStaying image (asked_of call) c.args.now) (sym (ap (λ (r : Reserved). r.puts) said.plan)) (c.in_ok-add_new_name.ensures.planned tells strong call x))
    (named-done image call c.args.now strong c.args.place.now c.args.slot.now x) said.reply said.blocks said.inode

pub returns-clause-shape : goal.returns-clause-shape
returns-clause-shape g c = record {
  fits =
      subst (CanBePut (g.S.Stable.sector_count c.args.store.now) 5) (sym (ap (λ (r : Reserved). r.puts) c.done.ensures.plan))
      (can-more (g.S.Stable.sector_count c.args.store.now) 2 5 c.add_new_name.new.plan.puts (omega arith) c.in_ok-add_new_name.ensures.built.fits);
  form = search rules;
  room = let room = ap (λ (r : Reserved). r.room) c.done.ensures.plan ∙ c.in_ok-add_new_name.ensures.built.room ∙ ap (λ (r : Reserved). r.room) c.in_ok-plan.ensures in omega arith;
  cause = search rules;
  looked = search rules;
}
