use Rattle.std.proofs.Common.{true, refl, ap, subst, ◌∙◌, arith, rules}
use Rattle.files_model.specs.declared.reply.Reply.TheVariants as reply
use Rattle.stable.specs.Puts.{Reserved}
use Rattle.stable.specs.Store.{Image}
use Rattle.plan_name.specs.Freeing.{Frees}
use Rattle.plan_rmdir.proofs.PlannedRmdir.{rmdir-planned}
use Rattle.plan_rmdir.proofs.planning.put_leaving.Goals as goal

pub returns-clause-planned : goal.returns-clause-planned
returns-clause-planned g c = λ tells strong dir name cred leaving left are.
    let S = g.S.Stable in
    let image : Image = S.image c.args.store.now in
    rmdir-planned image dir name cred c.args.now c.args.leaving.now c.args.inode.now left
    record { plan = c.add_leaving.new.plan; reply = reply.Done; freed = record { blocks = c.in_ok-blocks.blocks; inode = c.freed_number.result } } strong are leaving
    (c.in_ok-add_leaving.ensures.planned tells strong dir name cred leaving.parent leaving.node leaving.leaves)
    (subst (λ (x : Image). Frees x c.args.inode.now true c.in_ok-blocks.blocks.items) c.in_ok-add_leaving.ensures.built.looked.image (c.in_ok-blocks.ensures.freed tells))
    refl c.freed_number.ensures

pub returns-clause-shape : goal.returns-clause-shape
returns-clause-shape g c = record {
  fits = search rules;
  form = search rules;
  room = let room = c.in_ok-add_leaving.ensures.built.room ∙ ap (λ (r : Reserved). r.room) c.in_ok-plan.ensures in omega arith;
  cause = search rules;
  looked = search rules;
}
