use Rattle.std.proofs.Common.{refl, ap, subst, ◌∙◌, arith, rules}
use Rattle.files_model.specs.declared.reply.Reply.TheVariants as reply
use Rattle.stable.specs.Puts.{Reserved}
use Rattle.stable.specs.Store.{Image}
use Rattle.plan_name.specs.Freeing.{Frees}
use Rattle.plan_name.proofs.RemovingPlanned.{removal-planned}
use Rattle.plan_name.proofs.removing.put_removal.Goals as goal

pub returns-clause-planned : goal.returns-clause-planned
returns-clause-planned g c = λ tells strong dir name cred taken left are.
    let S = g.S.Stable in
    let image : Image = S.image c.args.store.now in
    removal-planned image dir name cred c.args.now c.args.taking.now c.args.inode.now left
    record { plan = c.add_removal.new.plan; reply = reply.Done; freed = record { blocks = c.in_ok-blocks.blocks; inode = c.freed_number.result } } strong are taken
    (c.in_ok-add_removal.ensures.planned tells strong dir name cred taken.directory taken.node taken.takes)
    (subst (λ (x : Image). Frees x c.args.inode.now c.args.taking.now.last c.in_ok-blocks.blocks.items) c.in_ok-add_removal.ensures.built.looked.image (c.in_ok-blocks.ensures.freed tells))
    refl c.freed_number.ensures

pub returns-clause-shape : goal.returns-clause-shape
returns-clause-shape g c = record {
  fits = search rules;
  form = search rules;
  room = let room = c.in_ok-add_removal.ensures.built.room ∙ ap (λ (r : Reserved). r.room) c.in_ok-plan.ensures in omega arith;
  cause = search rules;
  looked = search rules;
}
