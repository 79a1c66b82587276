use Rattle.std.proofs.Common.{refl, ap, subst, ◌∙◌, arith, rules}
use Rattle.files_model.specs.declared.reply.Reply.TheVariants as reply
use Rattle.stable.specs.Puts.{Reserved}
use Rattle.stable.specs.Store.{Image}
use Rattle.plan_name.specs.Freeing.{Frees}
use Rattle.plan_rename.proofs.Planned.{replacing-planned}
use Rattle.plan_rename.proofs.putting.put_replacement.Goals as goal

pub returns-clause-planned : goal.returns-clause-planned
returns-clause-planned g c = λ tells strong call x inode left are.
    let S = g.S.Stable in
    let image : Image = S.image c.args.store.now in
    replacing-planned image call c.args.now strong c.args.moved.now c.args.lost.now x c.args.inode.now left
    record { plan = c.add_replacement.new.plan; reply = reply.Done; freed = record { blocks = c.in_ok-blocks.blocks; inode = c.freed_number.result } } inode are
    (c.in_ok-add_replacement.ensures.planned tells strong call x)
    (subst (λ (m : Image). Frees m c.args.inode.now c.args.lost.now.last c.in_ok-blocks.blocks.items) c.in_ok-add_replacement.ensures.built.looked.image (c.in_ok-blocks.ensures.freed tells))
    refl c.freed_number.ensures

pub returns-clause-shape : goal.returns-clause-shape
returns-clause-shape g c = record {
  fits = search rules;
  form = search rules;
  room = let room = c.in_ok-add_replacement.ensures.built.room ∙ ap (λ (r : Reserved). r.room) c.in_ok-plan.ensures in omega arith;
  cause = search rules;
  looked = search rules;
}
