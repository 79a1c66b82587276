-- An RMDIR is planned, and what it frees goes back to the sets.
use Rattle.std.proofs.Common.{◌≡◌, ℕ, Bool, true, false, if◌then◌else◌, List, Some, None, refl, sym, ap, subst, ◌∙◌, ltb, unwrap_or}
use Rattle.std.specs.FinMap.{get}
use Rattle.files_model.specs.declared.attributes.FileId.{FileId}
use Rattle.files_model.specs.declared.call.Call.TheVariants.{Rmdir}
use Rattle.files_model.specs.declared.credential.Cred.{Cred}
use Rattle.files_model.specs.declared.reply.Reply.TheVariants as reply
use Rattle.stable.specs.Puts.{put_all}
use Rattle.stable.specs.Store.{Image}
use Rattle.v7_layout.specs.declared.inode.Inode.{Inode}
use Rattle.v7_map.specs.Frame.{frame}
use Rattle.v7_map.specs.View.{view}
use Rattle.v7_map.specs.Weak.{IsStrong}
use Rattle.v7_map.proofs.Standing.{generation-is}
use Rattle.v7_sets.specs.Given.{given}
use Rattle.v7_sets.specs.Sets.{AreSetsOf}
use Rattle.v7_sets.specs.declared.sets.Sets.{Sets}
use Rattle.name_plans.specs.Removed.{AreFreed, number_given}
use Rattle.name_plans.proofs.RmdirAccepted.{rmdir-step}
use Rattle.name_plans.proofs.RmdirSets.{rmdir-sets}
use Rattle.plan_name.specs.Freeing.{Frees}
use Rattle.plan_name.specs.Planned.{IsPlannedCall, number_back}
use Rattle.plan_name.specs.declared.planned.Planned.{Planned}
use Rattle.plan_name.proofs.BlocksOf.{freed-of}
use Rattle.plan_rmdir.specs.Leaving.{IsLeaving, IsPlannedRmdir}
use Rattle.plan_rmdir.specs.declared.puts.Leaving.{Leaving}
use Rattle.plan_rmdir.proofs.BuiltPuts.{leaving-number}

number-same : (b : Bool) (i : ℕ) (inodes : List Bool) → number_back (if b then Some i else None) inodes ≡ number_given b i inodes
number-same true i inodes = refl
number-same false i inodes = refl

pub rmdir-planned : (image : Image) (dir : FileId) (name : List ℕ) (cred : Cred) (now : ℕ) (leaving : Leaving) (inode : Inode) (left : Sets) (made : Planned) → IsStrong (frame image) → AreSetsOf image left.blocks left.inodes
    → IsLeaving image dir name cred leaving inode → IsPlannedRmdir image dir name cred now leaving made.plan.puts → Frees image inode true made.freed.blocks.items → made.reply ≡ reply.Done
    → made.freed.inode ≡ (if ltb inode.generation 4294967295 then Some leaving.directory else None) → IsPlannedCall image (Rmdir dir name, cred) now left made
rmdir-planned image dir name cred now leaving inode left made strong are t planned frees answer is = record {
  plan = planned.plan;
  answered = answer ∙ sym (ap (λ r. r.0) (rmdir-step (view image) dir name cred now t.parent leaving.index leaving.directory t.node t.leaves.rmdir));
  sets = subst (AreSetsOf (put_all made.plan.puts image) (given made.freed.blocks.items left.blocks)) (sym (same left.inodes))
      (rmdir-sets image dir name cred now t.parent leaving.index leaving.directory t.node made.plan.puts strong t.leaves.rmdir planned.plan planned.freed made.freed.blocks.items freed left.blocks left.inodes are);
}
  where
    freed : AreFreed true (frame image) leaving.directory made.freed.blocks.items
    freed = freed-of image leaving.directory true made.freed.blocks.items strong (subst (λ m. Frees image m true made.freed.blocks.items) t.inode_is frees)

    generation : inode.generation ≡ unwrap_or (get (view image).generations leaving.directory) 0
    generation = ap (λ (m : Inode). m.generation) t.inode_is ∙ sym (ap (λ o. unwrap_or o 0) (generation-is image strong leaving.directory (leaving-number image dir name cred now t.parent t.node leaving strong t.leaves)))

    same : (inodes : List Bool) → number_back made.freed.inode inodes ≡ number_given (ltb (unwrap_or (get (view image).generations leaving.directory) 0) 4294967295) leaving.directory inodes
    same inodes = ap (λ o. number_back o inodes) is ∙ number-same (ltb inode.generation 4294967295) leaving.directory inodes ∙ ap (λ g. number_given (ltb g 4294967295) leaving.directory inodes) generation
