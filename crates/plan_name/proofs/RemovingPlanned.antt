-- A REMOVE is planned, or refused.
use Rattle.std.proofs.Common.{◌≡◌, ℕ, Bool, true, false, ◌==◌, ◌&&◌, if◌then◌else◌, List, [], Option, Some, None, refl, sym, ap, subst, ◌∙◌, ltb, unwrap_or}
use Rattle.std.specs.FinMap.{get}
use Rattle.files_model.specs.declared.attributes.FileId.{FileId}
use Rattle.files_model.specs.declared.call.Call.TheVariants.{Remove}
use Rattle.files_model.specs.declared.credential.Cred.{Cred}
use Rattle.files_model.specs.declared.reply.Reply.TheVariants as reply
use Rattle.files_model.specs.declared.reply.Stat.TheVariants as stat
use Rattle.files_model.specs.Answers.{at_live, unless, first_of, with_node}
use Rattle.files_model.specs.NameRows.{remove_row, remove_tests, loss_tests, less_link}
use Rattle.files_model.specs.Names.{at_name, without_entry}
use Rattle.stable.specs.Puts.{put_all}
use Rattle.stable.specs.Store.{Image}
use Rattle.v7_layout.specs.declared.inode.Inode.{Inode}
use Rattle.v7_map.specs.Frame.{frame}
use Rattle.v7_map.specs.Image.{inode_at}
use Rattle.v7_map.specs.Stored.{is_standing}
use Rattle.v7_map.specs.View.{view, node_at}
use Rattle.v7_map.specs.Weak.{IsStrong}
use Rattle.v7_map.proofs.Standing.{live-standing, generation-is}
use Rattle.v7_sets.specs.Given.{given}
use Rattle.v7_sets.specs.Sets.{AreSetsOf}
use Rattle.v7_sets.specs.declared.sets.Sets.{Sets}
use Rattle.name_plans.specs.Removed.{AreFreed, frees_number, number_given}
use Rattle.name_plans.proofs.RemovingAccepted.{removal-step}
use Rattle.plan_name.specs.Freeing.{Frees}
use Rattle.plan_name.specs.Planned.{IsPlannedCall, number_back}
use Rattle.plan_name.specs.Removals.{Refuses, IsTaken, IsPlannedRemoval}
use Rattle.plan_name.specs.declared.planned.Planned.{Planned}
use Rattle.plan_name.specs.declared.removing_puts.Taking.{Taking}
use Rattle.plan_name.proofs.BlocksOf.{freed-of}
use Rattle.plan_name.proofs.RemovingBuilt.{removed-number}

pub removal-stale : (image : Image) (dir : FileId) (name : List ℕ) (cred : Cred) → IsStrong (frame image) → is_standing image dir ≡ false → Refuses image dir name cred stat.Stale
unfolding remove_row
removal-stale image dir name cred strong stale now =
    ap (λ o. at_live (view image) o (λ d. unless (view image) (first_of (remove_tests (view image) d name))
    (at_name (view image) d name (λ k i n. unless (view image) (first_of (loss_tests dir.ino d n cred)) (reply.Done, with_node (less_link (view image) i n now) dir.ino (without_entry d k now))))))
    (live-standing image strong dir ∙ ap (λ b. if b then Some (node_at image dir.ino) else None) stale)

number-same : (b : Bool) (i : ℕ) (inodes : List Bool) → number_back (if b then Some i else None) inodes ≡ number_given b i inodes
number-same true i inodes = refl
number-same false i inodes = refl

pub removal-planned : (image : Image) (dir : FileId) (name : List ℕ) (cred : Cred) (now : ℕ) (taking : Taking) (inode : Inode) (left : Sets) (made : Planned) → IsStrong (frame image) → AreSetsOf image left.blocks left.inodes
    → (t : IsTaken image dir name cred taking inode) → IsPlannedRemoval image dir name cred now t.node taking made.plan.puts → Frees image inode taking.last made.freed.blocks.items → made.reply ≡ reply.Done
    → made.freed.inode ≡ (if taking.last && ltb inode.generation 4294967295 then Some taking.node else None) → IsPlannedCall image (Remove dir name, cred) now left made
removal-planned image dir name cred now taking inode left made strong are t planned frees answer is = record {
  plan = planned.plan;
  answered = answer ∙ sym (ap (λ r. r.0) (removal-step (view image) dir name cred now t.directory taking.index taking.node t.node t.takes.removal));
  sets = subst (AreSetsOf (put_all made.plan.puts image) (given made.freed.blocks.items left.blocks)) (sym (same left.inodes)) (planned.sets made.freed.blocks.items freed left.blocks left.inodes are);
}
  where
    freed : AreFreed (t.node.nlink == 1) (frame image) taking.node made.freed.blocks.items
    freed = freed-of image taking.node (t.node.nlink == 1) made.freed.blocks.items strong (subst (λ b. Frees image (inode_at image taking.node) b made.freed.blocks.items) t.takes.last (subst (λ m. Frees image m taking.last made.freed.blocks.items) t.inode_is frees))

    generation : inode.generation ≡ unwrap_or (get (view image).generations taking.node) 0
    generation = ap (λ (m : Inode). m.generation) t.inode_is ∙ sym (ap (λ o. unwrap_or o 0) (generation-is image strong taking.node (removed-number image dir name cred now t.directory t.node taking strong t.takes)))

    gives : (taking.last && ltb inode.generation 4294967295) ≡ frees_number (view image) taking.node t.node
    gives = (λ z. t.takes.last z && ltb (generation z) 4294967295)

    same : (inodes : List Bool) → number_back made.freed.inode inodes ≡ number_given (frees_number (view image) taking.node t.node) taking.node inodes
    same inodes = ap (λ o. number_back o inodes) is ∙ number-same (taking.last && ltb inode.generation 4294967295) taking.node inodes ∙ ap (λ b. number_given b taking.node inodes) gives
