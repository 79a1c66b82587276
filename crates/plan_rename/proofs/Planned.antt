-- A RENAME is planned, or refused.
use Rattle.std.proofs.Common.{◌≡◌, ℕ, ◌≤◌, Bool, true, false, ◌==◌, ◌&&◌, if◌then◌else◌, List, [], Option, Some, None, refl, sym, ap, subst, ◌∙◌, arith, ltb, unwrap_or}
use Rattle.std.proofs.lemmas.Bool.{ne_eqb}
use Rattle.std.specs.FinMap.{get}
use Rattle.files_model.specs.declared.attributes.FileId.{FileId}
use Rattle.files_model.specs.declared.reply.Reply.TheVariants as reply
use Rattle.files_model.specs.declared.reply.Stat.TheVariants as stat
use Rattle.files_model.specs.Files.{live}
use Rattle.files_model.specs.Names.{number_at}
use Rattle.files_model.specs.Step.{step}
use Rattle.name_plans.specs.Removed.{AreFreed, frees_number, number_given}
use Rattle.plan_name.specs.Creating.{CanBePut}
use Rattle.plan_name.specs.Freeing.{Frees}
use Rattle.plan_name.specs.Planned.{IsPlannedCall, number_back}
use Rattle.plan_name.specs.declared.planned.Planned.{Planned}
use Rattle.plan_name.proofs.BlocksOf.{freed-of}
use Rattle.plan_name.proofs.PlannedCall.{sets-by}
use Rattle.rename_puts.specs.Renamed.{Renaming, asked_of, GivesName, MovesName, ReplacesName, IsPlannedStaying, IsPlannedReplacing}
use Rattle.rename_puts.specs.declared.replacing.Lost.{Lost}
use Rattle.rename_puts.specs.declared.slots.Moved.{Moved}
use Rattle.rename_puts.specs.declared.slots.SlotPlace.{SlotPlace}
use Rattle.rename_puts.proofs.Numbers.{node-number, node-positive}
use Rattle.stable.specs.Puts.{put_all}
use Rattle.stable.specs.Store.{Image}
use Rattle.v7_layout.specs.declared.inode.Inode.{Inode}
use Rattle.v7_layout.specs.declared.slot.Slot.{Slot}
use Rattle.v7_map.specs.Frame.{frame}
use Rattle.v7_map.specs.Image.{inode_at}
use Rattle.v7_map.specs.Stored.{is_standing}
use Rattle.v7_map.specs.View.{view, node_at}
use Rattle.v7_map.specs.Weak.{IsStrong}
use Rattle.v7_map.proofs.Standing.{live-standing, generation-is}
use Rattle.v7_sets.specs.Given.{given}
use Rattle.v7_sets.specs.Sets.{AreSetsOf}
use Rattle.v7_sets.specs.declared.sets.Sets.{Sets}
use Rattle.plan_rename.specs.Renames.{Answers}
use Rattle.plan_rename.proofs.Row.{row-stale_from, row-stale_to, row-done}

pub can-more : (sectors few most : ℕ) (puts : List (ℕ × List ℕ)) → few ≤ most → CanBePut sectors few puts → CanBePut sectors most puts
can-more sectors few most puts le x = let short = x.few in record { few = omega arith; stand = x.stand; past = x.past }

-- ---- handles that find nothing

not_live : (image : Image) (file : FileId) → IsStrong (frame image) → is_standing image file ≡ false → live (view image) file ≡ None
not_live image file strong e = live-standing image strong file ∙ ap (λ b. if b then Some (node_at image file.ino) else None) e

pub stale-from : (image : Image) (call : Renaming) (now : ℕ) → IsStrong (frame image) → is_standing image call.from ≡ false → Answers image call now (reply.Refused stat.Stale)
stale-from image call now strong e = row-stale_from (view image) call.from call.to call.name call.new_name call.cred now (not_live image call.from strong e)

pub stale-to : (image : Image) (call : Renaming) (now : ℕ) → IsStrong (frame image) → is_standing image call.from ≡ true → is_standing image call.to ≡ false → Answers image call now (reply.Refused stat.Stale)
stale-to image call now strong one e = row-stale_to (view image) call.from call.to call.name call.new_name call.cred now (node_at image call.from.ino)
    (live-standing image strong call.from ∙ ap (λ b. if b then Some (node_at image call.from.ino) else None) one) (not_live image call.to strong e)

-- ---- calls that are done

module _ (image : Image) (call : Renaming) (now : ℕ) (strong : IsStrong (frame image)) where
  pub named-done : (place : SlotPlace) (slot : Slot) → GivesName image call now place slot → (step (view image) (asked_of call).0 (asked_of call).1 now).0 ≡ reply.Done
  named-done place slot x = let c = x.naming in let low = node-positive image x.number x.node strong c.node in
      ap (λ r. r.0) (row-done (view image) call.from call.to call.name call.new_name call.cred now x.in_directory x.in_directory c.live_from c.live_to c.tests place.index x.number x.node c.slot c.number c.node
      None c.absent (ne_eqb 0 x.number (λ e. absurd (omega arith))) c.allowed)

  pub moved-done : (moved : Moved) → MovesName image call now moved → (step (view image) (asked_of call).0 (asked_of call).1 now).0 ≡ reply.Done
  moved-done moved x = let c = x.moving in let low = node-positive image x.number x.node strong c.node in
      ap (λ r. r.0) (row-done (view image) call.from call.to call.name call.new_name call.cred now x.old_node x.new_node c.live_from c.live_to c.tests moved.old.index x.number x.node c.slot c.number c.node
      None c.absent (ne_eqb 0 x.number (λ e. absurd (omega arith))) c.allowed)

  pub replaced-done : (moved : Moved) (lost : Lost) → ReplacesName image call now moved lost → (step (view image) (asked_of call).0 (asked_of call).1 now).0 ≡ reply.Done
  replaced-done moved lost x = let c = x.replacement in
      ap (λ r. r.0) (row-done (view image) call.from call.to call.name call.new_name call.cred now x.old_node x.new_node c.live_from c.live_to c.tests moved.old.index x.number x.node c.slot c.number c.node
      (Some moved.new.index) c.standing (ne_eqb (number_at x.new_node.slots moved.new.index) x.number (λ e. c.differ (sym c.target ∙ e))) c.allowed)

  -- nothing is taken or freed
  pub staying-planned : (left : Sets) (made : Planned) → AreSetsOf image left.blocks left.inodes → IsPlannedStaying image (asked_of call) now made.plan.puts → (step (view image) (asked_of call).0 (asked_of call).1 now).0 ≡ reply.Done
      → made.reply ≡ reply.Done → made.freed.blocks.items ≡ [] → made.freed.inode ≡ None → IsPlannedCall image (asked_of call) now left made
  staying-planned left made are x done answer blocks number = record {
    plan = x.plan;
    answered = answer ∙ sym done;
    sets = sets-by image (asked_of call) now left made refl blocks number (x.sets left.blocks left.inodes are);
  }

  number-same : (b : Bool) (i : ℕ) (inodes : List Bool) → number_back (if b then Some i else None) inodes ≡ number_given b i inodes
  number-same true i inodes = refl
  number-same false i inodes = refl

  -- what a node had that ended is freed
  pub replacing-planned : (moved : Moved) (lost : Lost) (x : ReplacesName image call now moved lost) (inode : Inode) (left : Sets) (made : Planned) → inode ≡ inode_at image lost.node → AreSetsOf image left.blocks left.inodes
      → IsPlannedReplacing image (asked_of call) now lost.node x.replaced made.plan.puts → Frees image inode lost.last made.freed.blocks.items → made.reply ≡ reply.Done
      → made.freed.inode ≡ (if lost.last && ltb inode.generation 4294967295 then Some lost.node else None) → IsPlannedCall image (asked_of call) now left made
  replacing-planned moved lost x inode left made inode_is are planned frees answer is = record {
    plan = planned.plan;
    answered = answer ∙ sym (replaced-done moved lost x);
    sets = subst (AreSetsOf (put_all made.plan.puts image) (given made.freed.blocks.items left.blocks)) (sym (same left.inodes)) (planned.sets made.freed.blocks.items freed left.blocks left.inodes are);
  }
    where
      freed : AreFreed (x.replaced.nlink == 1) (frame image) lost.node made.freed.blocks.items
      freed = freed-of image lost.node (x.replaced.nlink == 1) made.freed.blocks.items strong (subst (λ b. Frees image (inode_at image lost.node) b made.freed.blocks.items) x.last (subst (λ m. Frees image m lost.last made.freed.blocks.items) inode_is frees))

      generation : inode.generation ≡ unwrap_or (get (view image).generations lost.node) 0
      generation = ap (λ (m : Inode). m.generation) inode_is ∙ sym (ap (λ o. unwrap_or o 0) (generation-is image strong lost.node (node-number image lost.node x.replaced strong x.replacement.replaced)))

      gives : (lost.last && ltb inode.generation 4294967295) ≡ frees_number (view image) lost.node x.replaced
      gives = (λ z. x.last z && ltb (generation z) 4294967295)

      same : (inodes : List Bool) → number_back made.freed.inode inodes ≡ number_given (frees_number (view image) lost.node x.replaced) lost.node inodes
      same inodes = ap (λ o. number_back o inodes) is ∙ number-same (lost.last && ltb inode.generation 4294967295) lost.node inodes ∙ ap (λ b. number_given b lost.node inodes) gives
