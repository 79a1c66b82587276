-- A RENAME that makes another directory longer is planned.
use Rattle.std.proofs.Common.{◌≡◌, ℕ, ◌+◌, ◌-◌, ◌/◌, ◌≤◌, Bool, true, false, cond, ◌==◌, List, [], length, Some, None, refl, sym, ap, subst, ◌∙◌, arith, ltb}
use Rattle.std.proofs.lemmas.Bool.{le-ltb, ne_eqb}
use Rattle.files_model.specs.declared.reply.Reply.TheVariants as reply
use Rattle.files_model.specs.Files.{Node}
use Rattle.files_model.specs.Names.{place_for, with_entry}
use Rattle.files_model.specs.Space.{size_limit, node_usage, usage}
use Rattle.files_model.specs.Step.{step}
use Rattle.index_sets.specs.Free.{count_free}
use Rattle.longer_plans.proofs.MoveLonger.{move-room}
use Rattle.name_plans.specs.Taken.{taken}
use Rattle.name_plans.proofs.MoveAccepted.{IsMoveAtEnd, rename-move_at_end}
use Rattle.plan_name.specs.Growth.{added_blocks}
use Rattle.plan_name.specs.LayingOut.{MayGrow, LaysLonger, new_list}
use Rattle.plan_name.specs.Planned.{IsPlannedCall}
use Rattle.plan_name.specs.declared.laying_out.Laid.{Laid}
use Rattle.plan_name.specs.declared.planned.Planned.{Planned}
use Rattle.plan_name.proofs.DirectoryUsage.{entry-added}
use Rattle.plan_name.proofs.PlannedCall.{sets-by}
use Rattle.rename_puts.specs.Renamed.{Renaming, asked_of, LengthensName, IsPlannedLonger}
use Rattle.rename_puts.specs.declared.slots.Moved.{Moved}
use Rattle.rename_puts.proofs.Grown.{grown-enough}
use Rattle.rename_puts.proofs.Numbers.{node-positive}
use Rattle.stable.specs.Puts.{put_all}
use Rattle.stable.specs.Store.{Image}
use Rattle.v7_layout.specs.declared.inode.Inode.{Inode}
use Rattle.v7_map.specs.Frame.{frame}
use Rattle.v7_map.specs.View.{view}
use Rattle.v7_map.specs.Weak.{IsStrong}
use Rattle.v7_sets.specs.Sets.{AreSetsOf}
use Rattle.v7_sets.specs.declared.sets.Sets.{Sets}
use Rattle.v7_space.proofs.Space.{free_blocks-counted}
use Rattle.v7_strokes.proofs.Directories.{StandsDir, stands-dir}
use Rattle.plan_rename.specs.Renames.{MovesToEnd}
use Rattle.plan_rename.specs.declared.judging.Growing.{Growing}
use Rattle.plan_rename.proofs.Row.{row-done}

not_less : (x y : ℕ) → ltb x y ≡ false → y ≤ x
not_less x y e = grind arith

module _ (image : Image) (call : Renaming) (now : ℕ) (growing : Growing) (strong : IsStrong (frame image)) (x : MovesToEnd image call now growing) where
  abbrev dq : Node
  dq = x.new_node

  c : IsMoveAtEnd (view image) call.from call.to call.name call.new_name call.cred now x.number growing.old.index x.node x.old_node x.new_node
  c = rename-move_at_end image call.from call.to call.name call.new_name call.cred now x.number growing.old.index x.node x.old_node x.new_node strong x.moving x.full

  s : StandsDir image call.to.ino dq
  s = stands-dir image call.to.ino x.new_node strong.weak c.at_to c.to_kind

  size_is : growing.inode.size ≡ dq.size
  unfolding frame
  size_is = ap (λ (m : Inode). m.size) x.inode_is ∙ s.size

  room : dq.size + 16 ≤ size_limit
  room = move-room (view image) call.from call.to call.name call.new_name call.cred now x.number growing.old.index x.node x.old_node x.new_node x.moving x.full

  more : node_usage (with_entry dq (Some (x.number, call.new_name)) now) - node_usage dq ≡ added_blocks dq.size
  more = entry-added x.new_node (Some (x.number, call.new_name)) now c.to_kind s.even ∙ ap (λ t. cond t 0 (added_blocks x.new_node.size)) (le-ltb (place_for x.new_node.slots) (length x.new_node.slots) x.full)

  pub lengthened-done : (step (view image) (asked_of call).0 (asked_of call).1 now).0 ≡ reply.Done
  lengthened-done = let m = x.moving in let low = node-positive image x.number x.node strong m.node in
      ap (λ r. r.0) (row-done (view image) call.from call.to call.name call.new_name call.cred now x.old_node x.new_node m.live_from m.live_to m.tests growing.old.index x.number x.node m.slot m.number m.node
      None m.absent (ne_eqb 0 x.number (λ e. absurd (omega arith))) m.allowed)

  -- it may be laid out
  pub may-grow : (blocks inodes : List Bool) → AreSetsOf image blocks inodes → MayGrow image call.to.ino growing.inode blocks inodes
  may-grow blocks inodes are = record {
    strong = strong;
    sets = are;
    is = x.inode_is;
    dir = s.dir;
    room = subst (λ k. k + 16 ≤ size_limit) (sym size_is) room;
    enough = subst (λ k. added_blocks k ≤ count_free blocks) (sym size_is) (not_less (count_free blocks) (added_blocks x.new_node.size)
        ((λ z. ltb (free_blocks-counted image blocks inodes strong are z) (sym more z))
        ∙ grown-enough (view image) call.from call.to call.name call.new_name call.cred now x.number growing.old.index x.node x.old_node x.new_node x.moving));
  }

  pub lengthens : (laid : Laid) (lays : LaysLonger image call.to.ino (growing.inode.size / 16) laid)
      → LengthensName image call now (record { old = growing.old; new = record { directory = growing.to; index = growing.inode.size / 16; sector = laid.sector }; slot = growing.slot }) laid.longer lays.0 (new_list laid.new)
  lengthens laid lays = record {
    number = x.number;
    node = x.node;
    old_node = x.old_node;
    new_node = x.new_node;
    moving = x.moving;
    full = x.full;
    place = ap (λ k. k / 16) size_is ∙ sym s.long;
    old_directory = x.directory;
    new_directory = x.to;
    old_sector = x.sector;
    holds = x.holds;
    lays = lays.1 growing.slot;
  }

  pub longer-planned : (old left : Sets) (new : List ℕ) (made : Planned) → AreSetsOf image old.blocks old.inodes → left.blocks ≡ taken new old.blocks → left.inodes ≡ old.inodes → IsPlannedLonger image (asked_of call) now new made.plan.puts
      → made.reply ≡ reply.Done → made.freed.blocks.items ≡ [] → made.freed.inode ≡ None → IsPlannedCall image (asked_of call) now left made
  longer-planned old left new made are blocks_are inodes_are p answer blocks number = record {
    plan = p.plan;
    answered = answer ∙ sym lengthened-done;
    sets = sets-by image (asked_of call) now left made refl blocks number
        (subst (λ b. AreSetsOf (put_all made.plan.puts image) b left.inodes) (sym blocks_are) (subst (λ n. AreSetsOf (put_all made.plan.puts image) (taken new old.blocks) n) (sym inodes_are) (p.sets old.blocks old.inodes are)));
  }
