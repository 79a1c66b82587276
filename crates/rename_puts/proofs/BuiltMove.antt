-- A name that moves into another directory, in the form of its law.
use Rattle.std.proofs.Common.{◌≡◌, ℕ, ◌/◌, ◌<◌, ◌≤◌, List, [], ◌∷◌, ◌++◌, length, set, Some, refl, sym, ap, subst, ◌∙◌, arith, ⊎_elim, min, max, Bool}
use Rattle.std.proofs.lemmas.Bool.{cases_lt}
use Rattle.files_model.specs.Names.{place_for}
use Rattle.stable.specs.Store.{Image}
use Rattle.v7_map.specs.Frame.{Body, frame}
use Rattle.v7_map.specs.Image.{inode_at}
use Rattle.v7_map.specs.Plan.{PutsInode}
use Rattle.v7_map.specs.View.{view}
use Rattle.v7_map.specs.Weak.{IsStrong}
use Rattle.v7_plans.specs.Setting.{put_inode}
use Rattle.v7_strokes.specs.Entries.{entry_sector, put_entry}
use Rattle.v7_strokes.specs.Inodes.{timed_inode}
use Rattle.v7_strokes.specs.Last.{AreTimes, inode_puts}
use Rattle.v7_strokes.specs.Merged.{merged}
use Rattle.v7_strokes.proofs.SlotStep.{step-addresses}
use Rattle.name_plans.specs.Moving.{moving_puts}
use Rattle.name_plans.specs.Replacement.{MovesSlots, moved_slots}
use Rattle.name_plans.proofs.MoveAccepted.{IsMove, rename-move}
use Rattle.name_plans.proofs.MovePlan.{move-first, move-old_first, move-old_sets, move-new_first, move-new_sets}
use Rattle.rename_puts.specs.Renamed.{Renaming, asked_of, MovesName, IsPlannedStaying}
use Rattle.rename_puts.specs.Slots.{PutsMoved}
use Rattle.rename_puts.specs.Times.{AddsTimes, listed, rising}
use Rattle.rename_puts.specs.declared.slots.Moved.{Moved}
use Rattle.rename_puts.proofs.Built.{of_merged, raw, moved-new, moved-slots, moved-after, moved-raw}

module _ (image : Image) (call : Renaming) (now : ℕ) (moved : Moved) (strong : IsStrong (frame image)) (x : MovesName image call now moved) (first : List (ℕ × List ℕ)) (h : PutsMoved image moved first) where
  abbrev l : ℕ
  l = place_for x.new_node.slots

  abbrev k : ℕ
  k = moved.old.index

  new_sector : moved.new.sector ≡ entry_sector image call.to.ino l
  new_sector = x.stands.new_sector ∙ ap (entry_sector image call.to.ino) x.place

  is : IsMove (view image) call.from call.to call.name call.new_name call.cred now x.number k l x.node x.old_node x.new_node
  is = rename-move image call.from call.to call.name call.new_name call.cred now x.number k x.node x.old_node x.new_node strong x.moving (subst (λ q. q < length x.new_node.slots) x.place x.inside)

  stays : entry_sector (put_entry image call.to.ino l h.new_bytes) call.from.ino k ≡ entry_sector image call.from.ino k
  stays = step-addresses image call.to.ino l (entry_sector image call.to.ino l) h.new_bytes (Some (x.number, call.new_name)) strong.weak
      (move-first image call.from call.to call.name call.new_name call.cred now x.number k l x.node x.old_node x.new_node strong is h.new_bytes
      (moved-new image moved first h call.from.ino call.to.ino k l x.number call.new_name refl x.place x.stands.old_sector new_sector x.stands.holds)) call.from.ino (Body (k / 32))

  abbrev slots : MovesSlots image call.from.ino call.to.ino k l x.number call.new_name h.new_bytes h.old_bytes
  slots = moved-slots image moved first h call.from.ino call.to.ino k l x.number call.new_name refl x.place x.stands.old_sector new_sector x.stands.holds stays

  abbrev after : Image
  after = moved_slots image call.from.ino call.to.ino k l h.new_bytes h.old_bytes

  -- the times of these two directories, in this order
  module _ (p q : ℕ) (puts : List (ℕ × List ℕ)) where
    Law : Type 0
    Law = (b3 b4 : List ℕ) → PutsInode after p b3 (timed_inode (inode_at after p) now) → PutsInode (put_inode after p b3) q b4 (timed_inode (inode_at (put_inode after p b3) q) now)
        → IsPlannedStaying image (asked_of call) now (moving_puts image call.from.ino call.to.ino k x.new_node h.new_bytes h.old_bytes p q b3 b4)

    by_bytes : (bs : List (List ℕ)) → Law → AreTimes after now (p ∷ q ∷ []) bs
        → puts ≡ merged ((entry_sector image call.to.ino l, h.new_bytes) ∷ (entry_sector (put_entry image call.to.ino l h.new_bytes) call.from.ino k, h.old_bytes) ∷ inode_puts (p ∷ q ∷ []) bs)
        → IsPlannedStaying image (asked_of call) now puts
    unfolding Law
    by_bytes [] law t e = absurd t
    by_bytes (b3 ∷ []) law t e = absurd t.1
    by_bytes (b3 ∷ b4 ∷ []) law t e = of_merged image (asked_of call) now (moving_puts image call.from.ino call.to.ino k x.new_node h.new_bytes h.old_bytes p q b3 b4) puts e (law b3 b4 t.0 t.1.0)
    by_bytes (b3 ∷ b4 ∷ b5 ∷ bs) law t e = absurd t.1.1

    of_times : Law → AddsTimes image now (p ∷ q ∷ []) (raw image moved first h call.from.ino call.to.ino k l x.number call.new_name refl x.place x.stands.old_sector new_sector x.stands.holds) puts → IsPlannedStaying image (asked_of call) now puts
    of_times law t = by_bytes t.bytes law
        (subst (λ m. AreTimes m now (p ∷ q ∷ []) t.bytes) (moved-after image moved first h call.from.ino call.to.ino k l x.number call.new_name refl x.place x.stands.old_sector new_sector x.stands.holds stays) t.times)
        (t.puts ∙ ap merged (moved-raw image moved first h call.from.ino call.to.ino k l x.number call.new_name refl x.place x.stands.old_sector new_sector x.stands.holds stays (inode_puts (p ∷ q ∷ []) t.bytes)))

  old_first : (puts : List (ℕ × List ℕ)) → Law call.from.ino call.to.ino puts
  unfolding Law
  old_first puts b3 b4 t3 t4 = record {
    plan = move-old_first image call.from call.to call.name call.new_name call.cred now x.number k l x.node x.old_node x.new_node strong is h.new_bytes slots.new h.old_bytes slots.old b3 b4 t3 t4;
    sets = move-old_sets image call.from call.to call.name call.new_name call.cred now x.number k l x.node x.old_node x.new_node strong is h.new_bytes slots.new h.old_bytes slots.old b3 b4 t3 t4;
  }

  new_first : (puts : List (ℕ × List ℕ)) → Law call.to.ino call.from.ino puts
  unfolding Law
  new_first puts b3 b4 t3 t4 = record {
    plan = move-new_first image call.from call.to call.name call.new_name call.cred now x.number k l x.node x.old_node x.new_node strong is h.new_bytes slots.new h.old_bytes slots.old b3 b4 t3 t4;
    sets = move-new_sets image call.from call.to call.name call.new_name call.cred now x.number k l x.node x.old_node x.new_node strong is h.new_bytes slots.new h.old_bytes slots.old b3 b4 t3 t4;
  }

  pub built-move : (puts : List (ℕ × List ℕ)) → AddsTimes image now (listed (rising moved.old.directory moved.new.directory)) ((moved.new.sector, h.new_bytes) ∷ (moved.old.sector, h.old_bytes) ∷ []) puts → IsPlannedStaying image (asked_of call) now puts
  built-move puts t = ⊎_elim
      (λ (lt : moved.new.directory < moved.old.directory). let low : min moved.old.directory moved.new.directory ≡ moved.new.directory = omega arith in let high : max moved.old.directory moved.new.directory ≡ moved.old.directory = omega arith in
      of_times call.to.ino call.from.ino puts (new_first puts)
      (subst (λ ds. AddsTimes image now ds ((moved.new.sector, h.new_bytes) ∷ (moved.old.sector, h.old_bytes) ∷ []) puts) (λ z. (low ∙ x.stands.new_directory) z ∷ (high ∙ x.stands.old_directory) z ∷ []) t))
      (λ (le : moved.old.directory ≤ moved.new.directory). let low : min moved.old.directory moved.new.directory ≡ moved.old.directory = omega arith in let high : max moved.old.directory moved.new.directory ≡ moved.new.directory = omega arith in
      of_times call.from.ino call.to.ino puts (old_first puts)
      (subst (λ ds. AddsTimes image now ds ((moved.new.sector, h.new_bytes) ∷ (moved.old.sector, h.old_bytes) ∷ []) puts) (λ z. (low ∙ x.stands.old_directory) z ∷ (high ∙ x.stands.new_directory) z ∷ []) t))
      (cases_lt moved.new.directory moved.old.directory)
