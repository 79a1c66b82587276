-- A new name inside one directory, in the form of its law.
use Rattle.std.proofs.Common.{◌≡◌, ℕ, List, [], ◌∷◌, Some, set, refl, sym, ap, subst, ◌∙◌, Bool}
use Rattle.stable.specs.Store.{Image}
use Rattle.v7_layout.specs.declared.slot.Slot.{Slot}
use Rattle.v7_map.specs.Frame.{frame}
use Rattle.v7_map.specs.Image.{sector_at, inode_at, inode_sector}
use Rattle.v7_map.specs.Plan.{PutsInode}
use Rattle.v7_map.specs.View.{view}
use Rattle.v7_map.specs.Weak.{IsStrong}
use Rattle.v7_strokes.specs.Entries.{entry_sector, put_entry}
use Rattle.v7_strokes.specs.Inodes.{timed_inode}
use Rattle.v7_strokes.specs.Last.{AreTimes, inode_puts}
use Rattle.v7_strokes.specs.Merged.{merged}
use Rattle.v7_strokes.specs.Over.{slot_from}
use Rattle.v7_strokes.specs.Slots.{PutsSlot}
use Rattle.name_plans.specs.Naming.{naming_puts}
use Rattle.name_plans.proofs.NameAccepted.{IsNamed, rename-named}
use Rattle.name_plans.proofs.NamePlan.{name-plan, name-sets}
use Rattle.rename_puts.specs.Renamed.{Renaming, asked_of, GivesName, IsPlannedStaying}
use Rattle.rename_puts.specs.Times.{AddsTimes}
use Rattle.rename_puts.specs.declared.slots.SlotPlace.{SlotPlace}
use Rattle.rename_puts.proofs.Built.{of_merged}

module _ (image : Image) (call : Renaming) (now : ℕ) (place : SlotPlace) (slot : Slot) (strong : IsStrong (frame image)) (x : GivesName image call now place slot) (b1 : List ℕ)
    (put : PutsSlot (sector_at image place.sector) place.index b1 (slot_from slot)) where
  entry : PutsSlot (sector_at image (entry_sector image call.from.ino place.index)) place.index b1 (Some (x.number, call.new_name))
  entry = subst (λ a. PutsSlot (sector_at image a) place.index b1 (Some (x.number, call.new_name))) x.sector (subst (PutsSlot (sector_at image place.sector) place.index b1) x.holds put)

  named : IsNamed (view image) (asked_of call) now call.from.ino call.name call.new_name x.in_directory place.index x.number x.node
  named = rename-named image call.from call.to call.name call.new_name call.cred now x.number place.index x.node x.in_directory strong x.naming

  module _ (b2 : List ℕ) (times : PutsInode (set image place.sector b1) place.directory b2 (timed_inode (inode_at (set image place.sector b1) place.directory) now)) where
    times' : PutsInode (put_entry image call.from.ino place.index b1) call.from.ino b2 (timed_inode (inode_at (put_entry image call.from.ino place.index b1) call.from.ino) now)
    times' = subst (λ j. PutsInode (put_entry image call.from.ino place.index b1) j b2 (timed_inode (inode_at (put_entry image call.from.ino place.index b1) j) now)) x.directory
        (subst (λ a. PutsInode (set image a b1) place.directory b2 (timed_inode (inode_at (set image a b1) place.directory) now)) x.sector times)

    planned : IsPlannedStaying image (asked_of call) now (naming_puts image call.from.ino place.index b1 b2)
    planned = record {
      plan = name-plan image (asked_of call) now call.from.ino call.name call.new_name x.in_directory place.index x.number x.node strong named b1 entry b2 times';
      sets = name-sets image (asked_of call) now call.from.ino call.name call.new_name x.in_directory place.index x.number x.node strong named b1 entry b2 times';
    }

  by_bytes : (bs : List (List ℕ)) (puts : List (ℕ × List ℕ)) → AreTimes (set image place.sector b1) now (place.directory ∷ []) bs → puts ≡ merged ((place.sector, b1) ∷ inode_puts (place.directory ∷ []) bs)
      → IsPlannedStaying image (asked_of call) now puts
  by_bytes [] puts h is = absurd h
  by_bytes (b2 ∷ []) puts h is = of_merged image (asked_of call) now (naming_puts image call.from.ino place.index b1 b2) puts (is ∙ (λ z. merged ((x.sector z, b1) ∷ (inode_sector (x.directory z), b2) ∷ []))) (planned b2 h.0)
  by_bytes (b2 ∷ b3 ∷ bs) puts h is = absurd h.1

  pub built-name : (puts : List (ℕ × List ℕ)) → AddsTimes image now (place.directory ∷ []) ((place.sector, b1) ∷ []) puts → IsPlannedStaying image (asked_of call) now puts
  built-name puts t = by_bytes t.bytes puts t.times t.puts
