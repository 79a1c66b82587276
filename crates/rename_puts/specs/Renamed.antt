-- What a builder is told of a RENAME, and what its plan comes to.
use Rattle.std.specs.Prelude.{◌≡◌, ◌<◌, ◌≤◌, ℕ, ◌==◌, Bool, List, [], ◌∷◌, length, Some}
use Rattle.files_model.specs.declared.attributes.FileId.{FileId}
use Rattle.files_model.specs.declared.call.Call.TheVariants.{Rename}
use Rattle.files_model.specs.declared.credential.Cred.{Cred}
use Rattle.files_model.specs.Files.{Node}
use Rattle.files_model.specs.Names.{place_for}
use Rattle.files_model.specs.Torn.{Asked}
use Rattle.name_plans.specs.Moving.{IsMoving}
use Rattle.name_plans.specs.Naming.{IsNaming}
use Rattle.name_plans.specs.Removed.{AreFreed, frees_number, number_given}
use Rattle.name_plans.specs.Replacement.{IsReplacement}
use Rattle.name_plans.specs.Taken.{taken}
use Rattle.plan_name.specs.Creating.{LaysOut}
use Rattle.plan_name.specs.declared.creating_puts.Longer.{Longer}
use Rattle.stable.specs.Puts.{put_all}
use Rattle.stable.specs.Store.{Image}
use Rattle.v7_map.specs.Frame.{Place, frame}
use Rattle.v7_map.specs.Plans.{IsPlanOf}
use Rattle.v7_map.specs.View.{view}
use Rattle.v7_sets.specs.Given.{given}
use Rattle.v7_sets.specs.Sets.{AreSetsOf}
use Rattle.v7_strokes.specs.Entries.{entry_sector}
use Rattle.v7_strokes.specs.Over.{slot_from}
use Rattle.v7_layout.specs.declared.slot.Slot.{Slot}
use Rattle.rename_puts.specs.declared.replacing.Lost.{Lost}
use Rattle.rename_puts.specs.declared.slots.Moved.{Moved}
use Rattle.rename_puts.specs.declared.slots.SlotPlace.{SlotPlace}

-- the arguments of a RENAME, and who calls
pub record Renaming : Type 0 where
  pub from : FileId
  pub name : List ℕ
  pub to : FileId
  pub new_name : List ℕ
  pub cred : Cred

-- the call
abbrev pub asked_of : Renaming → Asked
asked_of call = (Rename call.from call.name call.to call.new_name, call.cred)

-- ---- what the call does

-- It gives this slot another name, in the directory where it stands.
pub record GivesName (image : Image) (call : Renaming) (now : ℕ) (place : SlotPlace) (slot : Slot) : Type 0 where
  pub number : ℕ
  pub node : Node
  pub in_directory : Node
  pub directory : place.directory ≡ call.from.ino
  pub naming : IsNaming (view image) call.from call.to call.name call.new_name call.cred now number place.index node in_directory
  pub sector : place.sector ≡ entry_sector image call.from.ino place.index
  pub holds : slot_from slot ≡ Some (number, call.new_name)

-- the slots of a name that moves stand in these sectors, and the new one is to name this node
pub record StandsMoved (image : Image) (call : Renaming) (number : ℕ) (moved : Moved) : Type 0 where
  pub old_directory : moved.old.directory ≡ call.from.ino
  pub new_directory : moved.new.directory ≡ call.to.ino
  pub old_sector : moved.old.sector ≡ entry_sector image call.from.ino moved.old.index
  pub new_sector : moved.new.sector ≡ entry_sector image call.to.ino moved.new.index
  pub holds : slot_from moved.slot ≡ Some (number, call.new_name)

-- It moves the name into an empty slot of another directory.
pub record MovesName (image : Image) (call : Renaming) (now : ℕ) (moved : Moved) : Type 0 where
  pub number : ℕ
  pub node : Node
  pub old_node : Node
  pub new_node : Node
  pub moving : IsMoving (view image) call.from call.to call.name call.new_name call.cred now number moved.old.index node old_node new_node
  pub place : moved.new.index ≡ place_for new_node.slots
  pub inside : moved.new.index < length new_node.slots
  pub stands : StandsMoved image call number moved

-- It moves the name to a slot that stands, in place of what that one names.
pub record ReplacesName (image : Image) (call : Renaming) (now : ℕ) (moved : Moved) (lost : Lost) : Type 0 where
  pub number : ℕ
  pub node : Node
  pub replaced : Node
  pub old_node : Node
  pub new_node : Node
  pub replacement : IsReplacement (view image) call.from call.to call.name call.new_name call.cred now number lost.node moved.old.index moved.new.index node replaced old_node new_node
  pub stands : StandsMoved image call number moved
  pub last : lost.last ≡ (replaced.nlink == 1)

-- It moves the name to the end of another directory, whose blocks are to stand at these places, of which these are new.
pub record LengthensName (image : Image) (call : Renaming) (now : ℕ) (moved : Moved) (longer : Longer) (target : Place → ℕ) (new : List ℕ) : Type 0 where
  pub number : ℕ
  pub node : Node
  pub old_node : Node
  pub new_node : Node
  pub moving : IsMoving (view image) call.from call.to call.name call.new_name call.cred now number moved.old.index node old_node new_node
  pub full : length new_node.slots ≤ place_for new_node.slots
  pub place : moved.new.index ≡ length new_node.slots
  pub old_directory : moved.old.directory ≡ call.from.ino
  pub new_directory : moved.new.directory ≡ call.to.ino
  pub old_sector : moved.old.sector ≡ entry_sector image call.from.ino moved.old.index
  pub holds : slot_from moved.slot ≡ Some (number, call.new_name)
  pub lays : LaysOut image (record { directory = call.to.ino; index = moved.new.index; sector = moved.new.sector; slot = moved.slot }) longer target new

-- ---- what its plan comes to

-- The puts are the plan of the call, and afterwards the sets are exact without these blocks.
pub record IsPlannedLonger (image : Image) (asked : Asked) (now : ℕ) (new : List ℕ) (puts : List (ℕ × List ℕ)) : Type 0 where
  pub plan : IsPlanOf image (asked ∷ []) now puts
  pub sets : (blocks inodes : List Bool) → AreSetsOf image blocks inodes → AreSetsOf (put_all puts image) (taken new blocks) inodes

-- The puts are the plan of the call, and what is free stays.
pub record IsPlannedStaying (image : Image) (asked : Asked) (now : ℕ) (puts : List (ℕ × List ℕ)) : Type 0 where
  pub plan : IsPlanOf image (asked ∷ []) now puts
  pub sets : (blocks inodes : List Bool) → AreSetsOf image blocks inodes → AreSetsOf (put_all puts image) blocks inodes

-- The puts are the plan of the call, and afterwards the sets are exact once they are given the blocks of node w, if it ended, and its number if it can be used again.
pub record IsPlannedReplacing (image : Image) (asked : Asked) (now r : ℕ) (w : Node) (puts : List (ℕ × List ℕ)) : Type 0 where
  pub plan : IsPlanOf image (asked ∷ []) now puts
  pub sets : (freed : List ℕ) → AreFreed (w.nlink == 1) (frame image) r freed → (blocks inodes : List Bool) → AreSetsOf image blocks inodes
      → AreSetsOf (put_all puts image) (given freed blocks) (number_given (frees_number (view image) r w) r inodes)
