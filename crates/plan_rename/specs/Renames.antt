-- What a RENAME comes to before it is planned.
use Rattle.std.specs.Prelude.{◌≡◌, ◌<◌, ◌≤◌, ℕ, length, Some}
use Rattle.files_model.specs.declared.reply.Reply.{Reply}
use Rattle.files_model.specs.declared.reply.Reply.TheVariants as reply
use Rattle.files_model.specs.Files.{Node}
use Rattle.files_model.specs.Names.{place_for}
use Rattle.files_model.specs.Step.{step}
use Rattle.name_plans.specs.Moving.{IsMoving}
use Rattle.rename_puts.specs.Renamed.{Renaming, asked_of, GivesName, MovesName, ReplacesName}
use Rattle.rename_puts.specs.Slots.{PlaceWithin, MovedWithin}
use Rattle.stable.specs.Store.{Image}
use Rattle.v7_map.specs.Image.{inode_at, inode_sector}
use Rattle.v7_map.specs.View.{view}
use Rattle.v7_strokes.specs.Entries.{entry_sector}
use Rattle.v7_strokes.specs.Over.{slot_from}
use Rattle.plan_rename.specs.declared.judging.Growing.{Growing}
use Rattle.plan_rename.specs.declared.judging.Judged.{Judged}
use Rattle.plan_rename.specs.declared.judging.Judged.TheVariants as judged

-- the call is answered so, and leaves the files
abbrev pub Answers : Image → Renaming → ℕ → Reply → Type 0
Answers image call now answer = step (view image) (asked_of call).0 (asked_of call).1 now ≡ (answer, view image)

-- The name moves to the end of another directory, which has this inode.
pub record MovesToEnd (image : Image) (call : Renaming) (now : ℕ) (growing : Growing) : Type 0 where
  pub number : ℕ
  pub node : Node
  pub old_node : Node
  pub new_node : Node
  pub moving : IsMoving (view image) call.from call.to call.name call.new_name call.cred now number growing.old.index node old_node new_node
  pub full : length new_node.slots ≤ place_for new_node.slots
  pub directory : growing.old.directory ≡ call.from.ino
  pub sector : growing.old.sector ≡ entry_sector image call.from.ino growing.old.index
  pub holds : slot_from growing.slot ≡ Some (number, call.new_name)
  pub to : growing.to ≡ call.to.ino
  pub inode_is : growing.inode ≡ inode_at image call.to.ino

-- what a RENAME comes to before it is planned
abbrev pub JudgesRename : Image → Renaming → ℕ → Judged → Type 0
JudgesRename image call now (judged.Refused status) = Answers image call now (reply.Refused status)
JudgesRename image call now judged.Unchanged = Answers image call now reply.Done
JudgesRename image call now (judged.Names place slot) = GivesName image call now place slot
JudgesRename image call now (judged.Moves moved) = MovesName image call now moved
JudgesRename image call now (judged.Replaces moved lost inode) = ReplacesName image call now moved lost × (inode ≡ inode_at image lost.node)
JudgesRename image call now (judged.Lengthens growing) = MovesToEnd image call now growing

-- the old slot and the directory that gets longer stand within so many sectors
abbrev pub GrowingWithin : ℕ → Growing → Type 0
GrowingWithin sectors growing = PlaceWithin sectors growing.old × (inode_sector growing.to < sectors)

-- the slots and inodes of what is planned stand within so many sectors
abbrev pub JudgedWithin : ℕ → Judged → Type 0
JudgedWithin sectors (judged.Refused status) = Unit {0}
JudgedWithin sectors judged.Unchanged = Unit {0}
JudgedWithin sectors (judged.Names place slot) = PlaceWithin sectors place
JudgedWithin sectors (judged.Moves moved) = MovedWithin sectors moved
JudgedWithin sectors (judged.Replaces moved lost inode) = MovedWithin sectors moved × (inode_sector lost.node < sectors)
JudgedWithin sectors (judged.Lengthens growing) = GrowingWithin sectors growing
