-- What is found of the directories and of the old name of a RENAME.
use Rattle.std.specs.Prelude.{◌≡◌, ◌≢◌, ◌<◌, ◌≤◌, ℕ, ◌==◌, Bool, List, [], ◌∷◌, ◌++◌, Option, Some, None, not}
use Rattle.files_model.specs.declared.attributes.Kind.{Kind}
use Rattle.files_model.specs.declared.credential.Cred.{Cred}
use Rattle.files_model.specs.declared.reply.Stat.TheVariants as stat
use Rattle.files_model.specs.Answers.{attr_of, first_of}
use Rattle.files_model.specs.Files.{live}
use Rattle.files_model.specs.Names.{name_tests}
use Rattle.files_model.specs.Permission.{is_directory}
use Rattle.name_places.specs.Places.{IsTakenBy}
use Rattle.rename_puts.specs.Renamed.{Renaming}
use Rattle.stable.specs.Store.{Image}
use Rattle.v7_map.specs.Image.{inode_at, inode_sector}
use Rattle.v7_map.specs.Stored.{stored_attr}
use Rattle.v7_map.specs.View.{view, node_at}
use Rattle.v7_read.specs.Found.{IsFile}
use Rattle.plan_rename.specs.declared.judging.Ends.{Ends}
use Rattle.plan_rename.specs.declared.judging.OldName.{OldName}
use Rattle.plan_rename.specs.declared.refusals.Told.{Told}

-- the call
abbrev pub call_of : Ends → List ℕ → List ℕ → Cred → Renaming
call_of ends name new_name cred = record { from = ends.from; name = name; to = ends.to; new_name = new_name; cred = cred }

-- both handles find their directories
pub record AreFound (image : Image) (ends : Ends) : Type 0 where
  pub from : IsFile image ends.from ends.from_found
  pub to : IsFile image ends.to ends.to_found

-- No test of the names refuses, and the slot of the old one is found, with the inode that it names.
pub record FindsOld (image : Image) (ends : Ends) (name new_name : List ℕ) (old : OldName) : Type 0 where
  pub live_from : live (view image) ends.from ≡ Some (node_at image ends.from.ino)
  pub live_to : live (view image) ends.to ≡ Some (node_at image ends.to.ino)
  pub tests : first_of (((view image).read_only, stat.Rofs) ∷ (not (is_directory (node_at image ends.from.ino).kind), stat.Notdir) ∷ (not (is_directory (node_at image ends.to.ino).kind), stat.Notdir) ∷ name_tests name ++ name_tests new_name) ≡ None
  pub slot : IsTakenBy image ends.from.ino name (node_at image ends.from.ino) old.slot
  pub inode : old.inode ≡ inode_at image old.slot.ino
  pub from_attr : stored_attr ends.from.ino ends.from_found.inode ≡ attr_of ends.from.ino (node_at image ends.from.ino)
  pub to_attr : stored_attr ends.to.ino ends.to_found.inode ≡ attr_of ends.to.ino (node_at image ends.to.ino)
  pub to_inode : ends.to_found.inode ≡ inode_at image ends.to.ino

-- what is told of a call
abbrev pub told_of : Ends → OldName → Option Kind → Bool → Told
told_of ends old standing at_end = record {
  node = stored_attr old.slot.ino old.inode;
  from = stored_attr ends.from.ino ends.from_found.inode;
  to = stored_attr ends.to.ino ends.to_found.inode;
  same = ends.from.ino == ends.to.ino;
  standing = standing;
  at_end = at_end;
}

-- the inodes of both directories stand among so many sectors
pub record EndsWithin (sectors : ℕ) (ends : Ends) : Type 0 where
  pub from : inode_sector ends.from.ino < sectors
  pub to : inode_sector ends.to.ino < sectors

-- the old name's slot names something, and stands past the super-block, among so many sectors
pub record OldWithin (sectors : ℕ) (old : OldName) : Type 0 where
  pub some : old.slot.ino ≢ 0
  pub past : 2 ≤ old.slot.sector
  pub slot : old.slot.sector < sectors
