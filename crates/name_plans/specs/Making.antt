-- When a call makes a node.
use Rattle.std.specs.Prelude.{◌≡◌, ◌≢◌, ◌<◌, ◌≤◌, true, ℕ, ◌+◌, List, [], ◌∷◌, Some, None}
use Rattle.std.specs.List.{position}
use Rattle.std.specs.Option.{unwrap_or}
use Rattle.std.specs.FinMap.{get}
use Rattle.files_model.specs.declared.attributes.FileId.{FileId}
use Rattle.files_model.specs.declared.attributes.Sattr.{Sattr}
use Rattle.files_model.specs.declared.credential.Cred.{Cred}
use Rattle.files_model.specs.declared.reply.Stat.TheVariants as stat
use Rattle.files_model.specs.Answers.{first_of}
use Rattle.files_model.specs.Files.{Node, Files, live}
use Rattle.files_model.specs.NameRows.{create_tests, entry_tests, is_full_for}
use Rattle.files_model.specs.Names.{has_name, lowest_usable, with_entry, made_at}
use Rattle.files_model.specs.Permission.{is_directory}
use Rattle.files_model.specs.Torn.{Asked, after_calls, makes_node}

-- CREATE makes a new file at i-number i, by a new entry of d
pub record IsCreation (files : Files) (dir : FileId) (name : List ℕ) (wanted : Sattr) (cred : Cred) (now : ℕ) (d : Node) (i : ℕ) : Type 0 where
  pub live : live files dir ≡ Some d
  pub tests : first_of (create_tests files d name wanted) ≡ None
  pub absent : position (has_name name) d.slots ≡ None
  pub entry : first_of (entry_tests dir.ino d cred (unwrap_or wanted.size 0)) ≡ None
  pub usable : lowest_usable files ≡ Some i
  pub room : first_of ((is_full_for files d (with_entry d (Some (i, name)) now), stat.Nospc) ∷ []) ≡ None

-- The call makes node m at i-number i, which had none, by a new entry of directory p and nothing else.
pub record IsMaking (files : Files) (asked : Asked) (now p : ℕ) (name : List ℕ) (d : Node) (i : ℕ) (m : Node) : Type 0 where
  pub makes : makes_node asked.0 ≡ true
  pub at : get files.nodes p ≡ Some d
  pub kind : is_directory d.kind ≡ true
  pub good_name : name ≢ []
  pub absent : get files.nodes i ≡ None
  pub low : 3 ≤ i
  pub within : i < files.inodes + 1
  pub after : after_calls files (asked ∷ []) now ≡ made_at files i m p (with_entry d (Some (i, name)) now)
