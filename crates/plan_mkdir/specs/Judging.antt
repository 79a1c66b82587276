-- What a MKDIR of a free name comes to before anything is planned.
use Rattle.std.specs.Prelude.{◌≡◌, ℕ, ◌+◌, ◌-◌, List, [], ◌∷◌, Some, None, Result, Ok, Err, ◌||◌, nat_le, nat_lt, Bool}
use Rattle.std.specs.Option.{unwrap_or}
use Rattle.std.specs.FinMap.{get}
use Rattle.files_model.specs.declared.attributes.Sattr.{Sattr}
use Rattle.files_model.specs.declared.credential.Cred.{Cred}
use Rattle.files_model.specs.declared.reply.Reply.{Reply}
use Rattle.files_model.specs.declared.reply.Reply.TheVariants as reply
use Rattle.files_model.specs.declared.reply.Stat.{Stat}
use Rattle.files_model.specs.declared.reply.Stat.TheVariants as stat
use Rattle.files_model.specs.Answers.{first_of, attr_of, unless}
use Rattle.files_model.specs.Files.{Node, Files}
use Rattle.files_model.specs.NameRows.{entry_tests, at_usable, most_links, new_directory}
use Rattle.files_model.specs.Names.{lowest_usable, with_entry, made_at}
use Rattle.files_model.specs.Space.{node_usage, free}

-- the parent has its most links, or fewer blocks are free than it and the new directory take
abbrev pub lacks_room : Files → ℕ → Node → List ℕ → Sattr → Cred → ℕ → ℕ → Bool
lacks_room files p d name wanted cred now i =
    nat_le most_links d.nlink || nat_lt (free files) (node_usage (new_directory wanted cred i p now) + (node_usage (with_entry d (Some (i, name)) now) - node_usage d))

-- the new directory at a number, where there is room
abbrev pub directory_made : Files → ℕ → Node → List ℕ → Sattr → Cred → ℕ → ℕ → Reply × Files
directory_made files p d name wanted cred now i = unless files (first_of ((lacks_room files p d name wanted cred now i, stat.Nospc) ∷ [])) (
  reply.Handle (record { ino = i; generation = unwrap_or (get files.generations i) 0 + 1 }) (attr_of i (new_directory wanted cred i p now)),
  made_at files i (new_directory wanted cred i p now) p (record (with_entry d (Some (i, name)) now) { nlink = d.nlink + 1 }),
)

-- the new directory, once its name is free
abbrev pub mkdir_new : Files → ℕ → Node → List ℕ → Sattr → Cred → ℕ → Reply × Files
mkdir_new files p d name wanted cred now = unless files (first_of (entry_tests p d cred 0)) (at_usable files (lowest_usable files) (directory_made files p d name wanted cred now))

-- No test refuses a new directory there, and this is its i-number.
pub record MayBeMade (files : Files) (p : ℕ) (d : Node) (name : List ℕ) (wanted : Sattr) (cred : Cred) (now i : ℕ) : Type 0 where
  pub entry : first_of (entry_tests p d cred 0) ≡ None
  pub usable : lowest_usable files ≡ Some i
  pub room : first_of ((lacks_room files p d name wanted cred now i, stat.Nospc) ∷ []) ≡ None

-- the i-number of the new directory, or the refusal that is answered
abbrev pub JudgesNew : Files → ℕ → Node → List ℕ → Sattr → Cred → ℕ → Result ℕ Stat → Type 0
JudgesNew files p d name wanted cred now (Ok i) = MayBeMade files p d name wanted cred now i
JudgesNew files p d name wanted cred now (Err status) = mkdir_new files p d name wanted cred now ≡ (reply.Refused status, files)
