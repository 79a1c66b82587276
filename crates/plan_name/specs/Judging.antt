-- What a CREATE of a free name comes to before anything is planned.
use Rattle.std.specs.Prelude.{◌≡◌, ℕ, Bool, true, List, [], ◌∷◌, length, Some, None, Result, Ok, Err, not, nat_lt}
use Rattle.std.specs.Option.{unwrap_or}
use Rattle.std.specs.FinMap.{get}
use Rattle.files_model.specs.declared.attributes.Attr.{Attr}
use Rattle.files_model.specs.declared.attributes.Sattr.{Sattr}
use Rattle.files_model.specs.declared.credential.Cred.{Cred}
use Rattle.files_model.specs.declared.reply.Stat.{Stat}
use Rattle.files_model.specs.declared.reply.Stat.TheVariants as stat
use Rattle.files_model.specs.declared.reply.Reply.TheVariants as reply
use Rattle.files_model.specs.Answers.{first_of, attr_of}
use Rattle.files_model.specs.Files.{Node, Files}
use Rattle.files_model.specs.NameRows.{create_new, entry_tests, is_full_for}
use Rattle.files_model.specs.Names.{place_for, lowest_usable, with_entry}
use Rattle.files_model.specs.Permission.{is_directory}
use Rattle.stable.specs.Store.{Image}
use Rattle.v7_map.specs.Frame.{frame}
use Rattle.v7_map.specs.View.{view}
use Rattle.v7_map.specs.Weak.{IsStrong}
use Rattle.v7_sets.specs.Sets.{AreSetsOf}

-- What is told of a directory: its attributes, and whether a new entry comes at its end; and of what is free.
pub record IsTold (image : Image) (p : ℕ) (d : Node) (attr : Attr) (at_end : Bool) (blocks inodes : List Bool) : Type 0 where
  pub strong : IsStrong (frame image)
  pub sets : AreSetsOf image blocks inodes
  pub at : get (view image).nodes p ≡ Some d
  pub kind : is_directory d.kind ≡ true
  pub is : attr ≡ attr_of p d
  pub end : at_end ≡ not (nat_lt (place_for d.slots) (length d.slots))

-- No test refuses a new file there, and this is its i-number.
pub record MayBeMade (files : Files) (p : ℕ) (d : Node) (name : List ℕ) (size : ℕ) (cred : Cred) (now i : ℕ) : Type 0 where
  pub entry : first_of (entry_tests p d cred size) ≡ None
  pub usable : lowest_usable files ≡ Some i
  pub room : first_of ((is_full_for files d (with_entry d (Some (i, name)) now), stat.Nospc) ∷ []) ≡ None

-- the i-number of the new file, or the refusal that is answered
abbrev pub JudgesNew : Files → ℕ → Node → List ℕ → Sattr → Cred → ℕ → Result ℕ Stat → Type 0
JudgesNew files p d name wanted cred now (Ok i) = MayBeMade files p d name (unwrap_or wanted.size 0) cred now i
JudgesNew files p d name wanted cred now (Err status) = create_new files p d name wanted cred now ≡ (reply.Refused status, files)
