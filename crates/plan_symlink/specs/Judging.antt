-- What a SYMLINK of a free name comes to before anything is planned.
use Rattle.std.specs.Prelude.{◌≡◌, ℕ, List, Some, None, Result, Ok, Err}
use Rattle.std.specs.List.{position}
use Rattle.files_model.specs.declared.attributes.FileId.{FileId}
use Rattle.files_model.specs.declared.attributes.Sattr.{Sattr}
use Rattle.files_model.specs.declared.call.Call.TheVariants.{Symlink}
use Rattle.files_model.specs.declared.credential.Cred.{Cred}
use Rattle.files_model.specs.declared.reply.Reply.TheVariants as reply
use Rattle.files_model.specs.declared.reply.Stat.{Stat}
use Rattle.files_model.specs.Answers.{first_of}
use Rattle.files_model.specs.Files.{Node, Files, live}
use Rattle.files_model.specs.NameRows.{place_tests}
use Rattle.files_model.specs.Names.{has_name}
use Rattle.files_model.specs.Step.{step}
use Rattle.longer_plans.specs.SymlinkPuts.{IsSymlink}

-- No test before the name refuses, and no slot has the name.
pub record IsFreeName (files : Files) (dir : FileId) (name : List ℕ) (d : Node) : Type 0 where
  pub live : live files dir ≡ Some d
  pub tests : first_of (place_tests files d name) ≡ None
  pub absent : position (has_name name) d.slots ≡ None

-- the i-number of the new link, or the refusal that is answered
abbrev pub JudgesLink : Files → FileId → Node → List ℕ → List ℕ → Sattr → Cred → ℕ → Result ℕ Stat → Type 0
JudgesLink files dir d name text wanted cred now (Ok i) = IsSymlink files dir name text wanted cred now d i
JudgesLink files dir d name text wanted cred now (Err status) = step files (Symlink dir name text wanted) cred now ≡ (reply.Refused status, files)
