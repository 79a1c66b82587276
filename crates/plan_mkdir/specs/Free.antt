-- A name that MKDIR may make.
use Rattle.std.specs.Prelude.{◌≡◌, ℕ, List, Some, None}
use Rattle.std.specs.List.{position}
use Rattle.files_model.specs.declared.attributes.FileId.{FileId}
use Rattle.files_model.specs.Answers.{first_of}
use Rattle.files_model.specs.Files.{Node, Files, live}
use Rattle.files_model.specs.NameRows.{place_tests}
use Rattle.files_model.specs.Names.{has_name}

-- No test before the name refuses, and no slot of the parent has the name.
pub record IsFreeName (files : Files) (dir : FileId) (name : List ℕ) (d : Node) : Type 0 where
  pub live : live files dir ≡ Some d
  pub tests : first_of (place_tests files d name) ≡ None
  pub absent : position (has_name name) d.slots ≡ None
