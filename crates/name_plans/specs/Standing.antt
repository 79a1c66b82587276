-- CREATE of a name that a regular file has.
use Rattle.std.specs.Prelude.{◌≡◌, true, ℕ, List, Some, None}
use Rattle.std.specs.List.{position}
use Rattle.std.specs.FinMap.{get}
use Rattle.files_model.specs.declared.attributes.FileId.{FileId}
use Rattle.files_model.specs.declared.attributes.Sattr.{Sattr}
use Rattle.files_model.specs.declared.reply.Reply.{Reply}
use Rattle.files_model.specs.declared.reply.Reply.TheVariants as reply
use Rattle.files_model.specs.Answers.{first_of}
use Rattle.files_model.specs.Files.{Node, Files, live}
use Rattle.files_model.specs.NameRows.{create_tests}
use Rattle.files_model.specs.Names.{has_name, number_at}
use Rattle.files_model.specs.Permission.{is_regular}

-- The first slot of the name names i, a regular file, and no test before the name refuses.
pub record StandsAlready (files : Files) (dir : FileId) (name : List ℕ) (wanted : Sattr) (d : Node) (k i : ℕ) (n : Node) : Type 0 where
  pub live : live files dir ≡ Some d
  pub tests : first_of (create_tests files d name wanted) ≡ None
  pub slot : position (has_name name) d.slots ≡ Some k
  pub number : number_at d.slots k ≡ i
  pub node : get files.nodes i ≡ Some n
  pub regular : is_regular n.kind ≡ true

-- the attributes of a file as an answer that has its handle
abbrev pub with_handle : FileId → Reply → Reply
with_handle file (reply.Attr attr) = reply.Handle file attr
with_handle file other = other
