-- What a CREATE of a free name comes to.
use Rattle.std.specs.Prelude.{◌≡◌, ◌≢◌, ◌<◌, ℕ, List, [], Some, None}
use Rattle.std.specs.List.{position}
use Rattle.files_model.specs.declared.attributes.FileId.{FileId}
use Rattle.files_model.specs.declared.attributes.Sattr.{Sattr}
use Rattle.files_model.specs.declared.reply.Reply.{Reply}
use Rattle.files_model.specs.declared.reply.Reply.TheVariants as reply
use Rattle.files_model.specs.Answers.{first_of}
use Rattle.files_model.specs.Files.{Node, Files, live}
use Rattle.files_model.specs.NameRows.{create_tests}
use Rattle.files_model.specs.Names.{has_name}
use Rattle.v7_map.specs.Image.{inode_sector}

-- No test before the name refuses, and no slot has the name.
pub record IsFreeName (files : Files) (dir : FileId) (name : List ℕ) (wanted : Sattr) (d : Node) : Type 0 where
  pub live : live files dir ≡ Some d
  pub tests : first_of (create_tests files d name wanted) ≡ None
  pub absent : position (has_name name) d.slots ≡ None

-- a store of so many sectors may have an inode of this number, which a slot can name
pub record CanBeNumber (sectors i : ℕ) : Type 0 where
  pub some : i ≢ 0
  pub short : i < 65536
  pub stands : inode_sector i < sectors

-- the replies of a call that answers a handle: a refusal, or a handle with attributes
abbrev pub IsHandleReply : Reply → Type 0
IsHandleReply (reply.Refused status) = Unit {0}
IsHandleReply (reply.Handle file attr) = Unit {0}
IsHandleReply _ = ⊥
