-- What a LINK comes to before it is planned.
use Rattle.std.specs.Prelude.{◌≡◌, ◌<◌, ◌≤◌, ℕ, List, ◌∷◌, length, Option, Some, None, not}
use Rattle.std.specs.List.{position}
use Rattle.files_model.specs.declared.attributes.FileId.{FileId}
use Rattle.files_model.specs.declared.call.Call.TheVariants.{Link}
use Rattle.files_model.specs.declared.credential.Cred.{Cred}
use Rattle.files_model.specs.declared.reply.Reply.TheVariants as reply
use Rattle.files_model.specs.declared.reply.Stat.{Stat}
use Rattle.files_model.specs.declared.reply.Stat.TheVariants as stat
use Rattle.files_model.specs.Answers.{first_of}
use Rattle.files_model.specs.Files.{Node, live}
use Rattle.files_model.specs.Names.{name_tests, has_name, place_for}
use Rattle.files_model.specs.Permission.{is_directory}
use Rattle.files_model.specs.Step.{step}
use Rattle.plan_name.specs.Creations.{FitsSlot}
use Rattle.plan_name.specs.declared.making.Spot.{Spot}
use Rattle.stable.specs.Store.{Image}
use Rattle.v7_map.specs.View.{view, node_at}
use Rattle.v7_read.specs.Found.{IsFile}
use Rattle.v7_strokes.specs.Entries.{entry_sector}
use Rattle.plan_link.specs.declared.judging.Ends.{Ends}
use Rattle.plan_link.specs.declared.judging.Judged.{Judged}
use Rattle.plan_link.specs.declared.judging.Judged.TheVariants as judged

-- the call is refused so, whoever makes it and at whatever time
abbrev pub RefusesLink : Image → FileId → FileId → List ℕ → Stat → Type 0
RefusesLink image file dir name status = (cred : Cred) (now : ℕ) → step (view image) (Link file dir name) cred now ≡ (reply.Refused status, view image)

-- what the two handles find: a LINK is refused with STALE, or both files stand
abbrev pub FindsEnds : Image → FileId → FileId → Option Ends → Type 0
FindsEnds image file dir None = (name : List ℕ) → RefusesLink image file dir name stat.Stale
FindsEnds image file dir (Some ends) = IsFile image file ends.node × IsFile image dir ends.directory

-- Both stand, no test before the name refuses, and no slot of d has the name.
pub record MayLink (image : Image) (file dir : FileId) (name : List ℕ) (n d : Node) : Type 0 where
  pub live_file : live (view image) file ≡ Some n
  pub live : live (view image) dir ≡ Some d
  pub tests : first_of (((view image).read_only, stat.Rofs) ∷ (is_directory n.kind, stat.Isdir) ∷ (not (is_directory d.kind), stat.Notdir) ∷ name_tests name) ≡ None
  pub absent : position (has_name name) d.slots ≡ None

-- The new entry comes in this slot, the first empty one.
pub record LinksAtSpot (image : Image) (file dir : FileId) (name : List ℕ) (spot : Spot) : Type 0 where
  pub may : MayLink image file dir name (node_at image file.ino) (node_at image dir.ino)
  pub place : spot.index ≡ place_for (node_at image dir.ino).slots
  pub inside : place_for (node_at image dir.ino).slots < length (node_at image dir.ino).slots
  pub sector : spot.sector ≡ entry_sector image dir.ino spot.index

-- The new entry comes at the directory's end.
pub record LinksPastSlots (image : Image) (file dir : FileId) (name : List ℕ) : Type 0 where
  pub may : MayLink image file dir name (node_at image file.ino) (node_at image dir.ino)
  pub full : length (node_at image dir.ino).slots ≤ place_for (node_at image dir.ino).slots

-- what a LINK comes to before it is planned
abbrev pub JudgesLink : Image → FileId → FileId → List ℕ → Judged → Type 0
JudgesLink image file dir name (judged.Refused status) = RefusesLink image file dir name status
JudgesLink image file dir name (judged.InPlace spot) = (spot.directory ≡ dir) × LinksAtSpot image file dir name spot
JudgesLink image file dir name judged.AtEnd = LinksPastSlots image file dir name

-- a slot of this directory can have the name, and stands past the super-block within so many sectors
abbrev pub JudgedWithin : ℕ → FileId → List ℕ → Judged → Type 0
JudgedWithin sectors dir name (judged.Refused status) = Unit {0}
JudgedWithin sectors dir name (judged.InPlace spot) = (spot.directory ≡ dir) × (2 ≤ spot.sector) × (spot.sector < sectors) × FitsSlot name
JudgedWithin sectors dir name judged.AtEnd = FitsSlot name
