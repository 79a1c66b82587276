-- What a LINK comes to.
use Rattle.std.specs.Prelude.{◌≡◌, ℕ, Bool, List, [], ◌∷◌, Some}
use Rattle.files_model.specs.declared.attributes.FileId.{FileId}
use Rattle.files_model.specs.declared.credential.Cred.{Cred}
use Rattle.files_model.specs.Files.{Node}
use Rattle.files_model.specs.Names.{place_for}
use Rattle.files_model.specs.Torn.{Asked}
use Rattle.name_plans.specs.Linking.{IsLink}
use Rattle.name_plans.specs.Taken.{taken}
use Rattle.stable.specs.Puts.{put_all}
use Rattle.stable.specs.Store.{Image}
use Rattle.v7_map.specs.Plans.{IsPlanOf}
use Rattle.v7_map.specs.View.{view}
use Rattle.v7_sets.specs.Sets.{AreSetsOf}
use Rattle.v7_strokes.specs.Over.{slot_from}
use Rattle.plan_name.specs.declared.creating_puts.Entry.{Entry}
use Rattle.plan_link.specs.declared.link_puts.NewLink.{NewLink}

-- the entry of a new name
abbrev pub entry_of : NewLink → Entry
entry_of link = record { directory = link.spot.directory.ino; index = link.spot.index; sector = link.spot.sector; slot = link.slot }

-- LINK gives node n this new name, in d.
pub record Links (image : Image) (link : NewLink) (name : List ℕ) (cred : Cred) (now : ℕ) (n d : Node) : Type 0 where
  pub accepted : IsLink (view image) link.file link.spot.directory name cred now n d
  pub place : link.spot.index ≡ place_for d.slots
  pub slot : slot_from link.slot ≡ Some (link.file.ino, name)

-- The puts are the plan of the call, and afterwards the sets are exact without these blocks.
pub record IsPlannedLink (image : Image) (asked : Asked) (now : ℕ) (new : List ℕ) (puts : List (ℕ × List ℕ)) : Type 0 where
  pub plan : IsPlanOf image (asked ∷ []) now puts
  pub sets : (blocks inodes : List Bool) → AreSetsOf image blocks inodes → AreSetsOf (put_all puts image) (taken new blocks) inodes
