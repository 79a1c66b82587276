-- Where the name of a SYMLINK comes, by what is found of its directory.
use Rattle.std.proofs.Common.{◌≡◌, ◌<◌, ℕ, List, Some, None, length, sym, subst}
use Rattle.files_model.specs.declared.attributes.FileId.{FileId}
use Rattle.files_model.specs.Files.{Node, live}
use Rattle.stable.specs.Store.{Image}
use Rattle.v7_map.specs.Frame.{frame}
use Rattle.v7_map.specs.View.{view}
use Rattle.v7_map.specs.Weak.{IsStrong}
use Rattle.v7_read.specs.Found.{IsFile}
use Rattle.v7_read.specs.declared.found.Found.{Found}
use Rattle.name_places.specs.Places.{IsFreeAt, IsNamePlace}
use Rattle.name_places.specs.declared.place.NamePlace.{NamePlace}
use Rattle.plan_name.specs.declared.making.Spot.{Spot}
use Rattle.plan_symlink.specs.Making.{IsEmptyAt}

pub place-empty : (image : Image) (dir : FileId) (name : List ℕ) (d : Node) (spot : Spot) → IsFreeAt image dir name d spot → IsEmptyAt image dir.ino spot.index spot.sector d
place-empty image dir name d spot at = record { place = at.place; inside = subst (λ k. k < length d.slots) (sym at.place) at.inside; stands = at.sector }

-- what is found in an image that is the same is found in this one
pub place-same : (image other : Image) (same : other ≡ image) (dir : FileId) (name : List ℕ) (found : Found) (d : Node) (place : NamePlace)
    → (IsStrong (frame other) → IsFile other dir found → live (view other) dir ≡ Some d → IsNamePlace other dir name d place)
    → IsStrong (frame image) → IsFile image dir found → live (view image) dir ≡ Some d → IsNamePlace image dir name d place
place-same image other same dir name found d place h = subst (λ (z : Image). IsStrong (frame z) → IsFile z dir found → live (view z) dir ≡ Some d → IsNamePlace z dir name d place) same h
