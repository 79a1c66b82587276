-- Where a name stands in a directory that a handle finds, by the records of an image with nothing to mend.
use Rattle.std.proofs.Common.{◌≡◌, ℕ, ◌/◌, ◌≤◌, ◌<◌, Bool, true, false, cond, List, length, Option, Some, None, refl, sym, ap, subst, ◌∙◌, ltb, unwrap_or, arith}
use Rattle.std.specs.List.{position, position_or_len}
use Rattle.std.specs.Option.{is_none}
use Rattle.files_model.specs.declared.attributes.FileId.{FileId}
use Rattle.files_model.specs.Files.{Node, live}
use Rattle.files_model.specs.Names.{has_name, place_for}
use Rattle.files_model.specs.Permission.{is_directory}
use Rattle.stable.specs.Store.{Image}
use Rattle.v7_layout.specs.declared.inode.Inode.{Inode}
use Rattle.v7_read.specs.Found.{IsFile}
use Rattle.v7_read.specs.declared.found.Found.{Found}
use Rattle.v7_map.specs.Frame.{frame}
use Rattle.v7_map.specs.View.{view, node_at, kind_of}
use Rattle.v7_map.specs.Weak.{IsStrong}
use Rattle.v7_entries.specs.Bodies.{HasBody, slots_at}
use Rattle.v7_entries.specs.Found.{IsNamedSlot, IsEmptySlot, FindsEmpty}
use Rattle.v7_entries.specs.declared.empty.EmptySlot.{EmptySlot}
use Rattle.v7_entries.specs.declared.named.NamedSlot.{NamedSlot}
use Rattle.plan_name.proofs.FoundDirectory.{found-live, found-body, found-slots, found-first, found-sector, found-past, found-number, entry-inode, entry-used}
use Rattle.std.specs.Prelude.{Result, IfOk}
use Rattle.stable.specs.declared.failure.Failed.{Failed}
use Rattle.name_places.specs.Places.{IsTakenBy, IsFreeAt, IsFreeAtEnd, IsNamePlace}
use Rattle.name_places.specs.declared.place.NamePlace.{NamePlace}

cond_some : (b : Bool) (x k : ℕ) → cond b (Some x) None ≡ Some k → (b ≡ true) × (x ≡ k)
cond_some true x k e = (refl, cc)
cond_some false x k e = absurd (cc)

cond_none : (b : Bool) (x : ℕ) → cond b (Some x) None ≡ None → b ≡ false
cond_none true x e = absurd (cc)
cond_none false x e = refl

below : (a b : ℕ) → ltb a b ≡ true → a < b
below a b e = grind arith

not_below : (a b : ℕ) → ltb a b ≡ false → b ≤ a
not_below a b e = grind arith

module _ (image : Image) (dir : FileId) (found : Found) (strong : IsStrong (frame image)) (is : IsFile image dir found)
    (d : Node) (at : live (view image) dir ≡ Some d) (kind : is_directory d.kind ≡ true) where
  same : d ≡ node_at image dir.ino
  same = ap (λ (o : Option Node). unwrap_or o d) (sym at ∙ found-live image dir found strong is)

  kind_there : is_directory (kind_of (found.inode.mode / 4096)) ≡ true
  kind_there = ap (λ (m : Inode). is_directory (kind_of (m.mode / 4096))) is.inode ∙ ap (λ (n : Node). is_directory n.kind) (sym same) ∙ kind

  pub place-body : HasBody image found.inode
  place-body = found-body image dir found strong is kind_there

  slots_there : slots_at image found.inode ≡ d.slots
  slots_there = found-slots image dir found strong is kind_there ∙ ap (λ (n : Node). n.slots) (sym same)

  module _ (name : List ℕ) where
    pub place-absent : position (has_name name) (slots_at image found.inode) ≡ None → position (has_name name) d.slots ≡ None
    place-absent e = ap (position (has_name name)) (sym slots_there) ∙ e

    module _ (entry : NamedSlot) (named : IsNamedSlot image found.inode name entry) where
      pub taken-past : 2 ≤ entry.sector
      taken-past = found-past image dir found strong is kind_there (has_name name) entry.slot entry.sector named.first named.sector

      pub taken-is : IsTakenBy image dir.ino name d entry
      taken-is = subst (λ n. IsTakenBy image dir.ino name n entry) (sym same) (record {
        first = found-first image dir found strong is kind_there (has_name name) entry.slot entry.sector named.first named.sector;
        number = found-number image dir found strong is kind_there name entry named;
        sector = found-sector image dir found strong is kind_there (has_name name) entry.slot entry.sector named.first named.sector;
        inode = entry-inode image dir found strong is kind_there name entry named;
        used = entry-used image dir found strong is kind_there name entry named;
      })

    module _ (absent : position (has_name name) d.slots ≡ None) where
      pub spot-past : (empty : EmptySlot) → IsEmptySlot image found.inode empty → 2 ≤ empty.sector
      spot-past empty e = found-past image dir found strong is kind_there is_none empty.slot empty.sector e.first e.sector

      pub spot-is : (empty : EmptySlot) → IsEmptySlot image found.inode empty → IsFreeAt image dir name d record { directory = dir; index = empty.slot; sector = empty.sector }
      spot-is empty e =
          let first = ap (position is_none) (sym slots_there) ∙ e.first in
          let place = cond_some (ltb (position_or_len is_none d.slots) (length d.slots)) (position_or_len is_none d.slots) empty.slot first in record {
            absent = absent;
            directory = refl;
            place = sym place.1;
            inside = below (position_or_len is_none d.slots) (length d.slots) place.0;
            sector = found-sector image dir found strong is kind_there is_none empty.slot empty.sector e.first e.sector;
          }

      pub end-is : position is_none (slots_at image found.inode) ≡ None → IsFreeAtEnd name d
      end-is none = record {
        absent = absent;
        full = not_below (position_or_len is_none d.slots) (length d.slots) (cond_none (ltb (position_or_len is_none d.slots) (length d.slots)) (position_or_len is_none d.slots) (ap (position is_none) (sym slots_there) ∙ none));
      }

-- what is found after a look is found before it
pub free-looked : (image after : Image) → after ≡ image → (dir : FileId) (found : Found) (name : List ℕ) (d : Node) (result : Result NamePlace Failed)
    → (IsStrong (frame after) → IsFile after dir found → live (view after) dir ≡ Some d → IfOk result (IsNamePlace after dir name d))
    → IsStrong (frame image) → IsFile image dir found → live (view image) dir ≡ Some d → IfOk result (IsNamePlace image dir name d)
free-looked image after same dir found name d result = subst (λ (x : Image). (IsStrong (frame x) → IsFile x dir found → live (view x) dir ≡ Some d → IfOk result (IsNamePlace x dir name d))
    → IsStrong (frame image) → IsFile image dir found → live (view image) dir ≡ Some d → IfOk result (IsNamePlace image dir name d)) (sym same) (λ h strong is at. h strong is at)
