-- The puts by which a directory gets longer by a slot.
use Rattle.std.specs.Prelude.{◌≡◌, ◌≢◌, ℕ, ◌-◌, ◌*◌, ◌/◌, ◌<◌, ◌≤◌, List, [], ◌∷◌, length, get_or, ◌==◌, if◌then◌else◌}
use Rattle.files_model.specs.Answers.{zeros}
use Rattle.files_model.specs.Files.{Slot}
use Rattle.stable.specs.Store.{Image}
use Rattle.v7_layout.specs.Numbers.{field}
use Rattle.v7_map.specs.Frame.{Frame, Place, Body, Single, frame}
use Rattle.v7_map.specs.Image.{sector_at}
use Rattle.v7_strokes.specs.Slots.{PutsSlot}
use Rattle.v7_strokes.specs.Targets.{IsTarget}

-- The put of a block of addresses, with those where the sectors are to stand: none where the new sector isn't reached through it, or none is new.
pub data MapPuts (f : Frame) (d q : ℕ) (target : Place → ℕ) (maps : List (ℕ × List ℕ)) : Type 0 where
  same : (f.address d (Body q) ≡ 0 → q < 10) → target Single ≡ f.address d Single → maps ≡ [] → MapPuts f d q target maps
  changed : (bytes : List ℕ) → 10 ≤ q → f.address d (Body q) ≡ 0 → target Single ≢ 0 → length bytes ≡ 512
      → ((l : ℕ) → 10 ≤ l → l < 138 → field bytes (4 * (l - 10)) 4 ≡ target (Body l)) → maps ≡ (target Single, bytes) ∷ [] → MapPuts f d q target maps

-- Slot k of directory d becomes s, past its size: its sector, in the last one or in a new block, and the block of addresses. These are the blocks that the inode is to give.
pub record PutsLonger (image : Image) (d k : ℕ) (s : Slot) (target : Place → ℕ) (bytes : List ℕ) (maps : List (ℕ × List ℕ)) (direct : List ℕ) (single : ℕ) : Type 0 where
  pub lays : IsTarget (frame image) d (k / 32) target
  pub slot : PutsSlot (if (frame image).address d (Body (k / 32)) == 0 then zeros else sector_at image (target (Body (k / 32)))) k bytes s
  pub map : MapPuts (frame image) d (k / 32) target maps
  pub own : (l : ℕ) → l < 10 → get_or direct l 0 ≡ target (Body l)
  pub through : single ≡ target Single
