-- Slots of a sector that pass a test.
use Rattle.std.specs.Prelude.{◌≡◌, ◌<◌, ◌≤◌, ℕ, Bool, true, false, List, Option, Some, None}
use Rattle.std.specs.Option.{is_some}
use Rattle.files_model.specs.Files.{Slot}
use Rattle.files_model.specs.Names.{number_of}
use Rattle.v7_dir.specs.Slots.{slot_in}
use Rattle.v7_entries.specs.declared.sector.Hit.{Hit}

-- one of the first slots passes, and none before it does
pub record IsHit (passes : Slot → Bool) (bytes : List ℕ) (count : ℕ) (hit : Hit) : Type 0 where
  pub within : hit.index < count
  pub here : passes (slot_in bytes hit.index) ≡ true
  pub before : (k : ℕ) → k < hit.index → passes (slot_in bytes k) ≡ false
  pub number : hit.ino ≡ number_of (slot_in bytes hit.index)

-- the first of so many slots that passes, if one does
abbrev pub HitsIn : (Slot → Bool) → List ℕ → ℕ → Option Hit → Type 0
HitsIn passes bytes count None = (k : ℕ) → k < count → passes (slot_in bytes k) ≡ false
HitsIn passes bytes count (Some hit) = IsHit passes bytes count hit

-- whether one of the slots from one on and before another isn't empty
abbrev pub HasUsed : List ℕ → ℕ → ℕ → Bool → Type 0
HasUsed bytes from count true = (k : ℕ) × (from ≤ k) × (k < count) × (is_some (slot_in bytes k) ≡ true)
HasUsed bytes from count false = (k : ℕ) → from ≤ k → k < count → is_some (slot_in bytes k) ≡ false
