-- What a crash may have left of devices whose changes are recorded, each with what was there before.
use Rattle.std.specs.Prelude.{◌≡◌, ◌⊎◌, ℕ, zero, suc, List, [], ◌∷◌}
use Rattle.rig.specs.Devices.{Devices, with_sector, with_word, with_buffer, with_kept}
use Rattle.rig_mem.specs.declared.change.Change.{Change}
use Rattle.rig_mem.specs.declared.change.Change.TheVariants.{Sector, Word, Buffer, Kept}

-- what was there before the change
abbrev pub undone : Change → Devices → Devices
undone (Sector i before after) d = with_sector d i before
undone (Word i before after) d = with_word d i before
undone (Buffer i before) d = with_buffer d i before
undone (Kept before) d = record d { kept = before }

-- what a crash in that call may leave besides what stood there before and after it
abbrev pub Cut : Change → Devices → Devices → Type 0
Cut (Sector i before after) now d = d ≡ with_sector now i after
Cut (Word i before after) now d = d ≡ with_word now i after
Cut (Buffer i before) now d = (bytes : List ℕ) × (d ≡ with_buffer now i bytes)
Cut (Kept before) now d = d ≡ with_kept now

-- what a crash may leave now, or in one of the last n changes, the newest of which stands first
abbrev pub LeftSince : ℕ → List Change → Devices → Devices → Type 0
LeftSince zero changes now d = d ≡ now
LeftSince (suc n) [] now d = d ≡ now
LeftSince (suc n) (change ∷ changes) now d = (d ≡ now) ⊎ Cut change now d ⊎ LeftSince n changes (undone change now) d
