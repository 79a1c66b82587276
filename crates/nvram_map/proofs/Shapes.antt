-- How many words a board has, and which of them are its entries.
use Rattle.std.proofs.Common.{◌≡◌, ℕ, ◌+◌, ◌-◌, ◌<◌, Bool, length, get_or, sym, ◌∙◌, ap, arith, length-drop}
use Rattle.std.proofs.lemmas.List.{get_or-drop}
use Rattle.stable.specs.Moments.{IsClocked}
use Rattle.rig.specs.Devices.{Devices, Sizes, IsBoard, HasShape}
use Rattle.rig.specs.declared.rig.Rig.{Ghosts}
use Rattle.nvram_map.specs.Overlay.{entries}

-- what is there now is whole
pub shape_now : {R : Type 0} {tells : Type 0} {contents : R → Devices} {moment : R → ℕ} {left_since : R → ℕ → Devices → Type 0} {sizes : R → Sizes} → IsClocked tells contents moment left_since
    → ((r : R) (t : ℕ) (d : Devices) → left_since r t d → HasShape (sizes r) d) → (r : R) → tells → HasShape (sizes r) (contents r)
shape_now {contents = contents} {moment = moment} clocked shape r tells = shape r (moment r) (contents r) (clocked.now r (moment r) tells (omega arith))

-- one entry fewer than buffers
pub entry_count : (sizes : Sizes) (kept : Bool) (d : Devices) → IsBoard sizes kept → 0 < sizes.buffers → HasShape sizes d → length (entries d) ≡ sizes.buffers - 1
entry_count sizes kept d board some shape = omega (arith, board.some_words some, shape.words, length-drop 2 d.words)

-- of a rig with a board
pub entries_counted : {R : Type 0} (r : Ghosts R) → IsClocked r.tells r.contents r.moment r.left_since → ((rig : R) (t : ℕ) (d : Devices) → r.left_since rig t d → HasShape (r.sizes rig) d)
    → ((rig : R) → IsBoard (r.sizes rig) (r.is_kept rig)) → (rig : R) → 0 < (r.sizes rig).buffers → r.tells → length (entries (r.contents rig)) ≡ (r.sizes rig).buffers - 1
entries_counted r clocked shape board rig some tells = entry_count (r.sizes rig) (r.is_kept rig) (r.contents rig) (board rig) some (shape_now clocked shape rig tells)

-- the word that was loaded is the entry's
pub entry_loaded : (old d : Devices) (i word : ℕ) → d ≡ old → word ≡ get_or d.words (i + 2) 0 → word ≡ get_or (entries old) i 0
entry_loaded old d i word same loaded = loaded ∙ ap (λ (x : Devices). get_or x.words (i + 2) 0) same ∙ ap (λ k. get_or old.words k 0) flip ∙ sym (get_or-drop 2 old.words i 0)
  where
    flip : i + 2 ≡ 2 + i
    flip = omega arith
