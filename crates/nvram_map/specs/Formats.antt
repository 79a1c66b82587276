-- What formatting makes of a board, and what it leaves in between.
use Rattle.std.specs.Prelude.{◌≡◌, ◌⊎◌, ◌+◌, ◌-◌, ◌≤◌, ℕ, List, ◌∷◌, ◌++◌, length, get_or, take, drop, replicate}
use Rattle.rig.specs.Devices.{Devices}
use Rattle.nvram_map.specs.Words.{mark}

-- the same disk, buffers and mark of being kept, with other words
abbrev pub with_words : Devices → List ℕ → Devices
with_words d words = record d { words = words }

-- the first n entries are 0
abbrev pub freed : ℕ → List ℕ → List ℕ
freed n words = take 2 words ++ replicate n 0 ++ drop (n + 2) words

-- a head, and each entry is 0
abbrev pub empty_words : ℕ → ℕ → List ℕ → List ℕ
empty_words first second words = first ∷ second ∷ replicate (length words - 2) 0

-- with the head that it has
abbrev pub emptied : Devices → Devices
emptied d = with_words d (empty_words (get_or d.words 0 0) (get_or d.words 1 0) d.words)

-- and with another name
abbrev pub named : ℕ → Devices → Devices
named name d = with_words d (empty_words (get_or d.words 0 0) name d.words)

-- a board of that name without an entry
abbrev pub formatted : ℕ → Devices → Devices
formatted name d = with_words d (empty_words mark name d.words)

-- the first entries up to some one are 0
abbrev pub PartlyFreed : Devices → Devices → Type 0
PartlyFreed old d = (n : ℕ) × (n + 2 ≤ length old.words) × (d ≡ with_words old (freed n old.words))

-- how far formatting came: some entries, or all and the name, or all, the name and the mark
abbrev pub PartlyFormatted : ℕ → Devices → Devices → Type 0
PartlyFormatted name old d = PartlyFreed old d ⊎ ((d ≡ named name old) ⊎ (d ≡ formatted name old))
