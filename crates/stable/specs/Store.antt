-- What a store of sectors shows (docs/DEVICES.md, "Stores").
use Rattle.std.specs.Prelude.{◌≡◌, ◌⊎◌, ◌<◌, ◌≤◌, ℕ, List, [], length, get_or, set, take, drop}

-- the sectors in order, each a list of bytes
abbrev pub Image : Type 0
Image = List (List ℕ)

-- so many sectors, each of 512 bytes
pub record HasSectors (count : ℕ) (image : Image) : Type 0 where
  pub size : length image ≡ count
  pub long : (s : ℕ) → s < count → length (get_or image s []) ≡ 512

-- what only looks leaves the image as it is
abbrev pub Same : Image → Image → Type 0
Same old image = image ≡ old

-- a put, done, failed or cut: that sector is old or new, and all others are as they were
abbrev pub SectorPut : ℕ → List ℕ → Image → Image → Type 0
SectorPut sector bytes old image = (image ≡ old) ⊎ (image ≡ set old sector bytes)

-- the volume's name, bytes 434 to 439 of its super-block (filsys(5), s_fpack)
abbrev pub name_in : List ℕ → List ℕ
name_in super_block = take 6 (drop 434 super_block)

-- these bytes in this sector leave the name as it is
abbrev pub KeepsName : ℕ → List ℕ → Image → Type 0
KeepsName sector bytes image = sector ≡ 1 → name_in bytes ≡ name_in (get_or image 1 [])

-- what each crash since an earlier moment leaves could be opened again, and still can
abbrev pub StaysOpenable : {S : Type 0} → (S → ℕ → Type 0) → (S → ℕ) → S → S → Type 0
StaysOpenable {S} opens_since moment old new = (t : ℕ) → t ≤ moment old → opens_since old t → opens_since new t
