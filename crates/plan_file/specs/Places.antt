-- The places of an inode, as they are read.
use Rattle.std.specs.Prelude.{◌≡◌, ◌≢◌, ℕ, ◌+◌, ◌<◌, ◌≤◌, List, get_or, nat_lt, nat_le, ◌==◌, if◌then◌else◌, ◌&&◌}
use Rattle.v7_layout.specs.declared.inode.Inode.{Inode}
use Rattle.stable.specs.Store.{Image}
use Rattle.v7_map.specs.Frame.{Body, Single, head_of, address_of}
use Rattle.plan_file.specs.declared.places.Places.{Places}

-- an address; one of the first two sectors, or at or past the end of a store of so many sectors, is none
abbrev pub place_within : ℕ → ℕ → ℕ
place_within sectors a = if nat_le 2 a && nat_lt a sectors then a else 0

-- the address of sector k among the places of an inode, none where there is no block of addresses
abbrev pub stored_place : List ℕ → ℕ → ℕ → ℕ
stored_place places single k = if nat_lt k 10 then get_or places k 0 else if single == 0 then 0 else get_or places (k + 1) 0

-- the block of addresses
abbrev pub map_place : Image → ℕ → Inode → ℕ
map_place image sectors n = place_within sectors (address_of image (head_of n) Single)

-- the block of sector k: none past the tenth where there is no block of addresses
abbrev pub body_place : Image → ℕ → Inode → ℕ → ℕ
body_place image sectors n k = if nat_le 10 k && (map_place image sectors n == 0) then 0 else place_within sectors (address_of image (head_of n) (Body k))

-- the places of a file
pub record ArePlaces (image : Image) (sectors : ℕ) (n : Inode) (places : Places) : Type 0 where
  pub body : (k : ℕ) → k < 138 → get_or places.body k 0 ≡ body_place image sectors n k
  pub single : places.single ≡ map_place image sectors n

-- each stands past the super-block, and within so many sectors
pub record AreWithin (sectors : ℕ) (places : Places) : Type 0 where
  pub body : (k : ℕ) → get_or places.body k 0 ≢ 0 → (2 ≤ get_or places.body k 0) × (get_or places.body k 0 < sectors)
  pub single : places.single ≢ 0 → (2 ≤ places.single) × (places.single < sectors)

-- past the tenth sector they stand only beside a block of addresses
abbrev pub AreThrough : Places → Type 0
AreThrough places = (k : ℕ) → 10 ≤ k → get_or places.body k 0 ≢ 0 → places.single ≢ 0
