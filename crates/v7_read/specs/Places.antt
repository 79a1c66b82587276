-- The blocks at the places of an inode, as they are read.
use Rattle.std.specs.Prelude.{◌≡◌, ◌<◌, ℕ, ◌-◌, ◌*◌, List, get_or, nat_lt, ◌==◌, if◌then◌else◌}
use Rattle.v7_layout.specs.declared.inode.Inode.{Inode}
use Rattle.v7_layout.specs.Numbers.{field}
use Rattle.stable.specs.Store.{Image}
use Rattle.v7_map.specs.Frame.{listed, head_of, address_of}
use Rattle.v7_map.specs.Damage.{place_at}

-- these bytes list the addresses that stand in a block
pub record IsListing (image : Image) (block : ℕ) (bytes : List ℕ) : Type 0 where
  pub each : (n : ℕ) → n < 128 → field bytes (4 * n) 4 ≡ listed image block n

-- the block at the n-th place of a used inode whose block of addresses has these bytes
abbrev pub block_in : Inode → List ℕ → ℕ → ℕ
block_in inode bytes n = if nat_lt n 10 then get_or inode.direct n 0 else if n == 10 then inode.single else if nat_lt n 139 then field bytes (4 * (n - 11)) 4 else inode.double

-- the blocks at the 140 places of an inode in the order of the tests, as the frame of an image has them, 0 for none
pub record ArePlaces (image : Image) (inode : Inode) (places : List ℕ) : Type 0 where
  pub each : (n : ℕ) → n < 140 → get_or places n 0 ≡ address_of image (head_of inode) (place_at n)
