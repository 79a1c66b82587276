-- Other attributes and another size for a node, and the inode that stores them.
use Rattle.std.specs.Prelude.{◌≡◌, ◌≢◌, ℕ, ◌-◌, ◌*◌, ◌/◌, ◌%◌, ◌<◌, ◌≤◌, true, false, List, length, not, ◌==◌}
use Rattle.std.specs.List.{range_with_len, list_any}
use Rattle.v7_layout.specs.declared.inode.Inode.{Inode}
use Rattle.v7_layout.specs.Numbers.{field}
use Rattle.files_model.specs.Attributes.{cut_at}
use Rattle.files_model.specs.Files.{Node, sectors_of, clipped}
use Rattle.files_model.specs.Permission.{is_directory, is_link}
use Rattle.files_model.specs.Space.{size_limit}
use Rattle.stable.specs.Store.{Image}
use Rattle.v7_map.specs.Frame as map
use Rattle.v7_map.specs.Frame.{Place, Body, Single, Double, head_of, address_of, frame}
use Rattle.v7_map.specs.Image.{sector_at, inode_at}

-- The node m is n with other attributes and another size; only a file has another size, and what it holds is cut there.
pub record IsResized (n m : Node) : Type 0 where
  pub same : m ≡ record n { mode = m.mode; uid = m.uid; gid = m.gid; size = m.size; atime = m.atime; mtime = m.mtime; ctime = m.ctime; sectors = m.sectors }
  pub sectors : is_directory n.kind ≡ false → m.sectors ≡ cut_at m.size n.sectors
  pub directory : is_directory n.kind ≡ true → (m.size ≡ n.size) × (m.sectors ≡ n.sectors)
  pub link : is_link n.kind ≡ true → m.size ≡ n.size
  pub within : m.size ≤ size_limit

-- v is inode i with the attributes of m, and other addresses
pub record StoresNode (image : Image) (i : ℕ) (m : Node) (v : Inode) : Type 0 where
  pub is : v ≡ record (inode_at image i) { mode = v.mode; uid = m.uid; gid = m.gid; size = m.size; direct = v.direct; single = v.single; atime = m.atime; mtime = m.mtime; ctime = m.ctime }
  pub type : v.mode / 4096 ≡ (inode_at image i).mode / 4096
  pub bits : v.mode % 4096 ≡ m.mode

-- The blocks of v are some of inode i, and all of those below its size; a directory keeps its own.
pub record KeepsBlocks (image : Image) (i : ℕ) (v : Inode) : Type 0 where
  pub body : (k : ℕ) → address_of image (head_of v) (Body k) ≢ 0 → address_of image (head_of v) (Body k) ≡ (frame image).address i (Body k)
  pub single : address_of image (head_of v) Single ≢ 0 → address_of image (head_of v) Single ≡ (frame image).address i Single
  pub below : (k : ℕ) → k < sectors_of v.size → address_of image (head_of v) (Body k) ≡ (frame image).address i (Body k)
  pub directory : map.is_directory (head_of v) ≡ true → (v.direct ≡ (inode_at image i).direct) × (v.single ≡ (inode_at image i).single)

-- v has no block past its size
pub record IsCut (image : Image) (v : Inode) : Type 0 where
  pub past : (k : ℕ) → sectors_of v.size ≤ k → address_of image (head_of v) (Body k) ≡ 0
  pub single_needed : address_of image (head_of v) Single ≢ 0 → list_any (λ k. not (address_of image (head_of v) (Body k) == 0)) (range_with_len 10 128) ≡ true

-- no sector of inode i has bytes other than zeros between its size and this one
abbrev pub IsCleanTo : Image → ℕ → ℕ → Type 0
IsCleanTo image i size = (k : ℕ) → k < sectors_of size → (frame image).address i (Body k) ≢ 0
    → clipped size k (sector_at image ((frame image).address i (Body k))) ≡ clipped size k (clipped (inode_at image i).size k (sector_at image ((frame image).address i (Body k))))

-- The block of addresses a of file i, as bytes that have the addresses below the size of v and no others; `left` is a sector that keeps its own.
pub record CutsAddresses (image : Image) (i : ℕ) (v : Inode) (a left : ℕ) (bytes : List ℕ) : Type 0 where
  pub long : length bytes ≡ 512
  pub single : address_of image (head_of v) Single ≡ a
  pub there : a ≢ 0
  pub direct : (k : ℕ) → k < 10 → sectors_of v.size ≤ k → address_of image (head_of v) (Body k) ≡ 0
  pub stays : (k : ℕ) → 10 ≤ k → k < 138 → k < sectors_of v.size → field bytes (4 * (k - 10)) 4 ≡ (frame image).address i (Body k)
  pub gone : (k : ℕ) → 10 ≤ k → k < 138 → sectors_of v.size ≤ k → field bytes (4 * (k - 10)) 4 ≡ 0
  pub high : 10 ≤ left
  pub small : left < 138
  pub below : left < sectors_of v.size
  pub some : (frame image).address i (Body left) ≢ 0

-- where blocks stand after that: those of file i by v and these bytes, all others where they did
pub record AreLeft (old new : Image) (i : ℕ) (v : Inode) (a : ℕ) (bytes : List ℕ) : Type 0 where
  pub direct : (k : ℕ) → k < 10 → (frame new).address i (Body k) ≡ address_of old (head_of v) (Body k)
  pub listed : (k : ℕ) → 10 ≤ k → k < 138 → (frame new).address i (Body k) ≡ field bytes (4 * (k - 10)) 4
  pub past : (k : ℕ) → 138 ≤ k → (frame new).address i (Body k) ≡ 0
  pub single : (frame new).address i Single ≡ a
  pub double : (frame new).address i Double ≡ 0
  pub others : (j : ℕ) → j ≢ i → (p : Place) → (frame new).address j p ≡ (frame old).address j p

-- where blocks stand once v is put on an image: those of file i by v, all others where they did
pub record AreSet (old new : Image) (i : ℕ) (v : Inode) : Type 0 where
  pub own : (p : Place) → (frame new).address i p ≡ address_of old (head_of v) p
  pub others : (j : ℕ) → j ≢ i → (p : Place) → (frame new).address j p ≡ (frame old).address j p
