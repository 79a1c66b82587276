-- The puts of a creation, each said of the image so far.
use Rattle.std.specs.Prelude.{◌≡◌, ℕ, ◌+◌, ◌/◌, ◌<◌, ◌≤◌, List, [], ◌∷◌, ◌++◌, length, Some}
use Rattle.std.specs.Option.{unwrap_or}
use Rattle.std.specs.FinMap.{get}
use Rattle.v7_layout.specs.declared.inode.Inode.{Inode}
use Rattle.files_model.specs.Files.{Node}
use Rattle.files_model.specs.Names.{place_for}
use Rattle.files_model.specs.Space.{size_limit}
use Rattle.files_model.specs.Torn.{Asked}
use Rattle.stable.specs.Puts.{put_all}
use Rattle.stable.specs.Store.{Image}
use Rattle.v7_map.specs.Image.{sector_at, inode_at}
use Rattle.v7_map.specs.Frame.{Place, Body}
use Rattle.v7_map.specs.Plan.{PutsInode}
use Rattle.v7_map.specs.View.{view}
use Rattle.v7_plans.specs.Quiet.{AllMuted}
use Rattle.v7_plans.specs.Setting.{put_inode}
use Rattle.v7_strokes.specs.Entries.{entry_sector, inode_put, put_entry}
use Rattle.v7_strokes.specs.Inodes.{longer_inode, timed_inode}
use Rattle.v7_strokes.specs.NewNodes.{IsNewFile}
use Rattle.v7_strokes.specs.Slots.{PutsSlot, GrowsBy}
use Rattle.name_plans.specs.Lengthening.{PutsLonger}
use Rattle.name_plans.specs.Making.{IsMaking}

-- A new file whose entry takes an empty slot: its inode, the slot's sector, the directory's times.
pub record MakesInPlace (image : Image) (asked : Asked) (now p : ℕ) (name : List ℕ) (d : Node) (i : ℕ) (m : Node) (n : Inode) (b1 b2 b3 : List ℕ) : Type 0 where
  pub making : IsMaking (view image) asked now p name d i m
  pub new : IsNewFile image i n m
  pub raised : n.generation ≡ unwrap_or (get (view image).generations i) 0 + 1
  pub inside : place_for d.slots < length d.slots
  pub inode : PutsInode image i b1 n
  pub entry : PutsSlot (sector_at (put_inode image i b1) (entry_sector (put_inode image i b1) p (place_for d.slots))) (place_for d.slots) b2 (Some (i, name))
  pub times : PutsInode (put_entry (put_inode image i b1) p (place_for d.slots) b2) p b3 (timed_inode (inode_at (put_entry (put_inode image i b1) p (place_for d.slots) b2) p) now)

-- A new file whose entry makes the directory longer: its inode, puts that don't show yet, the directory's inode.
pub record MakesAtEnd (image : Image) (asked : Asked) (now p : ℕ) (name : List ℕ) (d : Node) (i : ℕ) (m : Node) (n g : Inode) (b1 b3 : List ℕ) (inner : List (ℕ × List ℕ)) : Type 0 where
  pub making : IsMaking (view image) asked now p name d i m
  pub new : IsNewFile image i n m
  pub raised : n.generation ≡ unwrap_or (get (view image).generations i) 0 + 1
  pub full : length d.slots ≤ place_for d.slots
  pub inode : PutsInode image i b1 n
  pub muted : AllMuted p inner (put_inode image i b1)
  pub grows : GrowsBy (put_all inner (put_inode image i b1)) p (length d.slots) g (Some (i, name))
  pub times : g ≡ record (inode_at (put_all inner (put_inode image i b1)) p) { size = g.size; direct = g.direct; single = g.single; mtime = now; ctime = now }
  pub directory : PutsInode (put_all inner (put_inode image i b1)) p b3 g

-- the puts of a creation in place
abbrev pub in_place_puts : Image → ℕ → Node → ℕ → List ℕ → List ℕ → List ℕ → List (ℕ × List ℕ)
in_place_puts image p d i b1 b2 b3 = inode_put i b1 ∷ (entry_sector (put_inode image i b1) p (place_for d.slots), b2) ∷ inode_put p b3 ∷ []

-- the image after the new inode, and the puts of the slot's sector and a block of addresses
abbrev pub longer_image : Image → Node → ℕ → (Place → ℕ) → List ℕ → List ℕ → List (ℕ × List ℕ) → Image
longer_image image d i target b1 b2 maps = put_all ((target (Body (length d.slots / 32)), b2) ∷ maps) (put_inode image i b1)

-- A new file whose entry makes the directory longer, where the blocks of the directory are to stand at these places: its inode, the new slot's sector, the block of addresses if it changes, the directory's inode.
pub record MakesLonger (image : Image) (asked : Asked) (now p : ℕ) (name : List ℕ) (d : Node) (i : ℕ) (m : Node) (n : Inode) (target : Place → ℕ) (b1 b2 : List ℕ) (maps : List (ℕ × List ℕ)) (direct : List ℕ) (single : ℕ) (b3 : List ℕ) : Type 0 where
  pub making : IsMaking (view image) asked now p name d i m
  pub new : IsNewFile image i n m
  pub raised : n.generation ≡ unwrap_or (get (view image).generations i) 0 + 1
  pub full : length d.slots ≤ place_for d.slots
  pub room : d.size + 16 ≤ size_limit
  pub inode : PutsInode image i b1 n
  pub longer : PutsLonger (put_inode image i b1) p (length d.slots) (Some (i, name)) target b2 maps direct single
  pub directory : PutsInode (longer_image image d i target b1 b2 maps) p b3 (longer_inode (inode_at (longer_image image d i target b1 b2 maps) p) direct single now)

-- the puts of a creation at the end
abbrev pub longer_puts : ℕ → Node → ℕ → (Place → ℕ) → List ℕ → List ℕ → List (ℕ × List ℕ) → List ℕ → List (ℕ × List ℕ)
longer_puts p d i target b1 b2 maps b3 = inode_put i b1 ∷ (((target (Body (length d.slots / 32)), b2) ∷ maps) ++ inode_put p b3 ∷ [])
