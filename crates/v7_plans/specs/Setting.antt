-- A call that changes one node alone, as SETATTR and a set size of CREATE do.
use Rattle.std.specs.Prelude.{◌≡◌, ◌≢◌, ℕ, ◌≤◌, true, false, not, ◌==◌, List, [], ◌∷◌, set, Some}
use Rattle.std.specs.List.{range_with_len, list_any}
use Rattle.std.specs.FinMap.{get}
use Rattle.v7_layout.specs.declared.inode.Inode.{Inode}
use Rattle.files_model.specs.Files.{Node, Files, sectors_of}
use Rattle.files_model.specs.Step.{with_node}
use Rattle.files_model.specs.Torn.{Asked, after_calls}
use Rattle.stable.specs.Puts.{put_all}
use Rattle.stable.specs.Store.{Image}
use Rattle.v7_map.specs.Image.{inode_at, inode_sector}
use Rattle.v7_map.specs.Frame.{Place, Body, Single, head_of, is_directory, address_of, slots_of, frame}
use Rattle.v7_map.specs.Tree.{tree}
use Rattle.v7_map.specs.View.{node_of, body_of}
use Rattle.v7_map.specs.Plan.{PutsInode}
use Rattle.v7_map.specs.Weak.{IsGood}
use Rattle.v7_plans.specs.Placed.{IsPlaced}
use Rattle.v7_plans.specs.Quiet.{AllMuted}

-- the image with these bytes in the sector of inode i
abbrev pub put_inode : Image → ℕ → List ℕ → Image
put_inode image i bytes = set image (inode_sector i) bytes

-- The call makes node m of node n at i, and changes nothing else.
pub record IsSetting (files : Files) (asked : Asked) (now i : ℕ) (n m : Node) : Type 0 where
  pub at : get files.nodes i ≡ Some n
  pub after : after_calls files (asked ∷ []) now ≡ with_node files i m

-- The bytes put inode v of number i, which stands for node m: its blocks are some of its own or free ones, its names and links stay.
pub record SetsInode (image : Image) (i : ℕ) (v : Inode) (m : Node) (b : List ℕ) : Type 0 where
  pub puts : PutsInode image i b v
  pub placed : IsPlaced image i (head_of v)
  pub used : (head_of v).is_used ≡ true
  pub same_kind : is_directory (head_of v) ≡ is_directory ((frame image).head i)
  pub same_slots : slots_of image (head_of v) ≡ (frame image).slots i
  pub nlink : v.nlink ≡ (inode_at image i).nlink
  pub generation : v.generation ≡ (inode_at image i).generation
  pub is : node_of (tree (frame image)) i v (body_of image (head_of v) (address_of image (head_of v))) ≡ m

-- The bytes put inode v of number i, which stands for node m with fewer blocks; its block of addresses may still have some past its size.
pub record ShrinksTo (image : Image) (i : ℕ) (v : Inode) (m : Node) (b : List ℕ) : Type 0 where
  pub puts : PutsInode image i b v
  pub good : IsGood (head_of v)
  pub kept : (q : Place) → address_of image (head_of v) q ≢ 0 → address_of image (head_of v) q ≡ (frame image).address i q
  pub used : (head_of v).is_used ≡ true
  pub no_directory : is_directory (head_of v) ≡ false
  pub was_none : is_directory ((frame image).head i) ≡ false
  pub nlink : v.nlink ≡ (inode_at image i).nlink
  pub generation : v.generation ≡ (inode_at image i).generation
  pub is : node_of (tree (frame image)) i v (body_of image (head_of v) (address_of image (head_of v))) ≡ m

-- Then these puts don't show, and after them it has none past its size.
pub record IsCutBy (image : Image) (i : ℕ) (v : Inode) (inner : List (ℕ × List ℕ)) : Type 0 where
  pub muted : AllMuted i inner image
  pub none_past : (k : ℕ) → sectors_of v.size ≤ k → (frame (put_all inner image)).address i (Body k) ≡ 0
  pub single_needed : (frame (put_all inner image)).address i Single ≢ 0 → list_any (λ k. not ((frame (put_all inner image)).address i (Body k) == 0)) (range_with_len 10 128) ≡ true
