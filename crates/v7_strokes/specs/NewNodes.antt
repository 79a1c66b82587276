-- The inode of a new node: what node it is, once its blocks are written.
use Rattle.std.specs.Prelude.{◌≡◌, ℕ, ◌≤◌, true, false, [], ◌∷◌, get_or, Some, None}
use Rattle.v7_layout.specs.declared.inode.Inode.{Inode}
use Rattle.files_model.specs.Files.{Node}
use Rattle.stable.specs.Store.{Image}
use Rattle.v7_map.specs.Frame.{head_of, is_directory, address_of, slots_of, frame}
use Rattle.v7_map.specs.Tree.{tree, links}
use Rattle.v7_map.specs.View.{node_of, body_of}
use Rattle.v7_plans.specs.Placed.{IsPlaced}

-- n is the inode of a new file or link m, whose blocks are written
pub record IsNewFile (image : Image) (i : ℕ) (n : Inode) (m : Node) : Type 0 where
  pub placed : IsPlaced image i (head_of n)
  pub used : (head_of n).is_used ≡ true
  pub file : is_directory (head_of n) ≡ false
  pub one_link : n.nlink ≡ 1
  pub is : node_of (tree (frame image)) i n (body_of image (head_of n) (address_of image (head_of n))) ≡ record m { nlink = links (tree (frame image)) i; slots = (tree (frame image)).slots i }
  pub link : m.nlink ≡ 1
  pub no_slots : m.slots ≡ []

-- n is the inode of the new directory m under p, whose sector is written: `.` and `..`, and nothing else
pub record IsNewDirectory (image : Image) (p i : ℕ) (n : Inode) (m : Node) : Type 0 where
  pub placed : IsPlaced image i (head_of n)
  pub used : (head_of n).is_used ≡ true
  pub dir : is_directory (head_of n) ≡ true
  pub two_links : n.nlink ≡ 2
  pub dot : get_or (slots_of image (head_of n)) 0 None ≡ Some (i, 46 ∷ [])
  pub dots : get_or (slots_of image (head_of n)) 1 None ≡ Some (p, 46 ∷ 46 ∷ [])
  pub nothing : (l : ℕ) → 2 ≤ l → get_or (slots_of image (head_of n)) l None ≡ None
  pub is : record (node_of (tree (frame image)) i n (body_of image (head_of n) (address_of image (head_of n)))) { nlink = 2; slots = slots_of image (head_of n) } ≡ m
