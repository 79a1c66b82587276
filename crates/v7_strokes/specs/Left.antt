-- What strokes leave of an image.
use Rattle.std.specs.Prelude.{◌≡◌, ◌≢◌, ℕ, ◌+◌, ◌-◌, ◌<◌, List, [], ◌∷◌, ◌++◌, set, if◌then◌else◌, Bool, true, false, Some, None}
use Rattle.std.specs.FinMap.{get}
use Rattle.v7_layout.specs.declared.inode.Inode.{Inode}
use Rattle.files_model.specs.Files.{Node, Slot}
use Rattle.files_model.specs.Step.{with_node}
use Rattle.stable.specs.Store.{Image}
use Rattle.v7_map.specs.Frame.{Place, head_of, address_of, frame}
use Rattle.v7_map.specs.Tree.{tree, is_named, is_slot_of, links}
use Rattle.v7_map.specs.View.{view, node_at, node_of, body_at}
use Rattle.v7_map.specs.Weak.{IsWeak, slot_at}
use Rattle.v7_strokes.specs.Changes.{node_if, changed, with_generation}

-- how many links a slot is that names an inode or doesn't
abbrev pub one : Bool → ℕ
one b = if b then 1 else 0

-- Slot k of directory d became s, and nothing else changed.
pub record ChangesSlot (old new : Image) (d k : ℕ) (s : Slot) : Type 0 where
  pub weak : IsWeak (frame new)
  pub sizes : ((frame new).isize ≡ (frame old).isize) × ((frame new).fsize ≡ (frame old).fsize)
  pub heads : (j : ℕ) → (frame new).head j ≡ (frame old).head j
  pub blocks : (j : ℕ) (p : Place) → (frame new).address j p ≡ (frame old).address j p
  pub linked : (j : ℕ) → links (tree (frame new)) j + one (is_slot_of j (slot_at (tree (frame old)) d k)) ≡ links (tree (frame old)) j + one (is_slot_of j s)
  pub directory : (n : Node) → get (view old).nodes d ≡ Some n → is_slot_of d (slot_at (tree (frame old)) d k) ≡ is_slot_of d s → get (view new).nodes d ≡ Some (record n { slots = set n.slots k s })
  pub named : (j : ℕ) → j ≢ d → j < (tree (frame old)).inodes + 1 → get (view new).nodes j ≡ (if is_named (tree (frame new)) j then Some (record (node_at old j) { nlink = links (tree (frame new)) j }) else None)
  pub others : (j : ℕ) → j ≢ d → is_slot_of j (slot_at (tree (frame old)) d k) ≡ is_slot_of j s → get (view new).nodes j ≡ get (view old).nodes j
  pub rest : view new ≡ record (view old) { nodes = (view new).nodes }

-- Inode i, which no name leads to, became n; the files have its new generation alone.
pub record ChangesUnnamed (old new : Image) (i : ℕ) (n : Inode) : Type 0 where
  pub weak : IsWeak (frame new)
  pub sizes : ((frame new).isize ≡ (frame old).isize) × ((frame new).fsize ≡ (frame old).fsize)
  pub head : (frame new).head i ≡ head_of n
  pub heads : (j : ℕ) → j ≢ i → (frame new).head j ≡ (frame old).head j
  pub own : (p : Place) → (frame new).address i p ≡ address_of old (head_of n) p
  pub blocks : (j : ℕ) → j ≢ i → (p : Place) → (frame new).address j p ≡ (frame old).address j p
  pub linked : (j : ℕ) → links (tree (frame new)) j ≡ links (tree (frame old)) j
  pub named : (j : ℕ) → is_named (tree (frame new)) j ≡ is_named (tree (frame old)) j
  pub files : i < (tree (frame old)).inodes + 1 → view new ≡ with_generation (view old) i n.generation

-- Inode i became n, which differs in links, owner, permissions and times alone.
pub record ChangesAttributes (old new : Image) (i : ℕ) (n : Inode) : Type 0 where
  pub weak : IsWeak (frame new)
  pub sizes : ((frame new).isize ≡ (frame old).isize) × ((frame new).fsize ≡ (frame old).fsize)
  pub same_tree : tree (frame new) ≡ tree (frame old)
  pub head : (frame new).head i ≡ head_of n
  pub heads : (j : ℕ) → j ≢ i → (frame new).head j ≡ (frame old).head j
  pub blocks : (j : ℕ) (p : Place) → (frame new).address j p ≡ (frame old).address j p
  pub files : is_named (tree (frame old)) i ≡ true → i < (tree (frame old)).inodes + 1 → view new ≡ with_node (view old) i (node_of (tree (frame old)) i n (body_at old (frame old) i))

-- Directory d got longer by slot s, by inode n.
pub record GrewByASlot (old new : Image) (d : ℕ) (n : Inode) (s : Slot) : Type 0 where
  pub weak : IsWeak (frame new)
  pub sizes : ((frame new).isize ≡ (frame old).isize) × ((frame new).fsize ≡ (frame old).fsize)
  pub head : (frame new).head d ≡ head_of n
  pub heads : (j : ℕ) → j ≢ d → (frame new).head j ≡ (frame old).head j
  pub own : (p : Place) → (frame new).address d p ≡ address_of old (head_of n) p
  pub blocks : (j : ℕ) → j ≢ d → (p : Place) → (frame new).address j p ≡ (frame old).address j p
  pub linked : (j : ℕ) → links (tree (frame new)) j ≡ links (tree (frame old)) j + one (is_slot_of j s)
  pub files : (i : ℕ) (m : Node) → ((j : ℕ) → j ≢ i → is_slot_of j s ≡ false) → d ≢ i → i < (tree (frame old)).inodes + 1 → get (view old).nodes d ≡ Some m
      → view new ≡ changed (view old) i (node_if new i) d (record m { uid = n.uid; gid = n.gid; size = n.size; atime = n.atime; mtime = n.mtime; ctime = n.ctime; slots = m.slots ++ s ∷ [] })

-- Slot k of directory d came to name new directory i.
pub record NamedADirectory (old new : Image) (d k i : ℕ) (name : List ℕ) : Type 0 where
  pub weak : IsWeak (frame new)
  pub sizes : ((frame new).isize ≡ (frame old).isize) × ((frame new).fsize ≡ (frame old).fsize)
  pub heads : (j : ℕ) → (frame new).head j ≡ (frame old).head j
  pub blocks : (j : ℕ) (p : Place) → (frame new).address j p ≡ (frame old).address j p
  pub two : links (tree (frame new)) i ≡ 2
  pub one_more : links (tree (frame new)) d ≡ links (tree (frame old)) d + 1
  pub linked : (j : ℕ) → j ≢ i → j ≢ d → links (tree (frame new)) j ≡ links (tree (frame old)) j
  pub files : (m : Node) → get (view old).nodes d ≡ Some m → i < (tree (frame old)).inodes + 1
      → view new ≡ changed (view old) i (Some (record (node_at old i) { nlink = 2 })) d (record m { nlink = m.nlink + 1; slots = set m.slots k (Some (i, name)) })

-- Slot k of directory d named empty directory i, and is empty.
pub record TookADirectory (old new : Image) (d k i : ℕ) : Type 0 where
  pub weak : IsWeak (frame new)
  pub sizes : ((frame new).isize ≡ (frame old).isize) × ((frame new).fsize ≡ (frame old).fsize)
  pub heads : (j : ℕ) → (frame new).head j ≡ (frame old).head j
  pub blocks : (j : ℕ) (p : Place) → (frame new).address j p ≡ (frame old).address j p
  pub unnamed : is_named (tree (frame new)) i ≡ false
  pub one_less : links (tree (frame new)) d + 1 ≡ links (tree (frame old)) d
  pub linked : (j : ℕ) → j ≢ i → j ≢ d → links (tree (frame new)) j ≡ links (tree (frame old)) j
  pub files : (m : Node) → get (view old).nodes d ≡ Some m → i < (tree (frame old)).inodes + 1
      → view new ≡ changed (view old) i None d (record m { nlink = m.nlink - 1; slots = set m.slots k None })
