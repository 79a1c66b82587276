-- What is seen of a volume that can be mended.
use Rattle.std.specs.Prelude.{◌≡◌, ℕ, Bool, true, false, Option, Some, None, Result, Ok, Err, get_or, nat_lt, ◌==◌, ◌&&◌, ◌||◌, not, count_by}
use Rattle.std.specs.List.{range_with_len}
use Rattle.std.specs.FinMap.{get}
use Rattle.files_model.specs.declared.attributes.Kind.{Kind}
use Rattle.files_model.specs.declared.attributes.Kind.TheVariants.{Regular, Directory, Link}
use Rattle.files_model.specs.Files.{Node, Files}
use Rattle.files_model.specs.Space.{usage, free}
use Rattle.stable.specs.Store.{Image}
use Rattle.v7_layout.specs.Records.{super_of}
use Rattle.v7_map.specs.Image.{sector_at}
use Rattle.v7_map.specs.Frame.{frame}
use Rattle.v7_map.specs.Weak.{IsStrong}
use Rattle.v7_map.specs.Damage.{damage}
use Rattle.v7_map.specs.View.{view}
use Rattle.v7_inspect.specs.declared.seen.Seen.{Seen}
use Rattle.v7_damage.specs.declared.damage.RepairFault.{RepairFault}
use Rattle.v7_damage.specs.declared.tested.Undamaged.{Undamaged}
use Rattle.v7_damage.specs.Undamaged.{IsFaultOf}
use Rattle.v7_damage.specs.Marks.{mark_at}

-- the type of an inode is that of this kind of file
abbrev pub is_of : Kind → ℕ → Bool
is_of Directory type = type == 4
is_of Link type = type == 10
is_of Regular type = not (type == 4) && not (type == 10)

-- two kinds are the same
abbrev pub same_kind : Kind → Kind → Bool
same_kind Regular Regular = true
same_kind Regular Directory = false
same_kind Regular Link = false
same_kind Directory Regular = false
same_kind Directory Directory = true
same_kind Directory Link = false
same_kind Link Regular = false
same_kind Link Directory = false
same_kind Link Link = true

-- there is a node of this kind
abbrev pub is_node_of : Kind → Option Node → Bool
is_node_of kind None = false
is_node_of kind (Some n) = same_kind kind n.kind

-- how many nodes of this kind there are
unfoldable pub nodes_of : Kind → Files → ℕ
nodes_of kind files = count_by (λ i. is_node_of kind (get files.nodes i)) (range_with_len 1 files.inodes)

-- by the tables: inode i is walked or counted, and of this kind
abbrev pub is_counted : Kind → Undamaged → ℕ → Bool
is_counted kind known i = (mark_at known.walked i || nat_lt 0 (get_or known.counts.items i 0)) && is_of kind (get_or known.types.items i 0)

-- what is seen of an image without damage
pub record IsSeen (image : Image) (seen : Seen) : Type 0 where
  pub undamaged : damage (frame image) ≡ None
  pub strong_only : seen.strong ≡ true → IsStrong (frame image)
  pub strong_always : IsStrong (frame image) → seen.strong ≡ true
  pub clean_is : seen.clean ≡ ((super_of (sector_at image 1)).s_fmod == 0)
  pub files_are : seen.files ≡ nodes_of Regular (view image)
  pub directories_are : seen.directories ≡ nodes_of Directory (view image)
  pub links_are : seen.links ≡ nodes_of Link (view image)
  pub used_is : seen.used ≡ usage (view image)
  pub free_is : seen.free ≡ free (view image)

-- an image is seen, or its damage is told
abbrev pub IsInspected : Image → Result Seen RepairFault → Type 0
IsInspected image (Ok seen) = IsSeen image seen
IsInspected image (Err fault) = IsFaultOf image fault
