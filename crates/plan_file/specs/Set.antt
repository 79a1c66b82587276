-- The plan of a SETATTR.
use Rattle.std.specs.Prelude.{◌≡◌, ◌<◌, ◌≤◌, ℕ, ◌/◌, ◌%◌, min, Bool, true, List, [], ◌∷◌, ◌++◌, length, set, not, ◌==◌, ◌&&◌, nat_lt, is_some, if◌then◌else◌}
use Rattle.files_model.specs.declared.attributes.Attr.{Attr}
use Rattle.files_model.specs.declared.attributes.FileId.{FileId}
use Rattle.files_model.specs.declared.attributes.Sattr.{Sattr}
use Rattle.files_model.specs.declared.call.Call.TheVariants.{Setattr}
use Rattle.files_model.specs.declared.credential.Cred.{Cred}
use Rattle.files_model.specs.declared.reply.Reply.{Reply}
use Rattle.files_model.specs.Files.{sectors_of}
use Rattle.files_model.specs.Step.{step}
use Rattle.stable.specs.Puts.{Reserved, put_all, AllStand, AllPastSuperBlock}
use Rattle.stable.specs.Store.{Image}
use Rattle.v7_layout.specs.declared.inode.Inode.{Inode}
use Rattle.v7_map.specs.Image.{inode_sector}
use Rattle.v7_map.specs.Plans.{IsPlanOf}
use Rattle.v7_map.specs.Stored.{sector_in, stored_sector}
use Rattle.v7_map.specs.View.{view}
use Rattle.v7_read.specs.declared.found.Found.{Found}
pub use Rattle.v7_sets.specs.Given.{given}
use Rattle.v7_sets.specs.Sets.{AreSetsOf}
use Rattle.plan_file.specs.declared.places.Places.{Places}
use Rattle.plan_file.specs.Found.{ReplacesInode}
use Rattle.plan_file.specs.Grown.{stored_inode, AreDirect}
use Rattle.plan_file.specs.Places.{ArePlaces}
use Rattle.plan_file.specs.Shorter.{AreCut, AreDropped, LeftPuts}

-- the put of a sector where it stands, none where it doesn't stand past the super-block
abbrev pub held_put : ℕ → List ℕ → List (ℕ × List ℕ)
held_put a bytes = if nat_lt a 2 then [] else (a, bytes) ∷ []

-- the old last sector with zeros past the size, where the size cuts it, it is held, and the new size is above
unfoldable pub zero_puts : Image → Inode → ℕ → List (ℕ × List ℕ)
zero_puts image n new_size =
    if nat_lt n.size new_size && not (n.size % 512 == 0) then held_put (sector_in image n (n.size / 512)) (stored_sector image n (n.size / 512)) else []

-- the puts where a file keeps its blocks
pub record AreKeptPuts (image : Image) (ino : ℕ) (found : Found) (attr : Attr) (puts : List (ℕ × List ℕ)) : Type 0 where
  pub last : List ℕ
  pub replaces : ReplacesInode found.sector ino (stored_inode found.inode attr found.inode.direct found.inode.single) last
  pub is : puts ≡ zero_puts image found.inode attr.size ++ (inode_sector ino, last) ∷ []

-- the puts where it gets shorter, and the blocks that it drops
pub record AreShorterPuts (image : Image) (ino : ℕ) (found : Found) (attr : Attr) (puts : List (ℕ × List ℕ)) (freed : List ℕ) : Type 0 where
  pub old : Places
  pub new : Places
  pub places : ArePlaces image (min (length image) 1048576) found.inode old
  pub cut : AreCut old (sectors_of attr.size) new
  pub direct : List ℕ
  pub are_direct : AreDirect new.body direct
  pub last : List ℕ
  pub replaces : ReplacesInode found.sector ino (stored_inode found.inode attr direct new.single) last
  pub maps : List (ℕ × List ℕ)
  pub left : LeftPuts old new maps
  pub is : puts ≡ (inode_sector ino, last) ∷ maps
  pub dropped : AreDropped old new 138 freed

-- the puts of a SETATTR that makes these attributes
pub data AreSetPuts (image : Image) (ino : ℕ) (found : Found) (attr : Attr) (puts : List (ℕ × List ℕ)) : List ℕ → Type 0 where
  kept : found.inode.size ≤ attr.size → AreKeptPuts image ino found attr puts → AreSetPuts image ino found attr puts []
  shorter : (freed : List ℕ) → attr.size < found.inode.size → AreShorterPuts image ino found attr puts freed → AreSetPuts image ino found attr puts freed

-- What a SETATTR comes to: its plan, its answer, and the blocks that the sets of what is free are to be given once the plan is put.
pub record IsPlannedSet (image : Image) (file : FileId) (wanted : Sattr) (cred : Cred) (now : ℕ) (puts : List (ℕ × List ℕ)) (reply : Reply) (freed : List ℕ) : Type 0 where
  pub plan : IsPlanOf image ((Setattr file wanted, cred) ∷ []) now puts
  pub answered : reply ≡ (step (view image) (Setattr file wanted) cred now).0
  pub sets : (blocks inodes : List Bool) → AreSetsOf image blocks inodes → AreSetsOf (put_all puts image) (given freed blocks) inodes

-- how many puts a SETATTR takes at most, whatever its file is: the inode, and one more where a size is set
abbrev pub set_puts : Sattr → ℕ
set_puts wanted = if is_some wanted.size then 2 else 1

-- Of any store, told or not: a plan of at most so many puts, each past the super-block and within a store of so many sectors, with room for no more than two.
pub record CanBeSet (sectors most : ℕ) (made : Reserved) : Type 0 where
  pub few : length made.puts ≤ most
  pub room : made.room ≤ 2
  pub stand : AllStand sectors made.puts
  pub past : AllPastSuperBlock made.puts
