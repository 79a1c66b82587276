-- The plan of a batch, and what is known before it is put together.
use Rattle.std.specs.Prelude.{◌≡◌, ◌≢◌, ◌<◌, ◌≤◌, ℕ, ◌+◌, min, true, List, [], ◌∷◌, ◌++◌, length, get_or}
use Rattle.std.specs.List.{AllByRecursion, range_with_len, list_any}
use Rattle.files_model.specs.declared.attributes.Attr.{Attr}
use Rattle.files_model.specs.declared.attributes.FileId.{FileId}
use Rattle.files_model.specs.declared.call.WriteItem.{WriteItem}
use Rattle.files_model.specs.declared.reply.Reply.{Reply}
use Rattle.files_model.specs.declared.reply.Reply.TheVariants as reply
use Rattle.files_model.specs.Batch.{calls_of, replies_of, cost, touches}
use Rattle.files_model.specs.Space.{size_limit}
use Rattle.stable.specs.Puts.{Reserved, put_all, AllStand, AllPastSuperBlock}
use Rattle.stable.specs.Store.{Image}
use Rattle.v7_map.specs.Image.{inode_sector}
use Rattle.v7_map.specs.Plans.{IsPlanOf}
use Rattle.v7_map.specs.View.{view}
use Rattle.v7_read.specs.declared.found.Found.{Found}
use Rattle.v7_sets.specs.Sets.{AreSetsOf}
use Rattle.v7_sets.specs.declared.sets.Sets.{Sets}
use Rattle.plan_file.specs.declared.places.Places.{Places}
use Rattle.plan_file.specs.Accepted.{kept_of}
use Rattle.plan_file.specs.Contents.{cut_puts, content_puts, touched_below, MapPuts}
use Rattle.plan_file.specs.Found.{ReplacesInode}
use Rattle.plan_file.specs.Grown.{grown_inode, AreDirect}
use Rattle.plan_file.specs.Places.{AreWithin}

-- What a batch of writes comes to: its plan, the answer of each write in order, no more puts than it costs, and the sets of what is free once the plan is put.
pub record IsPlanned (image : Image) (file : FileId) (ws : List WriteItem) (now : ℕ) (left : Sets) (puts : List (ℕ × List ℕ)) (replies : List Reply) : Type 0 where
  pub plan : IsPlanOf image (calls_of file ws) now puts
  pub answered : replies ≡ replies_of (view image) (calls_of file ws) now
  pub cheap : length puts ≤ cost (view image) file ws now
  pub sets : AreSetsOf (put_all puts image) left.blocks left.inodes

-- how many puts a plan for one file has at most: its 138 sectors, the old last one, the block of addresses and the inode
abbrev pub plan_puts : ℕ
plan_puts = 141

-- a plan is no longer than that, and each of its puts is past the super-block and within a store of so many sectors
pub record CanBePut (sectors : ℕ) (puts : List (ℕ × List ℕ)) : Type 0 where
  pub few : length puts ≤ plan_puts
  pub stand : AllStand sectors puts
  pub past : AllPastSuperBlock puts

-- the replies to a WRITE: a refusal, or attributes
abbrev pub IsWriteReply : Reply → Type 0
IsWriteReply (reply.Refused status) = Unit {0}
IsWriteReply (reply.Attr attr) = Unit {0}
IsWriteReply _ = ⊥

-- how many puts accepted writes can need: each sector that they touch, the old last one, the block of addresses and the inode
abbrev pub room_for : List WriteItem → ℕ
room_for ws = touched_below ws 138 + 3

-- Of any store, told or not: the plan can be put, it has no more room than its accepted writes can need, and each write has its reply.
pub record HasAnswers (sectors : ℕ) (ws : List WriteItem) (made : Reserved) (replies : List Reply) : Type 0 where
  pub plan : CanBePut sectors made.puts
  pub room : made.room ≤ room_for (kept_of ws replies)
  pub count_is : length replies ≡ length ws
  pub forms : AllByRecursion IsWriteReply replies

-- what the puts of a batch ask for: places within the store and three bytes each, a place for each touched sector, and one for the block of addresses where it changes
pub record IsReady (sectors ino : ℕ) (from to : Places) (attr : Attr) (ws : List WriteItem) : Type 0 where
  pub old : AreWithin (min sectors 1048576) from
  pub new : AreWithin (min sectors 1048576) to
  pub touched : (k : ℕ) → k < 138 → list_any (touches k) ws ≡ true → get_or to.body k 0 ≢ 0
  pub map : (k : ℕ) → 10 ≤ k → k < 138 → get_or to.body k 0 ≢ get_or from.body k 0 → to.single ≢ 0
  pub size : attr.size ≤ size_limit
  pub inode : inode_sector ino < sectors

-- the puts of an accepted batch, by what was found of its file
pub record AreBatchPuts (image : Image) (ino : ℕ) (found : Found) (old new : Places) (attr : Attr) (ws : List WriteItem) (puts : List (ℕ × List ℕ)) : Type 0 where
  pub maps : List (ℕ × List ℕ)
  pub map_puts : MapPuts old new maps
  pub direct : List ℕ
  pub are_direct : AreDirect new.body direct
  pub last : List ℕ
  pub replaces : ReplacesInode found.sector ino (grown_inode found.inode attr direct new.single) last
  pub is : puts ≡ cut_puts image found.inode.size attr.size old.body ws ++ content_puts image found.inode.size old.body new.body ws (range_with_len 0 138) ++ maps ++ (inode_sector ino, last) ∷ []
