-- What a builder is told of a creation, and what its plan comes to.
use Rattle.std.specs.Prelude.{◌≡◌, ◌<◌, ◌≤◌, ℕ, ◌+◌, ◌-◌, ◌^◌, ◌/◌, ◌==◌, Bool, false, List, [], ◌∷◌, length, get_or, set, Option, Some, None, IfSome, Result, OnOk}
use Rattle.std.specs.Option.{unwrap_or}
use Rattle.std.specs.FinMap.{get}
use Rattle.files_model.specs.declared.attributes.Sattr.{Sattr}
use Rattle.files_model.specs.declared.credential.Cred.{Cred}
use Rattle.files_model.specs.declared.reply.Reply.{Reply}
use Rattle.files_model.specs.declared.reply.Reply.TheVariants as reply
use Rattle.files_model.specs.Answers.{attr_of}
use Rattle.files_model.specs.Files.{Node}
use Rattle.files_model.specs.Names.{place_for, new_file}
use Rattle.files_model.specs.Space.{size_limit}
use Rattle.files_model.specs.Torn.{Asked}
use Rattle.name_plans.specs.Lengthening.{MapPuts}
use Rattle.name_plans.specs.Making.{IsMaking}
use Rattle.name_plans.specs.Taken.{taken, AreNewBlocks, HasNoBlocks}
use Rattle.stable.specs.Counts.{HasCause}
use Rattle.stable.specs.Looked.{Looked}
use Rattle.stable.specs.Puts.{put_all, AllStand, AllPastSuperBlock, Reserved}
use Rattle.stable.specs.Store.{Image}
use Rattle.stable.specs.declared.store.Stable.{Ghosts}
use Rattle.v7_layout.specs.declared.inode.Inode.{Inode}
use Rattle.v7_layout.specs.declared.slot.Slot.{Slot}
use Rattle.v7_map.specs.Frame.{Place, Body, Single, frame}
use Rattle.v7_map.specs.Image.{inode_at, inode_sector}
use Rattle.v7_map.specs.Plans.{IsPlanOf}
use Rattle.v7_map.specs.View.{view}
use Rattle.v7_sets.specs.Sets.{AreSetsOf}
use Rattle.v7_strokes.specs.Entries.{entry_sector}
use Rattle.v7_strokes.specs.NewNodes.{IsNewFile}
use Rattle.v7_strokes.specs.Over.{slot_from}
use Rattle.v7_strokes.specs.Targets.{IsTarget}
use Rattle.plan_name.specs.declared.creating_puts.Entry.{Entry}
use Rattle.plan_name.specs.declared.creating_puts.Listing.{Listing}
use Rattle.plan_name.specs.declared.creating_puts.Longer.{Longer}

-- The call makes node m, as this inode of number i without blocks, by this entry of directory d.
pub record Makes (image : Image) (asked : Asked) (now i : ℕ) (inode : Inode) (entry : Entry) (name : List ℕ) (d m : Node) : Type 0 where
  pub making : IsMaking (view image) asked now entry.directory name d i m
  pub new : IsNewFile image i inode m
  pub bare : HasNoBlocks image inode
  pub raised : inode.generation ≡ unwrap_or (get (view image).generations i) 0 + 1
  pub place : entry.index ≡ place_for d.slots
  pub slot : slot_from entry.slot ≡ Some (i, name)

-- A new regular file may be made as i, by an entry of this name in slot `index` of directory p.
pub record MayMake (image : Image) (asked : Asked) (now p i index : ℕ) (name : List ℕ) (wanted : Sattr) (cred : Cred) (d : Node) : Type 0 where
  pub making : IsMaking (view image) asked now p name d i (new_file wanted cred now)
  pub size : unwrap_or wanted.size 0 ≤ size_limit
  pub place : index ≡ place_for d.slots
  pub fresh : (inode_at image i).generation < 2 ^ 32 - 1

-- The slot is an empty one, which stands in this sector.
pub record FitsIn (image : Image) (asked : Asked) (now p i index sector : ℕ) (name : List ℕ) (wanted : Sattr) (cred : Cred) (d : Node) : Type 0 where
  pub may : MayMake image asked now p i index name wanted cred d
  pub inside : index < length d.slots
  pub stands : sector ≡ entry_sector image p index

-- what answers a call that made node m as i
abbrev pub made_answer : Image → ℕ → Node → Reply
made_answer image i m = reply.Handle (record { ino = i; generation = unwrap_or (get (view image).generations i) 0 + 1 }) (attr_of i m)

-- The puts are the plan of the call, and afterwards the sets are exact without i-number i and these blocks.
pub record IsPlannedMaking (image : Image) (asked : Asked) (now i : ℕ) (new : List ℕ) (puts : List (ℕ × List ℕ)) : Type 0 where
  pub plan : IsPlanOf image (asked ∷ []) now puts
  pub sets : (blocks inodes : List Bool) → AreSetsOf image blocks inodes → AreSetsOf (put_all puts image) (taken new blocks) (set inodes i false)

-- the sectors of an inode and of an entry are among so many, and the entry's is past the super-block
pub record StandWithin (sectors i : ℕ) (entry : Entry) : Type 0 where
  pub node : inode_sector i < sectors
  pub directory : inode_sector entry.directory < sectors
  pub slot : entry.sector < sectors
  pub past : 2 ≤ entry.sector

-- where a block of addresses is put, if it is
abbrev pub map_puts : Option Listing → List (ℕ × List ℕ)
map_puts None = []
map_puts (Some listing) = (listing.block, listing.bytes) ∷ []

-- The entry comes at the end of its directory, whose blocks are to stand at these places, of which these are new.
pub record LaysOut (image : Image) (entry : Entry) (longer : Longer) (target : Place → ℕ) (new : List ℕ) : Type 0 where
  pub lays : IsTarget (frame image) entry.directory (entry.index / 32) target
  pub sector : entry.sector ≡ target (Body (entry.index / 32))
  pub is_fresh : longer.fresh ≡ ((frame image).address entry.directory (Body (entry.index / 32)) == 0)
  pub map : MapPuts (frame image) entry.directory (entry.index / 32) target (map_puts longer.map)
  pub own : (l : ℕ) → l < 10 → get_or longer.blocks.direct l 0 ≡ target (Body l)
  pub through : longer.blocks.single ≡ target Single
  pub fresh : AreNewBlocks (frame image) entry.directory target new

-- its block of addresses, if it changes, is past the super-block and among so many sectors
abbrev pub MapWithin : ℕ → Longer → Type 0
MapWithin sectors longer = IfSome longer.map (λ listing. (2 ≤ listing.block) × (listing.block < sectors))

-- a plan of at most so many puts, each past the super-block and within a store of so many sectors
pub record CanBePut (sectors most : ℕ) (puts : List (ℕ × List ℕ)) : Type 0 where
  pub few : length puts ≤ most
  pub stand : AllStand sectors puts
  pub past : AllPastSuperBlock puts

-- What each builder says of its run: it makes of the plan that was begun one of at most so many puts, with the same room, and only looks at the store, which failed where the builder did. `s` is what the store's type tells.
pub record Builds {S T E : Type 0} (s : Ghosts S) (old new : S) (most : ℕ) (begun built : Reserved) (result : Result T E) : Type 0 where
  pub fits : OnOk result (CanBePut (s.sector_count old) most built.puts)
  pub room : OnOk result (built.room ≡ begun.room)
  pub cause : HasCause (s.faults old) (s.faults new) result
  pub looked : Looked s old new

-- The slot comes at the directory's end, in this sector, where the directory may get longer, and its blocks are to stand at these places, of which these are new.
pub record FitsAtEnd (image : Image) (asked : Asked) (now p i index sector : ℕ) (longer : Longer) (name : List ℕ) (wanted : Sattr) (cred : Cred) (d : Node) (target : Place → ℕ) (new : List ℕ) : Type 0 where
  pub may : MayMake image asked now p i index name wanted cred d
  pub end : index ≡ length d.slots
  pub room : d.size + 16 ≤ size_limit
  pub lays : (slot : Slot) → LaysOut image (record { directory = p; index = index; sector = sector; slot = slot }) longer target new
