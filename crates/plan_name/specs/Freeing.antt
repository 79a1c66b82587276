-- What goes back to the sets of what is free.
use Rattle.std.specs.Prelude.{◌≡◌, ◌≢◌, ◌<◌, ℕ, Bool, true, List, get_or}
use Rattle.files_model.specs.Among.{is_among}
use Rattle.files_model.specs.declared.reply.Reply.{Reply}
use Rattle.files_model.specs.declared.reply.Reply.TheVariants as reply
use Rattle.stable.specs.Store.{Image}
use Rattle.v7_layout.specs.declared.inode.Inode.{Inode}
use Rattle.v7_map.specs.Damage.{place_at}
use Rattle.v7_map.specs.Frame.{head_of, address_of}

-- exactly the blocks at the first so many of these places
pub record AreBlocksOf (places : List ℕ) (count : ℕ) (blocks : List ℕ) : Type 0 where
  pub each : (n : ℕ) → n < count → get_or places n 0 ≢ 0 → is_among (get_or places n 0) blocks ≡ true
  pub only : (b : ℕ) → is_among b blocks ≡ true → (n : ℕ) × (n < count) × (get_or places n 0 ≢ 0) × (get_or places n 0 ≡ b)

-- exactly the blocks of an inode, if it ended, and else none
pub record Frees (image : Image) (inode : Inode) (ended : Bool) (blocks : List ℕ) : Type 0 where
  pub each : ended ≡ true → (n : ℕ) → n < 139 → address_of image (head_of inode) (place_at n) ≢ 0 → is_among (address_of image (head_of inode) (place_at n)) blocks ≡ true
  pub only : (b : ℕ) → is_among b blocks ≡ true → (ended ≡ true) × ((n : ℕ) × (n < 139) × (address_of image (head_of inode) (place_at n) ≢ 0) × (address_of image (head_of inode) (place_at n) ≡ b))

-- the replies of a call without a result: a refusal, or that it was done
abbrev pub IsDoneReply : Reply → Type 0
IsDoneReply (reply.Refused status) = Unit {0}
IsDoneReply reply.Done = Unit {0}
IsDoneReply _ = ⊥
