-- Writes to one regular file: what they make of its node, and where its blocks are to stand.
use Rattle.std.specs.Prelude.{◌≡◌, ◌≢◌, ℕ, ◌+◌, ◌-◌, ◌*◌, ◌/◌, ◌%◌, ◌<◌, ◌≤◌, true, false, List, [], ◌∷◌, ◌++◌, map, length, is_some, if◌then◌else◌, not, ◌==◌, ◌&&◌}
use Rattle.std.specs.List.{range_with_len, list_any, filter}
use Rattle.std.specs.FinMap.{get}
use Rattle.v7_layout.specs.declared.inode.Inode.{Inode}
use Rattle.v7_layout.specs.Numbers.{field}
use Rattle.files_model.specs.declared.attributes.FileId.{FileId}
use Rattle.files_model.specs.declared.call.WriteItem.{WriteItem}
use Rattle.files_model.specs.Among.{is_among}
use Rattle.files_model.specs.Batch.{calls_of, node_after, accepted_of, touches, cost_of, is_cut}
use Rattle.files_model.specs.Files.{Node}
use Rattle.files_model.specs.Step.{sector_of}
use Rattle.stable.specs.Puts.{put_all}
use Rattle.stable.specs.Store.{Image}
use Rattle.v7_map.specs.Frame.{Frame, Place, Body, Single, Double, frame}
use Rattle.v7_sets.specs.Sets.{IsFreeBlock}
use Rattle.v7_map.specs.Plans.{IsPlanOf}
use Rattle.v7_map.specs.View.{view}

-- Where the blocks of file i are to stand, if these sectors are written: each that it has stays, and each new one stood nowhere.
pub record IsLayout (f : Frame) (i : ℕ) (ks : List ℕ) (target : Place → ℕ) : Type 0 where
  pub kept : (p : Place) → f.address i p ≢ 0 → target p ≡ f.address i p
  pub fresh : (p : Place) → f.address i p ≡ 0 → target p ≢ 0 → IsFreeBlock f (target p)
  pub apart : (p q : Place) → target p ≢ 0 → target p ≡ target q → p ≡ q
  pub held : (k : ℕ) → is_among k ks ≡ true → target (Body k) ≢ 0
  pub added : (k : ℕ) → f.address i (Body k) ≡ 0 → target (Body k) ≢ 0 → is_among k ks ≡ true
  pub past : (k : ℕ) → 138 ≤ k → target (Body k) ≡ 0
  pub mapped : (k : ℕ) → 10 ≤ k → target (Body k) ≢ 0 → target Single ≢ 0
  pub map_needed : target Single ≢ 0 → list_any (λ k. not (target (Body k) == 0)) (range_with_len 10 128) ≡ true
  pub double : target Double ≡ 0

-- the old sectors that are put once more, with zeros past the old size: the one that the old size cuts, if it is held, the size grows, and it isn't written
pub record IsFill (old new : Node) (ks zs : List ℕ) : Type 0 where
  pub held : (k : ℕ) → is_among k zs ≡ true → is_some (get old.sectors k) ≡ true
  pub all : (k : ℕ) → is_some (get old.sectors k) ≡ true → is_among k ks ≡ false → old.size < new.size → old.size < 512 * (k + 1) → is_among k zs ≡ true

-- the put of the indirect block: none where no address in it changes
pub data MapPut (f : Frame) (i : ℕ) (target : Place → ℕ) : List (ℕ × List ℕ) → Type 0 where
  same : target Single ≡ f.address i Single → ((k : ℕ) → 10 ≤ k → target (Body k) ≡ f.address i (Body k)) → MapPut f i target []
  put : (bytes : List ℕ) (changed : ℕ) → length bytes ≡ 512 → 10 ≤ changed → target (Body changed) ≢ f.address i (Body changed) → target Single ≢ 0 → ((k : ℕ) → 10 ≤ k → k < 138 → field bytes (4 * (k - 10)) 4 ≡ target (Body k)) → MapPut f i target ((target Single, bytes) ∷ [])

-- the inode with other addresses, size and times
abbrev pub moved_inode : Inode → Node → ℕ → List ℕ → ℕ → Inode
moved_inode n new mode direct single = record n { mode = mode; uid = new.uid; gid = new.gid; size = new.size; direct = direct; single = single; atime = new.atime; mtime = new.mtime; ctime = new.ctime }

-- the stored mode: the type stays, and the twelve bits are those of the node
pub record IsModeOf (n : Inode) (new : Node) (mode : ℕ) : Type 0 where
  pub type : mode / 4096 ≡ n.mode / 4096
  pub bits : mode % 4096 ≡ new.mode

-- the puts of sectors of a body whose places are these
abbrev pub body_puts : (Place → ℕ) → List (ℕ × List ℕ) → List (ℕ × List ℕ)
body_puts target es = map (λ e. (target (Body e.0), e.1)) es

-- the data puts: the filled sectors, then the new ones, each with its final content
abbrev pub entries : Node → Node → List ℕ → List ℕ → List (ℕ × List ℕ)
entries old new zs ks = map (λ k. (k, sector_of old.sectors k)) zs ++ map (λ k. (k, sector_of new.sectors k)) ks

-- the sectors that writes touch, in rising order
unfoldable pub changed_by : List WriteItem → List ℕ
changed_by ws = filter (λ k. list_any (touches k) ws) (range_with_len 0 138)

-- the old last sector, if the size grows and cuts it, and it isn't written
abbrev pub filled_by : Node → Node → List ℕ → List ℕ
filled_by old new ks = if is_cut old new && not (is_among (old.size / 512) ks) then old.size / 512 ∷ [] else []

-- the plan of a batch of writes, what it may cost, and the blocks that stand nowhere afterwards
pub record IsBatchPlan (image : Image) (file : FileId) (old : Node) (ws : List WriteItem) (now : ℕ) (target : Place → ℕ) (puts : List (ℕ × List ℕ)) : Type 0 where
  pub plan : IsPlanOf image (calls_of file ws) now puts
  pub cost : length puts ≤ cost_of old (node_after (view image) file old ws now) (accepted_of (view image) file old ws now)
  pub lost : (a : ℕ) → IsFreeBlock (frame (put_all puts image)) a → IsFreeBlock (frame image) a × ((p : Place) → target p ≢ a)
  pub left : (a : ℕ) → IsFreeBlock (frame image) a → ((p : Place) → target p ≢ a) → IsFreeBlock (frame (put_all puts image)) a
