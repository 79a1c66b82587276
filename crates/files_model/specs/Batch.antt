-- Writes to one file, one after the other at one time, and what putting them may cost.
use Rattle.std.specs.Prelude.{◌≡◌, ℕ, ◌+◌, ◌/◌, ◌%◌, ◌≤◌, Bool, true, false, List, [], ◌∷◌, ◌++◌, length, map, Some, None, is_some, ◌==◌, nat_lt, nat_le, if◌then◌else◌, not, ◌&&◌}
use Rattle.std.specs.List.{range_with_len, list_any, count_by}
use Rattle.std.specs.FinMap.{get}
use Rattle.files_model.specs.declared.attributes.FileId.{FileId}
use Rattle.files_model.specs.declared.call.Call.TheVariants.{Write}
use Rattle.files_model.specs.declared.call.WriteItem.{WriteItem}
use Rattle.files_model.specs.declared.reply.Reply.{Reply}
use Rattle.files_model.specs.declared.reply.Reply.TheVariants as reply
use Rattle.files_model.specs.Among.{is_among}
use Rattle.files_model.specs.Files.{Node, Files, sectors_of, live, IsBody}
use Rattle.files_model.specs.Space.{is_held, size_limit}
use Rattle.files_model.specs.Step.{touched, written, write_refusal, with_node, attr_of, step}
use Rattle.files_model.specs.Torn.{Asked}

abbrev pub calls_of : FileId → List WriteItem → List Asked
calls_of file ws = map (λ w. (Write file w.offset w.bytes, w.cred)) ws

-- the node after the writes, of which some may be refused
abbrev pub node_after : Files → FileId → Node → List WriteItem → ℕ → Node
node_after files file n [] now = n
node_after files file n (w ∷ ws) now = elim (write_refusal files file n w.cred w.offset w.bytes now) [
  | None ↦ node_after (with_node files file.ino (written n w.offset w.bytes now)) file (written n w.offset w.bytes now) ws now
  | Some status ↦ node_after files file n ws now
]

-- those that are accepted
abbrev pub accepted_of : Files → FileId → Node → List WriteItem → ℕ → List WriteItem
accepted_of files file n [] now = []
accepted_of files file n (w ∷ ws) now = elim (write_refusal files file n w.cred w.offset w.bytes now) [
  | None ↦ w ∷ accepted_of (with_node files file.ino (written n w.offset w.bytes now)) file (written n w.offset w.bytes now) ws now
  | Some status ↦ accepted_of files file n ws now
]

-- the sectors that they touch
abbrev pub touched_by : List WriteItem → List ℕ
touched_by [] = []
touched_by (w ∷ ws) = touched w.offset (length w.bytes) ++ touched_by ws

-- the answers of calls in order, each as the step gives it
abbrev pub replies_of : Files → List Asked → ℕ → List Reply
replies_of files [] now = []
replies_of files (asked ∷ calls) now = (step files asked.0 asked.1 now).0 ∷ replies_of (step files asked.0 asked.1 now).1 calls now

-- the answers of writes to the node of a file
abbrev pub answers : Files → FileId → Node → List WriteItem → ℕ → List Reply
answers files file n [] now = []
answers files file n (w ∷ ws) now = elim (write_refusal files file n w.cred w.offset w.bytes now) [
  | None ↦ reply.Attr (attr_of file.ino (written n w.offset w.bytes now)) ∷ answers (with_node files file.ino (written n w.offset w.bytes now)) file (written n w.offset w.bytes now) ws now
  | Some status ↦ reply.Refused status ∷ answers files file n ws now
]

-- The node after writes: the sectors of these indices are new, and no other one.
pub record IsRewrite (old new : Node) (ks : List ℕ) : Type 0 where
  pub same : new ≡ record old { mode = new.mode; uid = new.uid; gid = new.gid; size = new.size; atime = new.atime; mtime = new.mtime; ctime = new.ctime; sectors = new.sectors }
  pub grows : old.size ≤ new.size
  pub within : new.size ≤ size_limit
  pub body : IsBody new.size new.sectors
  pub kept : (k : ℕ) → is_among k ks ≡ false → get new.sectors k ≡ get old.sectors k
  pub held : (k : ℕ) → is_among k ks ≡ true → is_some (get new.sectors k) ≡ true

-- ---- cost

-- the write touches sector k
abbrev pub touches : ℕ → WriteItem → Bool
touches k w = is_among k (touched w.offset (length w.bytes))

abbrev pub one_if : Bool → ℕ
one_if b = if b then 1 else 0

-- the size grows, and cuts a sector that is held
abbrev pub is_cut : Node → Node → Bool
is_cut old new = nat_lt old.size new.size && (not (old.size % 512 == 0) && is_held old (old.size / 512))

-- the set of held indices of 10 or more changes
abbrev pub maps_more : Node → Node → Bool
maps_more old new = list_any (λ k. nat_le 10 k && not (is_held old k) && is_held new k) (range_with_len 0 (sectors_of new.size))

-- the different sectors that are touched, the old last one where it is cut, the block of addresses where it changes, and the inode
abbrev pub cost_of : Node → Node → List WriteItem → ℕ
cost_of old new [] = 0
cost_of old new (w ∷ ws) =
    count_by (λ k. list_any (touches k) (w ∷ ws)) (range_with_len 0 (size_limit / 512)) + one_if (is_cut old new) + one_if (maps_more old new) + 1

-- the most puts that writes to one file may take; 0 where all are refused
abbrev pub cost : Files → FileId → List WriteItem → ℕ → ℕ
cost files file ws now = elim (live files file) [ None ↦ 0 | Some old ↦ cost_of old (node_after files file old ws now) (accepted_of files file old ws now) ]
