-- How long replies are.
use Rattle.std.proofs.Common.{◌≡◌, ℕ, ◌+◌, ◌≤◌, List, [], ◌∷◌, length, length-append, arith}
use Rattle.std.specs.List.{sum_by}
use Rattle.std.proofs.lemmas.List.Concat.{length-flat_map}
use Rattle.std.proofs.lemmas.List.Sums.{sum_by-le-sum_by}
use Rattle.files_model.specs.declared.attributes.Attr.{Attr}
use Rattle.files_model.specs.declared.attributes.FileId.{FileId}
use Rattle.files_model.specs.declared.call.Call.{Call}
use Rattle.files_model.specs.declared.call.Call.TheVariants as call
use Rattle.files_model.specs.declared.entries.Entry.{Entry}
use Rattle.files_model.specs.declared.reply.Reply.{Reply}
use Rattle.files_model.specs.declared.reply.Reply.TheVariants as reply
use Rattle.xdr_rpc.specs.Words.{padding, words}
use Rattle.xdr_rpc.proofs.Sheets.{length-words, length-opaque_bytes}
use Rattle.nfs2_wire.specs.Handles.{handle_of, mark}
use Rattle.nfs2_wire.specs.Replies.{number_of, entry_bytes, result_bytes, bytes_of, longest_of}
use Rattle.nfs2_wire.specs.Bounds.{IsShort, entry_room, IsBounded, CanAnswer}

-- bytes with their length and padding
abbrev pub opaque_length : List ℕ → ℕ
opaque_length bytes = 4 + length bytes + padding (length bytes)

abbrev pub entry_length : Entry → ℕ
entry_length e = 12 + opaque_length e.name

-- how long the result of a call is, with its status
abbrev pub result_length : Reply → ℕ
result_length (reply.Refused status) = 4
result_length (reply.Attr attr) = 72
result_length (reply.Handle file attr) = 104
result_length (reply.Text text) = 4 + opaque_length text
result_length (reply.Data attr bytes) = 72 + opaque_length bytes
result_length reply.Done = 4
result_length (reply.Entries list end) = 12 + sum_by (λ e. length (entry_bytes e)) list
result_length (reply.Space blocks free) = 24

pub length-entry_bytes : (e : Entry) → length (entry_bytes e) ≡ entry_length e
length-entry_bytes e =
    let front : List ℕ = 1 ∷ e.fileid ∷ [] in
    let back : List ℕ = e.cookie ∷ [] in
    simp (length-append, length-words, length-opaque_bytes) (omega arith)

pub length-handle_of : (volume : ℕ) (file : FileId) → length (handle_of volume file) ≡ 32
unfolding handle_of
length-handle_of volume file = length-words (mark ∷ volume ∷ file.ino ∷ file.generation ∷ 0 ∷ 0 ∷ 0 ∷ 0 ∷ [])

pub length-result_bytes : (r : Reply) (volume : ℕ) → length (result_bytes r volume) ≡ result_length r
unfolding result_bytes
length-result_bytes (reply.Refused status) volume = length-words (number_of status ∷ [])
length-result_bytes (reply.Attr attr) volume = simp (length-append, length-words) (omega arith)
length-result_bytes (reply.Handle file attr) volume = simp (length-append, length-words, length-handle_of) (omega arith)
length-result_bytes (reply.Text text) volume = simp (length-append, length-words, length-opaque_bytes) (omega arith)
length-result_bytes (reply.Data attr bytes) volume = simp (length-append, length-words, length-opaque_bytes) (omega arith)
length-result_bytes reply.Done volume = length-words (0 ∷ [])
length-result_bytes (reply.Entries list end) volume = simp (length-append, length-words, length-flat_map) (omega arith)
length-result_bytes (reply.Space blocks free) volume = length-words (0 ∷ 8192 ∷ 512 ∷ blocks ∷ free ∷ free ∷ [])

-- six words come before the result
pub length-bytes_of : (xid : ℕ) (r : Reply) (volume : ℕ) → length (bytes_of xid r volume) ≡ 24 + result_length r
unfolding bytes_of
length-bytes_of xid r volume =
    let head : List ℕ = xid ∷ 1 ∷ 0 ∷ 0 ∷ 0 ∷ 0 ∷ [] in
    omega (arith, length-append (words head) (result_bytes r volume), length-words head, length-result_bytes r volume)

-- the replies of a WRITE fit in the room for one
pub short_fits : (xid : ℕ) (r : Reply) (volume : ℕ) → IsShort r → length (bytes_of xid r volume) ≤ 96
short_fits xid (reply.Refused status) volume short = omega (arith, length-bytes_of xid (reply.Refused status) volume)
short_fits xid (reply.Attr attr) volume short = omega (arith, length-bytes_of xid (reply.Attr attr) volume)
short_fits xid (reply.Handle file attr) volume short = absurd short
short_fits xid (reply.Text text) volume short = absurd short
short_fits xid (reply.Data attr bytes) volume short = absurd short
short_fits xid reply.Done volume short = absurd short
short_fits xid (reply.Entries list end) volume short = absurd short
short_fits xid (reply.Space blocks free) volume short = absurd short

-- the replies of a READ fit in the room for one
pub data_fits : (xid : ℕ) (attr : Attr) (bytes : List ℕ) (volume : ℕ) → length bytes ≤ 8192 → length (bytes_of xid (reply.Data attr bytes) volume) ≤ 8292
data_fits xid attr bytes volume few = omega (arith, length-bytes_of xid (reply.Data attr bytes) volume, few)

-- entries by their room
rooms : (list : List Entry) → sum_by (λ e. length (entry_bytes e)) list ≤ sum_by entry_room list
rooms list = sum_by-le-sum_by (λ e. length (entry_bytes e)) entry_room list (λ e. omega (arith, length-entry_bytes e))

bounded_fits : (xid : ℕ) (r : Reply) (volume : ℕ) → IsBounded r → length (bytes_of xid r volume) ≤ 8292
bounded_fits xid (reply.Refused status) volume is = omega (arith, length-bytes_of xid (reply.Refused status) volume)
bounded_fits xid (reply.Attr attr) volume is = omega (arith, length-bytes_of xid (reply.Attr attr) volume)
bounded_fits xid (reply.Handle file attr) volume is = omega (arith, length-bytes_of xid (reply.Handle file attr) volume)
bounded_fits xid (reply.Text text) volume is = omega (arith, length-bytes_of xid (reply.Text text) volume, is)
bounded_fits xid (reply.Data attr bytes) volume is = data_fits xid attr bytes volume is
bounded_fits xid reply.Done volume is = omega (arith, length-bytes_of xid reply.Done volume)
bounded_fits xid (reply.Entries list end) volume is = omega (arith, length-bytes_of xid (reply.Entries list end) volume, rooms list, is)
bounded_fits xid (reply.Space blocks free) volume is = omega (arith, length-bytes_of xid (reply.Space blocks free) volume)

-- each reply that a call can have fits in the room for one
pub answer_fits : (xid : ℕ) (c : Call) (r : Reply) (volume : ℕ) → CanAnswer c r → length (bytes_of xid r volume) ≤ longest_of c
answer_fits xid (call.Write file offset bytes) r volume can = short_fits xid r volume can
answer_fits xid (call.Getattr file) r volume can = bounded_fits xid r volume can
answer_fits xid (call.Setattr file set) r volume can = bounded_fits xid r volume can
answer_fits xid (call.Lookup dir name) r volume can = bounded_fits xid r volume can
answer_fits xid (call.Readlink file) r volume can = bounded_fits xid r volume can
answer_fits xid (call.Read file offset count) r volume can = bounded_fits xid r volume can
answer_fits xid (call.Create dir name set) r volume can = bounded_fits xid r volume can
answer_fits xid (call.Remove dir name) r volume can = bounded_fits xid r volume can
answer_fits xid (call.Rename from name to new_name) r volume can = bounded_fits xid r volume can
answer_fits xid (call.Link file dir name) r volume can = bounded_fits xid r volume can
answer_fits xid (call.Symlink dir name text set) r volume can = bounded_fits xid r volume can
answer_fits xid (call.Mkdir dir name set) r volume can = bounded_fits xid r volume can
answer_fits xid (call.Rmdir dir name) r volume can = bounded_fits xid r volume can
answer_fits xid (call.Readdir dir cookie count) r volume can = bounded_fits xid r volume can
answer_fits xid (call.Statfs file) r volume can = bounded_fits xid r volume can
