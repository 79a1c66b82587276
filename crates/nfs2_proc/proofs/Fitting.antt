-- The reply of a call fits the room of its call.
use Rattle.std.proofs.Common.{◌≡◌, ℕ, ◌+◌, ◌≤◌, List, arith, length}
use Rattle.std.proofs.lemmas.List.Sums.{sum_by-le-sum_by}
use Rattle.std.specs.List.{sum_by}
use Rattle.files_model.specs.declared.call.Call.{Call}
use Rattle.files_model.specs.declared.call.Call.TheVariants as call
use Rattle.files_model.specs.declared.entries.Entry.{Entry}
use Rattle.files_model.specs.declared.reply.Reply.{Reply}
use Rattle.files_model.specs.declared.reply.Reply.TheVariants as reply
use Rattle.files_model.specs.declared.reply.Stat.TheVariants as stat
use Rattle.files_model.specs.ReadingRows.{entry_size}
use Rattle.nfs2_wire.specs.Bounds.{entry_room}
use Rattle.nfs2_wire.specs.Replies.{bytes_of, longest_of}
use Rattle.nfs2_wire.proofs.Lengths.{short_fits, data_fits, answer_fits}
use Rattle.volume.specs.Applied.{HasForm}

-- entries whose sizes fit have room
entries_bounded : (list : List Entry) → 12 + sum_by entry_size list ≤ 8192 → 12 + sum_by entry_room list ≤ 8192
entries_bounded list few = let same = sum_by-le-sum_by entry_room entry_size list (λ e. omega arith) in omega (arith, same, few)

-- the bytes of a reply fit the room of its call
pub reply_fits : (xid : ℕ) (c : Call) (r : Reply) (volume : ℕ) → HasForm c r → length (bytes_of xid r volume) ≤ longest_of c
reply_fits xid (call.Getattr file) (reply.Refused status) volume form = let fits = short_fits xid (reply.Refused status) volume tt in omega (arith, fits)
reply_fits xid (call.Getattr file) (reply.Attr attr) volume form = let fits = short_fits xid (reply.Attr attr) volume tt in omega (arith, fits)
reply_fits xid (call.Getattr file) _ volume form = absurd form
reply_fits xid (call.Setattr file set) (reply.Refused status) volume form = let fits = short_fits xid (reply.Refused status) volume tt in omega (arith, fits)
reply_fits xid (call.Setattr file set) (reply.Attr attr) volume form = let fits = short_fits xid (reply.Attr attr) volume tt in omega (arith, fits)
reply_fits xid (call.Setattr file set) _ volume form = absurd form
reply_fits xid (call.Read file offset count) (reply.Refused status) volume form = let fits = short_fits xid (reply.Refused status) volume tt in omega (arith, fits)
reply_fits xid (call.Read file offset count) (reply.Data attr bytes) volume form = data_fits xid attr bytes volume form
reply_fits xid (call.Read file offset count) _ volume form = absurd form
reply_fits xid (call.Write file offset bytes) (reply.Refused status) volume form = short_fits xid (reply.Refused status) volume tt
reply_fits xid (call.Write file offset bytes) (reply.Attr attr) volume form = short_fits xid (reply.Attr attr) volume tt
reply_fits xid (call.Write file offset bytes) _ volume form = absurd form
reply_fits xid (call.Lookup dir name) (reply.Refused status) volume form = answer_fits xid (call.Lookup dir name) (reply.Refused status) volume tt
reply_fits xid (call.Lookup dir name) (reply.Handle file attr) volume form = answer_fits xid (call.Lookup dir name) (reply.Handle file attr) volume tt
reply_fits xid (call.Lookup dir name) _ volume form = absurd form
reply_fits xid (call.Create dir name set) (reply.Refused status) volume form = answer_fits xid (call.Create dir name set) (reply.Refused status) volume tt
reply_fits xid (call.Create dir name set) (reply.Handle file attr) volume form = answer_fits xid (call.Create dir name set) (reply.Handle file attr) volume tt
reply_fits xid (call.Create dir name set) _ volume form = absurd form
reply_fits xid (call.Remove dir name) (reply.Refused status) volume form = answer_fits xid (call.Remove dir name) (reply.Refused status) volume tt
reply_fits xid (call.Remove dir name) reply.Done volume form = answer_fits xid (call.Remove dir name) reply.Done volume tt
reply_fits xid (call.Remove dir name) _ volume form = absurd form
reply_fits xid (call.Readlink file) (reply.Refused status) volume form = answer_fits xid (call.Readlink file) (reply.Refused status) volume tt
reply_fits xid (call.Readlink file) (reply.Text text) volume form = answer_fits xid (call.Readlink file) (reply.Text text) volume form
reply_fits xid (call.Readlink file) _ volume form = absurd form
reply_fits xid (call.Readdir dir cookie count) (reply.Refused status) volume form = answer_fits xid (call.Readdir dir cookie count) (reply.Refused status) volume tt
reply_fits xid (call.Readdir dir cookie count) (reply.Entries list end) volume form = answer_fits xid (call.Readdir dir cookie count) (reply.Entries list end) volume (entries_bounded list form)
reply_fits xid (call.Readdir dir cookie count) _ volume form = absurd form
reply_fits xid (call.Statfs file) (reply.Refused status) volume form = answer_fits xid (call.Statfs file) (reply.Refused status) volume tt
reply_fits xid (call.Statfs file) (reply.Space blocks free) volume form = answer_fits xid (call.Statfs file) (reply.Space blocks free) volume tt
reply_fits xid (call.Statfs file) _ volume form = absurd form
reply_fits xid (call.Mkdir dir name set) (reply.Refused status) volume form = answer_fits xid (call.Mkdir dir name set) (reply.Refused status) volume tt
reply_fits xid (call.Mkdir dir name set) (reply.Handle file attr) volume form = answer_fits xid (call.Mkdir dir name set) (reply.Handle file attr) volume tt
reply_fits xid (call.Mkdir dir name set) _ volume form = absurd form
reply_fits xid (call.Rmdir dir name) (reply.Refused status) volume form = answer_fits xid (call.Rmdir dir name) (reply.Refused status) volume tt
reply_fits xid (call.Rmdir dir name) reply.Done volume form = answer_fits xid (call.Rmdir dir name) reply.Done volume tt
reply_fits xid (call.Rmdir dir name) _ volume form = absurd form
reply_fits xid (call.Link file dir name) (reply.Refused status) volume form = answer_fits xid (call.Link file dir name) (reply.Refused status) volume tt
reply_fits xid (call.Link file dir name) reply.Done volume form = answer_fits xid (call.Link file dir name) reply.Done volume tt
reply_fits xid (call.Link file dir name) _ volume form = absurd form
reply_fits xid (call.Symlink dir name text set) (reply.Refused status) volume form = answer_fits xid (call.Symlink dir name text set) (reply.Refused status) volume tt
reply_fits xid (call.Symlink dir name text set) reply.Done volume form = answer_fits xid (call.Symlink dir name text set) reply.Done volume tt
reply_fits xid (call.Symlink dir name text set) _ volume form = absurd form
reply_fits xid (call.Rename from name to new_name) (reply.Refused status) volume form = answer_fits xid (call.Rename from name to new_name) (reply.Refused status) volume tt
reply_fits xid (call.Rename from name to new_name) reply.Done volume form = answer_fits xid (call.Rename from name to new_name) reply.Done volume tt
reply_fits xid (call.Rename from name to new_name) _ volume form = absurd form

pub refusal_fits : (xid : ℕ) (c : Call) (volume : ℕ) → length (bytes_of xid (reply.Refused stat.Io) volume) ≤ longest_of c
refusal_fits xid c volume = reply_fits xid c (reply.Refused stat.Io) volume tt
