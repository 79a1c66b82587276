-- What a call answers, and the files that it leaves: one row a call (docs/CALLS.md).
use Rattle.std.specs.Prelude.{ℕ, Bool, true, false, ◌&&◌, not}
use Rattle.files_model.specs.declared.credential.Cred.{Cred}
use Rattle.files_model.specs.declared.reply.Reply.{Reply}
use Rattle.files_model.specs.declared.reply.Reply.TheVariants as reply
use Rattle.files_model.specs.declared.call.Call.{Call}
use Rattle.files_model.specs.declared.call.Call.TheVariants as call
use Rattle.files_model.specs.Files.{Files}
use Rattle.files_model.specs.NameRows.{lookup_row, create_row, remove_row, rename_row, link_row, symlink_row, mkdir_row, rmdir_row}
use Rattle.files_model.specs.ReadingRows.{readlink_row, readdir_row, statfs_row}
unfoldable pub use Rattle.files_model.specs.Answers.{zeros, sector_of, spliced, touched, changes, with_sectors, written, attr_of, first_of, unless, with_node, at_live}
unfoldable pub use Rattle.files_model.specs.FileRows.{write_refusal, write_row, getattr_row, most_read, content, read_refusal, read_row, setattr_refusal, setattr_row}

-- what a call answers at this time, and the files that it leaves
abbrev pub step : Files → Call → Cred → ℕ → Reply × Files
step files (call.Getattr file) cred now = getattr_row files file
step files (call.Setattr file set) cred now = setattr_row files file set cred now
step files (call.Read file offset count) cred now = read_row files file offset count cred
step files (call.Write file offset bytes) cred now = write_row files file offset bytes cred now
step files (call.Lookup dir name) cred now = lookup_row files dir name cred
step files (call.Readlink file) cred now = readlink_row files file
step files (call.Create dir name set) cred now = create_row files dir name set cred now
step files (call.Remove dir name) cred now = remove_row files dir name cred now
step files (call.Rename from name to new_name) cred now = rename_row files from name to new_name cred now
step files (call.Link file dir name) cred now = link_row files file dir name cred now
step files (call.Symlink dir name text set) cred now = symlink_row files dir name text set cred now
step files (call.Mkdir dir name set) cred now = mkdir_row files dir name set cred now
step files (call.Rmdir dir name) cred now = rmdir_row files dir name cred now
step files (call.Readdir dir cookie count) cred now = readdir_row files dir cookie count cred
step files (call.Statfs file) cred now = statfs_row files file

-- ---- positive replies

-- a call that changes files
abbrev pub is_change : Call → Bool
is_change (call.Getattr file) = false
is_change (call.Lookup dir name) = false
is_change (call.Readlink file) = false
is_change (call.Read file offset count) = false
is_change (call.Readdir dir cookie count) = false
is_change (call.Statfs file) = false
is_change _ = true

abbrev pub is_refused : Reply → Bool
is_refused (reply.Refused status) = true
is_refused _ = false

-- a reply of status 0 to a call that changes files
abbrev pub is_positive : Call → Reply → Bool
is_positive c r = is_change c && not (is_refused r)
