-- What the arguments of a call of any procedure mean (RFC 1094 2.2). Bytes after the last argument are passed over.
use Rattle.std.specs.Prelude.{ℕ, List, Option, Some, None, Result, Ok, Err, ◌==◌, if◌then◌else◌}
use Rattle.files_model.specs.declared.attributes.FileId.{FileId}
use Rattle.files_model.specs.declared.attributes.Sattr.{Sattr}
use Rattle.files_model.specs.declared.call.Call.{Call}
use Rattle.files_model.specs.declared.call.Call.TheVariants as call
use Rattle.xdr_rpc.specs.Tests.{◌>>=◌}
use Rattle.nfs2_wire.specs.declared.all_calls.NfsCall.{NfsCall}
use Rattle.nfs2_wire.specs.declared.all_calls.NfsCall.TheVariants as read
use Rattle.nfs2_wire.specs.declared.on_volume.OfFile.{OfFile}
use Rattle.nfs2_wire.specs.declared.on_volume.OfFile.TheVariants as file
use Rattle.nfs2_wire.specs.declared.on_volume.OfName.{OfName}
use Rattle.nfs2_wire.specs.declared.on_volume.OfName.TheVariants as name
use Rattle.nfs2_wire.specs.declared.on_volume.OfNew.{OfNew}
use Rattle.nfs2_wire.specs.declared.on_volume.OfNew.TheVariants as new
use Rattle.nfs2_wire.specs.declared.on_volume.VolumeCall.{VolumeCall}
use Rattle.nfs2_wire.specs.declared.on_volume.Unread.{Unread}
use Rattle.nfs2_wire.specs.declared.on_volume.Unread.TheVariants.{Stale, Garbage}
use Rattle.nfs2_wire.specs.declared.handle.Handle.{Handle}
use Rattle.nfs2_wire.specs.Handles.{handle, of_open, second}
use Rattle.nfs2_wire.specs.Arguments.{getattr_args, read_args, write_args}
use Rattle.nfs2_wire.specs.Shapes.{set_args, name_args, new_args, rename_args, link_args, symlink_args, part_args}

-- arguments that can be read
abbrev pub readable : {A : Type 0} → Option A → Result A Unread
readable None = Err Garbage
readable (Some args) = Ok args

abbrev pub named_by : Option Handle → Result Handle Unread
named_by None = Err Stale
named_by (Some h) = Ok h

-- the volume and the file that a handle names, on one of so many open volumes
abbrev pub opened : ℕ → List ℕ → Result Handle Unread
opened volumes bytes = named_by (of_open volumes (handle bytes))

abbrev pub on : Handle → (FileId → Call) → Result VolumeCall Unread
on h asked = Ok (record { volume = h.volume; call = asked h.file })

-- ---- one call for each procedure (RFC 1094 2.2.2 to 2.2.18)

-- GETATTR, READLINK and STATFS: of a file alone
abbrev pub of_file : OfFile → FileId → Call
of_file file.Getattr = λ f. call.Getattr f
of_file file.Readlink = λ f. call.Readlink f
of_file file.Statfs = λ f. call.Statfs f

unfoldable pub file_call : OfFile → ℕ → List ℕ → Result VolumeCall Unread
file_call asked volumes bytes = do
  a ← readable (getattr_args bytes)
  h ← opened volumes a
  on h (λ f. of_file asked f)

-- LOOKUP, REMOVE and RMDIR: of a name in a directory
abbrev pub of_name : OfName → FileId → List ℕ → Call
of_name name.Lookup = λ dir n. call.Lookup dir n
of_name name.Remove = λ dir n. call.Remove dir n
of_name name.Rmdir = λ dir n. call.Rmdir dir n

unfoldable pub name_call : OfName → ℕ → List ℕ → Result VolumeCall Unread
name_call asked volumes bytes = do
  a ← readable (name_args bytes)
  h ← opened volumes a.0
  on h (λ dir. of_name asked dir a.1)

-- CREATE and MKDIR: a name and attributes
abbrev pub of_new : OfNew → FileId → List ℕ → Sattr → Call
of_new new.Create = λ dir n set. call.Create dir n set
of_new new.Mkdir = λ dir n set. call.Mkdir dir n set

unfoldable pub new_call : OfNew → ℕ → List ℕ → Result VolumeCall Unread
new_call asked volumes bytes = do
  a ← readable (new_args bytes)
  h ← opened volumes a.0
  on h (λ dir. of_new asked dir a.1 a.2)

unfoldable pub setattr_call : ℕ → List ℕ → Result VolumeCall Unread
setattr_call volumes bytes = do
  a ← readable (set_args bytes)
  h ← opened volumes a.0
  on h (λ file. call.Setattr file a.1)

unfoldable pub read_call : ℕ → List ℕ → Result VolumeCall Unread
read_call volumes bytes = do
  a ← readable (read_args bytes)
  h ← opened volumes a.0
  on h (λ file. call.Read file a.1 a.2)

unfoldable pub write_call : ℕ → List ℕ → Result VolumeCall Unread
write_call volumes bytes = do
  a ← readable (write_args bytes)
  h ← opened volumes a.0
  on h (λ file. call.Write file a.1 a.2)

unfoldable pub rename_call : ℕ → List ℕ → Result VolumeCall Unread
rename_call volumes bytes = do
  a ← readable (rename_args bytes)
  h ← opened volumes a.0
  on h (λ dir. call.Rename dir a.1 (second h.volume a.2) a.3)

unfoldable pub link_call : ℕ → List ℕ → Result VolumeCall Unread
link_call volumes bytes = do
  a ← readable (link_args bytes)
  h ← opened volumes a.0
  on h (λ file. call.Link file (second h.volume a.1) a.2)

unfoldable pub symlink_call : ℕ → List ℕ → Result VolumeCall Unread
symlink_call volumes bytes = do
  a ← readable (symlink_args bytes)
  h ← opened volumes a.0
  on h (λ dir. call.Symlink dir a.1 a.2 a.3)

unfoldable pub readdir_call : ℕ → List ℕ → Result VolumeCall Unread
readdir_call volumes bytes = do
  a ← readable (part_args bytes)
  h ← opened volumes a.0
  on h (λ dir. call.Readdir dir a.1 a.2)

-- ---- the table

abbrev pub read_of : Result VolumeCall Unread → NfsCall
read_of (Ok asked) = read.Call asked.volume asked.call
read_of (Err Stale) = read.Stale
read_of (Err Garbage) = read.Garbage

-- by number; 3 and 7, and what is no procedure with arguments, are answered without a result
unfoldable pub nfs_call : ℕ → List ℕ → ℕ → NfsCall
nfs_call procedure args volumes =
    if procedure == 1 then read_of (file_call file.Getattr volumes args)
    else if procedure == 2 then read_of (setattr_call volumes args)
    else if procedure == 4 then read_of (name_call name.Lookup volumes args)
    else if procedure == 5 then read_of (file_call file.Readlink volumes args)
    else if procedure == 6 then read_of (read_call volumes args)
    else if procedure == 8 then read_of (write_call volumes args)
    else if procedure == 9 then read_of (new_call new.Create volumes args)
    else if procedure == 10 then read_of (name_call name.Remove volumes args)
    else if procedure == 11 then read_of (rename_call volumes args)
    else if procedure == 12 then read_of (link_call volumes args)
    else if procedure == 13 then read_of (symlink_call volumes args)
    else if procedure == 14 then read_of (new_call new.Mkdir volumes args)
    else if procedure == 15 then read_of (name_call name.Rmdir volumes args)
    else if procedure == 16 then read_of (readdir_call volumes args)
    else if procedure == 17 then read_of (file_call file.Statfs volumes args)
    else read.Void

-- a WRITE or a SYMLINK, whose bytes take memory
abbrev pub TakesMemory : NfsCall → Type 0
TakesMemory (read.Call volume (call.Write file offset bytes)) = Unit {0}
TakesMemory (read.Call volume (call.Symlink dir name text set)) = Unit {0}
TakesMemory _ = ⊥
