-- How the calls of all procedures are sent (RFC 1094 2.2).
use Rattle.std.specs.Prelude.{◌<◌, ◌≤◌, ◌^◌, ℕ, List, [], ◌∷◌, ◌++◌, length, Option, Some, None}
use Rattle.files_model.specs.declared.attributes.FileId.{FileId}
use Rattle.files_model.specs.declared.attributes.Sattr.{Sattr}
use Rattle.files_model.specs.declared.call.Call.{Call}
use Rattle.files_model.specs.declared.call.Call.TheVariants as call
use Rattle.xdr_rpc.specs.Words.{words, opaque_bytes}
use Rattle.nfs2_wire.specs.Handles.{handle_of}

-- ---- the arguments

-- all ones where it isn't set
abbrev pub word_of : Option ℕ → ℕ
word_of None = 0xffffffff
word_of (Some n) = n

-- eight words; microseconds are 0 (RFC 1094 2.3.6, sattr)
unfoldable pub sattr_bytes : Sattr → List ℕ
sattr_bytes s = words (word_of s.mode ∷ word_of s.uid ∷ word_of s.gid ∷ word_of s.size ∷ word_of s.atime ∷ 0 ∷ word_of s.mtime ∷ 0 ∷ [])

-- a handle and a name (RFC 1094 2.3.10, diropargs)
unfoldable pub dirop_bytes : ℕ → FileId → List ℕ → List ℕ
dirop_bytes volume dir name = handle_of volume dir ++ opaque_bytes name

-- a handle, the offset, the count, and totalcount
unfoldable pub read_bytes : ℕ → FileId → ℕ → ℕ → List ℕ
read_bytes volume file offset count = handle_of volume file ++ words (offset ∷ count ∷ 0 ∷ [])

-- the handle, beginoffset, the offset, totalcount, and the bytes
unfoldable pub write_bytes : ℕ → FileId → ℕ → List ℕ → List ℕ
write_bytes volume file offset bytes = handle_of volume file ++ words (0 ∷ offset ∷ 0 ∷ []) ++ opaque_bytes bytes

-- the arguments of a call on a volume, with what follows them
abbrev pub arguments_of : ℕ → Call → List ℕ → List ℕ
arguments_of volume (call.Getattr file) rest = handle_of volume file ++ rest
arguments_of volume (call.Setattr file set) rest = handle_of volume file ++ (sattr_bytes set ++ rest)
arguments_of volume (call.Lookup dir name) rest = dirop_bytes volume dir name ++ rest
arguments_of volume (call.Readlink file) rest = handle_of volume file ++ rest
arguments_of volume (call.Read file offset count) rest = read_bytes volume file offset count ++ rest
arguments_of volume (call.Write file offset bytes) rest = write_bytes volume file offset bytes ++ rest
arguments_of volume (call.Create dir name set) rest = dirop_bytes volume dir name ++ (sattr_bytes set ++ rest)
arguments_of volume (call.Remove dir name) rest = dirop_bytes volume dir name ++ rest
arguments_of volume (call.Rename dir name to new_name) rest = dirop_bytes volume dir name ++ (dirop_bytes volume to new_name ++ rest)
arguments_of volume (call.Link file dir name) rest = handle_of volume file ++ (dirop_bytes volume dir name ++ rest)
arguments_of volume (call.Symlink dir name text set) rest = dirop_bytes volume dir name ++ (opaque_bytes text ++ (sattr_bytes set ++ rest))
arguments_of volume (call.Mkdir dir name set) rest = dirop_bytes volume dir name ++ (sattr_bytes set ++ rest)
arguments_of volume (call.Rmdir dir name) rest = dirop_bytes volume dir name ++ rest
arguments_of volume (call.Readdir dir cookie count) rest = handle_of volume dir ++ (words (cookie ∷ count ∷ []) ++ rest)
arguments_of volume (call.Statfs file) rest = handle_of volume file ++ rest

-- the number of its procedure (RFC 1094 2.2)
abbrev pub procedure_of : Call → ℕ
procedure_of (call.Getattr file) = 1
procedure_of (call.Setattr file set) = 2
procedure_of (call.Lookup dir name) = 4
procedure_of (call.Readlink file) = 5
procedure_of (call.Read file offset count) = 6
procedure_of (call.Write file offset bytes) = 8
procedure_of (call.Create dir name set) = 9
procedure_of (call.Remove dir name) = 10
procedure_of (call.Rename dir name to new_name) = 11
procedure_of (call.Link file dir name) = 12
procedure_of (call.Symlink dir name text set) = 13
procedure_of (call.Mkdir dir name set) = 14
procedure_of (call.Rmdir dir name) = 15
procedure_of (call.Readdir dir cookie count) = 16
procedure_of (call.Statfs file) = 17

-- ---- what fits

-- a file whose numbers fit their words
pub record FileFits (file : FileId) : Type 0 where
  pub ino : file.ino < 2 ^ 32
  pub generation : file.generation < 2 ^ 32

-- it isn't all ones, which would say that it isn't set
abbrev pub WordFits : Option ℕ → Type 0
WordFits None = Unit {0}
WordFits (Some n) = n < 0xffffffff

pub record SattrFits (s : Sattr) : Type 0 where
  pub mode : WordFits s.mode
  pub uid : WordFits s.uid
  pub gid : WordFits s.gid
  pub size : WordFits s.size
  pub atime : WordFits s.atime
  pub mtime : WordFits s.mtime

-- a file and a name
pub record DiropFits (dir : FileId) (name : List ℕ) : Type 0 where
  pub file : FileFits dir
  pub short : length name ≤ 255

-- numbers fit their words, and names, texts and data their bounds
abbrev pub CallFits : Call → Type 0
CallFits (call.Getattr file) = FileFits file
CallFits (call.Setattr file set) = FileFits file × SattrFits set
CallFits (call.Lookup dir name) = DiropFits dir name
CallFits (call.Readlink file) = FileFits file
CallFits (call.Read file offset count) = FileFits file × ((offset < 2 ^ 32) × (count < 2 ^ 32))
CallFits (call.Write file offset bytes) = FileFits file × ((offset < 2 ^ 32) × (length bytes ≤ 8192))
CallFits (call.Create dir name set) = DiropFits dir name × SattrFits set
CallFits (call.Remove dir name) = DiropFits dir name
CallFits (call.Rename dir name to new_name) = DiropFits dir name × DiropFits to new_name
CallFits (call.Link file dir name) = FileFits file × DiropFits dir name
CallFits (call.Symlink dir name text set) = DiropFits dir name × ((length text ≤ 1024) × SattrFits set)
CallFits (call.Mkdir dir name set) = DiropFits dir name × SattrFits set
CallFits (call.Rmdir dir name) = DiropFits dir name
CallFits (call.Readdir dir cookie count) = FileFits dir × ((cookie < 2 ^ 32) × (count < 2 ^ 32))
CallFits (call.Statfs file) = FileFits file

-- it can be sent as a call on one of so many open volumes
pub record CanBeCalled (volumes volume : ℕ) (asked : Call) : Type 0 where
  pub open_volume : volume < volumes
  pub volume_fits : volume < 2 ^ 32
  pub fits : CallFits asked
