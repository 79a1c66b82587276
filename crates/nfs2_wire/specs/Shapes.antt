-- The shapes of arguments (RFC 1094 2.2 and 2.3): the bytes of handles, names, texts and data, numbers, and attributes to be set.
use Rattle.std.specs.Prelude.{ℕ, List, Option, Some, None, ◌==◌, if◌then◌else◌}
use Rattle.files_model.specs.declared.attributes.Sattr.{Sattr}
use Rattle.xdr_rpc.specs.Words.{◌>>=◌, word, fixed, opaque}

-- a word of all ones isn't set
abbrev pub set_of : ℕ → Option ℕ
set_of n = if n == 0xffffffff then None else Some n

-- eight words; microseconds are passed over (RFC 1094 2.3.6, sattr)
unfoldable pub sattr : List ℕ → Option (Sattr × List ℕ)
sattr bytes = do
  mode ← word bytes
  uid ← word mode.1
  gid ← word uid.1
  size ← word gid.1
  atime ← word size.1
  atime_micro ← word atime.1
  mtime ← word atime_micro.1
  mtime_micro ← word mtime.1
  Some (record { mode = set_of mode.0; uid = set_of uid.0; gid = set_of gid.0; size = set_of size.0; atime = set_of atime.0; mtime = set_of mtime.0 }, mtime_micro.1)

-- a handle and attributes
unfoldable pub set_args : List ℕ → Option (List ℕ × Sattr)
set_args bytes = do
  file ← fixed 32 bytes
  set ← sattr file.1
  Some (file.0, set.0)

-- a handle and a name, with the bytes after them (RFC 1094 2.3.10, diropargs)
unfoldable pub dirop : List ℕ → Option ((List ℕ × List ℕ) × List ℕ)
dirop bytes = do
  dir ← fixed 32 bytes
  name ← opaque 255 dir.1
  Some ((dir.0, name.0), name.1)

-- a handle and a name
unfoldable pub name_args : List ℕ → Option (List ℕ × List ℕ)
name_args bytes = do
  at ← dirop bytes
  Some (at.0.0, at.0.1)

-- a handle, a name and attributes
unfoldable pub new_args : List ℕ → Option (List ℕ × List ℕ × Sattr)
new_args bytes = do
  at ← dirop bytes
  set ← sattr at.1
  Some (at.0.0, at.0.1, set.0)

-- a handle and a name, twice
unfoldable pub rename_args : List ℕ → Option (List ℕ × List ℕ × List ℕ × List ℕ)
rename_args bytes = do
  from ← dirop bytes
  to ← dirop from.1
  Some (from.0.0, from.0.1, to.0.0, to.0.1)

-- two handles and a name
unfoldable pub link_args : List ℕ → Option (List ℕ × List ℕ × List ℕ)
link_args bytes = do
  file ← fixed 32 bytes
  to ← dirop file.1
  Some (file.0, to.0.0, to.0.1)

-- a handle, a name, a text and attributes
unfoldable pub symlink_args : List ℕ → Option (List ℕ × List ℕ × List ℕ × Sattr)
symlink_args bytes = do
  at ← dirop bytes
  text ← opaque 1024 at.1
  set ← sattr text.1
  Some (at.0.0, at.0.1, text.0, set.0)

-- a handle, cookie and count
unfoldable pub part_args : List ℕ → Option (List ℕ × ℕ × ℕ)
part_args bytes = do
  dir ← fixed 32 bytes
  cookie ← word dir.1
  count ← word cookie.1
  Some (dir.0, cookie.0, count.0)
