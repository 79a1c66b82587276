-- The bytes of replies (RFC 1057 8, accepted_reply; RFC 1094 2.2 and 2.3).
use Rattle.std.specs.Prelude.{ℕ, ◌+◌, Bool, true, false, List, [], ◌∷◌, ◌++◌}
use Rattle.std.specs.List.{flat_map}
use Rattle.files_model.specs.declared.attributes.Attr.{Attr}
use Rattle.files_model.specs.declared.attributes.Kind.{Kind}
use Rattle.files_model.specs.declared.attributes.Kind.TheVariants.{Regular, Directory, Link}
use Rattle.files_model.specs.declared.call.Call.{Call}
use Rattle.files_model.specs.declared.call.Call.TheVariants as call
use Rattle.files_model.specs.declared.entries.Entry.{Entry}
use Rattle.files_model.specs.declared.reply.Reply.{Reply}
use Rattle.files_model.specs.declared.reply.Reply.TheVariants as reply
use Rattle.files_model.specs.declared.reply.Stat.{Stat}
use Rattle.files_model.specs.declared.reply.Stat.TheVariants as stat
use Rattle.files_model.specs.Files.{sectors_of}
use Rattle.xdr_rpc.specs.Words.{words, opaque_bytes}
use Rattle.nfs2_wire.specs.Handles.{handle_of}

-- the number of a status (RFC 1094 2.3.1, stat)
abbrev pub number_of : Stat → ℕ
number_of stat.Perm = 1
number_of stat.Noent = 2
number_of stat.Io = 5
number_of stat.Nxio = 6
number_of stat.Acces = 13
number_of stat.Exist = 17
number_of stat.Notdir = 20
number_of stat.Isdir = 21
number_of stat.Fbig = 27
number_of stat.Nospc = 28
number_of stat.Rofs = 30
number_of stat.Nametoolong = 63
number_of stat.Notempty = 66
number_of stat.Stale = 70

-- the number of a type of file (RFC 1094 2.3.2, ftype)
abbrev pub type_of : Kind → ℕ
type_of Regular = 1
type_of Directory = 2
type_of Link = 5

-- the bits of a mode that tell the type: 0100000, 0040000 and 0120000
abbrev pub type_bits : Kind → ℕ
type_bits Regular = 32768
type_bits Directory = 16384
type_bits Link = 40960

-- attributes as seventeen words: blocks are of 512 bytes, rdev is 0, and each time has 0 microseconds (RFC 1094 2.3.5, fattr)
abbrev pub fattr : Attr → ℕ → List ℕ
fattr a volume =
    type_of a.kind ∷ (type_bits a.kind + a.mode) ∷ a.nlink ∷ a.uid ∷ a.gid ∷ a.size ∷ 512 ∷ 0 ∷ sectors_of a.size ∷ volume ∷ a.fileid
    ∷ a.atime ∷ 0 ∷ a.mtime ∷ 0 ∷ a.ctime ∷ 0 ∷ []

-- the mark before an entry, the entry, and its cookie (RFC 1094 2.2.17, entry)
abbrev pub entry_bytes : Entry → List ℕ
entry_bytes e = words (1 ∷ e.fileid ∷ []) ++ opaque_bytes e.name ++ words (e.cookie ∷ [])

abbrev pub flag : Bool → ℕ
flag true = 1
flag false = 0

-- the status 0
abbrev pub fine : List ℕ
fine = words (0 ∷ [])

-- a result with its status, of a file on this volume
unfoldable pub result_bytes : Reply → ℕ → List ℕ
result_bytes (reply.Refused status) volume = words (number_of status ∷ [])
result_bytes (reply.Attr attr) volume = fine ++ words (fattr attr volume)
result_bytes (reply.Handle file attr) volume = fine ++ handle_of volume file ++ words (fattr attr volume)
result_bytes (reply.Text text) volume = fine ++ opaque_bytes text
result_bytes (reply.Data attr bytes) volume = fine ++ words (fattr attr volume) ++ opaque_bytes bytes
result_bytes reply.Done volume = fine
result_bytes (reply.Entries list end) volume = fine ++ flat_map entry_bytes list ++ words (0 ∷ flag end ∷ [])
result_bytes (reply.Space blocks free) volume = words (0 ∷ 8192 ∷ 512 ∷ blocks ∷ free ∷ free ∷ [])

-- an accepted reply: the transaction number, a reply, accepted, no verifier, done, and the result
unfoldable pub bytes_of : ℕ → Reply → ℕ → List ℕ
bytes_of xid reply volume = words (xid ∷ 1 ∷ 0 ∷ 0 ∷ 0 ∷ 0 ∷ []) ++ result_bytes reply volume

-- how many bytes the reply to a call has at most
abbrev pub longest_of : Call → ℕ
longest_of (call.Write file offset bytes) = 96
longest_of _ = 8292
