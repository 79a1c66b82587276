-- The rows of the calls on one file: GETATTR, SETATTR, READ, WRITE (docs/CALLS.md).
use Rattle.std.specs.Prelude.{ℕ, ◌+◌, ◌-◌, min, Bool, List, [], ◌∷◌, length, take, drop, Option, nat_lt, is_some, not, ◌&&◌, ◌||◌}
use Rattle.std.specs.List.{range_with_len, flat_map}
use Rattle.files_model.specs.declared.attributes.FileId.{FileId}
use Rattle.files_model.specs.declared.attributes.Attr.{Attr}
use Rattle.files_model.specs.declared.attributes.Sattr.{Sattr}
use Rattle.files_model.specs.declared.credential.Cred.{Cred}
use Rattle.files_model.specs.declared.permission.Want.TheVariants as want
use Rattle.files_model.specs.declared.reply.Stat.{Stat}
use Rattle.files_model.specs.declared.reply.Stat.TheVariants as stat
use Rattle.files_model.specs.declared.reply.Reply.{Reply}
use Rattle.files_model.specs.declared.reply.Reply.TheVariants as reply
use Rattle.files_model.specs.Answers.{sector_of, written, attr_of, first_of, unless, with_node, at_live}
use Rattle.files_model.specs.Attributes.{set_node, is_root, is_owner, is_other, is_own_group, sets_owned, is_above}
use Rattle.files_model.specs.Files.{Node, Files, sectors_of, live}
use Rattle.files_model.specs.Permission.{allows, is_directory, is_link}
use Rattle.files_model.specs.Space.{size_limit, node_usage, free}

-- the refusals of WRITE in their order. NOSPC is where the data blocks and the block of addresses to be added are more than the free ones
abbrev pub write_refusal : Files → FileId → Node → Cred → ℕ → List ℕ → ℕ → Option Stat
write_refusal files file n cred offset bytes now = first_of (
    (files.read_only, stat.Rofs) ∷ (is_directory n.kind, stat.Isdir) ∷ (is_link n.kind, stat.Nxio)
    ∷ (not (allows cred (attr_of file.ino n) want.Write), stat.Acces)
    ∷ (nat_lt size_limit (offset + length bytes), stat.Fbig)
    ∷ (nat_lt (free files) (node_usage (written n offset bytes now) - node_usage n), stat.Nospc) ∷ [])

-- WRITE (RFC 1094 2.2.9)
unfoldable pub write_row : Files → FileId → ℕ → List ℕ → Cred → ℕ → Reply × Files
write_row files file offset bytes cred now = at_live files (live files file) (λ n.
    unless files (write_refusal files file n cred offset bytes now)
    (reply.Attr (attr_of file.ino (written n offset bytes now)), with_node files file.ino (written n offset bytes now)))

-- GETATTR (RFC 1094 2.2.2)
unfoldable pub getattr_row : Files → FileId → Reply × Files
getattr_row files file = at_live files (live files file) (λ n. (reply.Attr (attr_of file.ino n), files))

-- the most bytes that one READ gives
abbrev pub most_read : ℕ
most_read = 8192

-- the bytes of a file: its sectors one after the other, up to its size
unfoldable pub content : Node → List ℕ
content n = take n.size (flat_map (sector_of n.sectors) (range_with_len 0 (sectors_of n.size)))

-- the refusals of READ in their order
abbrev pub read_refusal : FileId → Node → Cred → Option Stat
read_refusal file n cred = first_of (
    (is_directory n.kind, stat.Isdir) ∷ (is_link n.kind, stat.Nxio)
    ∷ (not (allows cred (attr_of file.ino n) want.Read), stat.Acces) ∷ [])

-- READ (RFC 1094 2.2.7)
unfoldable pub read_row : Files → FileId → ℕ → ℕ → Cred → Reply × Files
read_row files file offset count cred = at_live files (live files file) (λ n.
    unless files (read_refusal file n cred)
    (reply.Data (attr_of file.ino n) (take (min count most_read) (drop offset (content n))), files))

-- the refusals of SETATTR in their order, by the attributes of its file
abbrev pub setattr_refusal : Bool → Attr → Sattr → Cred → Option Stat
setattr_refusal read_only attr set cred = first_of (
    (read_only, stat.Rofs) ∷ (is_some set.size && is_directory attr.kind, stat.Isdir) ∷ (is_some set.size && is_link attr.kind, stat.Nxio)
    ∷ (sets_owned set && not (is_owner cred attr || is_root cred), stat.Perm)
    ∷ (is_other set.uid attr.uid && not (is_root cred), stat.Perm)
    ∷ (is_other set.gid attr.gid && not (is_root cred || (is_owner cred attr && is_own_group cred set.gid)), stat.Perm)
    ∷ (is_some set.size && not (allows cred attr want.Write), stat.Acces)
    ∷ (is_above set.size size_limit, stat.Fbig) ∷ [])

-- SETATTR (RFC 1094 2.2.3)
unfoldable pub setattr_row : Files → FileId → Sattr → Cred → ℕ → Reply × Files
setattr_row files file set cred now = at_live files (live files file) (λ n.
    unless files (setattr_refusal files.read_only (attr_of file.ino n) set cred)
    (reply.Attr (attr_of file.ino (set_node n set now)), with_node files file.ino (set_node n set now)))
