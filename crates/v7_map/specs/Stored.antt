-- What handles and calls mean, by the records of an image in which there is nothing to mend.
use Rattle.std.specs.Prelude.{ℕ, ◌-◌, ◌/◌, ◌%◌, min, Bool, List, [], ◌∷◌, length, take, drop, get_or, Option, Some, None, ◌==◌, nat_lt, if◌then◌else◌, not, ◌&&◌}
use Rattle.std.specs.List.{range_with_len, flat_map}
use Rattle.stable.specs.Store.{Image}
use Rattle.v7_layout.specs.declared.inode.Inode.{Inode}
use Rattle.files_model.specs.declared.attributes.Attr.{Attr}
use Rattle.files_model.specs.declared.attributes.FileId.{FileId}
use Rattle.files_model.specs.declared.credential.Cred.{Cred}
use Rattle.files_model.specs.declared.permission.Want.TheVariants as want
use Rattle.files_model.specs.declared.reply.Reply.{Reply}
use Rattle.files_model.specs.declared.reply.Reply.TheVariants as reply
use Rattle.files_model.specs.declared.reply.Stat.{Stat}
use Rattle.files_model.specs.declared.reply.Stat.TheVariants as stat
use Rattle.files_model.specs.Files.{sectors_of, clipped}
use Rattle.files_model.specs.Permission.{allows, is_directory, is_link}
use Rattle.files_model.specs.Step.{zeros, first_of, most_read}
use Rattle.v7_map.specs.Image.{sector_at, is_inode, inode_at}
use Rattle.v7_map.specs.Frame.{listed, body_places}
use Rattle.files_model.specs.Space.{size_limit}
use Rattle.v7_map.specs.View.{kind_of}

-- ---- inodes, whatever stands in them

-- an address; one at or past the end of a store of so many sectors is none
abbrev pub address_within : ℕ → ℕ → ℕ
address_within sectors address = if nat_lt address sectors then address else 0

-- the address of sector k of an inode's body, 0 for none: one of the ten of the inode, or one of the 128 in its single indirect block
unfoldable pub sector_in : Image → Inode → ℕ → ℕ
sector_in image n k = address_within (length image) (
    if nat_lt k 10 then get_or n.direct k 0
    else if nat_lt k body_places then listed image (address_within (length image) n.single) (k - 10)
    else 0)

-- the inode, whose size is taken as the greatest one where it is above that
abbrev pub limited : Inode → Inode
limited n = record n { size = min n.size size_limit }

-- ---- handles

-- the inode is used, and of this generation
abbrev pub is_current : Inode → ℕ → Bool
is_current n generation = not (n.mode == 0) && (n.generation == generation)

-- the file that a handle means stands: its inode is one of the volume's, used, and of this generation
abbrev pub is_standing : Image → FileId → Bool
is_standing image file = is_inode image file.ino && is_current (inode_at image file.ino) file.generation

-- the attributes that inode i stores
abbrev pub stored_attr : ℕ → Inode → Attr
stored_attr i n = record {
  kind = kind_of (n.mode / 4096);
  mode = n.mode % 4096;
  nlink = n.nlink;
  uid = n.uid;
  gid = n.gid;
  size = n.size;
  fileid = i;
  atime = n.atime;
  mtime = n.mtime;
  ctime = n.ctime;
}

-- a refusal, or this answer
abbrev pub answer_by : Option Stat → Reply → Reply
answer_by None answer = answer
answer_by (Some status) answer = reply.Refused status

-- the answer where the handle stands
abbrev pub answer_standing : Image → FileId → Reply → Reply
answer_standing image file answer = if is_standing image file then answer else reply.Refused stat.Stale

-- ---- GETATTR

abbrev pub getattr_answer : Image → FileId → Reply
getattr_answer image file = answer_standing image file (reply.Attr (stored_attr file.ino (inode_at image file.ino)))

-- ---- READ

-- sector k of a body: what stands there with zeros past the size; a missing one reads as zeros
unfoldable pub stored_sector : Image → Inode → ℕ → List ℕ
stored_sector image n k = if sector_in image n k == 0 then zeros else clipped n.size k (sector_at image (sector_in image n k))

-- the bytes of a body: its sectors one after the other, up to its size
unfoldable pub stored_content : Image → Inode → List ℕ
stored_content image n = take n.size (flat_map (stored_sector image n) (range_with_len 0 (sectors_of n.size)))

-- the refusal of a read of inode i, if any
abbrev pub read_refusal_by : ℕ → Inode → Cred → Option Stat
read_refusal_by i n cred = first_of (
    (is_directory (kind_of (n.mode / 4096)), stat.Isdir) ∷ (is_link (kind_of (n.mode / 4096)), stat.Nxio)
    ∷ (not (allows cred (stored_attr i n) want.Read), stat.Acces) ∷ [])

-- the bytes of a read of so many from an offset on
abbrev pub read_bytes : Image → Inode → ℕ → ℕ → List ℕ
read_bytes image n offset count = take (min count most_read) (drop offset (stored_content image n))

abbrev pub read_answer : Image → FileId → ℕ → ℕ → Cred → Reply
read_answer image file offset count cred =
    let n = inode_at image file.ino in
    answer_standing image file (answer_by (read_refusal_by file.ino n cred) (reply.Data (stored_attr file.ino n) (read_bytes image n offset count)))
