-- Names in directories, and new nodes (docs/CALLS.md).
use Rattle.std.specs.Prelude.{ℕ, ◌+◌, ◌-◌, ◌%◌, Bool, false, List, [], ◌∷◌, ◌++◌, length, get_or, set, Option, Some, None, ◌==◌, nat_lt, if◌then◌else◌, ◌&&◌, ◌||◌}
use Rattle.std.specs.List.{range_with_len, list_any, position, position_or_len, find}
use Rattle.std.specs.Str.{bytes_eq}
use Rattle.std.specs.Option.{unwrap_or, is_none}
use Rattle.std.specs.FinMap.{get, insert, empty}
use Rattle.files_model.specs.declared.attributes.FileId.{FileId}
use Rattle.files_model.specs.declared.attributes.Sattr.{Sattr}
use Rattle.files_model.specs.declared.attributes.Kind.TheVariants.{Regular}
use Rattle.files_model.specs.declared.credential.Cred.{Cred}
use Rattle.files_model.specs.declared.permission.Want.TheVariants as want
use Rattle.files_model.specs.declared.reply.Stat.{Stat}
use Rattle.files_model.specs.declared.reply.Stat.TheVariants as stat
use Rattle.files_model.specs.declared.reply.Reply.{Reply}
use Rattle.files_model.specs.declared.reply.Reply.TheVariants as reply
use Rattle.files_model.specs.Answers.{attr_of}
use Rattle.files_model.specs.Attributes.{is_root, id_of, set_node}
use Rattle.files_model.specs.Files.{Node, Files, Slot}
use Rattle.files_model.specs.Permission.{allows}

-- `.` or `..`
abbrev pub is_dots : List ℕ → Bool
is_dots name = bytes_eq name (46 ∷ []) || bytes_eq name (46 ∷ 46 ∷ [])

-- it is empty, or has a byte 0 or a slash
abbrev pub is_bad : List ℕ → Bool
is_bad name = (length name == 0) || list_any (λ b. (b == 0) || (b == 47)) name

-- how many bytes of name a slot has
abbrev pub most_name : ℕ
most_name = 14

-- the tests of a name that is to be made or taken away
abbrev pub name_tests : List ℕ → List (Bool × Stat)
name_tests name = (is_bad name || is_dots name, stat.Acces) ∷ (nat_lt most_name (length name), stat.Nametoolong) ∷ []

abbrev pub has_name : List ℕ → Slot → Bool
has_name name None = false
has_name name (Some e) = bytes_eq e.1 name

-- the i-number in a slot, 0 for none
abbrev pub number_of : Slot → ℕ
number_of None = 0
number_of (Some e) = e.0

abbrev pub number_at : List Slot → ℕ → ℕ
number_at slots k = number_of (get_or slots k None)

-- the caller may change what is in a directory
abbrev pub may_change : Cred → ℕ → Node → Bool
may_change cred i d = allows cred (attr_of i d) want.Write && allows cred (attr_of i d) want.Search

-- the handle of a node as it stands
abbrev pub handle_of : Files → ℕ → FileId
handle_of files i = record { ino = i; generation = unwrap_or (get files.generations i) 0 }

abbrev pub at_node : Files → Option Node → (Node → Reply × Files) → Reply × Files
at_node files None answer = (reply.Refused stat.Noent, files)
at_node files (Some n) answer = answer n

abbrev pub at_slot : Files → Option ℕ → (ℕ → Reply × Files) → Reply × Files
at_slot files None answer = (reply.Refused stat.Noent, files)
at_slot files (Some k) answer = answer k

-- the answer at the first slot of this name, its i-number and its node; NOENT where there is none
abbrev pub at_name : Files → Node → List ℕ → (ℕ → ℕ → Node → Reply × Files) → Reply × Files
at_name files d name answer = at_slot files (position (has_name name) d.slots) (λ k. at_node files (get files.nodes (number_at d.slots k)) (answer k (number_at d.slots k)))

-- where a new entry comes: in the first empty slot, else at the end
abbrev pub place_for : List Slot → ℕ
place_for slots = position_or_len is_none slots

-- a directory with one entry more
unfoldable pub with_entry : Node → Slot → ℕ → Node
with_entry d s now =
    if nat_lt (place_for d.slots) (length d.slots) then record d { slots = set d.slots (place_for d.slots) s; mtime = now; ctime = now }
    else record d { slots = d.slots ++ s ∷ []; size = d.size + 16; mtime = now; ctime = now }

-- a directory with slot k empty
abbrev pub without_entry : Node → ℕ → ℕ → Node
without_entry d k now = record d { slots = set d.slots k None; mtime = now; ctime = now }

-- ---- new nodes

-- a free i-number that can still be given to a new file
abbrev pub is_usable : Files → ℕ → Bool
is_usable files i = is_none (get files.nodes i) && nat_lt (unwrap_or (get files.generations i) 0) 4294967295

-- the lowest one from 3 on
abbrev pub lowest_usable : Files → Option ℕ
lowest_usable files = find (is_usable files) (range_with_len 3 (files.inodes - 2))

-- the owner or group of a new node: the set one where the caller is user 0, else the caller's
abbrev pub new_id : Cred → Option ℕ → ℕ → ℕ
new_id cred wanted own = if is_root cred then id_of (unwrap_or wanted own) else own

-- a new regular file
abbrev pub new_file : Sattr → Cred → ℕ → Node
new_file wanted cred now = record {
  kind = Regular;
  mode = unwrap_or wanted.mode 438 % 4096;
  uid = new_id cred wanted.uid cred.uid;
  gid = new_id cred wanted.gid cred.gid;
  nlink = 1;
  size = unwrap_or wanted.size 0;
  atime = now;
  mtime = now;
  ctime = now;
  sectors = empty;
  slots = [];
}

-- these nodes, and the i-number's generation raised
abbrev pub made_at : Files → ℕ → Node → ℕ → Node → Files
made_at files i n p d = record files { nodes = insert (insert files.nodes i n) p d; generations = insert files.generations i (unwrap_or (get files.generations i) 0 + 1) }

-- a size alone is set
abbrev pub size_alone : ℕ → Sattr
size_alone size = record { mode = None; uid = None; gid = None; size = Some size; atime = None; mtime = None }

-- a file of this size, as a SETATTR of it alone leaves it
abbrev pub resized : Node → ℕ → ℕ → Node
resized n size now = set_node n (size_alone size) now
