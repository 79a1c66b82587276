-- What SETATTR makes of a node (docs/CALLS.md).
use Rattle.std.specs.Prelude.{ℕ, ◌%◌, Bool, false, Option, Some, None, is_some, nat_lt, ◌==◌, if◌then◌else◌, not, ◌||◌}
use Rattle.std.specs.List.{list_any}
use Rattle.std.specs.Option.{unwrap_or, option_map}
use Rattle.std.specs.FinMap.{get}
use Rattle.files_model.specs.declared.attributes.Attr.{Attr}
use Rattle.files_model.specs.declared.attributes.Sattr.{Sattr}
use Rattle.files_model.specs.declared.credential.Cred.{Cred}
use Rattle.files_model.specs.Files.{Node, Sectors, sectors_of, clipped, tabulated}

-- an id of 16 bits: a greater one is that of nobody
abbrev pub id_of : ℕ → ℕ
id_of id = if nat_lt 65535 id then 65534 else id

-- what is held of a body below a size, with zeros at and past it
unfoldable pub cut_at : ℕ → Sectors → Sectors
cut_at size sectors = tabulated (λ k. option_map (clipped size k) (get sectors k)) (sectors_of size)

-- the node with a size that is set
abbrev pub with_size : Node → Option ℕ → ℕ → Node
with_size n None now = n
with_size n (Some size) now = record n { size = size; sectors = cut_at size n.sectors; mtime = now }

-- the node with the attributes that are set: ctime is now, and so is mtime where a size is set; the times that are set come last
unfoldable pub set_node : Node → Sattr → ℕ → Node
set_node n set now =
    let m = with_size n set.size now in
    record m {
      mode = unwrap_or (option_map (λ mode. mode % 4096) set.mode) n.mode;
      uid = unwrap_or (option_map id_of set.uid) n.uid;
      gid = unwrap_or (option_map id_of set.gid) n.gid;
      atime = unwrap_or set.atime n.atime;
      mtime = unwrap_or set.mtime m.mtime;
      ctime = now;
    }

-- the same of attributes
abbrev pub set_attr : Attr → Sattr → ℕ → Attr
set_attr attr set now = record attr {
  mode = unwrap_or (option_map (λ mode. mode % 4096) set.mode) attr.mode;
  uid = unwrap_or (option_map id_of set.uid) attr.uid;
  gid = unwrap_or (option_map id_of set.gid) attr.gid;
  size = unwrap_or set.size attr.size;
  atime = unwrap_or set.atime attr.atime;
  mtime = unwrap_or set.mtime (if is_some set.size then now else attr.mtime);
  ctime = now;
}

-- ---- who may

abbrev pub is_root : Cred → Bool
is_root cred = cred.uid == 0

abbrev pub is_owner : Cred → Attr → Bool
is_owner cred attr = cred.uid == attr.uid

-- an id is set, to another one
abbrev pub is_other : Option ℕ → ℕ → Bool
is_other None id = false
is_other (Some set) id = not (id_of set == id)

-- a group is set that is one of the caller's
abbrev pub is_own_group : Cred → Option ℕ → Bool
is_own_group cred None = false
is_own_group cred (Some gid) = (cred.gid == id_of gid) || list_any (λ g. g == id_of gid) cred.gids

-- a mode or a time is set
abbrev pub sets_owned : Sattr → Bool
sets_owned set = is_some set.mode || (is_some set.atime || is_some set.mtime)

-- the size that is set is above a limit
abbrev pub is_above : Option ℕ → ℕ → Bool
is_above None limit = false
is_above (Some size) limit = nat_lt limit size
