-- What files are, apart from how a volume keeps them.
use Rattle.std.specs.Prelude.{◌≡◌, ◌<◌, ℕ, zero, suc, ◌+◌, ◌-◌, ◌*◌, ◌/◌, Bool, List, ◌++◌, length, take, replicate, Option, Some, None, ◌==◌, if◌then◌else◌}
use Rattle.std.specs.Ordering.{nat_cmp}
use Rattle.std.specs.FinMap.{FinMap, empty, get, insert, code}
use Rattle.std.specs.Coded.{Coded, coded_ℕ}
use Rattle.files_model.specs.declared.attributes.Kind.{Kind}
use Rattle.files_model.specs.declared.attributes.FileId.{FileId}

-- a map has a code, so histories have one
abbrev pub map_code : {X : Type 0} → Coded X → Coded (FinMap nat_cmp X)
map_code x = code coded_ℕ x

-- a slot of a directory: empty, or an i-number and a name
abbrev pub Slot : Type 0
Slot = Option (ℕ × List ℕ)

-- the sectors of a regular file or link that are held, each 512 bytes. A missing one reads as zeros
abbrev pub Sectors : Type 0
Sectors = FinMap nat_cmp (List ℕ)

-- a file, directory or link. `sectors` is the body of a file or link, and `slots` that of a directory; the other one is empty
pub record Node : Type 0 where
  pub kind : Kind
  pub mode : ℕ
  pub uid : ℕ
  pub gid : ℕ
  pub nlink : ℕ
  pub size : ℕ
  pub atime : ℕ
  pub mtime : ℕ
  pub ctime : ℕ
  pub sectors : Sectors
  pub slots : List Slot

-- `nodes` has the used i-numbers alone, `generations` each i-number, used or free
pub record Files : Type 0 where
  pub nodes : FinMap nat_cmp Node
  pub generations : FinMap nat_cmp ℕ
  pub inodes : ℕ
  pub blocks : ℕ
  pub read_only : Bool

-- how many sectors n bytes take
abbrev pub sectors_of : ℕ → ℕ
sectors_of n = (n + 511) / 512

-- a sector of a file of this size, with zeros at and past the size
unfoldable pub clipped : ℕ → ℕ → List ℕ → List ℕ
clipped size k bytes = take (size - 512 * k) bytes ++ replicate (512 - (size - 512 * k)) 0

abbrev pub insert_some : {X : Type 0} → Option X → ℕ → FinMap nat_cmp X → FinMap nat_cmp X
insert_some None k m = m
insert_some (Some x) k m = insert m k x

-- what is held of a body: sectors of 512 bytes below the size, with zeros at and past it
pub record IsBody (size : ℕ) (sectors : Sectors) : Type 0 where
  pub below : (k : ℕ) (bytes : List ℕ) → get sectors k ≡ Some bytes → k < sectors_of size
  pub long : (k : ℕ) (bytes : List ℕ) → get sectors k ≡ Some bytes → length bytes ≡ 512
  pub zeros : (k : ℕ) (bytes : List ℕ) → get sectors k ≡ Some bytes → clipped size k bytes ≡ bytes

-- the map with f's value at each key below n
unfoldable pub tabulated : {X : Type 0} → (ℕ → Option X) → ℕ → FinMap nat_cmp X
tabulated f zero = empty
tabulated f (suc n) = insert_some (f n) n (tabulated f n)

-- the node, where the i-number's generation is this one
abbrev pub if_current : Option ℕ → ℕ → Option Node → Option Node
if_current None generation there = None
if_current (Some current) generation there = if current == generation then there else None

-- the node that a handle means, unless it is stale
unfoldable pub live : Files → FileId → Option Node
live files file = if_current (get files.generations file.ino) file.generation (get files.nodes file.ino)
