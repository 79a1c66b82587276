-- The bytes of a body, and the forms of answers, of which the rows of the calls are made (docs/CALLS.md).
use Rattle.std.specs.Prelude.{ℕ, ◌+◌, ◌-◌, ◌*◌, ◌/◌, max, Bool, List, [], ◌∷◌, ◌++◌, length, take, drop, replicate, map, Option, Some, None, ◌==◌, if◌then◌else◌}
use Rattle.std.specs.List.{range_with_len}
use Rattle.std.specs.Option.{unwrap_or}
use Rattle.std.specs.FinMap.{get, insert}
use Rattle.files_model.specs.declared.attributes.Attr.{Attr}
use Rattle.files_model.specs.declared.reply.Stat.{Stat}
use Rattle.files_model.specs.declared.reply.Stat.TheVariants as stat
use Rattle.files_model.specs.declared.reply.Reply.{Reply}
use Rattle.files_model.specs.declared.reply.Reply.TheVariants as reply
use Rattle.files_model.specs.Files.{Node, Files, Sectors, sectors_of}

-- ---- bytes

abbrev pub zeros : List ℕ
zeros = replicate 512 0

-- a sector of a body; a missing one reads as zeros
abbrev pub sector_of : Sectors → ℕ → List ℕ
sector_of sectors k = unwrap_or (get sectors k) zeros

-- sector k after these bytes are written from an offset on: what stood before them, those that fall into it, what stood after them
unfoldable pub spliced : ℕ → List ℕ → ℕ → List ℕ → List ℕ
spliced offset bytes k old =
    let before = offset - 512 * k in
    let here = take (512 - before) (drop (512 * k - offset) bytes) in
    take before old ++ here ++ drop (before + length here) old

-- the indices of the sectors that n bytes from an offset on touch, in rising order
unfoldable pub touched : ℕ → ℕ → List ℕ
touched offset n = if n == 0 then [] else range_with_len (offset / 512) (sectors_of (offset + n) - offset / 512)

-- the sectors that a write changes, with their new content
abbrev pub changes : ℕ → List ℕ → Sectors → List (ℕ × List ℕ)
changes offset bytes sectors = map (λ k. (k, spliced offset bytes k (sector_of sectors k))) (touched offset (length bytes))

abbrev pub with_sectors : List (ℕ × List ℕ) → Sectors → Sectors
with_sectors [] sectors = sectors
with_sectors (e ∷ es) sectors = with_sectors es (insert sectors e.0 e.1)

-- the node after a write: its bytes, its size where the write ends past it, and its times
unfoldable pub written : Node → ℕ → List ℕ → ℕ → Node
written n offset bytes now = record n {
  size = if length bytes == 0 then n.size else max n.size (offset + length bytes);
  sectors = with_sectors (changes offset bytes n.sectors) n.sectors;
  mtime = now;
  ctime = now;
}

-- ---- answers

abbrev pub attr_of : ℕ → Node → Attr
attr_of i n = record { kind = n.kind; mode = n.mode; nlink = n.nlink; uid = n.uid; gid = n.gid; size = n.size; fileid = i; atime = n.atime; mtime = n.mtime; ctime = n.ctime }

-- the first refusal whose test holds
abbrev pub first_of : List (Bool × Stat) → Option Stat
first_of [] = None
first_of (e ∷ es) = if e.0 then Some e.1 else first_of es

-- the answer of a refusal, which changes nothing, or else this one
abbrev pub unless : Files → Option Stat → Reply × Files → Reply × Files
unless files None answer = answer
unless files (Some status) answer = (reply.Refused status, files)

abbrev pub with_node : Files → ℕ → Node → Files
with_node files i n = record files { nodes = insert files.nodes i n }

-- the answer at the node that the handle means
abbrev pub at_live : Files → Option Node → (Node → Reply × Files) → Reply × Files
at_live files None answer = (reply.Refused stat.Stale, files)
at_live files (Some n) answer = answer n
