-- The times of the directories of a RENAME.
use Rattle.std.specs.Prelude.{◌≡◌, ◌<◌, ℕ, true, List, [], ◌++◌, Option, Some, None, min, max, nat_lt, IfSome, if◌then◌else◌}
use Rattle.stable.specs.Puts.{put_all}
use Rattle.stable.specs.Store.{Image}
use Rattle.v7_map.specs.Image.{is_inode, inode_sector}
use Rattle.v7_strokes.specs.Last.{AreTimes, inode_puts}
use Rattle.v7_strokes.specs.Merged.{merged}
use Rattle.plan_name.specs.LayingOut.{one_of}
use Rattle.rename_puts.specs.declared.times.Timed.{Timed}

-- the directories, in order
abbrev pub listed : Timed → List ℕ
listed timed = one_of timed.first ++ one_of timed.second

-- their inodes stand among so many sectors
abbrev pub TimedWithin : ℕ → Timed → Type 0
TimedWithin sectors timed = IfSome timed.first (λ d. inode_sector d < sectors) × IfSome timed.second (λ d. inode_sector d < sectors)

-- they are i-numbers of the volume
abbrev pub AreInodes : Image → Timed → Type 0
AreInodes image timed = IfSome timed.first (λ d. is_inode image d ≡ true) × IfSome timed.second (λ d. is_inode image d ≡ true)

-- After these puts the inodes of these directories are put with their times, one after the other; puts of one sector that follow each other are one.
pub record AddsTimes (image : Image) (now : ℕ) (directories : List ℕ) (raw new : List (ℕ × List ℕ)) : Type 0 where
  pub bytes : List (List ℕ)
  pub times : AreTimes (put_all raw image) now directories bytes
  pub puts : new ≡ merged (raw ++ inode_puts directories bytes)

-- both directories of a name that moves, in rising number
abbrev pub rising : ℕ → ℕ → Timed
rising a b = record { first = Some (min a b); second = Some (max a b) }

-- those of the two, in rising number, that come before this node; where both are one it comes once
abbrev pub before : ℕ → ℕ → ℕ → Timed
before low high node = record {
  first = if nat_lt low node then Some low else None;
  second = if nat_lt low high then (if nat_lt high node then Some high else None) else None;
}

-- those that come after it
abbrev pub after : ℕ → ℕ → ℕ → Timed
after low high node = record {
  first = if nat_lt low node then None else Some low;
  second = if nat_lt low high then (if nat_lt high node then None else Some high) else None;
}
