-- What a rig in memory tells, and how its calls can be made to fail (docs/DEVICES.md).
use Rattle.std.specs.Prelude.{◌≡◌, ◌+◌, ◌-◌, ◌%◌, ℕ, Bool, true, false, ◌||◌, if◌then◌else◌, nat_eq, nat_le, List, length, reverse, replicate, Option, Some, None, Result, OnOk, OnErr}
use Rattle.rig.specs.Devices.{Devices, Sizes, Readings, HasShape, sizes_of, with_kept}
use Rattle.stable.specs.Counts.{one_more}
use Rattle.rig_mem.specs.Histories.{LeftSince}
use Rattle.rig_mem.specs.Troubles.{Plan, plan_of, no_plan, called}
use Rattle.stable.specs.declared.battery.Battery.{Battery}
use Rattle.stable.specs.declared.battery.Battery.TheVariants as battery
use Rattle.rig_mem.specs.declared.mem_rig.MemRig.{MemRig}

-- what its devices hold
abbrev pub mem_contents : MemRig → Devices
mem_contents m = record { disk = m.disk.items; words = m.words.items; buffers = m.buffers.items; kept = m.kept }

-- how many of each it has
abbrev pub mem_sizes : MemRig → Sizes
mem_sizes m = sizes_of m.disk.items m.words.items m.buffers.items

-- each change is one moment later
abbrev pub mem_moment : MemRig → ℕ
mem_moment m = m.history.start + length m.history.changes.items

-- what its changes since then say that a crash may have left
abbrev pub mem_left_since : MemRig → ℕ → Devices → Type 0
mem_left_since m t d = LeftSince (mem_moment m - t) (reverse m.history.changes.items) (mem_contents m) d × HasShape (sizes_of m.disk.items m.words.items m.buffers.items) d

-- how often a device failed
abbrev pub mem_faults : MemRig → ℕ
mem_faults m = m.trouble.faults

-- the readings of its battery
abbrev pub mem_readings : MemRig → Readings
mem_readings m = record { count = m.readings; last = m.last }

-- which of its calls fail
abbrev pub mem_plan : MemRig → Plan
mem_plan m = plan_of m.trouble

-- what the battery is to say: that, and Low from one reading on
pub record Says : Type 0 where
  pub battery : Battery
  pub low_from : Option ℕ

-- what its battery is to say
abbrev pub mem_says : MemRig → Says
mem_says m = record { battery = m.battery; low_from = m.low_from }

-- the reading of that number is one of those that are Low
abbrev pub is_low_at : Option ℕ → ℕ → Bool
is_low_at None number = false
is_low_at (Some from) number = nat_le from number

-- what the reading of that number says: without a board Low
abbrev pub reading_of : ℕ → Says → ℕ → Battery
reading_of words says number = if nat_eq words 0 || is_low_at says.low_from number then battery.Low else says.battery

-- as a rig begins: nothing failed, nothing was read, nothing is planned, and no other image is left
pub record HasBegun (m : MemRig) : Type 0 where
  pub faults : mem_faults m ≡ 0
  pub writes : m.writes ≡ 0
  pub readings : mem_readings m ≡ record { count = 0; last = None }
  pub plan : mem_plan m ≡ no_plan
  pub says : mem_says m ≡ record { battery = battery.Good; low_from = None }
  pub since : (t : ℕ) (d : Devices) → mem_left_since m t d → d ≡ mem_contents m

-- a new rig that holds this, its board's memory kept
pub record IsNew (disk : List (List ℕ)) (words : List ℕ) (buffers : List (List ℕ)) (m : MemRig) : Type 0 where
  pub contents : mem_contents m ≡ record { disk = disk; words = words; buffers = buffers; kept = true }
  pub begun : HasBegun m

-- so many sectors or buffers of zeros
abbrev pub zeros : ℕ → List (List ℕ)
zeros n = replicate n (replicate 512 0)

-- a board has a word more than it has buffers
abbrev pub words_for : ℕ → ℕ
words_for buffers = if nat_eq buffers 0 then 0 else buffers + 1

-- nothing of what the contract of a rig names is changed
pub record SameDevices (a b : MemRig) : Type 0 where
  pub contents : mem_contents b ≡ mem_contents a
  pub changes : b.history.changes.items ≡ a.history.changes.items
  pub start : b.history.start ≡ a.history.start
  pub faults : mem_faults b ≡ mem_faults a
  pub writes : b.writes ≡ a.writes
  pub readings : mem_readings b ≡ mem_readings a

-- One device call more was made, and the battery is to say what it was to.
pub record IsCalled (a b : MemRig) : Type 0 where
  pub plan : mem_plan b ≡ called (mem_plan a)
  pub says : mem_says b ≡ mem_says a

-- The board was marked as kept, or the call failed; the mark of one that was kept stays.
pub record IsMarked {T E : Type 0} (a b : MemRig) (result : Result T E) : Type 0 where
  pub done : OnOk result (mem_contents b ≡ with_kept (mem_contents a))
  pub kept : OnOk result (b.kept ≡ true)
  pub kept_before : a.kept ≡ true → b.kept ≡ true

-- A disk write is counted where it is done.
pub record IsWriteCounted {T E : Type 0} (a b : MemRig) (result : Result T E) : Type 0 where
  pub written : OnOk result (b.writes ≡ one_more a.writes)
  pub unwritten : OnErr result (b.writes ≡ a.writes)

-- Nothing has changed but the readings of the battery.
pub record OnlyRead (a b : MemRig) : Type 0 where
  pub plan : mem_plan b ≡ mem_plan a
  pub says : mem_says b ≡ mem_says a
  pub contents : mem_contents b ≡ mem_contents a
  pub faults : mem_faults b ≡ mem_faults a
  pub sizes : mem_sizes b ≡ mem_sizes a
  pub is_kept : b.kept ≡ a.kept
  pub disk_writes : b.writes ≡ a.writes

-- a board that lost its memory: each word is pick, and each byte of a buffer is its low byte
abbrev pub lost_board : Devices → ℕ → Devices
lost_board d pick = record d { words = replicate (length d.words) pick; buffers = replicate (length d.buffers) (replicate 512 (pick % 256)); kept = false }

-- what a crash leaves where it does or doesn't take the board's memory; without a board there is none to take
abbrev pub left_by_crash : Devices → Bool → ℕ → Devices
left_by_crash d kept pick = if kept || nat_eq (length d.buffers) 0 then d else lost_board d pick

-- b begins with what a crash left of a, at the moment of the crash
pub record IsCrashOf (a : MemRig) (kept : Bool) (pick : ℕ) (b : MemRig) : Type 0 where
  pub contents : mem_contents b ≡ left_by_crash (mem_contents a) kept pick
  pub moment : mem_moment b ≡ mem_moment a
  pub begun : HasBegun b
