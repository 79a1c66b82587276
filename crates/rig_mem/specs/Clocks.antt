-- What a clock in memory answers.
use Rattle.std.specs.Prelude.{◌-◌, ℕ, List, length, min, slice_index}
use Rattle.rig_mem.specs.declared.clock.MemClock.{MemClock}

-- its seconds
abbrev pub mem_seconds : MemClock → List ℕ
mem_seconds c = c.seconds.items

-- the answer after so many: the seconds in order, then the last one again; 0 where there are none
abbrev pub second_at : List ℕ → ℕ → ℕ
second_at seconds answers = slice_index seconds (min answers (length seconds - 1))
