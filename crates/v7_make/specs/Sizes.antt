-- How large a volume may be, and how much room it needs (docs/FORMATS.md, the volume).
use Rattle.std.specs.Prelude.{ℕ, ◌+◌, ◌/◌, ◌||◌, nat_lt, if◌then◌else◌, Result, Ok, Err}
use Rattle.v7_make.specs.declared.fault.MakeFault.{MakeFault}
use Rattle.v7_make.specs.declared.fault.MakeFault.TheVariants.{TooSmall, TooLarge}

-- how many blocks so many inodes take, eight to a block
abbrev pub list_blocks : ℕ → ℕ
list_blocks inodes = (inodes + 7) / 8

-- the boot block, the super-block, the inodes, and a block for the root
abbrev pub need_of : ℕ → ℕ
need_of inodes = 3 + list_blocks inodes

-- Whether a volume of so many sectors can have so many inodes: at most 1,048,576 sectors and 65,528 inodes, and no fewer sectors than it needs.
unfoldable pub fitting : ℕ → ℕ → Result (Unit {0}) MakeFault
fitting size inodes = if nat_lt 1048576 size || nat_lt 65528 inodes then Err TooLarge else if nat_lt size (need_of inodes) then Err (TooSmall (need_of inodes) size) else Ok tt
