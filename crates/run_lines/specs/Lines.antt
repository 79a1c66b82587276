-- The lines that programs share (docs/CALLS.md, "Lines and statuses").
use Rattle.std.specs.Prelude.{ℕ, List, ◌++◌, map, nat_le, if◌then◌else◌, ◌&&◌, codes}
use Rattle.std.specs.Fmt.{decimal}
use Rattle.v7_damage.specs.declared.damage.Damage.{Damage}
use Rattle.v7_damage.specs.declared.damage.Damage.TheVariants.{Sizes, Kind, Length, Address, Shared, Dots, Slot}

-- a byte of a volume's name, `?` where it can't be printed
abbrev pub printed : ℕ → ℕ
printed b = if nat_le 33 b && nat_le b 126 then b else 63

abbrev pub no_volume_line : List ℕ → List ℕ
no_volume_line word = codes "cannot open " ++ word

abbrev pub no_memory_line : List ℕ
no_memory_line = codes "no memory"

abbrev pub device_line : ℕ → List ℕ
device_line volume = codes "device failed on volume " ++ decimal volume

abbrev pub kind_word : Damage → List ℕ
kind_word Sizes = codes "sizes"
kind_word Kind = codes "kind"
kind_word Length = codes "length"
kind_word Address = codes "address"
kind_word Shared = codes "shared"
kind_word Dots = codes "dots"
kind_word Slot = codes "slot"

-- the volume of this number can't be mended: the sector of its first damage, and the kind
abbrev pub damage_line : ℕ → ℕ → Damage → List ℕ
damage_line volume sector kind = codes "volume " ++ decimal volume ++ codes " damaged: sector " ++ decimal sector ++ codes " " ++ kind_word kind

-- what is said of the board of the volume of this number begins so
abbrev pub board_of : ℕ → List ℕ
board_of volume = codes "board of volume " ++ decimal volume

abbrev pub lost_line : ℕ → List ℕ
lost_line volume = board_of volume ++ codes " lost its memory"

abbrev pub unformatted_line : ℕ → List ℕ
unformatted_line volume = board_of volume ++ codes " not formatted"

-- the board has this name, and the volume that one
abbrev pub strange_line : List ℕ → List ℕ → List ℕ
strange_line board volume = codes "board " ++ map printed board ++ codes " is not of volume " ++ map printed volume

abbrev pub entry_line : ℕ → ℕ → List ℕ
entry_line volume index = board_of volume ++ codes ": entry " ++ decimal index ++ codes " bad"
