-- The lines that the tool says.
use Rattle.std.specs.Prelude.{ℕ, Bool, List, ◌++◌, ◌&&◌, if◌then◌else◌, codes}
use Rattle.std.specs.Fmt.{decimal}
use Rattle.v7_inspect.specs.declared.seen.Seen.{Seen}

abbrev pub usage_line : List ℕ
usage_line = codes "usage: v7tool mkfs|check|recover|drill .."

abbrev pub large_line : List ℕ
large_line = codes "too large"

-- so many sectors are needed, and there are so many
abbrev pub small_line : ℕ → ℕ → List ℕ
small_line need have = codes "too small: need " ++ decimal need ++ codes " have " ++ decimal have

-- a volume of so many sectors and inodes was made, with so many blocks free
abbrev pub made_line : ℕ → ℕ → ℕ → List ℕ
made_line sectors inodes free = codes "made " ++ decimal sectors ++ codes " sectors " ++ decimal inodes ++ codes " inodes " ++ decimal free ++ codes " free"

-- a volume is clean where it was stopped cleanly and has nothing to mend
abbrev pub clean_word : Bool → List ℕ
clean_word clean = if clean then codes "clean files " else codes "mendable files "

abbrev pub seen_line : Seen → List ℕ
seen_line seen = clean_word (seen.strong && seen.clean) ++ decimal seen.files ++ codes " directories " ++ decimal seen.directories ++ codes " links " ++ decimal seen.links
    ++ codes " used " ++ decimal seen.used ++ codes " free " ++ decimal seen.free

-- so many entries of the board were recovered, and so many sectors of the volume were put to mend it
abbrev pub recovered_line : ℕ → ℕ → List ℕ
recovered_line recovered repaired = codes "recovered " ++ decimal recovered ++ codes " repaired " ++ decimal repaired
