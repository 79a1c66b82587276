-- What is free once a name was taken away.
use Rattle.std.specs.Prelude.{◌≡◌, ◌≢◌, ℕ, ◌==◌, Bool, true, List, set, nat_lt, if◌then◌else◌, ◌&&◌}
use Rattle.std.specs.Option.{unwrap_or}
use Rattle.std.specs.FinMap.{get}
use Rattle.files_model.specs.Among.{is_among}
use Rattle.files_model.specs.Files.{Node, Files}
use Rattle.v7_map.specs.Frame.{Frame, Place}

-- these are the blocks of inode i, if it ended, and else none
pub record AreFreed (ended : Bool) (f : Frame) (i : ℕ) (freed : List ℕ) : Type 0 where
  pub each : ended ≡ true → (p : Place) → f.address i p ≢ 0 → is_among (f.address i p) freed ≡ true
  pub only : (b : ℕ) → is_among b freed ≡ true → (ended ≡ true) × ((p : Place) × (f.address i p ≢ 0) × (f.address i p ≡ b))

-- node i, which lost a name, ended, and its i-number may be given to a new file
abbrev pub frees_number : Files → ℕ → Node → Bool
frees_number files i n = (n.nlink == 1) && nat_lt (unwrap_or (get files.generations i) 0) 4294967295

-- the free i-numbers after that
abbrev pub number_given : Bool → ℕ → List Bool → List Bool
number_given gives i inodes = if gives then set inodes i true else inodes
