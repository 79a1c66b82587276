-- The paths of volumes.
use Rattle.std.specs.Prelude.{ℕ, ◌+◌, List, [], ◌∷◌, Option, Some, None, nat_eq, nat_lt, if◌then◌else◌, Bool}
use Rattle.std.specs.Cmp.Lexicographic.{pointwise}
use Rattle.xdr_rpc.specs.Words.{◌>>=◌, opaque}

-- "/vol" and the number of a volume
abbrev pub path_of : ℕ → List ℕ
path_of volume = 47 ∷ 118 ∷ 111 ∷ 108 ∷ (48 + volume) ∷ []

abbrev pub is_path_of : List ℕ → ℕ → Bool
is_path_of path volume = pointwise nat_eq path (path_of volume)

-- the volume of a path: 0 to 3
abbrev pub volume_named : List ℕ → Option ℕ
volume_named path =
    if is_path_of path 0 then Some 0
    else if is_path_of path 1 then Some 1
    else if is_path_of path 2 then Some 2
    else if is_path_of path 3 then Some 3
    else None

-- where that is one of so many volumes
abbrev pub below : ℕ → Option ℕ → Option ℕ
below volumes None = None
below volumes (Some volume) = if nat_lt volume volumes then Some volume else None

-- a path of at most 1,024 bytes, with its padding
unfoldable pub path_arg : List ℕ → Option (List ℕ)
path_arg bytes = do
  path ← opaque 1024 bytes
  Some path.0
