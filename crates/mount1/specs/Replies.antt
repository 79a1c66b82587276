-- The bytes of the replies of MOUNT (RFC 1094 appendix A.5).
use Rattle.std.specs.Prelude.{ℕ, ◌+◌, zero, suc, List, [], ◌∷◌, ◌++◌, Option, Some, None, get_or}
use Rattle.std.specs.List.{flat_map}
use Rattle.files_model.specs.declared.attributes.FileId.{FileId}
use Rattle.xdr_rpc.specs.Words.{words, opaque_bytes}
use Rattle.xdr_rpc.specs.Refusals.{accepted}
use Rattle.nfs2_wire.specs.Handles.{handle_of}
use Rattle.mount1.specs.declared.list.Row.{Row}
use Rattle.mount1.specs.Paths.{path_of}

-- the mark before a row, the machine, and the path
abbrev pub row_bytes : Row → List ℕ
row_bytes row = words (1 ∷ []) ++ opaque_bytes row.machine ++ opaque_bytes (path_of row.volume)

-- the mark before an export, the path, and no groups
abbrev pub export_bytes : ℕ → List ℕ
export_bytes volume = words (1 ∷ []) ++ opaque_bytes (path_of volume) ++ words (0 ∷ [])

-- those of the volumes below a number, by rising number
abbrev pub exports_below : ℕ → List ℕ
exports_below zero = []
exports_below (suc n) = exports_below n ++ export_bytes n

abbrev pub root_of : List FileId → ℕ → FileId
root_of roots volume = get_or roots volume (record { ino = 0; generation = 0 })

-- the status 0 and the handle of the root
unfoldable pub root_bytes : ℕ → ℕ → FileId → List ℕ
root_bytes xid volume root = words (xid ∷ accepted 0 (0 ∷ [])) ++ handle_of volume root

-- that, or the status 2 of a path that isn't open
unfoldable pub mount_bytes : ℕ → List FileId → Option ℕ → List ℕ
mount_bytes xid roots None = words (xid ∷ accepted 0 (2 ∷ []))
mount_bytes xid roots (Some volume) = root_bytes xid volume (root_of roots volume)

-- the rows, and no more
unfoldable pub dump_bytes : ℕ → List Row → List ℕ
dump_bytes xid rows = words (xid ∷ accepted 0 []) ++ flat_map row_bytes rows ++ words (0 ∷ [])

-- the volumes, and no more
unfoldable pub export_list_bytes : ℕ → ℕ → List ℕ
export_list_bytes xid volumes = words (xid ∷ accepted 0 []) ++ exports_below volumes ++ words (0 ∷ [])
