-- File handles: 32 bytes, which are eight words (docs/FORMATS.md).
use Rattle.std.specs.Prelude.{ℕ, List, [], ◌∷◌, Option, Some, None, ◌==◌, nat_lt, if◌then◌else◌, ◌&&◌}
use Rattle.std.specs.List.{list_all}
use Rattle.files_model.specs.declared.attributes.FileId.{FileId}
use Rattle.nfs2_wire.specs.declared.handle.Handle.{Handle}
use Rattle.xdr_rpc.specs.Words.{◌>>=◌, word, words}

-- "V7N2"
abbrev pub mark : ℕ
mark = 0x56374e32

-- the handle of a file on a volume: the mark, the export number, the i-number, the generation, and zeros
unfoldable pub handle_of : ℕ → FileId → List ℕ
handle_of volume file = words (mark ∷ volume ∷ file.ino ∷ file.generation ∷ 0 ∷ 0 ∷ 0 ∷ 0 ∷ [])

-- the volume and the file that these bytes name, where they are of that form
unfoldable pub handle : List ℕ → Option Handle
handle bytes = do
  first ← word bytes
  volume ← word first.1
  ino ← word volume.1
  generation ← word ino.1
  if (first.0 == mark) && list_all (λ b. b == 0) generation.1 then Some (record { volume = volume.0; file = record { ino = ino.0; generation = generation.0 } }) else None

-- a handle that names a file on one of so many open volumes
abbrev pub of_open : ℕ → Option Handle → Option Handle
of_open volumes None = None
of_open volumes (Some h) = if nat_lt h.volume volumes then Some h else None

abbrev pub nowhere : FileId
nowhere = record { ino = 0; generation = 0 }

abbrev pub file_on : ℕ → Option Handle → FileId
file_on volume None = nowhere
file_on volume (Some h) = if h.volume == volume then h.file else nowhere

-- the file that a second handle names, on the volume of the first: of another form or volume it stands as i-number 0
abbrev pub second : ℕ → List ℕ → FileId
second volume bytes = file_on volume (handle bytes)
