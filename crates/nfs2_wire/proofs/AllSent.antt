-- The arguments of a call that was sent are read as that call, whatever follows them.
use Rattle.std.proofs.Common.{◌≡◌, ℕ, ◌^◌, ◌<◌, ◌≤◌, true, false, ltb, eqb, List, [], ◌∷◌, ◌++◌, length, Option, Some, None, Ok, refl, ap, ◌∙◌, append_assoc, arith}
use Rattle.std.proofs.lemmas.Bool.{lt-ltb, eq-eqb}
use Rattle.files_model.specs.declared.attributes.FileId.{FileId}
use Rattle.files_model.specs.declared.attributes.Sattr.{Sattr}
use Rattle.files_model.specs.declared.call.Call.{Call}
use Rattle.files_model.specs.declared.call.Call.TheVariants as call
use Rattle.xdr_rpc.specs.Words.{words, opaque_bytes}
use Rattle.xdr_rpc.proofs.RoundTrip.{fixed_again, words_again, words_none, opaque_again}
use Rattle.nfs2_wire.specs.declared.all_calls.NfsCall.TheVariants as read
use Rattle.nfs2_wire.specs.Handles.{handle, handle_of, second}
use Rattle.nfs2_wire.specs.Arguments.{getattr_args, read_args, write_args}
use Rattle.nfs2_wire.specs.Shapes.{set_of, sattr, dirop, set_args, name_args, new_args, rename_args, link_args, symlink_args, part_args}
use Rattle.nfs2_wire.specs.AllCalls.{opened, file_call, name_call, new_call, setattr_call, read_call, write_call, rename_call, link_call, symlink_call, readdir_call, nfs_call}
use Rattle.nfs2_wire.specs.AllSending.{read_bytes, write_bytes, FileFits, word_of, sattr_bytes, dirop_bytes, arguments_of, procedure_of, WordFits, SattrFits, CanBeCalled}
use Rattle.nfs2_wire.proofs.Handles.{handle_again}
use Rattle.nfs2_wire.proofs.Lengths.{length-handle_of}

-- ---- pieces

set_again : (o : Option ℕ) → WordFits o → set_of (word_of o) ≡ o
set_again None fits = refl
set_again (Some n) fits =
    let other : eqb n 0xffffffff ≡ false = search (arith, fits) in
    rw other refl

word_fits : (o : Option ℕ) → WordFits o → word_of o < 2 ^ 32
word_fits None fits = omega arith
word_fits (Some n) fits = omega (arith, fits)

sattr_again : (s : Sattr) (rest : List ℕ) → SattrFits s → sattr (sattr_bytes s ++ rest) ≡ Some (s, rest)
unfolding sattr sattr_bytes
sattr_again s rest fits =
    let m : ℕ = word_of s.mode in
    let u : ℕ = word_of s.uid in
    let g : ℕ = word_of s.gid in
    let z : ℕ = word_of s.size in
    let a : ℕ = word_of s.atime in
    let t : ℕ = word_of s.mtime in
    rw (
      words_again m (u ∷ g ∷ z ∷ a ∷ 0 ∷ t ∷ 0 ∷ []) rest (word_fits s.mode fits.mode),
      words_again u (g ∷ z ∷ a ∷ 0 ∷ t ∷ 0 ∷ []) rest (word_fits s.uid fits.uid),
      words_again g (z ∷ a ∷ 0 ∷ t ∷ 0 ∷ []) rest (word_fits s.gid fits.gid),
      words_again z (a ∷ 0 ∷ t ∷ 0 ∷ []) rest (word_fits s.size fits.size),
      words_again a (0 ∷ t ∷ 0 ∷ []) rest (word_fits s.atime fits.atime),
      words_again 0 (t ∷ 0 ∷ []) rest (omega arith),
      words_again t (0 ∷ []) rest (word_fits s.mtime fits.mtime),
      words_again 0 [] rest (omega arith),
      words_none rest,
      set_again s.mode fits.mode,
      set_again s.uid fits.uid,
      set_again s.gid fits.gid,
      set_again s.size fits.size,
      set_again s.atime fits.atime,
      set_again s.mtime fits.mtime,
    ) refl

file_again : (volume : ℕ) (file : FileId) (rest : List ℕ) → getattr_args (handle_of volume file ++ rest) ≡ Some (handle_of volume file)
unfolding getattr_args
file_again volume file rest = rw (fixed_again 32 (handle_of volume file) rest (length-handle_of volume file)) refl

dirop_again : (volume : ℕ) (dir : FileId) (name rest : List ℕ) → length name ≤ 255 → dirop (dirop_bytes volume dir name ++ rest) ≡ Some ((handle_of volume dir, name), rest)
unfolding dirop dirop_bytes
dirop_again volume dir name rest short =
    let handle : List ℕ = handle_of volume dir in
    ap dirop (append_assoc handle (opaque_bytes name) rest)
    ∙ rw (fixed_again 32 handle (opaque_bytes name ++ rest) (length-handle_of volume dir), opaque_again 255 name rest short (omega arith)) refl

-- ---- the shapes

set_args_again : (volume : ℕ) (file : FileId) (set : Sattr) (rest : List ℕ) → SattrFits set → set_args (handle_of volume file ++ (sattr_bytes set ++ rest)) ≡ Some (handle_of volume file, set)
unfolding set_args
set_args_again volume file set rest fits =
    rw (fixed_again 32 (handle_of volume file) (sattr_bytes set ++ rest) (length-handle_of volume file), sattr_again set rest fits) refl

name_args_again : (volume : ℕ) (dir : FileId) (name rest : List ℕ) → length name ≤ 255 → name_args (dirop_bytes volume dir name ++ rest) ≡ Some (handle_of volume dir, name)
unfolding name_args
name_args_again volume dir name rest short = rw (dirop_again volume dir name rest short) refl

new_args_again : (volume : ℕ) (dir : FileId) (name : List ℕ) (set : Sattr) (rest : List ℕ) → length name ≤ 255 → SattrFits set
    → new_args (dirop_bytes volume dir name ++ (sattr_bytes set ++ rest)) ≡ Some (handle_of volume dir, name, set)
unfolding new_args
new_args_again volume dir name set rest short fits = rw (dirop_again volume dir name (sattr_bytes set ++ rest) short, sattr_again set rest fits) refl

rename_args_again : (volume : ℕ) (dir : FileId) (name : List ℕ) (to : FileId) (new_name rest : List ℕ) → length name ≤ 255 → length new_name ≤ 255
    → rename_args (dirop_bytes volume dir name ++ (dirop_bytes volume to new_name ++ rest)) ≡ Some (handle_of volume dir, name, handle_of volume to, new_name)
unfolding rename_args
rename_args_again volume dir name to new_name rest short few =
    rw (dirop_again volume dir name (dirop_bytes volume to new_name ++ rest) short, dirop_again volume to new_name rest few) refl

link_args_again : (volume : ℕ) (file dir : FileId) (name rest : List ℕ) → length name ≤ 255
    → link_args (handle_of volume file ++ (dirop_bytes volume dir name ++ rest)) ≡ Some (handle_of volume file, handle_of volume dir, name)
unfolding link_args
link_args_again volume file dir name rest short =
    rw (fixed_again 32 (handle_of volume file) (dirop_bytes volume dir name ++ rest) (length-handle_of volume file), dirop_again volume dir name rest short) refl

symlink_args_again : (volume : ℕ) (dir : FileId) (name text : List ℕ) (set : Sattr) (rest : List ℕ) → length name ≤ 255 → length text ≤ 1024 → SattrFits set
    → symlink_args (dirop_bytes volume dir name ++ (opaque_bytes text ++ (sattr_bytes set ++ rest))) ≡ Some (handle_of volume dir, name, text, set)
unfolding symlink_args
symlink_args_again volume dir name text set rest short few fits =
    rw (
      dirop_again volume dir name (opaque_bytes text ++ (sattr_bytes set ++ rest)) short,
      opaque_again 1024 text (sattr_bytes set ++ rest) few (omega arith),
      sattr_again set rest fits,
    ) refl

part_args_again : (volume : ℕ) (dir : FileId) (cookie count : ℕ) (rest : List ℕ) → cookie < 2 ^ 32 → count < 2 ^ 32
    → part_args (handle_of volume dir ++ (words (cookie ∷ count ∷ []) ++ rest)) ≡ Some (handle_of volume dir, cookie, count)
unfolding part_args
part_args_again volume dir cookie count rest lt fits =
    rw (
      fixed_again 32 (handle_of volume dir) (words (cookie ∷ count ∷ []) ++ rest) (length-handle_of volume dir),
      words_again cookie (count ∷ []) rest lt,
      words_again count [] rest fits,
    ) refl

read_args_again : (volume : ℕ) (file : FileId) (offset count : ℕ) (rest : List ℕ) → offset < 2 ^ 32 → count < 2 ^ 32 → read_args (read_bytes volume file offset count ++ rest) ≡ Some (handle_of volume file, offset, count)
unfolding read_args read_bytes
read_args_again volume file offset count rest lt fits =
    let numbers : List ℕ = words (offset ∷ count ∷ 0 ∷ []) in
    ap read_args (append_assoc (handle_of volume file) numbers rest)
    ∙ rw (
      fixed_again 32 (handle_of volume file) (numbers ++ rest) (length-handle_of volume file),
      words_again offset (count ∷ 0 ∷ []) rest lt,
      words_again count (0 ∷ []) rest fits,
      words_again 0 [] rest (omega arith),
    ) refl

write_args_again : (volume : ℕ) (file : FileId) (offset : ℕ) (bytes rest : List ℕ) → offset < 2 ^ 32 → length bytes ≤ 8192 → write_args (write_bytes volume file offset bytes ++ rest) ≡ Some (handle_of volume file, offset, bytes)
unfolding write_args write_bytes
write_args_again volume file offset bytes rest lt short =
    let handle : List ℕ = handle_of volume file in
    let numbers : List ℕ = words (0 ∷ offset ∷ 0 ∷ []) in
    let after : List ℕ = opaque_bytes bytes ++ rest in
    ap write_args (append_assoc (handle ++ numbers) (opaque_bytes bytes) rest ∙ append_assoc handle numbers after)
    ∙ rw (
      fixed_again 32 handle (numbers ++ after) (length-handle_of volume file),
      words_again 0 (offset ∷ 0 ∷ []) after (omega arith),
      words_again offset (0 ∷ []) after lt,
      words_again 0 [] after (omega arith),
      words_none after,
      opaque_again 8192 bytes rest short (omega arith),
    ) refl

-- ---- handles

opened_again : (volumes volume : ℕ) (file : FileId) → volume < volumes → volume < 2 ^ 32 → FileFits file → opened volumes (handle_of volume file) ≡ Ok (record { volume = volume; file = file })
opened_again volumes volume file lt fits file_fits =
    let is_open : ltb volume volumes ≡ true = lt-ltb volume volumes lt in
    rw (handle_again volume file fits file_fits.ino file_fits.generation, is_open) refl

second_again : (volume : ℕ) (file : FileId) → volume < 2 ^ 32 → FileFits file → second volume (handle_of volume file) ≡ file
second_again volume file fits file_fits =
    let same : eqb volume volume ≡ true = eq-eqb volume volume refl in
    rw (handle_again volume file fits file_fits.ino file_fits.generation, same) refl

-- ---- the calls

pub arguments_again : (volumes volume : ℕ) (asked : Call) (rest : List ℕ) → CanBeCalled volumes volume asked → nfs_call (procedure_of asked) (arguments_of volume asked rest) volumes ≡ read.Call volume asked
unfolding nfs_call file_call name_call new_call setattr_call read_call write_call rename_call link_call symlink_call readdir_call
arguments_again volumes volume (call.Getattr file) rest can = rw (file_again volume file rest, opened_again volumes volume file can.open_volume can.volume_fits can.fits) refl
arguments_again volumes volume (call.Setattr file set) rest can = rw (set_args_again volume file set rest can.fits.1, opened_again volumes volume file can.open_volume can.volume_fits can.fits.0) refl
arguments_again volumes volume (call.Lookup dir name) rest can = rw (name_args_again volume dir name rest can.fits.short, opened_again volumes volume dir can.open_volume can.volume_fits can.fits.file) refl
arguments_again volumes volume (call.Readlink file) rest can = rw (file_again volume file rest, opened_again volumes volume file can.open_volume can.volume_fits can.fits) refl
arguments_again volumes volume (call.Read file offset count) rest can = rw (read_args_again volume file offset count rest can.fits.1.0 can.fits.1.1, opened_again volumes volume file can.open_volume can.volume_fits can.fits.0) refl
arguments_again volumes volume (call.Write file offset bytes) rest can = rw (write_args_again volume file offset bytes rest can.fits.1.0 can.fits.1.1, opened_again volumes volume file can.open_volume can.volume_fits can.fits.0) refl
arguments_again volumes volume (call.Create dir name set) rest can = rw (new_args_again volume dir name set rest can.fits.0.short can.fits.1, opened_again volumes volume dir can.open_volume can.volume_fits can.fits.0.file) refl
arguments_again volumes volume (call.Remove dir name) rest can = rw (name_args_again volume dir name rest can.fits.short, opened_again volumes volume dir can.open_volume can.volume_fits can.fits.file) refl
arguments_again volumes volume (call.Rename dir name to new_name) rest can =
    rw (rename_args_again volume dir name to new_name rest can.fits.0.short can.fits.1.short, opened_again volumes volume dir can.open_volume can.volume_fits can.fits.0.file, second_again volume to can.volume_fits can.fits.1.file) refl
arguments_again volumes volume (call.Link file dir name) rest can =
    rw (link_args_again volume file dir name rest can.fits.1.short, opened_again volumes volume file can.open_volume can.volume_fits can.fits.0, second_again volume dir can.volume_fits can.fits.1.file) refl
arguments_again volumes volume (call.Symlink dir name text set) rest can =
    rw (symlink_args_again volume dir name text set rest can.fits.0.short can.fits.1.0 can.fits.1.1, opened_again volumes volume dir can.open_volume can.volume_fits can.fits.0.file) refl
arguments_again volumes volume (call.Mkdir dir name set) rest can = rw (new_args_again volume dir name set rest can.fits.0.short can.fits.1, opened_again volumes volume dir can.open_volume can.volume_fits can.fits.0.file) refl
arguments_again volumes volume (call.Rmdir dir name) rest can = rw (name_args_again volume dir name rest can.fits.short, opened_again volumes volume dir can.open_volume can.volume_fits can.fits.file) refl
arguments_again volumes volume (call.Readdir dir cookie count) rest can = rw (part_args_again volume dir cookie count rest can.fits.1.0 can.fits.1.1, opened_again volumes volume dir can.open_volume can.volume_fits can.fits.0) refl
arguments_again volumes volume (call.Statfs file) rest can = rw (file_again volume file rest, opened_again volumes volume file can.open_volume can.volume_fits can.fits) refl
