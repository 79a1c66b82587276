-- A handle that was written is read again.
use Rattle.std.proofs.Common.{◌≡◌, ℕ, ◌^◌, ◌<◌, true, List, [], ◌∷◌, ◌++◌, Some, refl, sym, ap, ◌∙◌, arith, ◌==◌}
use Rattle.std.specs.List.{list_all}
use Rattle.std.proofs.lemmas.List.{append-nil}
use Rattle.files_model.specs.declared.attributes.FileId.{FileId}
use Rattle.xdr_rpc.specs.Words.{words}
use Rattle.xdr_rpc.proofs.RoundTrip.{words_again}
use Rattle.nfs2_wire.specs.Handles.{mark, handle, handle_of}

zeros_at_end : list_all (λ (b : ℕ). b == 0) (words (0 ∷ 0 ∷ 0 ∷ 0 ∷ []) ++ []) ≡ true
unfolding words
zeros_at_end = refl

pub handle_again : (volume : ℕ) (file : FileId) → volume < 2 ^ 32 → file.ino < 2 ^ 32 → file.generation < 2 ^ 32 → handle (handle_of volume file) ≡ Some (record { volume = volume; file = file })
unfolding handle handle_of
handle_again volume file v i g =
    let after : List ℕ = 0 ∷ 0 ∷ 0 ∷ 0 ∷ [] in
    let all : List ℕ = mark ∷ volume ∷ file.ino ∷ file.generation ∷ after in
    ap handle (sym (append-nil (words all)))
    ∙ rw (words_again mark (volume ∷ file.ino ∷ file.generation ∷ after) [] (omega arith), words_again volume (file.ino ∷ file.generation ∷ after) [] v, words_again file.ino (file.generation ∷ after) [] i, words_again file.generation after [] g, zeros_at_end) refl
