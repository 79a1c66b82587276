-- A caller that was sent is read.
use Rattle.std.proofs.Common.{◌≡◌, ℕ, ◌^◌, ◌<◌, ◌≤◌, false, ltb, List, [], ◌∷◌, ◌++◌, length, Some, refl, sym, ap, ◌∙◌, append_assoc, length-append, arith}
use Rattle.std.specs.List.{AllByRecursion}
use Rattle.std.proofs.lemmas.Bool.{le-ltb}
use Rattle.std.proofs.lemmas.List.{append-nil}
use Rattle.files_model.specs.declared.credential.Cred.{Cred}
use Rattle.xdr_rpc.specs.Words.{word, words, opaque_bytes}
use Rattle.xdr_rpc.specs.Calls.{id_of, ids, groups, auth_unix}
use Rattle.xdr_rpc.specs.Sending.{unix_body}
use Rattle.xdr_rpc.proofs.Sheets.{length-words, length-opaque_bytes, padding_short}
use Rattle.xdr_rpc.proofs.RoundTrip.{words_none, words_again, opaque_again}

id_fits : (n : ℕ) → n < 2 ^ 16 → id_of n ≡ n
id_fits n lt = let fits : ltb 65535 n ≡ false = le-ltb _ _ (omega arith) in rw fits refl

ids_again : (gids rest : List ℕ) → AllByRecursion (λ g. g < 2 ^ 16) gids → ids (length gids) (words gids ++ rest) ≡ Some gids
unfolding ids
ids_again [] rest fits = refl
ids_again (g ∷ gs) rest fits = rw (words_again g gs rest (omega (arith, fits.0)), ids_again gs rest fits.1, id_fits g fits.0) refl

groups_again : (gids rest : List ℕ) → length gids ≤ 16 → AllByRecursion (λ g. g < 2 ^ 16) gids → groups (words (length gids ∷ gids) ++ rest) ≡ Some gids
unfolding groups
groups_again gids rest few fits =
    let inside : ltb 16 (length gids) ≡ false = le-ltb _ _ few in
    rw (words_again (length gids) gids rest (omega arith), inside) (ids_again gids rest fits)

-- one word alone
pub word_alone : (n : ℕ) (rest : List ℕ) → n < 2 ^ 32 → word (words (n ∷ []) ++ rest) ≡ Some (n, rest)
word_alone n rest lt = words_again n [] rest lt ∙ ap (λ (after : List ℕ). Some (n, after)) (words_none rest)

pub unix_again : (cred : Cred) (machine : List ℕ) → length machine ≤ 255 → cred.uid < 2 ^ 16 → cred.gid < 2 ^ 16 → length cred.gids ≤ 16 → AllByRecursion (λ g. g < 2 ^ 16) cred.gids
    → auth_unix (unix_body cred machine) ≡ Some (cred, machine)
unfolding auth_unix unix_body
unix_again cred machine short user group few fits =
    let numbers : List ℕ = cred.uid ∷ cred.gid ∷ length cred.gids ∷ cred.gids in
    let regrouped : (words (0 ∷ []) ++ opaque_bytes machine) ++ words numbers ≡ words (0 ∷ []) ++ (opaque_bytes machine ++ (words numbers ++ [])) =
    append_assoc (words (0 ∷ [])) (opaque_bytes machine) (words numbers) ∙ ap (λ (x : List ℕ). words (0 ∷ []) ++ (opaque_bytes machine ++ x)) (sym (append-nil (words numbers))) in
    ap auth_unix regrouped
    ∙ rw (
      word_alone 0 (opaque_bytes machine ++ (words numbers ++ [])) (omega arith),
      opaque_again 255 machine (words numbers ++ []) short (omega arith),
      words_again cred.uid (cred.gid ∷ length cred.gids ∷ cred.gids) [] (omega arith),
      words_again cred.gid (length cred.gids ∷ cred.gids) [] (omega arith),
      groups_again cred.gids [] few fits,
      id_fits cred.uid user,
      id_fits cred.gid group,
    ) refl

pub length-unix_body : (cred : Cred) (machine : List ℕ) → length machine ≤ 255 → length cred.gids ≤ 16 → length (unix_body cred machine) ≤ 400
unfolding unix_body
length-unix_body cred machine short few =
    let numbers : List ℕ = cred.uid ∷ cred.gid ∷ length cred.gids ∷ cred.gids in
    let zero : List ℕ = 0 ∷ [] in
    omega (
      arith,
      length-append (words zero ++ opaque_bytes machine) (words numbers),
      length-append (words zero) (opaque_bytes machine),
      length-words zero,
      length-words numbers,
      length-opaque_bytes machine,
      padding_short (length machine),
    )
