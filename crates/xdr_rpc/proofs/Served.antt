-- A call of one of the three programs that was sent is read by all tests.
use Rattle.std.proofs.Common.{◌≡◌, ℕ, ◌^◌, ◌<◌, ◌≤◌, false, ltb, List, [], ◌∷◌, ◌++◌, length, replicate, Ok, refl, ap, ◌∙◌, append_assoc, arith}
use Rattle.std.proofs.lemmas.Bool.{le-ltb}
use Rattle.xdr_rpc.specs.declared.call.RpcCall.{RpcCall}
use Rattle.xdr_rpc.specs.declared.refusal.Cause.{Cause}
use Rattle.xdr_rpc.specs.declared.refusal.Cause.TheVariants.{BadCredential, BadVerifier}
use Rattle.xdr_rpc.specs.Words.{padding, words, opaque_bytes}
use Rattle.xdr_rpc.specs.Order.{call_start, after_version, asked, auth, caller, call_of}
use Rattle.xdr_rpc.specs.Sending.{auth_bytes, unix_body, sent_as, asks, CanBeServed}
use Rattle.xdr_rpc.proofs.Sheets.{words-append}
use Rattle.xdr_rpc.proofs.RoundTrip.{words_again, padded_again}
use Rattle.xdr_rpc.proofs.Sent.{word_alone, unix_again, length-unix_body}

auth_again : (xid : ℕ) (cause : Cause) (flavour : ℕ) (body rest : List ℕ) → flavour < 2 ^ 32 → length body ≤ 400 → auth xid cause (auth_bytes flavour body ++ rest) ≡ Ok ((flavour, body), rest)
unfolding auth opaque_bytes
auth_again xid cause flavour body rest lt short =
    let zeros : List ℕ = replicate (padding (length body)) 0 in
    let head : List ℕ = words (length body ∷ []) in
    let regrouped : (words (flavour ∷ []) ++ ((head ++ body) ++ zeros)) ++ rest ≡ words (flavour ∷ []) ++ (head ++ (body ++ (zeros ++ rest))) = simp append_assoc in
    let inside : ltb 400 (length body) ≡ false = le-ltb _ _ short in
    ap (auth xid cause) regrouped
    ∙ rw (word_alone flavour (head ++ (body ++ (zeros ++ rest))) lt, word_alone (length body) (body ++ (zeros ++ rest)) (omega arith), inside, padded_again body rest) refl

start_again : (xid : ℕ) (rest : List ℕ) → xid < 2 ^ 32 → call_start (words (xid ∷ 0 ∷ []) ++ rest) ≡ Ok (xid, rest)
unfolding call_start
start_again xid rest fits = rw (words_again xid (0 ∷ []) rest fits, word_alone 0 rest (omega arith)) refl

version_again : (xid : ℕ) (rest : List ℕ) → after_version xid (words (2 ∷ []) ++ rest) ≡ Ok rest
unfolding after_version
version_again xid rest = rw (word_alone 2 rest (omega arith)) refl

asked_again : (version : ℕ) (c : RpcCall) (rest : List ℕ) → CanBeServed version c → asked (words (c.program ∷ version ∷ c.procedure ∷ []) ++ rest) ≡ Ok (asks version c, rest)
unfolding asked
asked_again version c rest can =
    rw (words_again c.program (version ∷ c.procedure ∷ []) rest can.program, words_again version (c.procedure ∷ []) rest can.version, word_alone c.procedure rest can.procedure) refl

caller_again : (xid : ℕ) (version : ℕ) (c : RpcCall) → CanBeServed version c → caller xid 1 (unix_body c.cred c.machine) ≡ Ok (c.cred, c.machine)
unfolding caller
caller_again xid version c can = rw (unix_again c.cred c.machine can.caller.machine can.caller.user can.caller.group can.caller.few_groups can.caller.groups) refl

head_in_parts : (xid program version procedure : ℕ) (rest : List ℕ) → words (xid ∷ 0 ∷ 2 ∷ program ∷ version ∷ procedure ∷ []) ++ rest ≡ words (xid ∷ 0 ∷ []) ++ (words (2 ∷ []) ++ (words (program ∷ version ∷ procedure ∷ []) ++ rest))
head_in_parts xid program version procedure rest =
    let asked : List ℕ = program ∷ version ∷ procedure ∷ [] in
    ap (λ (x : List ℕ). x ++ rest) (words-append (xid ∷ 0 ∷ []) (2 ∷ asked) ∙ ap (λ (x : List ℕ). words (xid ∷ 0 ∷ []) ++ x) (words-append (2 ∷ []) asked))
    ∙ append_assoc (words (xid ∷ 0 ∷ [])) (words (2 ∷ []) ++ words asked) rest
    ∙ ap (λ (x : List ℕ). words (xid ∷ 0 ∷ []) ++ x) (append_assoc (words (2 ∷ [])) (words asked) rest)

pub served_again : (version : ℕ) (c : RpcCall) → CanBeServed version c → call_of (sent_as version c) ≡ Ok c
unfolding call_of sent_as
served_again version c can =
    let head : List ℕ = words (c.xid ∷ 0 ∷ 2 ∷ c.program ∷ version ∷ c.procedure ∷ []) in
    let body : List ℕ = unix_body c.cred c.machine in
    let three : List ℕ = words (c.program ∷ version ∷ c.procedure ∷ []) in
    let rest : List ℕ = auth_bytes 1 body ++ (auth_bytes 0 [] ++ c.args) in
    let regrouped : ((head ++ auth_bytes 1 body) ++ auth_bytes 0 []) ++ c.args ≡ head ++ rest =
    append_assoc (head ++ auth_bytes 1 body) (auth_bytes 0 []) c.args ∙ append_assoc head (auth_bytes 1 body) (auth_bytes 0 [] ++ c.args) in
    ap call_of (regrouped ∙ head_in_parts c.xid c.program version c.procedure rest)
    ∙ rw (
      start_again c.xid (words (2 ∷ []) ++ (three ++ rest)) can.xid,
      version_again c.xid (three ++ rest),
      asked_again version c rest can,
      auth_again c.xid BadCredential 1 body (auth_bytes 0 [] ++ c.args) (omega arith) (length-unix_body c.cred c.machine can.caller.machine can.caller.few_groups),
      auth_again c.xid BadVerifier 0 [] c.args (omega arith) (omega arith),
      can.served,
      caller_again c.xid version c can,
    ) refl
