-- The bytes of refusals (RFC 1057 8).
use Rattle.std.specs.Prelude.{ℕ, List, [], ◌∷◌}
use Rattle.xdr_rpc.specs.Words.{words}
use Rattle.xdr_rpc.specs.declared.refusal.Cause.{Cause}
use Rattle.xdr_rpc.specs.declared.refusal.Cause.TheVariants.{RpcMismatch, BadCredential, BadVerifier, RejectedCredential, TooWeak, NoProgram, NoVersion, NoProcedure, Done, Garbage}

-- what stands after the transaction number: a reply, denied, AUTH_ERROR, and why
abbrev pub bad_auth : ℕ → List ℕ
bad_auth why = 1 ∷ 1 ∷ 1 ∷ why ∷ []

-- a reply, accepted, no verifier, the state, and what belongs to it
abbrev pub accepted : ℕ → List ℕ → List ℕ
accepted state more = 1 ∷ 0 ∷ 0 ∷ 0 ∷ state ∷ more

abbrev pub refusal_words : Cause → List ℕ
refusal_words RpcMismatch = 1 ∷ 1 ∷ 0 ∷ 2 ∷ 2 ∷ []
refusal_words BadCredential = bad_auth 1
refusal_words RejectedCredential = bad_auth 2
refusal_words BadVerifier = bad_auth 3
refusal_words TooWeak = bad_auth 5
refusal_words Done = accepted 0 []
refusal_words NoProgram = accepted 1 []
refusal_words (NoVersion has) = accepted 2 (has ∷ has ∷ [])
refusal_words NoProcedure = accepted 3 []
refusal_words Garbage = accepted 4 []

-- the bytes of the reply to a call of this transaction number
unfoldable pub refusal : ℕ → Cause → List ℕ
refusal xid cause = words (xid ∷ refusal_words cause)
