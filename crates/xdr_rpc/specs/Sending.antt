-- How a call is sent (RFC 1057 8 and 9).
use Rattle.std.specs.Prelude.{◌≡◌, ◌<◌, ◌≤◌, None, ◌^◌, ℕ, List, [], ◌∷◌, ◌++◌, length}
use Rattle.std.specs.List.{AllByRecursion}
use Rattle.files_model.specs.declared.credential.Cred.{Cred}
use Rattle.xdr_rpc.specs.declared.call.RpcCall.{RpcCall}
use Rattle.xdr_rpc.specs.declared.tests_in_order.Asked.{Asked}
use Rattle.xdr_rpc.specs.Order.{refused}
use Rattle.xdr_rpc.specs.Words.{words, opaque_bytes}

-- a flavour and a body
abbrev pub auth_bytes : ℕ → List ℕ → List ℕ
auth_bytes flavour body = words (flavour ∷ []) ++ opaque_bytes body

-- the body of flavour AUTH_UNIX: a stamp, the name of the machine, the user, the group, and the further groups
unfoldable pub unix_body : Cred → List ℕ → List ℕ
unix_body cred machine = words (0 ∷ []) ++ opaque_bytes machine ++ words (cred.uid ∷ cred.gid ∷ length cred.gids ∷ cred.gids)

-- the words before the credential, the credential, no verifier, and the arguments, of that version of the program
unfoldable pub sent_as : ℕ → RpcCall → List ℕ
sent_as version c = words (c.xid ∷ 0 ∷ 2 ∷ c.program ∷ version ∷ c.procedure ∷ []) ++ auth_bytes 1 (unix_body c.cred c.machine) ++ auth_bytes 0 [] ++ c.args

-- a caller whose numbers fit their words and whose lists are not too long
pub record CallerFits (cred : Cred) (from : List ℕ) : Type 0 where
  pub machine : length from ≤ 255
  pub user : cred.uid < 2 ^ 16
  pub group : cred.gid < 2 ^ 16
  pub few_groups : length cred.gids ≤ 16
  pub groups : AllByRecursion (λ g. g < 2 ^ 16) cred.gids

-- what it asks for, of that version
abbrev pub asks : ℕ → RpcCall → Asked
asks version c = record { program = c.program; version = version; procedure = c.procedure }

-- a call of a procedure that is served, of one of the three programs, whose numbers fit their words and whose lists are not too long
pub record CanBeServed (number : ℕ) (c : RpcCall) : Type 0 where
  pub xid : c.xid < 2 ^ 32
  pub program : c.program < 2 ^ 32
  pub version : number < 2 ^ 32
  pub procedure : c.procedure < 2 ^ 32
  pub served : refused (asks number c) ≡ None
  pub caller : CallerFits c.cred c.machine
