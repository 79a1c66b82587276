-- What a datagram is, in the order of the tests: the first that fails decides (RFC 1057 8 and 9; docs/FORMATS.md).
use Rattle.std.specs.Prelude.{ℕ, List, [], Option, Some, None, Result, Ok, Err, ◌==◌, nat_lt, if◌then◌else◌}
use Rattle.files_model.specs.declared.credential.Cred.{Cred}
use Rattle.xdr_rpc.specs.declared.call.RpcCall.{RpcCall}
use Rattle.xdr_rpc.specs.declared.rpc.RpcRead.{RpcRead}
use Rattle.xdr_rpc.specs.declared.rpc.RpcRead.TheVariants as read
use Rattle.xdr_rpc.specs.declared.refusal.Cause.{Cause}
use Rattle.xdr_rpc.specs.declared.refusal.Cause.TheVariants.{RpcMismatch, BadCredential, BadVerifier, RejectedCredential, NoProgram, NoVersion, NoProcedure, Done}
use Rattle.xdr_rpc.specs.declared.tests_in_order.Unserved.{Unserved}
use Rattle.xdr_rpc.specs.declared.tests_in_order.Unserved.TheVariants.{NoReply, Refused}
use Rattle.xdr_rpc.specs.declared.tests_in_order.Asked.{Asked}
use Rattle.xdr_rpc.specs.Tests.{◌>>=◌}
use Rattle.xdr_rpc.specs.Words.{word, padded}
use Rattle.xdr_rpc.specs.Calls.{auth_unix}
use Rattle.xdr_rpc.specs.Refusals.{refusal}

-- a test decides what a datagram is, or passes with what it found
abbrev pub Test : Type 0 → Type 0
Test A = Result A Unserved

-- what is missing is not answered
abbrev pub needed : {A : Type 0} → Option A → Test A
needed None = Err NoReply
needed (Some x) = Ok x

abbrev pub refuse : {A : Type 0} → ℕ → Cause → Test A
refuse xid cause = Err (Refused xid cause)

-- 1. the transaction number of a call (second word 0), and the bytes after the two
unfoldable pub call_start : List ℕ → Test (ℕ × List ℕ)
call_start bytes = do
  xid ← needed (word bytes)
  kind ← needed (word xid.1)
  if kind.0 == 0 then Ok (xid.0, kind.1) else Err NoReply

-- 2. the bytes after the RPC version, which is 2
unfoldable pub after_version : ℕ → List ℕ → Test (List ℕ)
after_version xid bytes = do
  version ← needed (word bytes)
  if version.0 == 2 then Ok version.1 else refuse xid RpcMismatch

-- 3. program, version and procedure, and the bytes after them
unfoldable pub asked : List ℕ → Test (Asked × List ℕ)
asked bytes = do
  program ← needed (word bytes)
  version ← needed (word program.1)
  procedure ← needed (word version.1)
  Ok (record { program = program.0; version = version.0; procedure = procedure.0 }, procedure.1)

-- a flavour and a body of at most 400 bytes, and the bytes after its padding
unfoldable pub auth : ℕ → Cause → List ℕ → Test ((ℕ × List ℕ) × List ℕ)
auth xid too_long bytes = do
  flavour ← needed (word bytes)
  size ← needed (word flavour.1)
  if nat_lt 400 size.0 then refuse xid too_long else do
    body ← needed (padded size.0 size.1)
    Ok ((flavour.0, body.0), body.1)

-- the programs: the version of each, and its last procedure
abbrev pub program_of : ℕ → Option (ℕ × ℕ)
program_of n =
    if n == 100003 then Some (2, 17)
    else if n == 100005 then Some (1, 5)
    else if n == 0x20001094 then Some (1, 6)
    else None

-- 5 to 7. of a program with that version and that last procedure
abbrev pub refused_by : Option (ℕ × ℕ) → Asked → Option Cause
refused_by None a = Some NoProgram
refused_by (Some has) a =
    if a.version == has.0
    then if nat_lt has.1 a.procedure then Some NoProcedure else if a.procedure == 0 then Some Done else None
    else Some (NoVersion has.0)

-- 4 to 7. why what is asked isn't served, or served by a reply alone
abbrev pub refused : Asked → Option Cause
refused a = refused_by (program_of a.program) a

-- it is served, or refused for that cause
abbrev pub unless : {A : Type 0} → Option Cause → ℕ → Test A → Test A
unless None xid next = next
unless (Some cause) xid next = refuse xid cause

-- nobody: the caller of flavour 0
abbrev pub nobody : Cred × List ℕ
nobody = (record { uid = 65534; gid = 65534; gids = [] }, [])

abbrev pub unix_or_refused : ℕ → Option (Cred × List ℕ) → Test (Cred × List ℕ)
unix_or_refused xid None = refuse xid BadCredential
unix_or_refused xid (Some caller) = Ok caller

-- 8. the caller, by a flavour and a body
unfoldable pub caller : ℕ → ℕ → List ℕ → Test (Cred × List ℕ)
caller xid flavour body =
    if flavour == 0 then Ok nobody
    else if flavour == 1 then unix_or_refused xid (auth_unix body)
    else refuse xid RejectedCredential

-- the call that a datagram is, or what decides it. The content of the verifier is passed over
unfoldable pub call_of : List ℕ → Test RpcCall
call_of bytes = do
  start ← call_start bytes
  rest ← after_version start.0 start.1
  what ← asked rest
  credential ← auth start.0 BadCredential what.1
  verifier ← auth start.0 BadVerifier credential.1
  unless (refused what.0) start.0 (do
    who ← caller start.0 credential.0.0 credential.0.1
    Ok (record { xid = start.0; program = what.0.program; procedure = what.0.procedure; cred = who.0; machine = who.1; args = verifier.1 }))

-- what a datagram is read as
abbrev pub read_as : Test RpcCall → RpcRead
read_as (Ok call) = read.Call call
read_as (Err NoReply) = read.NoReply
read_as (Err (Refused xid cause)) = read.Refuse (refusal xid cause)
