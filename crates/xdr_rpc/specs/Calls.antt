-- Who calls, by the body of a credential (RFC 1057 9.2; docs/FORMATS.md).
use Rattle.std.specs.Prelude.{ℕ, zero, suc, List, [], ◌∷◌, Option, Some, None, nat_lt, if◌then◌else◌}
use Rattle.files_model.specs.declared.credential.Cred.{Cred}
use Rattle.xdr_rpc.specs.Words.{◌>>=◌, word, opaque}

-- a user or group number as files keep it: those above 65,535 are nobody's
abbrev pub id_of : ℕ → ℕ
id_of n = if nat_lt 65535 n then 65534 else n

-- n group numbers
unfoldable pub ids : ℕ → List ℕ → Option (List ℕ)
ids zero bytes = Some []
ids (suc n) bytes = do
  first ← word bytes
  others ← ids n first.1
  Some (id_of first.0 ∷ others)

-- a count of at most 16, and so many group numbers
unfoldable pub groups : List ℕ → Option (List ℕ)
groups bytes = do
  count ← word bytes
  if nat_lt 16 count.0 then None else ids count.0 count.1

-- the caller and the name of its machine, from the body of a credential of flavour AUTH_UNIX; bytes after them are passed over (RFC 1057 9.2)
unfoldable pub auth_unix : List ℕ → Option (Cred × List ℕ)
auth_unix body = do
  stamp ← word body
  machine ← opaque 255 stamp.1
  uid ← word machine.1
  gid ← word uid.1
  gids ← groups gid.1
  Some (record { uid = id_of uid.0; gid = id_of gid.0; gids = gids }, machine.0)
