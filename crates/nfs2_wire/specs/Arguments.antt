-- The arguments of GETATTR, READ and WRITE (RFC 1094 2.2). Bytes after the last argument are passed over.
use Rattle.std.specs.Prelude.{ℕ, List, Option, Some}
use Rattle.xdr_rpc.specs.Words.{◌>>=◌, word, fixed, opaque}

-- a handle (RFC 1094 2.2.2)
unfoldable pub getattr_args : List ℕ → Option (List ℕ)
getattr_args bytes = do
  file ← fixed 32 bytes
  Some file.0

-- a handle, offset, count and totalcount: the bytes of the handle, the offset, the count (RFC 1094 2.2.7, readargs)
unfoldable pub read_args : List ℕ → Option (List ℕ × ℕ × ℕ)
read_args bytes = do
  file ← fixed 32 bytes
  offset ← word file.1
  count ← word offset.1
  totalcount ← word count.1
  Some (file.0, offset.0, count.0)

-- a handle, beginoffset, offset, totalcount and at most 8,192 bytes: the bytes of the handle, the offset, the bytes (RFC 1094 2.2.9, writeargs)
unfoldable pub write_args : List ℕ → Option (List ℕ × ℕ × List ℕ)
write_args bytes = do
  file ← fixed 32 bytes
  beginoffset ← word file.1
  offset ← word beginoffset.1
  totalcount ← word offset.1
  written ← opaque 8192 totalcount.1
  Some (file.0, offset.0, written.0)
