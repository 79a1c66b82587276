-- How long the replies are.
use Rattle.std.proofs.Common.{◌≡◌, ℕ, zero, suc, ◌+◌, ◌-◌, ◌*◌, ◌<◌, ◌≤◌, ap, List, [], ◌∷◌, length, length-append, arith}
use Rattle.std.specs.List.{flat_map, AllByRecursion}
use Rattle.files_model.specs.declared.attributes.FileId.{FileId}
use Rattle.xdr_rpc.specs.Words.{Written, added, words}
use Rattle.xdr_rpc.proofs.Sheets.{length-words, length-opaque_bytes}
use Rattle.nfs2_wire.proofs.Lengths.{length-handle_of}
use Rattle.mount1.specs.declared.list.Row.{Row}
use Rattle.mount1.specs.Rows.{Fits, AreRows}
use Rattle.mount1.specs.Replies.{row_bytes, export_bytes, exports_below, root_bytes, dump_bytes, export_list_bytes}

pub root_fits : (xid volume : ℕ) (root : FileId) → length (root_bytes xid volume root) ≤ 60
unfolding root_bytes
root_fits xid volume root = simp (length-append, length-words, length-handle_of) (omega arith)

row_fits : (row : Row) → Fits row → length (row_bytes row) ≤ 276
row_fits row fits = simp (length-append, length-words, length-opaque_bytes) (omega (arith, fits.short))

rows_fit : (rows : List Row) → AllByRecursion Fits rows → length (flat_map row_bytes rows) ≤ 276 * length rows
rows_fit [] fit = omega arith
rows_fit (r ∷ rs) fit = omega (arith, length-append (row_bytes r) (flat_map row_bytes rs), row_fits r fit.0, rows_fit rs fit.1)

pub dump_fits : (xid : ℕ) (rows : List Row) → AreRows rows → length (dump_bytes xid rows) ≤ 17692
unfolding dump_bytes
dump_fits xid rows are = simp (length-append, length-words) (omega (arith, rows_fit rows are.fit, are.few))

pub length-export : (volume : ℕ) → length (export_bytes volume) ≡ 20
length-export volume = simp (length-append, length-words, length-opaque_bytes) (omega arith)

pub length-exports : (n : ℕ) → length (exports_below n) ≡ 20 * n
length-exports zero = omega arith
length-exports (suc n) = omega (arith, length-append (exports_below n) (export_bytes n), length-exports n, length-export n)

pub exports_fit : (xid volumes : ℕ) → volumes ≤ 4 → length (export_list_bytes xid volumes) ≤ 108
unfolding export_list_bytes
exports_fit xid volumes few = simp (length-append, length-words) (omega (arith, length-exports volumes))

-- after those below i there is room for the next
pub export_fits : (start now : Written) (i n : ℕ) → now ≡ added start (exports_below i) → i < n → length (exports_below n) ≤ start.room → length (export_bytes i) ≤ now.room
export_fits start now i n is lt room =
    let left : now.room ≡ start.room - length (exports_below i) = ap (λ (w : Written). w.room) is in
    omega (arith, length-exports i, length-exports n, length-export i)
