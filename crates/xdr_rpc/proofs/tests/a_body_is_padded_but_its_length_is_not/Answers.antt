use Rattle.std.proofs.Common.{ℕ, List, ◌∷◌, [], ap, arith}
use Rattle.xdr_rpc.specs.Words.{Written}
use Rattle.xdr_rpc.proofs.Sheets.{length-opaque_bytes}
use Rattle.xdr_rpc.proofs.tests.a_body_is_padded_but_its_length_is_not.Goals as goal

pub put_opaque-requires-clause-room : goal.put_opaque-requires-clause-room
put_opaque-requires-clause-room g c =
    let abcde : List ℕ = 97 ∷ 98 ∷ 99 ∷ 100 ∷ 101 ∷ [] in
    omega (arith, length-opaque_bytes abcde, ap (λ (w : Written). w.room) c.in_ok-sheet.ensures)
