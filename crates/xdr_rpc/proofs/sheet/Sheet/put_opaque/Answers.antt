use Rattle.std.proofs.Common.{ℕ, arith, ap, length, ◌∷◌, [], length-take}
use Rattle.xdr_rpc.specs.Words.{Written, padding}
use Rattle.xdr_rpc.proofs.Sheets.{length-words, length-opaque_bytes, padding_short, opaque_written}
use Rattle.xdr_rpc.proofs.sheet.Sheet.put_opaque.Goals as goal

pub put_words-requires : goal.put_words-requires
put_words-requires c = omega (arith, length-words (length c.args.bytes.now ∷ []), length-opaque_bytes c.args.bytes.now)

pub put-requires : goal.put-requires
put-requires c = omega (arith, length-words (length c.args.bytes.now ∷ []), length-opaque_bytes c.args.bytes.now, ap (λ (w : Written). w.room) c.put_words.ensures)

pub put-requires-2 : goal.put-requires-2
put-requires-2 c =
    rw c.padding_after.ensures (omega (
      arith,
      length-words (length c.args.bytes.now ∷ []),
      length-opaque_bytes c.args.bytes.now,
      ap (λ (w : Written). w.room) c.put_words.ensures,
      ap (λ (w : Written). w.room) c.put.ensures,
      length-take {A = ℕ} (padding (length c.args.bytes.now)) (0 ∷ 0 ∷ 0 ∷ []),
      padding_short (length c.args.bytes.now),
    ))

pub returns : goal.returns
returns c = opaque_written c.args.self.now c.put_words.new.self c.put.new.self c.put-2.new.self c.args.bytes.now c.put_words.ensures c.put.ensures (rw c.padding_after.ensures at c.put-2.ensures)
