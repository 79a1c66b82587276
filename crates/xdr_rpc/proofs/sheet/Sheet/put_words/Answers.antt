use Rattle.std.proofs.Common.{refl, get_or}
use Rattle.std.proofs.lemmas.List.{get_or_default}
use Rattle.byteorder.specs.Endian.{big_bytes}
use Rattle.xdr_rpc.specs.Words.{words, added}
use Rattle.xdr_rpc.proofs.Sheets.{piece_fits, next_piece, all_pieces}
use Rattle.xdr_rpc.proofs.sheet.Sheet.put_words.Goals as goal

pub loop-number-init : goal.loop-number-init
unfolding words
loop-number-init c = record { whole = refl; fits = c.requires }

pub put-requires : goal.put-requires
put-requires c = rw c.to_be_bytes.ensures (piece_fits (big_bytes 4) c.loop-number.self (added c.args.self.now (words c.args.numbers.now)) c.args.numbers.now c.loop-number.number-index (get_or c.args.numbers.now c.loop-number.number-index 0) c.loop-number-test.true (get_or_default c.args.numbers.now c.loop-number.number-index 0 _ c.loop-number-test.true) c.loop-number.invariant)

pub loop-number-preserved : goal.loop-number-preserved
loop-number-preserved c = next_piece (big_bytes 4) c.loop-number.self c.put.new.self (added c.args.self.now (words c.args.numbers.now)) c.args.numbers.now c.loop-number.number-index (get_or c.args.numbers.now c.loop-number.number-index 0) c.loop-number-test.true (get_or_default c.args.numbers.now c.loop-number.number-index 0 _ c.loop-number-test.true) (rw c.to_be_bytes.ensures at c.put.ensures) c.loop-number.invariant

pub returns : goal.returns
returns c = all_pieces (big_bytes 4) c.loop-number.self (added c.args.self.now (words c.args.numbers.now)) c.args.numbers.now c.loop-number.number-index c.loop-number-test.false c.loop-number.invariant
