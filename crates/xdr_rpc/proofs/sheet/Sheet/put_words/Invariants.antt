use Rattle.byteorder.specs.Endian.{big_bytes}
use Rattle.xdr_rpc.specs.Words.{words, added}
use Rattle.xdr_rpc.proofs.Sheets.{WillBe}
use Rattle.xdr_rpc.proofs.sheet.Sheet.put_words.Given as goal

abbrev pub invariant-loop-number : goal.invariant-loop-number
invariant-loop-number l = WillBe (big_bytes 4) l.self (added l.initial.self (words l.numbers)) l.numbers l.number-index
