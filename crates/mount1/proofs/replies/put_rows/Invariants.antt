use Rattle.std.specs.List.{flat_map}
use Rattle.xdr_rpc.specs.Words.{added}
use Rattle.xdr_rpc.proofs.Sheets.{WillBe}
use Rattle.mount1.specs.Replies.{row_bytes}
use Rattle.mount1.proofs.replies.put_rows.Given as goal

abbrev pub invariant-loop-row : goal.invariant-loop-row
invariant-loop-row l = WillBe row_bytes l.sheet (added l.initial.sheet (flat_map row_bytes l.rows)) l.rows l.row-index
