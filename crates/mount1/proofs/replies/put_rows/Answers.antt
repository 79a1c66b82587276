use Rattle.std.specs.List.{flat_map}
use Rattle.xdr_rpc.specs.Words.{added}
use Rattle.xdr_rpc.proofs.Sheets.{piece_fits, next_piece, all_pieces}
use Rattle.mount1.specs.Replies.{row_bytes}
use Rattle.mount1.proofs.Rows.{row_at}
use Rattle.mount1.proofs.replies.put_rows.Goals as goal

pub put_row-requires-clause-fits : goal.put_row-requires-clause-fits
put_row-requires-clause-fits c = row_at c.args.rows.now c.loop-row.row-index c.row-item.result c.requires.fit.fit c.loop-row-test.true c.row-item.is

pub put_row-requires-clause-room : goal.put_row-requires-clause-room
put_row-requires-clause-room c = piece_fits row_bytes c.loop-row.sheet (added c.args.sheet.now (flat_map row_bytes c.args.rows.now)) c.args.rows.now c.loop-row.row-index c.row-item.result c.loop-row-test.true c.row-item.is c.loop-row.invariant

pub loop-row-preserved : goal.loop-row-preserved
loop-row-preserved c = next_piece row_bytes c.loop-row.sheet c.put_row.new.sheet (added c.args.sheet.now (flat_map row_bytes c.args.rows.now)) c.args.rows.now c.loop-row.row-index c.row-item.result c.loop-row-test.true c.row-item.is c.put_row.ensures c.loop-row.invariant

pub returns : goal.returns
returns c = all_pieces row_bytes c.loop-row.sheet (added c.args.sheet.now (flat_map row_bytes c.args.rows.now)) c.args.rows.now c.loop-row.row-index c.loop-row-test.false c.loop-row.invariant
