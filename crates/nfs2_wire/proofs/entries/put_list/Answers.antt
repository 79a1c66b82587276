use Rattle.std.specs.List.{flat_map}
use Rattle.xdr_rpc.specs.Words.{added}
use Rattle.xdr_rpc.proofs.Sheets.{piece_fits, next_piece, all_pieces}
use Rattle.nfs2_wire.specs.Replies.{entry_bytes}
use Rattle.nfs2_wire.proofs.entries.put_list.Goals as goal

pub put_entry-requires : goal.put_entry-requires
put_entry-requires c = piece_fits entry_bytes c.loop-entry.sheet (added c.args.sheet.now (flat_map entry_bytes c.args.entries.now)) c.args.entries.now c.loop-entry.entry-index c.entry-item.result c.loop-entry-test.true c.entry-item.is c.loop-entry.invariant

pub loop-entry-preserved : goal.loop-entry-preserved
loop-entry-preserved c = next_piece entry_bytes c.loop-entry.sheet c.put_entry.new.sheet (added c.args.sheet.now (flat_map entry_bytes c.args.entries.now)) c.args.entries.now c.loop-entry.entry-index c.entry-item.result c.loop-entry-test.true c.entry-item.is c.put_entry.ensures c.loop-entry.invariant

pub returns : goal.returns
returns c = all_pieces entry_bytes c.loop-entry.sheet (added c.args.sheet.now (flat_map entry_bytes c.args.entries.now)) c.args.entries.now c.loop-entry.entry-index c.loop-entry-test.false c.loop-entry.invariant
