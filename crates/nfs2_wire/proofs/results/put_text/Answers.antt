use Rattle.xdr_rpc.specs.Words.{opaque_bytes}
use Rattle.xdr_rpc.proofs.Sheets.{both_written, first_fits, second_fits}
use Rattle.nfs2_wire.specs.Replies.{fine, result_bytes}
use Rattle.nfs2_wire.proofs.results.put_text.Goals as goal

pub put_words-requires : goal.put_words-requires
unfolding result_bytes
put_words-requires c = first_fits fine (opaque_bytes c.args.text.now) c.args.sheet.now.room c.requires

pub put_opaque-requires-clause-room : goal.put_opaque-requires-clause-room
unfolding result_bytes
put_opaque-requires-clause-room c = rw c.bytes.ensures.bytes (second_fits c.args.sheet.now c.put_words.new.self fine (opaque_bytes c.args.text.now) c.put_words.ensures c.requires)

pub returns : goal.returns
unfolding result_bytes
returns c = both_written c.args.sheet.now c.put_words.new.self c.put_opaque.new.self fine (opaque_bytes c.args.text.now) c.put_words.ensures (rw c.bytes.ensures.bytes at c.put_opaque.ensures)
