use Rattle.xdr_rpc.specs.Words.{words}
use Rattle.xdr_rpc.proofs.Sheets.{both_written, first_fits, second_fits}
use Rattle.nfs2_wire.specs.Replies.{fattr, fine, result_bytes}
use Rattle.nfs2_wire.proofs.results.put_attr.Goals as goal

pub put_words-requires : goal.put_words-requires
unfolding result_bytes
put_words-requires c = first_fits fine (words (fattr c.args.attr.now c.args.volume)) c.args.sheet.now.room c.requires

pub put_words-requires-2 : goal.put_words-requires-2
unfolding result_bytes
put_words-requires-2 c = rw c.attr_words.ensures (second_fits c.args.sheet.now c.put_words.new.self fine (words (fattr c.args.attr.now c.args.volume)) c.put_words.ensures c.requires)

pub returns : goal.returns
unfolding result_bytes
returns c = both_written c.args.sheet.now c.put_words.new.self c.put_words-2.new.self fine (words (fattr c.args.attr.now c.args.volume)) c.put_words.ensures (rw c.attr_words.ensures at c.put_words-2.ensures)
