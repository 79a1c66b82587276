use Rattle.std.proofs.Common.{◌++◌}
use Rattle.xdr_rpc.specs.Words.{words, opaque_bytes}
use Rattle.xdr_rpc.proofs.Sheets.{both_written, first_fits, second_fits}
use Rattle.nfs2_wire.specs.Replies.{fattr, fine, result_bytes}
use Rattle.nfs2_wire.proofs.results.put_data.Goals as goal

pub put_words-requires : goal.put_words-requires
unfolding result_bytes
put_words-requires c =
    let attr = words (fattr c.args.attr.now c.args.volume) in
    first_fits fine attr c.args.sheet.now.room (first_fits (fine ++ attr) (opaque_bytes c.args.bytes.now) c.args.sheet.now.room c.requires)

pub put_words-requires-2 : goal.put_words-requires-2
unfolding result_bytes
put_words-requires-2 c =
    let attr = words (fattr c.args.attr.now c.args.volume) in
    rw c.attr_words.ensures (second_fits c.args.sheet.now c.put_words.new.self fine attr c.put_words.ensures (first_fits (fine ++ attr) (opaque_bytes c.args.bytes.now) c.args.sheet.now.room c.requires))

pub put_opaque-requires-clause-room : goal.put_opaque-requires-clause-room
unfolding result_bytes
put_opaque-requires-clause-room c =
    let attr = words (fattr c.args.attr.now c.args.volume) in
    rw c.bytes.ensures.bytes (second_fits c.args.sheet.now c.put_words-2.new.self (fine ++ attr) (opaque_bytes c.args.bytes.now)
    (both_written c.args.sheet.now c.put_words.new.self c.put_words-2.new.self fine attr c.put_words.ensures (rw c.attr_words.ensures at c.put_words-2.ensures)) c.requires)

pub returns : goal.returns
unfolding result_bytes
returns c =
    let attr = words (fattr c.args.attr.now c.args.volume) in
    both_written c.args.sheet.now c.put_words-2.new.self c.put_opaque.new.self (fine ++ attr) (opaque_bytes c.args.bytes.now)
    (both_written c.args.sheet.now c.put_words.new.self c.put_words-2.new.self fine attr c.put_words.ensures (rw c.attr_words.ensures at c.put_words-2.ensures))
    (rw c.bytes.ensures.bytes at c.put_opaque.ensures)
