use Rattle.std.proofs.Common.{◌++◌}
use Rattle.xdr_rpc.specs.Words.{words}
use Rattle.xdr_rpc.proofs.Sheets.{both_written, first_fits, second_fits}
use Rattle.nfs2_wire.specs.Handles.{handle_of}
use Rattle.nfs2_wire.specs.Replies.{fattr, fine, result_bytes}
use Rattle.nfs2_wire.proofs.results.put_handle.Goals as goal

pub put_words-requires : goal.put_words-requires
unfolding result_bytes
put_words-requires c =
    let handle = handle_of c.args.volume c.args.file in
    first_fits fine handle c.args.sheet.now.room (first_fits (fine ++ handle) (words (fattr c.args.attr.now c.args.volume)) c.args.sheet.now.room c.requires)

pub put-requires : goal.put-requires
unfolding result_bytes
put-requires c =
    let handle = handle_of c.args.volume c.args.file in
    rw c.handle_bytes.ensures.bytes (second_fits c.args.sheet.now c.put_words.new.self fine handle c.put_words.ensures (first_fits (fine ++ handle) (words (fattr c.args.attr.now c.args.volume)) c.args.sheet.now.room c.requires))

pub put_words-requires-2 : goal.put_words-requires-2
unfolding result_bytes
put_words-requires-2 c =
    let handle = handle_of c.args.volume c.args.file in
    rw c.attr_words.ensures (second_fits c.args.sheet.now c.put.new.self (fine ++ handle) (words (fattr c.args.attr.now c.args.volume))
    (both_written c.args.sheet.now c.put_words.new.self c.put.new.self fine handle c.put_words.ensures (rw c.handle_bytes.ensures.bytes at c.put.ensures)) c.requires)

pub returns : goal.returns
unfolding result_bytes
returns c =
    let handle = handle_of c.args.volume c.args.file in
    both_written c.args.sheet.now c.put.new.self c.put_words-2.new.self (fine ++ handle) (words (fattr c.args.attr.now c.args.volume))
    (both_written c.args.sheet.now c.put_words.new.self c.put.new.self fine handle c.put_words.ensures (rw c.handle_bytes.ensures.bytes at c.put.ensures))
    (rw c.attr_words.ensures at c.put_words-2.ensures)
