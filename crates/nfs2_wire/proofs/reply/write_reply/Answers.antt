use Rattle.std.proofs.Common.{ap, ◌∙◌, ◌∷◌, [], ◌++◌}
use Rattle.xdr_rpc.specs.Words.{Written, words}
use Rattle.xdr_rpc.proofs.Sheets.{both_written, first_fits, second_fits}
use Rattle.nfs2_wire.specs.Replies.{result_bytes, bytes_of}
use Rattle.nfs2_wire.proofs.reply.write_reply.Goals as goal

pub put_words-requires : goal.put_words-requires
unfolding bytes_of
put_words-requires c =
    let head = words (c.args.xid ∷ 1 ∷ 0 ∷ 0 ∷ 0 ∷ 0 ∷ []) in
    rw c.into_sheet-sheet.ensures (first_fits head (result_bytes c.args.reply.now c.args.volume) c.args.room c.requires)

pub put_result-requires : goal.put_result-requires
unfolding bytes_of
put_result-requires c =
    let head = words (c.args.xid ∷ 1 ∷ 0 ∷ 0 ∷ 0 ∷ 0 ∷ []) in
    second_fits c.into_sheet-sheet.result c.put_words.new.self head (result_bytes c.args.reply.now c.args.volume) c.put_words.ensures (rw c.into_sheet-sheet.ensures c.requires)

pub returns : goal.returns
unfolding bytes_of
returns c =
    let head = words (c.args.xid ∷ 1 ∷ 0 ∷ 0 ∷ 0 ∷ 0 ∷ []) in
    let result = result_bytes c.args.reply.now c.args.volume in
    c.into_reply.ensures ∙ ap (λ (w : Written). w.bytes) (both_written c.into_sheet-sheet.result c.put_words.new.self c.put_result.new.sheet head result c.put_words.ensures c.put_result.ensures)
    ∙ ap (λ (w : Written). w.bytes ++ (head ++ result)) c.into_sheet-sheet.ensures
