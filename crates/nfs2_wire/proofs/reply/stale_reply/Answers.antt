use Rattle.std.proofs.Common.{◌∙◌, ◌∷◌, [], ap}
use Rattle.xdr_rpc.specs.Words.{words}
use Rattle.xdr_rpc.proofs.Sheets.{words-append}
use Rattle.nfs2_wire.specs.Replies.{bytes_of, result_bytes}
use Rattle.nfs2_wire.proofs.reply.stale_reply.Goals as goal

pub returns : goal.returns
unfolding bytes_of result_bytes
returns c =
    c.reply_of_words.ensures
    ∙ ap (λ n. words (c.args.xid ∷ 1 ∷ 0 ∷ 0 ∷ 0 ∷ 0 ∷ n ∷ [])) c.status_number.ensures
    ∙ words-append (c.args.xid ∷ 1 ∷ 0 ∷ 0 ∷ 0 ∷ 0 ∷ []) (70 ∷ [])
