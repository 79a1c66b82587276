use Rattle.std.proofs.Common.{List, ℕ, ◌++◌, ap, ◌∙◌}
use Rattle.presto_rpc.specs.Replies.{answer_bytes, control_reply}
use Rattle.presto_rpc.proofs.ReadBack.{answer_again}
use Rattle.presto_rpc.proofs.replies.write_answer.Goals as goal

pub returns-clause-read_back : goal.returns-clause-read_back
unfolding answer_bytes
returns-clause-read_back c = λ asked rest is.
    ap (λ (text : List ℕ). control_reply c.args.xid asked (text ++ rest)) c.reply_of_words.ensures ∙ answer_again c.args.xid c.args.code c.args.n asked rest c.ranges.xid.fits c.ranges.code.fits c.ranges.n.fits is
