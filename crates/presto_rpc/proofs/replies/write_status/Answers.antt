use Rattle.std.proofs.Common.{List, ℕ, ◌++◌, ap, ◌∙◌}
use Rattle.presto_rpc.specs.declared.control.Control.TheVariants.{Status}
use Rattle.presto_rpc.specs.Replies.{control_reply}
use Rattle.presto_rpc.proofs.ReadBack.{status_again}
use Rattle.presto_rpc.proofs.replies.write_status.Goals as goal

pub returns-clause-read_back : goal.returns-clause-read_back
returns-clause-read_back c = λ volume rest.
    let s = c.args.snapshot.now in
    let written = c.status_reply.ensures in
    ap (λ (text : List ℕ). control_reply c.args.xid (Status volume) (text ++ rest)) written.bytes ∙ status_again c.args.xid volume s.state s.dirty s.battery s.puts rest c.ranges.xid.fits written.dirty written.puts
