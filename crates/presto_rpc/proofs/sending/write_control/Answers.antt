use Rattle.std.proofs.Common.{List, ℕ, ◌++◌, ap, ◌∙◌}
use Rattle.presto_rpc.specs.Sending.{control_in}
use Rattle.presto_rpc.proofs.ReadBack.{sent_again}
use Rattle.presto_rpc.proofs.sending.write_control.Goals as goal

pub returns-clause-read_back : goal.returns-clause-read_back
returns-clause-read_back c = λ rest.
    ap (λ (text : List ℕ). control_in (text ++ rest)) c.bytes_for.ensures.bytes ∙ sent_again c.args.xid c.args.control.now rest c.ranges.xid.fits c.bytes_for.ensures.fits c.requires
