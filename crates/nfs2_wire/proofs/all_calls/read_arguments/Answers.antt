use Rattle.std.proofs.Common.{◌≡◌, ℕ, List, ap, ◌∙◌}
use Rattle.std.proofs.lemmas.Result.{IfOk-weaker}
use Rattle.nfs2_wire.specs.declared.all_calls.NfsCall.TheVariants as read
use Rattle.nfs2_wire.specs.AllCalls.{nfs_call}
use Rattle.nfs2_wire.specs.AllSending.{arguments_of, procedure_of}
use Rattle.nfs2_wire.proofs.AllSent.{arguments_again}
use Rattle.nfs2_wire.proofs.all_calls.read_arguments.Goals as goal

pub returns-clause-sent : goal.returns-clause-sent
returns-clause-sent c = λ volume asked rest can number is.
    let meant = ap (λ p. nfs_call p c.args.call.now.args c.args.volumes) number ∙ ap (λ b. nfs_call (procedure_of asked) b c.args.volumes) is ∙ arguments_again c.args.volumes volume asked rest can in
    let read_as = λ (b : List ℕ). nfs_call c.args.call.now.procedure b c.args.volumes in
    IfOk-weaker c.read_by_number.result (λ r. r ≡ read_as c.bytes.result.now) (λ r. r ≡ read.Call volume asked) (λ r e. e ∙ ap read_as c.bytes.ensures.bytes ∙ meant) c.read_by_number.ensures.ok
