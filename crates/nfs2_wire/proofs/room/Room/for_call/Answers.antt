use Rattle.std.proofs.Common.{◌≡◌, ◌≤◌, ℕ, length, sym, subst, ◌∙◌}
use Rattle.std.proofs.lemmas.Result.{IfOk-weaker}
use Rattle.nfs2_wire.specs.Replies.{bytes_of}
use Rattle.nfs2_wire.proofs.Lengths.{answer_fits}
use Rattle.nfs2_wire.proofs.room.Room.for_call.Goals as goal

pub returns-clause-enough : goal.returns-clause-enough
returns-clause-enough c = λ xid volume reply can.
    IfOk-weaker c.new.result (λ room. room ≡ c.longest.result) (λ room. length (bytes_of xid reply volume) ≤ room)
    (λ room e. subst (λ (n : ℕ). length (bytes_of xid reply volume) ≤ n) (sym (e ∙ c.longest.ensures)) (answer_fits xid c.args.call.now reply volume can)) c.new.ensures
