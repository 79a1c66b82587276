use Rattle.std.specs.Prelude.{◌≡◌}
use Rattle.xdr_rpc.specs.Words.{added}
use Rattle.mount1.specs.Replies.{exports_below}
use Rattle.mount1.proofs.replies.put_exports.Given as goal

abbrev pub invariant-loop-volume : goal.invariant-loop-volume
invariant-loop-volume l = l.sheet ≡ added l.initial.sheet (exports_below l.volume)
