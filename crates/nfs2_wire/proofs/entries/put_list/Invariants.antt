use Rattle.std.specs.List.{flat_map}
use Rattle.xdr_rpc.specs.Words.{added}
use Rattle.xdr_rpc.proofs.Sheets.{WillBe}
use Rattle.nfs2_wire.specs.Replies.{entry_bytes}
use Rattle.nfs2_wire.proofs.entries.put_list.Given as goal

abbrev pub invariant-loop-entry : goal.invariant-loop-entry
invariant-loop-entry l = WillBe entry_bytes l.sheet (added l.initial.sheet (flat_map entry_bytes l.entries)) l.entries l.entry-index
