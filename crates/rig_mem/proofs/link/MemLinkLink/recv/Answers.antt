use Rattle.std.proofs.Common.{arith, ◌∙◌, ap}
use Rattle.rig_mem.specs.Links.{heard_of}
use Rattle.rig_mem.proofs.Taking.{takes_next}
use Rattle.rig_mem.proofs.link.MemLinkLink.recv.Goals as goal

pub returns-clause-takes : goal.returns-clause-takes
returns-clause-takes c =
    takes_next c.args.self.now.events.items c.args.self.now.next c.index.result.now _ (omega arith) (c.hand_over-answer.ensures ∙ ap heard_of c.index.ensures)
