use Rattle.std.proofs.Common.{sym, ap, ◌∙◌}
use Rattle.std.proofs.lemmas.List.{take_all}
use Rattle.rig.specs.Links.Heard.{Datagram}
use Rattle.rig_mem.specs.Links.{heard_of}
use Rattle.rig_mem.proofs.link.hand_over.Goals as goal

pub returns-in-Datagram : goal.returns-in-Datagram
returns-in-Datagram c =
    ap (Datagram c.in-Datagram.from) (c.set.ensures ∙ take_all 9216 _ c.bytes.ensures.fits ∙ c.bytes.ensures.bytes) ∙ sym (ap heard_of c.in-Datagram.is)
