-- What a link in memory shows.
use Rattle.std.specs.Prelude.{ℕ, List}
use Rattle.files_model.specs.declared.address.Address.{Address}
use Rattle.rig.specs.Links.{Heard}
use Rattle.rig.specs.Links.Heard.{Datagram, Idle, Closed, Failed}
use Rattle.rig_mem.specs.declared.event.MemEvent.{MemEvent}
use Rattle.rig_mem.specs.declared.event.MemEvent.TheVariants as event
use Rattle.rig_mem.specs.declared.sent.SentDatagram.{SentDatagram}

-- an event as a link tells it
abbrev pub heard_of : MemEvent → Heard
heard_of (event.Datagram from packet) = Datagram from packet
heard_of event.Idle = Idle
heard_of event.Closed = Closed
heard_of event.Failed = Failed

-- a datagram as a link tells it
abbrev pub sent_of : SentDatagram → Address × List ℕ
sent_of d = (d.to, d.bytes)
