-- What an event of the link means to who waits for a reply.
use Rattle.std.specs.Prelude.{◌≡◌, ◌≤◌, Option, Some, None}
use Rattle.stable.specs.Counts.{Rose}
use Rattle.rig.specs.Links.{Heard, Takes}
use Rattle.rig.specs.Links.Heard.{Datagram, Idle, Closed, Failed}
use Rattle.rig.specs.declared.link.Link.{Ghosts}
use Rattle.presto_rpc.specs.declared.control.Control.{Control}
use Rattle.presto_control.specs.declared.answers.Answer.{Answer}
use Rattle.presto_control.specs.declared.news.News.{News}
use Rattle.presto_control.specs.declared.news.News.TheVariants as news
use Rattle.presto_control.specs.Answers.{answer_in}

-- a datagram answers, or is another one
abbrev pub news_by : Option Answer → News
news_by (Some answer) = news.Reply answer
news_by None = news.Other

abbrev pub news_of : Control → Heard → News
news_of asked (Datagram from bytes) = news_by (answer_in asked bytes)
news_of asked Idle = news.Idle
news_of asked Closed = news.Closed
news_of asked Failed = news.Failed

-- The link's next event was taken, and means this. Nothing was sent.
pub record Hears {L : Type 0} (l : Ghosts L) (asked : Control) (old new : L) (result : News) : Type 0 where
  pub heard : Heard
  pub takes : Takes (l.left old) heard (l.left new)
  pub means : result ≡ news_of asked heard
  pub sent : l.sent new ≡ l.sent old
  pub later : l.faults old ≤ l.faults new
  pub failed : result ≡ news.Failed → Rose (l.faults old) (l.faults new)
