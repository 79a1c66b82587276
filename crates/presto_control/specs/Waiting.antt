-- The wait for a reply.
use Rattle.std.specs.Prelude.{◌≡◌, ◌≤◌, ◌<◌, ◌+◌, ℕ, Bool, true, false, List, ◌++◌, length, Option}
use Rattle.std.specs.List.{count_by}
use Rattle.std.specs.Option.{option_map}
use Rattle.stable.specs.Counts.{Rose}
use Rattle.rig.specs.Links.{Heard, Takes}
use Rattle.rig.specs.declared.link.Link.{Ghosts}
use Rattle.presto_rpc.specs.declared.control.Control.{Control}
use Rattle.presto_control.specs.declared.news.News.{News}
use Rattle.presto_control.specs.declared.news.News.TheVariants as news
use Rattle.presto_control.specs.declared.waiting.Ending.{Ending}
use Rattle.presto_control.specs.declared.waiting.Ending.TheVariants as ending
use Rattle.presto_control.specs.News.{news_of}

abbrev pub is_idle : News → Bool
is_idle news.Idle = true
is_idle _ = false

abbrev pub is_other : News → Bool
is_other news.Other = true
is_other _ = false

-- so many times nothing came, so many other datagrams came, and no other event
pub record Passed (asked : Control) (heard : List Heard) (idles others : ℕ) : Type 0 where
  pub idle : count_by (λ one. is_idle (news_of asked one)) heard ≡ idles
  pub other : count_by (λ one. is_other (news_of asked one)) heard ≡ others
  pub all : length heard ≡ idles + others

-- how an event ends a wait, after so many times that nothing came and so many other datagrams: the fifth and the 64th do
abbrev pub Ends : ℕ → ℕ → News → Ending → Type 0
Ends idles others (news.Reply answer) result = result ≡ ending.Replied answer
Ends idles others news.Other result = (others ≡ 63) × (result ≡ ending.Silent)
Ends idles others news.Idle result = (idles ≡ 4) × (result ≡ ending.Silent)
Ends idles others news.Closed result = result ≡ ending.Silent
Ends idles others news.Failed result = result ≡ ending.Broken

-- The link gave first events that are passed over, too few to end the wait, and then one that ends it. Nothing was sent.
pub record Waited {L : Type 0} (l : Ghosts L) (asked : Control) (old new : L) (result : Ending) : Type 0 where
  pub before : List Heard
  pub idles : ℕ
  pub others : ℕ
  pub passed : Passed asked before idles others
  pub patient : (idles < 5) × (others < 64)
  pub then : Option (List Heard)
  pub gave : l.left old ≡ option_map (λ rest. before ++ rest) then
  pub last : Heard
  pub takes : Takes then last (l.left new)
  pub ends : Ends idles others (news_of asked last) result
  pub sent : l.sent new ≡ l.sent old
  pub later : l.faults old ≤ l.faults new
  pub failed : result ≡ ending.Broken → Rose (l.faults old) (l.faults new)
