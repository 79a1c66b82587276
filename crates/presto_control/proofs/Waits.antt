-- How a wait goes on and how it ends.
use Rattle.std.proofs.Common.{arith, ◌≡◌, ◌∙◌, ◌≤◌, ◌<◌, ◌+◌, ℕ, Bool, true, false, cond, List, [], ◌∷◌, ◌++◌, length, Option, Some, None, sym, ap, length-append, append_assoc}
use Rattle.std.specs.List.{count_by}
use Rattle.std.specs.Option.{option_map}
use Rattle.std.proofs.lemmas.List.Sums.{sum_by-append}
use Rattle.rig.specs.Links.{Heard, Takes}
use Rattle.rig.specs.Links.Heard.{Closed}
use Rattle.rig.specs.declared.link.Link.{Ghosts}
use Rattle.presto_rpc.specs.declared.control.Control.{Control}
use Rattle.presto_control.specs.declared.news.News.{News}
use Rattle.presto_control.specs.declared.news.News.TheVariants as news
use Rattle.presto_control.specs.News.{news_of, Hears}
use Rattle.presto_control.specs.Waiting.{is_idle, is_other, Passed}

-- So far a wait goes on.
pub record Waiting {L : Type 0} (l : Ghosts L) (asked : Control) (old now : L) (idles others : ℕ) : Type 0 where
  pub before : List Heard
  pub passed : Passed asked before idles others
  pub patient : (idles < 5) × (others < 64)
  pub gave : l.left old ≡ option_map (λ rest. before ++ rest) (l.left now)
  pub sent : l.sent now ≡ l.sent old
  pub later : l.faults old ≤ l.faults now

-- an event that doesn't close a link was its first
gave_more : (left mid now : Option (List Heard)) (before : List Heard) (one : Heard) → left ≡ option_map (λ rest. before ++ rest) mid → Takes mid one now → (one ≡ Closed → ⊥)
    → left ≡ option_map (λ rest. (before ++ one ∷ []) ++ rest) now
gave_more left None now before one gave takes more = rw takes gave
gave_more left (Some []) now before one gave takes more = absurd (more takes.0)
gave_more left (Some (next ∷ rest)) now before one gave takes more = rw (takes.1, takes.0) (gave ∙ ap Some (sym (append_assoc before (next ∷ []) rest)))

count-last : (p : Heard → Bool) (before : List Heard) (one : Heard) → count_by p (before ++ one ∷ []) ≡ count_by p before + cond (p one) 1 0
count-last p before one = let both = sum_by-append (λ x. cond (p x) 1 0) before (one ∷ []) in omega (arith, both)

count-counted : (p : Heard → Bool) (before : List Heard) (one : Heard) (n : ℕ) → count_by p before ≡ n → p one ≡ true → count_by p (before ++ one ∷ []) ≡ n + 1
count-counted p before one n so is = let last = count-last p before one in let more : cond {A = ℕ} (p one) 1 0 ≡ 1 = ap (λ (b : Bool). cond {A = ℕ} b 1 0) is in omega (arith, last, more, so)

count-passed : (p : Heard → Bool) (before : List Heard) (one : Heard) (n : ℕ) → count_by p before ≡ n → p one ≡ false → count_by p (before ++ one ∷ []) ≡ n
count-passed p before one n so is = let last = count-last p before one in let none : cond {A = ℕ} (p one) 1 0 ≡ 0 = ap (λ (b : Bool). cond {A = ℕ} b 1 0) is in omega (arith, last, none, so)

one_longer : (before : List Heard) (one : Heard) → length (before ++ one ∷ []) ≡ length before + 1
one_longer before one = length-append before (one ∷ [])

passed_idle : (asked : Control) (before : List Heard) (one : Heard) (idles others : ℕ) → Passed asked before idles others → news_of asked one ≡ news.Idle → Passed asked (before ++ one ∷ []) (idles + 1) others
passed_idle asked before one idles others passed is = record {
  idle = count-counted (λ heard. is_idle (news_of asked heard)) before one idles passed.idle (ap is_idle is);
  other = count-passed (λ heard. is_other (news_of asked heard)) before one others passed.other (ap is_other is);
  all = (let longer = one_longer before one in let all = passed.all in omega (arith, longer, all));
}

passed_other : (asked : Control) (before : List Heard) (one : Heard) (idles others : ℕ) → Passed asked before idles others → news_of asked one ≡ news.Other → Passed asked (before ++ one ∷ []) idles (others + 1)
passed_other asked before one idles others passed is = record {
  idle = count-passed (λ heard. is_idle (news_of asked heard)) before one idles passed.idle (ap is_idle is);
  other = count-counted (λ heard. is_other (news_of asked heard)) before one others passed.other (ap is_other is);
  all = (let longer = one_longer before one in let all = passed.all in omega (arith, longer, all));
}

closes : (asked : Control) (one : Heard) (what : News) → what ≡ news_of asked one → one ≡ Closed → what ≡ news.Closed
closes asked one what means is = means ∙ ap (news_of asked) is

module _ {L : Type 0} (l : Ghosts L) (asked : Control) where
  pub waits_idle : {old mid now : L} (idles others : ℕ) → Waiting l asked old mid idles others → Hears l asked mid now news.Idle → idles + 1 < 5 → Waiting l asked old now (idles + 1) others
  waits_idle {old} {mid} {now} idles others waiting hears few = record {
    before = waiting.before ++ hears.heard ∷ [];
    passed = passed_idle asked waiting.before hears.heard idles others waiting.passed (sym hears.means);
    patient = (few, waiting.patient.1);
    gave = gave_more (l.left old) (l.left mid) (l.left now) waiting.before hears.heard waiting.gave hears.takes (λ is. cc (closes asked hears.heard news.Idle hears.means is));
    sent = hears.sent ∙ waiting.sent;
    later = (let first = waiting.later in let then_on = hears.later in omega (arith, first, then_on));
  }

  pub waits_other : {old mid now : L} (idles others : ℕ) → Waiting l asked old mid idles others → Hears l asked mid now news.Other → others + 1 < 64 → Waiting l asked old now idles (others + 1)
  waits_other {old} {mid} {now} idles others waiting hears few = record {
    before = waiting.before ++ hears.heard ∷ [];
    passed = passed_other asked waiting.before hears.heard idles others waiting.passed (sym hears.means);
    patient = (waiting.patient.0, few);
    gave = gave_more (l.left old) (l.left mid) (l.left now) waiting.before hears.heard waiting.gave hears.takes (λ is. cc (closes asked hears.heard news.Other hears.means is));
    sent = hears.sent ∙ waiting.sent;
    later = (let first = waiting.later in let then_on = hears.later in omega (arith, first, then_on));
  }
