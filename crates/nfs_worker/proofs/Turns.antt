-- One turn, by what was heard and what came of it.
use Rattle.std.proofs.Common.{arith, ◌≡◌, ◌≢◌, ℕ, Bool, ◌+◌, ◌-◌, ◌≤◌, List, [], ◌∷◌, ◌++◌, length, Some, refl, sym, ap, ◌∙◌, subst, append-nil, length-append, ◌<◌}
use Rattle.files_model.specs.declared.address.Address.{Address}
use Rattle.files_model.specs.History.{Event as Done, Item, items_of}
use Rattle.std.specs.List.{AllByRecursion}
use Rattle.stable.specs.Counts.{Rose}
use Rattle.stable.specs.Looked.{KeepsImage}
use Rattle.stable.specs.declared.store.Stable.{Ghosts}
use Rattle.rig.specs.Links.{Heard, Takes, heard_from}
use Rattle.rig.specs.declared.clock.Clock.{Ghosts as ClockGhosts}
use Rattle.rig.specs.declared.link.Link.{Ghosts as LinkGhosts}
use Rattle.rig.specs.Links.Heard.{Datagram, Idle, Closed, Failed}
use Rattle.rig.specs.declared.link.Event.{Event}
use Rattle.rig.specs.declared.link.Event.TheVariants as event
use Rattle.datagrams.specs.Meaning.{meaning}
use Rattle.stable.specs.declared.snapshot.Snapshot.{Snapshot}
use Rattle.nfs_worker.specs.Desk.{Change, Tells, Answered, change_of}
use Rattle.nfs_worker.specs.Turns.{Obeys}
use Rattle.nfs_worker.specs.Tending.{IsUntended}
use Rattle.nfs_worker.specs.declared.desk.Desk.{Desk}
use Rattle.nfs_worker.proofs.Desks.{answered_none, answered_one, answered_open, obeys_polls}
use Rattle.nfs_worker.specs.Account.{Hold, history, Grew}
use Rattle.nfs_worker.specs.Tending.{is_new, polls_after}
use Rattle.nfs_worker.specs.Resting.{StaysAtRest}
use Rattle.nfs_worker.specs.Turns.{Says, EventTurn, Counts, Turned, TookEvent, TookTurn, Tends, Went, IsAsked, TurnsTaken, Worked, EndsBy, place_in, datagrams}
use Rattle.nfs_worker.specs.Volumes.{AreOpen, EachVolume}
use Rattle.volume.specs.Mounted.{store_of}
use Rattle.volume.specs.Rests.{Rests}
use Rattle.volume.specs.declared.mounted.Volume.{Volume}
use Rattle.nfs_worker.specs.Worker.{worker_at, worker_of, Worker, Own, Mixes, owned, events_on, Sends, Works, request_of, replies_of}
use Rattle.nfs_worker.specs.Worker.Mixes.{neither}
use Rattle.nfs_worker.specs.declared.pass.Numbers.{Numbers}
use Rattle.nfs_worker.specs.declared.pass.ServerPass.{ServerPass}
use Rattle.nfs_worker.specs.declared.turning.DropCause.TheVariants as cause
use Rattle.nfs_worker.specs.declared.turning.Turn.{Turn}
use Rattle.nfs_worker.specs.declared.turning.Turn.TheVariants as turn
use Rattle.nfs_worker.specs.declared.turning.Ended.{Ended}
use Rattle.nfs_worker.specs.declared.turning.Ended.TheVariants as ended
use Rattle.nfs_worker.proofs.Accounts.{IsAccount, history-append}
use Rattle.nfs_worker.proofs.Places.{no_holds, holds_at, holds_both, alone_length, all_put, all_pairs, pairs_length, each_none, each_length, each_both, each_alone}
use Rattle.nfs_worker.proofs.Resting.{stays_so, stays_tended, stays_after, stays_both}
use Rattle.nfs_worker.proofs.Lists.{hears_one, mixes_first, mixes_second}
use Rattle.rig.proofs.Offers.{leaves_none, leaves_all, offers_nothing}
use Rattle.nfs_worker.proofs.Tendings.{polls_more}
use Rattle.nfs_worker.proofs.Workers.{works_nothing, works_both, on-append, on_own, on_other, all-append}

-- nothing is offered, whatever was heard
pub works_silent : (volumes number : ℕ) {desk then : Desk} (a b : Worker) (heard : Heard) → then ≡ desk → Takes a.left heard b.left → Sends a b [] [] → Works volumes number desk then a b (heard ∷ []) [] []
works_silent volumes number {desk} {then} a b heard same takes sends = record {
  taken = hears_one a.left b.left heard takes;
  asked = leaves_none _;
  outside = [];
  answered = subst (λ (d : Desk). Answered volumes desk (heard ∷ []) [] d) (sym same) (answered_none volumes desk (heard ∷ []));
  offered = [];
  mixed = neither;
  sends = sends;
  mine = tt;
}

-- an answer outside any history is offered
pub works_outside : (volumes number : ℕ) {desk then : Desk} (a b : Worker) (from : Address) (bytes answer : List ℕ) (replies : List (Address × List ℕ)) (change : Change) → Tells desk (meaning bytes volumes) change answer then
    → Takes a.left (Datagram from bytes) b.left → Sends a b ((from, answer) ∷ []) replies → Works volumes number desk then a b (Datagram from bytes ∷ []) [] replies
works_outside volumes number {desk} {then} a b from bytes answer replies change tells takes sends = record {
  taken = hears_one a.left b.left (Datagram from bytes) takes;
  asked = leaves_none _;
  outside = (from, answer) ∷ [];
  answered = answered_one volumes desk then (Datagram from bytes) (from, answer) (change, refl, tells);
  offered = (from, answer) ∷ [];
  mixed = mixes_second _;
  sends = sends;
  mine = tt;
}

-- the reply of one event is offered
pub works_event : (volumes number volume : ℕ) {desk then : Desk} (a b : Worker) (from : Address) (bytes : List ℕ) (item : Item) (event : Done) (replies : List (Address × List ℕ))
    → then ≡ desk → request_of from (meaning bytes volumes) ≡ Some (volume, item) → items_of event ≡ item ∷ [] → worker_at event ≡ Some number
    → Takes a.left (Datagram from bytes) b.left → Sends a b (replies_of (record { volume = volume; event = event })) replies
    → Works volumes number desk then a b (Datagram from bytes ∷ []) (owned volume (event ∷ [])) replies
works_event volumes number volume {desk} {then} a b from bytes item event replies same means is mine takes sends = record {
  taken = hears_one a.left b.left (Datagram from bytes) takes;
  asked = rw (means, is) (leaves_all _);
  outside = [];
  answered = subst (λ (d : Desk). Answered volumes desk (Datagram from bytes ∷ []) [] d) (sym same) (answered_none volumes desk (Datagram from bytes ∷ []));
  offered = replies_of (record { volume = volume; event = event });
  mixed = let P : List (Address × List ℕ) → Type 0 = λ offered. Mixes offered [] (replies_of (record { volume = volume; event = event })) in
      subst P (sym (append-nil (replies_of (record { volume = volume; event = event })))) (mixes_first _);
  sends = sends;
  mine = (mine, tt);
}

-- an event was taken from the link, which failed where it gave a failure
pub record IsTaken (old new : Worker) (one : Event) (packet : List ℕ) : Type 0 where
  pub takes : Takes old.left (heard_from one packet) new.left
  pub sent : new.sent ≡ old.sent
  pub later : old.faults ≤ new.faults
  pub cause : one ≡ event.Failed → Rose old.faults new.faults

-- the store is as it was
pub untended_same : (shown : Snapshot) → IsUntended shown shown
untended_same shown = record { battery = refl; polls = refl; ups = refl; tries = refl }

module _ {S L : Type 0} (s : Ghosts S) (l : LinkGhosts L) (volumes : ℕ) (volume : Volume S) (rest : Rests s volume) (desk : Desk) (link link' : L) (pass pass' : ServerPass) where
  abbrev Quiet : Turn → Type 0
  Quiet result = Turned s l volumes 0 volume volume desk desk link link' pass pass' result

  quietly : (heard : Heard) (result : Turn) → place_in volumes heard ≡ 0 → pass'.numbers ≡ pass.numbers → pass'.number ≡ pass.number → datagrams (heard ∷ []) ≡ 0 → Grew s (store_of volume) (store_of volume) []
      → Takes (l.left link) heard (l.left link') → l.sent link' ≡ l.sent link → l.faults link ≤ l.faults link' → Says volumes result heard [] [] (l.faults link) (l.faults link')
      → Obeys result volumes desk heard [] (change_of s (store_of volume) (store_of volume)) desk → Quiet result
  quietly heard result first same number uncounted grows takes sent later says obeys = record {
    heard = heard;
    holds = [];
    replies = [];
    at = sym first;
    grows = grows;
    rest = stays_so s volume rest;
    works = works_silent volumes pass.number (worker_of l link) (worker_of l link') heard refl takes (offers_nothing sent later);
    says = says;
    obeys = obeys;
    counts = record { received = (let e : pass'.numbers.received ≡ pass.numbers.received = ap Numbers.received same in omega (arith, e, uncounted)); answered = (let e : pass'.numbers.answered ≡ pass.numbers.answered = ap Numbers.answered same in omega (arith, e)) };
    timed = tt;
    number = number;
  }

  -- an event without a datagram
  pub turned_quiet : (one : Event) (packet : List ℕ) (result : Turn) → ((from : Address) → one ≢ event.Datagram from) → pass'.numbers ≡ pass.numbers → pass'.number ≡ pass.number → Grew s (store_of volume) (store_of volume) []
      → IsTaken (worker_of l link) (worker_of l link') one packet → EventTurn one result → Quiet result
  turned_quiet (event.Datagram from) packet result quiet same number grows taken is = absurd (quiet from refl)
  turned_quiet event.Idle packet result quiet same number grows taken is = subst Quiet (sym is)
      (quietly Idle turn.Idle refl same number refl grows taken.takes taken.sent taken.later refl (refl, untended_same _))
  turned_quiet event.Closed packet result quiet same number grows taken is = subst Quiet (sym is)
      (quietly Closed turn.Closed refl same number refl grows taken.takes taken.sent taken.later refl (refl, untended_same _))
  turned_quiet event.Failed packet result quiet same number grows taken is = subst Quiet (sym is)
      (quietly Failed (turn.Dropped cause.ReceiveFailed) refl same number refl grows taken.takes taken.sent taken.later (refl, taken.cause refl) (refl, untended_same _))

datagrams-append : (xs ys : List Heard) → datagrams (xs ++ ys) ≡ datagrams xs + datagrams ys
datagrams-append [] ys = omega arith
datagrams-append (Datagram from bytes ∷ xs) ys = let e : datagrams (xs ++ ys) ≡ datagrams xs + datagrams ys = datagrams-append xs ys in omega arith
datagrams-append (Idle ∷ xs) ys = datagrams-append xs ys
datagrams-append (Closed ∷ xs) ys = datagrams-append xs ys
datagrams-append (Failed ∷ xs) ys = datagrams-append xs ys

datagrams-within : (xs : List Heard) → datagrams xs ≤ length xs
datagrams-within [] = omega arith
datagrams-within (Datagram from bytes ∷ xs) = let e = datagrams-within xs in omega (arith, e)
datagrams-within (Idle ∷ xs) = let e = datagrams-within xs in omega (arith, e)
datagrams-within (Closed ∷ xs) = let e = datagrams-within xs in omega (arith, e)
datagrams-within (Failed ∷ xs) = let e = datagrams-within xs in omega (arith, e)

counts_both : (a b c : Numbers) (xs ys : List Heard) (rs ss : List (Address × List ℕ)) → Counts a b xs rs → Counts b c ys ss → Counts a c (xs ++ ys) (rs ++ ss)
counts_both a b c xs ys rs ss p q = record {
  received = (let both = datagrams-append xs ys in let before = p.received in let then = q.received in omega (arith, both, before, then));
  answered = (let both = length-append rs ss in let before = p.answered in let then = q.answered in omega (arith, both, before, then));
}

-- a turn says Closed exactly where the link gave Closed
says_closed : (volumes : ℕ) (result : Turn) (heard : Heard) (own : List Own) (replies : List (Address × List ℕ)) (before now : ℕ) → Says volumes result heard own replies before now → result ≡ turn.Closed → heard ≡ Closed
says_closed volumes turn.Closed heard own replies before now h is = h
says_closed volumes turn.Idle heard own replies before now h is = cc
says_closed volumes (turn.Dropped why) heard own replies before now h is = cc
says_closed volumes (turn.Answered n) heard own replies before now h is = cc
says_closed volumes turn.Left heard own replies before now h is = cc
says_closed volumes turn.Halted heard own replies before now h is = cc

closed_says : (volumes : ℕ) (result : Turn) (own : List Own) (replies : List (Address × List ℕ)) (before now : ℕ) → Says volumes result Closed own replies before now → result ≡ turn.Closed
closed_says volumes turn.Closed own replies before now h = refl
closed_says volumes turn.Idle own replies before now h = cc
closed_says volumes (turn.Dropped cause.ReceiveFailed) own replies before now h = let is = h.0 in cc
closed_says volumes (turn.Dropped cause.NoMeaning) own replies before now h = absurd h
closed_says volumes (turn.Dropped cause.NoMemory) own replies before now h = absurd h.0
closed_says volumes (turn.Dropped cause.SendFailed) own replies before now h = absurd h.0.means
closed_says volumes (turn.Answered n) own replies before now h = absurd h.0.means
closed_says volumes turn.Left own replies before now h = absurd h
closed_says volumes turn.Halted own replies before now h = absurd h.0

-- ---- one volume in a turn

-- how a volume went on in one turn, whose own events these are
pub record WentOnce {S : Type 0} (s : Ghosts S) (polled : Bool) (own : List Own) (volume : ℕ) (old new : Volume S) (holds : List Hold) : Type 0 where
  pub grows : Grew s (store_of old) (store_of new) holds
  pub shared : events_on volume own ≡ history holds
  pub polls : (s.snapshot_of (store_of new)).polls ≡ polls_after polled (s.snapshot_of (store_of old)).polls
  pub rest : StaysAtRest s old new

-- how a volume went on as an event was taken on it, in these holds
record OnIt {S : Type 0} (s : Ghosts S) (holds : List Hold) (old new : Volume S) : Type 0 where
  grows : Grew s (store_of old) (store_of new) holds
  polls : (s.snapshot_of (store_of new)).polls ≡ (s.snapshot_of (store_of old)).polls
  rest : StaysAtRest s old new

module _ {S : Type 0} (s : Ghosts S) (account : IsAccount (KeepsImage s) (Grew s)) (polled : Bool) where
  -- it was tended alone
  once_other : (volume : ℕ) (events : List Done) (n : ℕ) (old new : Volume S) → n ≢ volume → Tends s polled old new → WentOnce s polled (owned volume events) n old new []
  once_other volume events n old new other tends = record {
    grows = account.idle (store_of old) (store_of new) tends.keeps;
    shared = on_other n volume events other;
    polls = tends.tended.polls;
    rest = stays_tended s tends.rest tends.kept;
  }

  -- and then an event was taken on it, in these holds
  once_own : (volume : ℕ) (holds : List Hold) (old mid new : Volume S) → Tends s polled old mid → OnIt s holds mid new → WentOnce s polled (owned volume (history holds)) volume old new holds
  once_own volume holds old mid new tends on = record {
    grows = account.both (store_of old) (store_of mid) (store_of new) [] holds (account.idle (store_of old) (store_of mid) tends.keeps) on.grows;
    shared = on_own volume (history holds);
    polls = on.polls ∙ tends.tended.polls;
    rest = stays_after s tends.kept tends.keeps.later on.rest;
  }

-- ---- what a turn leaves

-- the second of the pass was set before the event was taken
pub event_after : {S L : Type 0} (s : Ghosts S) (l : LinkGhosts L) {olds news : List (Volume S)} {desk then : Desk} {link link' : L} {pass between pass' : ServerPass} {result : Turn} → between.numbers ≡ pass.numbers → between.number ≡ pass.number
    → TookEvent s l olds news desk then link link' between pass' result → TookEvent s l olds news desk then link link' pass pass' result
event_after s l {olds = olds} {desk = desk} {then = then} {link = link} {link' = link'} {pass = pass} {pass' = pass'} same number took =
    let turned = took.alone.went in
    record {
      volume = took.volume;
      alone = record {
        old = took.alone.old;
        new = took.alone.new;
        found = took.alone.found;
        put = took.alone.put;
        went = record {
          heard = turned.heard;
          holds = turned.holds;
          replies = turned.replies;
          at = turned.at;
          grows = turned.grows;
          rest = turned.rest;
          works = subst (λ (n : ℕ). Works (length olds) n desk then (worker_of l link) (worker_of l link') (turned.heard ∷ []) (owned took.volume (history turned.holds)) turned.replies) number turned.works;
          says = turned.says;
          obeys = turned.obeys;
          counts = subst (λ (n : Numbers). Counts n pass'.numbers (turned.heard ∷ []) turned.replies) same turned.counts;
          timed = turned.timed;
          number = turned.number ∙ number;
        };
      };
    }

module _ {S L : Type 0} (s : Ghosts S) (l : LinkGhosts L) {polled : Bool} {olds news : List (Volume S)} {desk then : Desk} {link link' : L} {pass pass' : ServerPass} {result : Turn} (p : TookTurn s l polled olds news desk then link link' pass pass' result) where
  -- all volumes are at rest
  pub took_rest : AllByRecursion (Rests s) news
  took_rest = subst (AllByRecursion (Rests s)) (sym p.took.alone.put)
      (all_put (Rests s) p.mids p.took.volume p.took.alone.new (all_pairs (Tends s polled) (Rests s) (λ old mid tends. tends.rest) olds p.mids p.tended) p.took.alone.went.rest.rest)

  -- and the same are open
  pub took_open : AreOpen (length olds) desk → AreOpen (length news) then
  took_open are =
      let same : length news ≡ length olds = alone_length p.took.alone ∙ pairs_length (Tends s polled) olds p.mids p.tended in
      let works = p.took.alone.went.works in
      subst (λ (n : ℕ). AreOpen n then) (sym same) (answered_open (length p.mids) (length olds) desk then (p.took.alone.went.heard ∷ []) works.outside works.answered are)

-- ---- turns, one after the other

module _ {S L C : Type 0} (s : Ghosts S) (l : LinkGhosts L) (c : ClockGhosts C) (account : IsAccount (KeepsImage s) (Grew s)) where
  -- no turn was taken yet
  pub turns_none : (volumes : List (Volume S)) (desk : Desk) (link : L) (clock : C) (pass : ServerPass) → AllByRecursion (Rests s) volumes → TurnsTaken s l c volumes volumes desk desk link link clock clock pass pass 0
  turns_none volumes desk link clock pass rest = record {
    worked = record {
      heard = [];
      own = [];
      holds = no_holds volumes;
      replies = [];
      went = each_none _ (Rests s) (λ n volume rests. record { grows = account.none (store_of volume); shared = refl; polled = omega arith; rest = stays_so s volume rests }) 0 volumes rest;
      works = works_nothing (length volumes) pass.number desk (worker_of l link);
      ends = record { all = refl; still_open = tt };
      counts = record { received = omega arith; answered = omega arith };
      number = refl;
    };
    unasked = λ none. refl;
    last = λ some. absurd (omega (arith, some));
  }

  module _ {olds mids : List (Volume S)} {desk along : Desk} {link between : L} {clock time : C} {pass through : ServerPass} {turns : ℕ} (p : TurnsTaken s l c olds mids desk along link between clock time pass through turns) where
    -- no more were received than turns were taken
    pub turns_within : through.numbers.received ≤ pass.numbers.received + turns
    turns_within =
        let within = datagrams-within p.worked.heard in
        let all = p.worked.ends.all in
        let received = p.worked.counts.received in
        omega (arith, within, all, received)

    -- as many volumes are open
    pub turns_length : length mids ≡ length olds
    turns_length = each_length _ 0 olds mids p.worked.holds p.worked.went

    module _ {news : List (Volume S)} {then : Desk} {link' : L} {clock' : C} {pass' : ServerPass} (result : Turn) (turned : TookTurn s l (is_new through.second pass'.second) mids news along then between link' through pass' result) (asked : IsAsked c time clock' pass'.second) where
      abbrev number : ℕ
      number = turned.took.volume

      abbrev polls : Bool
      polls = is_new through.second pass'.second

      one : Turned s l (length turned.mids) number turned.took.alone.old turned.took.alone.new along then between link' through pass' result
      one = turned.took.alone.went

      abbrev events : List Done
      events = history one.holds

      abbrev own : List Own
      own = p.worked.own ++ owned number events

      same : length turned.mids ≡ length olds
      same = pairs_length (Tends s polls) mids turned.mids turned.tended ∙ turns_length

      -- each volume in the turn
      once : EachVolume (WentOnce s polls (owned number events)) 0 mids news (holds_at number one.holds mids)
      once = each_alone (Tends s polls) (OnIt s one.holds) (WentOnce s polls (owned number events)) number one.holds (once_other s account polls number events) (once_own s account polls number one.holds) mids turned.mids news turned.tended record {
        old = turned.took.alone.old;
        new = turned.took.alone.new;
        found = turned.took.alone.found;
        put = turned.took.alone.put;
        went = record { grows = one.grows; polls = obeys_polls result (length turned.mids) along then one.heard one.replies _ one.obeys; rest = one.rest };
      }

      -- each volume in all turns
      went_more : (n : ℕ) (old mid new : Volume S) (xs ys : List Hold) → Went s (c.changes time - c.changes clock - 1) p.worked.own n old mid xs → WentOnce s polls (owned number events) n mid new ys
          → Went s (c.changes clock' - c.changes clock - 1) own n old new (xs ++ ys)
      went_more n old mid new xs ys before last = record {
        grows = account.both (store_of old) (store_of mid) (store_of new) xs ys before.grows last.grows;
        shared = on-append n p.worked.own (owned number events) ∙ ap (λ es. es ++ events_on n (owned number events)) before.shared ∙ ap (λ es. history xs ++ es) last.shared ∙ sym (history-append xs ys);
        polled = polls_more (c.last time) (c.changes clock) (c.changes time) (c.changes clock') through.second pass'.second (s.snapshot_of (store_of old)).polls (s.snapshot_of (store_of mid)).polls (s.snapshot_of (store_of new)).polls turns
            p.unasked p.last asked.changes last.polls before.polled;
        rest = stays_both s (let io = before.grows.io in omega (arith, io)) (let io = last.grows.io in omega (arith, io)) before.rest last.rest;
      }

      works_more : Works (length olds) pass.number desk then (worker_of l link) (worker_of l link') (p.worked.heard ++ one.heard ∷ []) own (p.worked.replies ++ one.replies)
      works_more =
          let later : Works (length olds) pass.number along then (worker_of l between) (worker_of l link') (one.heard ∷ []) (owned number events) one.replies =
          subst (λ (n : ℕ). Works (length olds) n along then (worker_of l between) (worker_of l link') (one.heard ∷ []) (owned number events) one.replies) p.worked.number
          (subst (λ (n : ℕ). Works n through.number along then (worker_of l between) (worker_of l link') (one.heard ∷ []) (owned number events) one.replies) same one.works) in
          works_both (length olds) pass.number (worker_of l link) (worker_of l between) (worker_of l link') p.worked.heard (one.heard ∷ []) p.worked.own (owned number events) p.worked.replies one.replies p.worked.works later

      says : Says (length olds) result one.heard (owned number events) one.replies (l.faults between) (l.faults link')
      says = subst (λ (n : ℕ). Says n result one.heard (owned number events) one.replies (l.faults between) (l.faults link')) same one.says

      more : (way : Ended) (most : ℕ) → EndsBy (length olds) way most (p.worked.heard ++ one.heard ∷ []) → Worked s l c olds news desk then link link' clock clock' pass pass' way most
      more way most ends = record {
        heard = p.worked.heard ++ one.heard ∷ [];
        own = own;
        holds = holds_both p.worked.holds (holds_at number one.holds mids);
        replies = p.worked.replies ++ one.replies;
        went = each_both _ _ _ went_more 0 olds mids news p.worked.holds (holds_at number one.holds mids) p.worked.went once;
        works = works_more;
        ends = ends;
        counts = counts_both pass.numbers through.numbers pass'.numbers p.worked.heard (one.heard ∷ []) p.worked.replies one.replies p.worked.counts one.counts;
        number = one.number ∙ p.worked.number;
      }

      -- a turn more, which did not close the link
      pub turns_more : result ≢ turn.Closed → TurnsTaken s l c olds news desk then link link' clock clock' pass pass' (turns + 1)
      turns_more still = record {
        worked = more ended.Spent (turns + 1) record {
          all = (let both = length-append p.worked.heard (one.heard ∷ []) in let all = p.worked.ends.all in omega (arith, both, all));
          still_open = all-append (λ (heard : Heard). heard ≢ Closed) p.worked.heard (one.heard ∷ []) p.worked.ends.still_open (
            (λ is. still (closed_says (length olds) result (owned number events) one.replies (l.faults between) (l.faults link')
                (subst (λ (heard : Heard). Says (length olds) result heard (owned number events) one.replies (l.faults between) (l.faults link')) is says))),
            tt,
          );
        };
        unasked = λ none. absurd (omega (arith, none));
        last = λ some. asked.last;
      }

      -- the turn that closed the link
      pub worked_closed : (most : ℕ) → turns < most → result ≡ turn.Closed → Worked s l c olds news desk then link link' clock clock' pass pass' ended.Closed most
      worked_closed most fewer is =
          let closed : one.heard ≡ Closed = says_closed (length olds) result one.heard (owned number events) one.replies (l.faults between) (l.faults link') says is in
          more ended.Closed most record {
            before = p.worked.heard;
            last = ap (λ (heard : Heard). p.worked.heard ++ heard ∷ []) closed;
            open_before = p.worked.ends.still_open;
            within = (let both = length-append p.worked.heard (one.heard ∷ []) in let all = p.worked.ends.all in omega (arith, both, all, fewer));
          }

      -- the turn that ended the server
      pub worked_halted : (most : ℕ) → turns < most → result ≡ turn.Halted → Worked s l c olds news desk then link link' clock clock' pass pass' ended.Halted most
      worked_halted most fewer is =
          let halts : Says (length olds) turn.Halted one.heard (owned number events) one.replies (l.faults between) (l.faults link') =
          subst (λ (t : Turn). Says (length olds) t one.heard (owned number events) one.replies (l.faults between) (l.faults link')) is says in
          more ended.Halted most record {
            before = p.worked.heard;
            halt = one.heard;
            last = refl;
            means = halts.0;
            open_before = p.worked.ends.still_open;
            within = (let both = length-append p.worked.heard (one.heard ∷ []) in let all = p.worked.ends.all in omega (arith, both, all, fewer));
          }
