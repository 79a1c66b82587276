-- One datagram, by what it came to and by what became of the reply.
use Rattle.std.proofs.Common.{arith, ◌≡◌, ℕ, ◌+◌, List, [], ◌∷◌, ◌++◌, map, length, Option, Some, None, refl, sym, ap, ◌∙◌, subst}
use Rattle.std.specs.List.{filter_map, AllByRecursion}
use Rattle.files_model.specs.declared.address.Address.{Address}
use Rattle.files_model.specs.History.{Event, Item, items_of}
use Rattle.stable.specs.declared.store.Stable.{Ghosts}
use Rattle.rig.specs.Links.{gains, Takes}
use Rattle.rig.specs.Links.Heard.{Datagram}
use Rattle.rig.specs.declared.link.Event.TheVariants as event
use Rattle.rig.specs.declared.link.Link.{Ghosts as LinkGhosts}
use Rattle.datagrams.specs.declared.datagram.Datagram.{Datagram as Meaning}
use Rattle.datagrams.specs.declared.datagram.Datagram.TheVariants.{NoMeaning, Outside, Asks, Mount, Command, Status, Halt}
use Rattle.datagrams.specs.Meaning.{meaning}
use Rattle.nfs_worker.specs.Account.{history}
use Rattle.nfs_worker.specs.Answers.{Answers, Comes, IsOwn, Replied, is_halting, halted_by}
use Rattle.volume.specs.Mounted.{store_of}
use Rattle.volume.specs.declared.mounted.Volume.{Volume}
use Rattle.nfs_worker.specs.Desk.{Change, change_of, Tells}
use Rattle.nfs_worker.specs.Tending.{IsUntended}
use Rattle.nfs_worker.specs.declared.desk.Desk.{Desk}
use Rattle.nfs_worker.proofs.Desks.{tells_none, does_told}
use Rattle.nfs_worker.specs.Served.{Releases}
use Rattle.nfs_worker.specs.Turns.{Says, Reacts, Turned, turn_of, answers_in, IsHalt, IsAnswered, DoesBy, Obeys}
use Rattle.nfs_worker.specs.Worker.{worker_at, worker_of, Request, owned, request_of, Sends, Works}
use Rattle.nfs_worker.specs.declared.answering.Reaction.{Reaction}
use Rattle.nfs_worker.specs.declared.answering.Reaction.TheVariants as reaction
use Rattle.nfs_worker.specs.declared.pass.ServerPass.{ServerPass}
use Rattle.nfs_worker.specs.declared.releasing.Ready.{Ready}
use Rattle.nfs_worker.specs.declared.releasing.Released.{Released}
use Rattle.nfs_worker.specs.declared.releasing.Released.TheVariants as released
use Rattle.nfs_worker.specs.declared.turning.DropCause.{DropCause}
use Rattle.nfs_worker.specs.declared.turning.DropCause.TheVariants as cause
use Rattle.nfs_worker.specs.declared.turning.Turn.{Turn}
use Rattle.nfs_worker.specs.declared.turning.Turn.TheVariants as turn
use Rattle.nfs_worker.proofs.Counts.{rose_earlier}
use Rattle.rig.proofs.Offers.{offers_nothing, offers_one, offers_fails, leaves_none, leaves_all}
use Rattle.nfs_worker.proofs.Turns.{IsTaken, works_silent, works_outside, works_event}

-- ---- what a datagram means

asks-some : (from : Address) (m : Meaning) (request : Request) → request_of from m ≡ Some request → IsAnswered m
asks-some from NoMeaning request is = absurd (cc)
asks-some from (Halt xid) request is = absurd (cc)
asks-some from (Outside reply) request is = tt
asks-some from (Asks xid volume cred call) request is = tt
asks-some from (Mount rpc) request is = tt
asks-some from (Command xid volume asked) request is = tt
asks-some from (Status xid volume) request is = tt

-- nothing is done by a call on a volume besides it
asks_does : (from : Address) (m : Meaning) (request : Request) (desk then : Desk) (replies : List (Address × List ℕ)) (change : Change) → request_of from m ≡ Some request → (then ≡ desk) × IsUntended change.old change.new → DoesBy desk from m replies change then
asks_does from (Asks xid volume cred call) request desk then replies change is still = still
asks_does from NoMeaning request desk then replies change is still = still
asks_does from (Outside reply) request desk then replies change is still = absurd (cc)
asks_does from (Mount rpc) request desk then replies change is still = absurd (cc)
asks_does from (Command xid volume asked) request desk then replies change is still = absurd (cc)
asks_does from (Status xid volume) request desk then replies change is still = absurd (cc)
asks_does from (Halt xid) request desk then replies change is still = absurd (cc)

-- an answer outside any history is to something
reacts_outside : (volumes : ℕ) (from : Address) (bytes : List ℕ) → IsAnswered (meaning bytes volumes) → request_of from (meaning bytes volumes) ≡ None → Reacts volumes (Datagram from bytes) []
reacts_outside volumes from bytes answered none = record {
  means = answered;
  whole = sym (ap (λ (o : Option Request). filter_map (λ (p : Option Request). p) (o ∷ [])) none);
}

reacts_own : (volumes volume : ℕ) (from : Address) (bytes : List ℕ) (item : Item) (event : Event) → request_of from (meaning bytes volumes) ≡ Some (volume, item) → items_of event ≡ item ∷ []
    → Reacts volumes (Datagram from bytes) (owned volume (event ∷ []))
reacts_own volumes volume from bytes item event asked is = record {
  means = asks-some from (meaning bytes volumes) (volume, item) asked;
  whole =
      ap (λ (items : List Item). map (λ (i : Item). (volume, i)) items ++ []) is
      ∙ sym (ap (λ (o : Option Request). filter_map (λ (p : Option Request). p) (o ∷ [])) asked);
}

first_mine : (number : ℕ) (events : List Event) (event : Event) → events ≡ event ∷ [] → AllByRecursion (λ e. worker_at e ≡ Some number) events → worker_at event ≡ Some number
first_mine number [] event is mine = cc
first_mine number (x ∷ xs) event is mine = let same : x ≡ event = cc in subst (λ (e : Event). worker_at e ≡ Some number) same mine.0

module _ {L : Type 0} (l : LinkGhosts L) {link mid link' : L} {from : Address} {bytes : List ℕ} (taken : IsTaken (worker_of l link) (worker_of l mid) (event.Datagram from) bytes) where
  -- a reply was offered: the link took it
  sent : (reply : Address × List ℕ) → Releases l released.Sent mid link' reply → Sends (worker_of l link) (worker_of l link') (reply ∷ []) (reply ∷ [])
  sent reply h = offers_one reply (h.sent refl ∙ ap (λ told. gains told reply) taken.sent) (let later = taken.later in omega (arith, later, h.later))

  -- or it failed
  unsent : (reply : Address × List ℕ) → Releases l released.SendFailed mid link' reply → Sends (worker_of l link) (worker_of l link') (reply ∷ []) []
  unsent reply h = offers_fails reply (h.unsent refl ∙ taken.sent) (rose_earlier 1 (l.faults link) (l.faults mid) (l.faults link') taken.later (h.failed refl))

  left_then : {done : Released} {reply : Address × List ℕ} → Releases l done mid link' reply → Takes (l.left link) (Datagram from bytes) (l.left link')
  left_then h = subst (λ left. Takes (l.left link) (Datagram from bytes) left) (sym h.left) taken.takes

module _ {S L : Type 0} (s : Ghosts S) (l : LinkGhosts L) (volumes volume : ℕ) {old new : Volume S} {desk then : Desk} {link mid : L} (from : Address) (bytes : List ℕ)
    (taken : IsTaken (worker_of l link) (worker_of l mid) (event.Datagram from) bytes) (pass pass' : ServerPass) (result : Reaction)
    (answers : Answers s volume old new desk then pass.number pass'.second from (meaning bytes volumes) result) (number : pass'.number ≡ pass.number) (received : pass'.numbers.received ≡ pass.numbers.received + 1) (link' : L) where
  abbrev change : Change
  change = change_of s (store_of old) (store_of new)

  abbrev events : List Event
  events = history answers.holds

  abbrev Turns : Turn → Type 0
  Turns done = Turned s l volumes volume old new desk then link link' pass pass' done

  -- what the worker did in it, with these events
  abbrev Worked : List Event → List (Address × List ℕ) → Type 0
  Worked events replies = Works volumes pass.number desk then (worker_of l link) (worker_of l link') (Datagram from bytes ∷ []) (owned volume events) replies

  -- what its answer says
  abbrev Said : Turn → List Event → List (Address × List ℕ) → Type 0
  Said done events replies = Says volumes done (Datagram from bytes) (owned volume events) replies (l.faults link) (l.faults link')

  -- the account, by what the link did
  turned : (done : Turn) (replies : List (Address × List ℕ)) → Worked events replies → Said done events replies → Obeys done volumes desk (Datagram from bytes) replies change then
      → pass'.numbers.answered ≡ pass.numbers.answered + length replies → Turns done
  turned done replies works says obeys answered = record {
    heard = Datagram from bytes;
    holds = answers.holds;
    replies = replies;
    at = answers.at;
    grows = answers.grows;
    rest = answers.rest;
    works = works;
    says = says;
    obeys = obeys;
    counts = record { received = received; answered = answered };
    timed = answers.timed;
    number = number;
  }

  -- without an event
  turned_alone : (done : Turn) (replies : List (Address × List ℕ)) → events ≡ [] → Worked [] replies → Said done [] replies → Obeys done volumes desk (Datagram from bytes) replies change then
      → pass'.numbers.answered ≡ pass.numbers.answered + length replies → Turns done
  turned_alone done replies none works says obeys answered =
      turned done replies (subst (λ (es : List Event). Worked es replies) (sym none) works) (subst (λ (es : List Event). Said done es replies) (sym none) says) obeys answered

  -- nothing was offered to the link
  turned_dropped : (why : DropCause) → Comes volume from (meaning bytes volumes) desk then change events (reaction.Dropped why) → mid ≡ link' → pass'.numbers.answered ≡ pass.numbers.answered + 0 → Turns (turn.Dropped why)
  turned_dropped why comes same answered = case why comes
    where
      silent : then ≡ desk → Worked [] []
      silent still = works_silent volumes pass.number (worker_of l link) (worker_of l link') (Datagram from bytes) still (subst (λ (x : L). Takes (l.left link) (Datagram from bytes) (l.left x)) same taken.takes)
          (subst (λ (x : L). Sends (worker_of l link) (worker_of l x) [] []) same (offers_nothing taken.sent taken.later))

      case : (c : DropCause) → Comes volume from (meaning bytes volumes) desk then change events (reaction.Dropped c) → Turns (turn.Dropped c)
      case cause.NoMeaning h = turned_alone (turn.Dropped cause.NoMeaning) [] h.0.0 (silent h.1.0) h.0.1 h.1 answered
      case cause.NoMemory h = turned_alone (turn.Dropped cause.NoMemory) [] h.0 (silent h.1.0) (tt, refl) h.1 answered
      case cause.SendFailed h = absurd h
      case cause.ReceiveFailed h = absurd h

  -- ---- an answer outside any history

  module _ (reply : List ℕ) (none : events ≡ []) (tells : Tells desk (meaning bytes volumes) change reply then) where
    offered_sent : (done : Turn) → Releases l released.Sent mid link' (from, reply) → Said done [] ((from, reply) ∷ []) → Obeys done volumes desk (Datagram from bytes) ((from, reply) ∷ []) change then
        → pass'.numbers.answered ≡ pass.numbers.answered + 1 → Turns done
    offered_sent done h says obeys answered = turned_alone done ((from, reply) ∷ []) none
        (works_outside volumes pass.number (worker_of l link) (worker_of l link') from bytes reply _ change tells (left_then l taken h) (sent l taken (from, reply) h)) says obeys answered

    offered_unsent : (done : Turn) → Releases l released.SendFailed mid link' (from, reply) → Said done [] [] → Obeys done volumes desk (Datagram from bytes) [] change then
        → pass'.numbers.answered ≡ pass.numbers.answered + 0 → Turns done
    offered_unsent done h says obeys answered = turned_alone done [] none
        (works_outside volumes pass.number (worker_of l link) (worker_of l link') from bytes reply _ change tells (left_then l taken h) (unsent l taken (from, reply) h)) says obeys answered

    reacts : IsAnswered (meaning bytes volumes) → Reacts volumes (Datagram from bytes) []
    reacts answered = reacts_outside volumes from bytes answered (tells_none from desk then (meaning bytes volumes) change reply tells)

    does_sent : DoesBy desk from (meaning bytes volumes) ((from, reply) ∷ []) change then
    does_sent = does_told from desk then (meaning bytes volumes) ((from, reply) ∷ []) change reply tells (leaves_all _)

    does_unsent : DoesBy desk from (meaning bytes volumes) [] change then
    does_unsent = does_told from desk then (meaning bytes volumes) [] change reply tells (leaves_none _)

    turned_outside : (done : Released) → IsAnswered (meaning bytes volumes) → Releases l done mid link' (from, reply) → pass'.numbers.answered ≡ pass.numbers.answered + answers_in (turn_of done) → Turns (turn_of done)
    turned_outside released.Sent is h answered = offered_sent (turn.Answered 1) h (reacts is, refl, omega arith) does_sent answered
    turned_outside released.SendFailed is h answered =
        offered_unsent (turn.Dropped cause.SendFailed) h (reacts is, rose_earlier 1 (l.faults link) (l.faults mid) (l.faults link') taken.later (h.failed refl), refl) does_unsent answered

    -- and the server ends
    turned_halt : (done : Released) → IsHalt (meaning bytes volumes) → Releases l done mid link' (from, reply) → pass'.numbers.answered ≡ pass.numbers.answered + answers_in (turn_of done) → Turns turn.Halted
    turned_halt released.Sent is h answered = offered_sent turn.Halted h (is, refl) does_sent answered
    turned_halt released.SendFailed is h answered = offered_unsent turn.Halted h (is, refl) does_unsent answered

  -- ---- the reply of an event

  turned_ready : (ready : Ready) (done : Released) → IsOwn volume from (meaning bytes volumes) events ready → (then ≡ desk) × IsUntended change.old change.new → Releases l done mid link' (ready.to, ready.bytes)
      → pass'.numbers.answered ≡ pass.numbers.answered + answers_in (turn_of done) → Turns (turn_of done)
  turned_ready ready released.Sent own still h answered =
      let reply : Address × List ℕ = (ready.to, ready.bytes) in
      turned (turn.Answered 1) (reply ∷ [])
      (subst (λ (es : List Event). Worked es (reply ∷ [])) (sym own.only)
      (works_event volumes pass.number volume (worker_of l link) (worker_of l link') from bytes own.item own.event _ still.0 own.asked own.item_is (first_mine pass.number events own.event own.only answers.mine) (left_then l taken h)
      (subst (λ (offered : List (Address × List ℕ)). Sends (worker_of l link) (worker_of l link') offered (reply ∷ [])) (sym own.reply_is) (sent l taken reply h))))
      (subst (λ (es : List Event). Said (turn.Answered 1) es (reply ∷ [])) (sym own.only) (reacts_own volumes volume from bytes own.item own.event own.asked own.item_is, refl, omega arith))
      (asks_does from (meaning bytes volumes) (volume, own.item) desk then (reply ∷ []) change own.asked still) answered
  turned_ready ready released.SendFailed own still h answered =
      let reply : Address × List ℕ = (ready.to, ready.bytes) in
      turned (turn.Dropped cause.SendFailed) []
      (subst (λ (es : List Event). Worked es []) (sym own.only)
      (works_event volumes pass.number volume (worker_of l link) (worker_of l link') from bytes own.item own.event _ still.0 own.asked own.item_is (first_mine pass.number events own.event own.only answers.mine) (left_then l taken h)
      (subst (λ (offered : List (Address × List ℕ)). Sends (worker_of l link) (worker_of l link') offered []) (sym own.reply_is) (unsent l taken reply h))))
      (subst (λ (es : List Event). Said (turn.Dropped cause.SendFailed) es []) (sym own.only)
      (reacts_own volumes volume from bytes own.item own.event own.asked own.item_is, rose_earlier 1 (l.faults link) (l.faults mid) (l.faults link') taken.later (h.failed refl), refl))
      (asks_does from (meaning bytes volumes) (volume, own.item) desk then [] change own.asked still) answered

  -- what was sent of what it came to, and whether the server ends
  pub turned_replied : (done final : Turn) → Replied l from result mid link' done → pass'.numbers.answered ≡ pass.numbers.answered + answers_in done → final ≡ halted_by (is_halting result) done → Turns final
  turned_replied done final replied answered is = subst Turns (sym is) (case result (answers.comes) replied)
    where
      counted : (t : Turn) → done ≡ t → pass'.numbers.answered ≡ pass.numbers.answered + answers_in t
      counted t same = answered ∙ ap (λ (x : Turn). pass.numbers.answered + answers_in x) same

      case : (r : Reaction) → Comes volume from (meaning bytes volumes) desk then change events r → Replied l from r mid link' done → Turns (halted_by (is_halting r) done)
      case (reaction.Ready ready) comes h = subst Turns (sym h.2) (turned_ready ready h.0 comes.0 comes.1 h.1 (counted (turn_of h.0) h.2))
      case (reaction.Outside reply) comes h = subst Turns (sym h.2) (turned_outside reply comes.0 comes.1.1 h.0 comes.1.0 h.1 (counted (turn_of h.0) h.2))
      case (reaction.Mounted reply) comes h = subst Turns (sym h.2) (turned_outside reply comes.0 comes.1.1 h.0 comes.1.0 h.1 (counted (turn_of h.0) h.2))
      case (reaction.Halt reply) comes h = turned_halt reply comes.0 comes.1.1 h.0 comes.1.0 h.1 (counted (turn_of h.0) h.2)
      case (reaction.Dropped why) comes h = subst Turns (sym h.1) (turned_dropped why comes (sym h.0) (counted (turn.Dropped why) h.1))
