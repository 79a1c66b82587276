-- What is answered outside any history, over one run after another.
use Rattle.std.proofs.Common.{◌≡◌, ◌≤◌, ℕ, List, [], ◌∷◌, ◌++◌, length, map, None, ap, sym, refl, subst}
use Rattle.std.proofs.lemmas.List.{length-map}
use Rattle.files_model.specs.declared.address.Address.{Address}
use Rattle.files_model.specs.declared.attributes.FileId.{FileId}
use Rattle.stable.specs.declared.snapshot.Snapshot.{Snapshot}
use Rattle.rig.specs.Links.{Heard}
use Rattle.rig.specs.Links.Heard.{Datagram, Idle, Closed, Failed}
use Rattle.rig.specs.Offers.{LeavesOut}
use Rattle.datagrams.specs.declared.datagram.Datagram.{Datagram as Meaning}
use Rattle.datagrams.specs.declared.datagram.Datagram.TheVariants.{NoMeaning, Outside, Asks, Mount, Command, Status, Halt}
use Rattle.datagrams.specs.Meaning.{meaning}
use Rattle.nfs_worker.specs.Desk.{new_desk, Change, Tells, TellsTo, Answered}
use Rattle.nfs_worker.specs.Desk.Answered.{silent, passed, told}
use Rattle.nfs_worker.specs.Volumes.{AreOpen}
use Rattle.nfs_worker.specs.Turns.{DoesBy, Does, Obeys}
use Rattle.nfs_worker.specs.Worker.{request_of}
use Rattle.nfs_worker.specs.declared.desk.Desk.{Desk}
use Rattle.nfs_worker.specs.declared.turning.DropCause.TheVariants as cause
use Rattle.nfs_worker.specs.declared.turning.Turn.{Turn}
use Rattle.nfs_worker.specs.declared.turning.Turn.TheVariants as turn

-- nothing was answered so
pub answered_none : (volumes : ℕ) (desk : Desk) (heard : List Heard) → Answered volumes desk heard [] desk
answered_none volumes desk [] = silent volumes desk desk refl
answered_none volumes desk (one ∷ heard) = passed volumes desk desk one heard [] (answered_none volumes desk heard)

pub answered_one : (volumes : ℕ) (desk then : Desk) (one : Heard) (answer : Address × List ℕ) → TellsTo volumes desk one answer then → Answered volumes desk (one ∷ []) (answer ∷ []) then
answered_one volumes desk then one answer tells = told volumes desk then then one [] answer [] tells (silent volumes then then refl)

pub answered_both : (volumes : ℕ) (a b c : Desk) (xs ys : List Heard) (os ps : List (Address × List ℕ)) → Answered volumes a xs os b → Answered volumes b ys ps c → Answered volumes a (xs ++ ys) (os ++ ps) c
answered_both volumes a b c [] ys [] ps (silent v d e is) q = subst (λ (desk : Desk). Answered volumes desk ys ps c) is q
answered_both volumes a b c [] ys (o ∷ os) ps p q = elim p [ ]
answered_both volumes a b c (x ∷ xs) ys os ps (passed v d e one heard answers p) q = passed volumes a c x (xs ++ ys) (os ++ ps) (answered_both volumes a b c xs ys os ps p q)
answered_both volumes a b c (x ∷ xs) ys (o ∷ os) ps (told v d mid e one heard answer answers t p) q = told volumes a mid c x (xs ++ ys) o (os ++ ps) t (answered_both volumes mid b c xs ys os ps p q)

-- ---- the same volumes are open as before

-- a new desk is that of its volumes
pub new_open : {A : Type 0} (root : A → FileId) (puts : A → ℕ) (volumes : List A) (desk : Desk) → 1 ≤ length volumes → length volumes ≤ 4 → desk ≡ new_desk (map root volumes) (map puts volumes) → AreOpen (length volumes) desk
new_open root puts volumes desk some few is =
    subst (AreOpen (length volumes)) (sym is) (record { some = some; few = few; mounts = length-map volumes root; roots = length-map volumes root; puts = length-map volumes puts })

tells_open : (volumes : ℕ) (desk then : Desk) (means : Meaning) (change : Change) (reply : List ℕ) → Tells desk means change reply then → AreOpen volumes desk → AreOpen volumes then
tells_open volumes desk then NoMeaning change reply t are = absurd t
tells_open volumes desk then (Asks xid volume cred call) change reply t are = absurd t
tells_open volumes desk then (Outside answer) change reply t are = subst (λ (d : Desk). AreOpen volumes d) (sym t.1) are
tells_open volumes desk then (Mount rpc) change reply t are =
    subst (λ (d : Desk). AreOpen volumes d) (sym t.1) (record { some = are.some; few = are.few; mounts = are.mounts; roots = are.roots; puts = are.puts })
tells_open volumes desk then (Command xid volume asked) change reply t are = subst (λ (d : Desk). AreOpen volumes d) (sym t.1) are
tells_open volumes desk then (Status xid volume) change reply t are = subst (λ (d : Desk). AreOpen volumes d) (sym t.1) are
tells_open volumes desk then (Halt xid) change reply t are = subst (λ (d : Desk). AreOpen volumes d) (sym t.1) are

told_open : (among volumes : ℕ) (desk then : Desk) (one : Heard) (answer : Address × List ℕ) → TellsTo among desk one answer then → AreOpen volumes desk → AreOpen volumes then
told_open among volumes desk then (Datagram from bytes) answer t are = tells_open volumes desk then (meaning bytes among) t.0 answer.1 t.2 are
told_open among volumes desk then Idle answer t are = absurd t
told_open among volumes desk then Closed answer t are = absurd t
told_open among volumes desk then Failed answer t are = absurd t

pub answered_open : (among volumes : ℕ) (desk then : Desk) (heard : List Heard) (answers : List (Address × List ℕ)) → Answered among desk heard answers then → AreOpen volumes desk → AreOpen volumes then
answered_open among volumes desk then heard answers (silent v d e is) are = subst (λ (d : Desk). AreOpen volumes d) (sym is) are
answered_open among volumes desk then (x ∷ xs) answers (passed v d e one heard outs p) are = answered_open among volumes desk then xs answers p are
answered_open among volumes desk then (x ∷ xs) (o ∷ os) (told v d mid e one heard answer outs t p) are = answered_open among volumes mid then xs os p (told_open among volumes desk mid x o t are)

-- ---- one datagram

-- what is answered so is no call on a volume
pub tells_none : (from : Address) (desk then : Desk) (means : Meaning) (change : Change) (reply : List ℕ) → Tells desk means change reply then → request_of from means ≡ None
tells_none from desk then NoMeaning change reply t = absurd t
tells_none from desk then (Asks xid volume cred call) change reply t = absurd t
tells_none from desk then (Outside answer) change reply t = refl
tells_none from desk then (Mount rpc) change reply t = refl
tells_none from desk then (Command xid volume asked) change reply t = refl
tells_none from desk then (Status xid volume) change reply t = refl
tells_none from desk then (Halt xid) change reply t = refl

pub does_told : (from : Address) (desk then : Desk) (means : Meaning) (replies : List (Address × List ℕ)) (change : Change) (reply : List ℕ) → Tells desk means change reply then → LeavesOut replies ((from, reply) ∷ []) → DoesBy desk from means replies change then
does_told from desk then NoMeaning replies change reply t left = absurd t
does_told from desk then (Asks xid volume cred call) replies change reply t left = absurd t
does_told from desk then (Outside answer) replies change reply t left = (reply, t, left)
does_told from desk then (Mount rpc) replies change reply t left = (reply, t, left)
does_told from desk then (Command xid volume asked) replies change reply t left = (reply, t, left)
does_told from desk then (Status xid volume) replies change reply t left = (reply, t, left)
does_told from desk then (Halt xid) replies change reply t left = (reply, t, left)

-- ---- nothing is polled by it

tells_polls : (desk then : Desk) (means : Meaning) (change : Change) (reply : List ℕ) → Tells desk means change reply then → change.new.polls ≡ change.old.polls
tells_polls desk then NoMeaning change reply t = absurd t
tells_polls desk then (Asks xid volume cred call) change reply t = absurd t
tells_polls desk then (Outside answer) change reply t = t.2.polls
tells_polls desk then (Mount rpc) change reply t = t.2.polls
tells_polls desk then (Command xid volume asked) change reply t = t.0.commanded.polls
tells_polls desk then (Status xid volume) change reply t = ap (λ (s : Snapshot). s.polls) t.2
tells_polls desk then (Halt xid) change reply t = t.2.polls

does_polls : (from : Address) (desk then : Desk) (means : Meaning) (replies : List (Address × List ℕ)) (change : Change) → DoesBy desk from means replies change then → change.new.polls ≡ change.old.polls
does_polls from desk then NoMeaning replies change d = d.1.polls
does_polls from desk then (Asks xid volume cred call) replies change d = d.1.polls
does_polls from desk then (Outside answer) replies change d = tells_polls desk then (Outside answer) change d.0 d.1
does_polls from desk then (Mount rpc) replies change d = tells_polls desk then (Mount rpc) change d.0 d.1
does_polls from desk then (Command xid volume asked) replies change d = tells_polls desk then (Command xid volume asked) change d.0 d.1
does_polls from desk then (Status xid volume) replies change d = tells_polls desk then (Status xid volume) change d.0 d.1
does_polls from desk then (Halt xid) replies change d = tells_polls desk then (Halt xid) change d.0 d.1

heard_polls : (volumes : ℕ) (desk then : Desk) (heard : Heard) (replies : List (Address × List ℕ)) (change : Change) → Does volumes desk heard replies change then → change.new.polls ≡ change.old.polls
heard_polls volumes desk then (Datagram from bytes) replies change d = does_polls from desk then (meaning bytes volumes) replies change d
heard_polls volumes desk then Idle replies change d = absurd d
heard_polls volumes desk then Closed replies change d = absurd d
heard_polls volumes desk then Failed replies change d = absurd d

pub obeys_polls : (result : Turn) (volumes : ℕ) (desk then : Desk) (heard : Heard) (replies : List (Address × List ℕ)) (change : Change) → Obeys result volumes desk heard replies change then → change.new.polls ≡ change.old.polls
obeys_polls (turn.Answered n) volumes desk then heard replies change d = heard_polls volumes desk then heard replies change d
obeys_polls (turn.Dropped cause.SendFailed) volumes desk then heard replies change d = heard_polls volumes desk then heard replies change d
obeys_polls turn.Halted volumes desk then heard replies change d = heard_polls volumes desk then heard replies change d
obeys_polls (turn.Dropped cause.NoMeaning) volumes desk then heard replies change d = d.1.polls
obeys_polls (turn.Dropped cause.NoMemory) volumes desk then heard replies change d = d.1.polls
obeys_polls (turn.Dropped cause.ReceiveFailed) volumes desk then heard replies change d = d.1.polls
obeys_polls turn.Idle volumes desk then heard replies change d = d.1.polls
obeys_polls turn.Closed volumes desk then heard replies change d = d.1.polls
obeys_polls turn.Left volumes desk then heard replies change d = d.1.polls
