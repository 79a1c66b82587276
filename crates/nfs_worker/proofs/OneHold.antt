-- A call that was made is one event of one hold.
use Rattle.std.proofs.Common.{◌≡◌, ℕ, List, [], ◌∷◌, Bool, true, false, refl, sym, inl, arith}
use Rattle.files_model.specs.declared.call.Call.{Call}
use Rattle.files_model.specs.declared.credential.Cred.{Cred}
use Rattle.files_model.specs.declared.reply.Reply.{Reply}
use Rattle.files_model.specs.declared.reply.Reply.TheVariants as reply
use Rattle.files_model.specs.declared.reply.Stat.TheVariants as stat
use Rattle.files_model.specs.History.{Event, Item}
use Rattle.files_model.specs.History.Event.{Done, Failed}
use Rattle.stable.specs.Store.{StaysOpenable}
use Rattle.stable.specs.declared.store.Stable.{Ghosts}
use Rattle.stable.specs.Counts.{Rose}
use Rattle.stable.specs.Moments.{IsClocked}
use Rattle.stable.proofs.Clocked.{weaker, ends}
use Rattle.v7_map.specs.Frame.{frame}
use Rattle.v7_map.specs.View.{view}
use Rattle.v7_map.specs.Weak.{IsWeak}
use Rattle.nfs2_wire.specs.Replies.{bytes_of}
use Rattle.volume.specs.declared.outcome.Outcome.TheVariants as outcome
use Rattle.nfs_worker.specs.declared.releasing.Ready.{Ready}
use Rattle.nfs_worker.specs.Account.{Grew}
use Rattle.volume.specs.Applied.{Applies}
use Rattle.volume.specs.declared.outcome.Outcome.{Outcome}
use Rattle.nfs2_proc.specs.Handles.{IsAnswered, Handles}
use Rattle.nfs2_proc.specs.declared.handling.Handled.TheVariants as handled
use Rattle.nfs_worker.specs.Served.{IsServed, Serves}
use Rattle.nfs_worker.specs.declared.serving.Served.TheVariants as served
use Rattle.nfs_worker.proofs.Accounts.{grew_hold, grew_same}

-- a volume that is hurt by a call was hurt by a device that failed
pub hurt_rose : {S : Type 0} (s : Ghosts S) (old new : S) (was is : Bool) (c : Call) (cred : Cred) (now : ℕ) (came : Outcome) → Applies s old new was is c cred now came → is ≡ true → was ≡ false → Rose (s.faults old) (s.faults new)
hurt_rose s old new was is c cred now (outcome.Reply r) applied hurt sound = let healed = applied.hurts in absurd (cc)
hurt_rose s old new was is c cred now outcome.Io applied hurt sound = applied.cause.1
hurt_rose s old new was is c cred now outcome.NoMemory applied hurt sound = let healed = applied.hurts sound in absurd (cc)

module _ {S : Type 0} (s : Ghosts S) (clocked : IsClocked s.tells s.image s.moment s.left_since)
    (volume : ℕ) (old new : S) (was is : Bool) (number now : ℕ) (item : Item) (weak : s.tells → IsWeak (frame (s.image new)))
    (opens : s.tells → StaysOpenable s.opens_since s.moment old new) where
  -- a reply, of a volume that was hurt or not
  pub served_reply : (r : Reply) (ready : Ready) → ready.to ≡ item.from → ready.bytes ≡ bytes_of item.xid r volume
      → Applies s old new was is item.call item.cred now (outcome.Reply r) → IsServed s volume old new number now item (Done number item now r) ready
  served_reply r ready to bytes applied = record {
    grows = grew_hold s clocked old new (Done number item now r ∷ [])
        (λ told found. let done = applied.leaves told in record { legal = (done.0, tt); view_is = done.1; weak = weak told })
        (let cause = applied.cause in omega arith)
        (weaker applied.crash (λ d left at found. record { weak = at.files.weak; stands = inl at.files.torn }))
        (λ told. (ends clocked applied.crash told).name)
        opens;
    item_is = refl;
    worker_is = refl;
    time_is = refl;
    reply_is = λ z. (sym to z, sym bytes z) ∷ [];
  }

  -- the device failed, in the mend or in the call
  pub served_io : (ready : Ready) → ready.to ≡ item.from → ready.bytes ≡ bytes_of item.xid (reply.Refused stat.Io) volume
      → Applies s old new was is item.call item.cred now outcome.Io → IsServed s volume old new number now item (Failed number (item ∷ []) now (view (s.image new))) ready
  served_io ready to bytes applied =
      let event : Event = Failed number (item ∷ []) now (view (s.image new)) in
      record {
        grows = grew_hold s clocked old new (event ∷ [])
            (λ told found. record { legal = (applied.leaves told, tt); view_is = refl; weak = weak told })
            applied.cause.1
            (weaker applied.crash (λ d left at found. record { weak = at.files.weak; stands = inl at.files.torn }))
            (λ told. (ends clocked applied.crash told).name)
            opens;
        item_is = refl;
        worker_is = refl;
        time_is = refl;
        reply_is = λ z. (sym to z, sym bytes z) ∷ [];
      }

  -- there was no memory: the volume may be mended now, and there is no event
  pub served_nothing : Applies s old new was is item.call item.cred now outcome.NoMemory → Grew s old new []
  served_nothing applied = grew_same s clocked
      (λ told found. record { weak = weak told; view = applied.leaves told })
      applied.cause
      (weaker applied.crash (λ d left at found. record { weak = at.files.weak; view = at.files.view_is }))
      (λ told. (ends clocked applied.crash told).name)
      opens

  -- what a call came to, by the bytes that answer it
  pub served_bytes : (room : ℕ) (ready : Ready) → ready.to ≡ item.from → Handles s old new was is volume item.xid item.call item.cred now room (handled.Bytes ready.bytes) → Serves s volume old new number now item (served.Ready ready)
  served_bytes room ready to done = by done.came done.applied done.answered
    where
      by : (came : Outcome) → Applies s old new was is item.call item.cred now came → IsAnswered volume item.xid room came (handled.Bytes ready.bytes) → Serves s volume old new number now item (served.Ready ready)
      by (outcome.Reply r) applied bytes = (outcome.Reply r, _, refl, served_reply r ready to bytes applied)
      by outcome.Io applied bytes = (outcome.Io, _, refl, served_io ready to bytes applied)
      by outcome.NoMemory applied bytes = absurd bytes

  -- there was no memory for it
  pub served_none : (room left : ℕ) → Handles s old new was is volume item.xid item.call item.cred now room (handled.NoMemory left) → Grew s old new []
  served_none room left done = by done.came done.applied done.answered
    where
      by : (came : Outcome) → Applies s old new was is item.call item.cred now came → IsAnswered volume item.xid room came (handled.NoMemory left) → Grew s old new []
      by (outcome.Reply r) applied none = absurd none
      by outcome.Io applied none = absurd none
      by outcome.NoMemory applied none = served_nothing applied
