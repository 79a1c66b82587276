use Rattle.std.proofs.Common.{◌≡◌, ℕ, List, slice_index_or, refl, sym, ap, ◌∙◌, subst, [], ◌∷◌}
use Rattle.datagrams.specs.declared.datagram.Datagram.{Datagram as Meaning}
use Rattle.datagrams.specs.declared.datagram.Datagram.TheVariants.{Asks}
use Rattle.volume.specs.Mounted.{store_of}
use Rattle.std.specs.Prelude.{slice_index}
use Rattle.nfs_worker.specs.Desk.{Tells, change_of, status_reply}
use Rattle.nfs_worker.specs.Turns.{IsAnswered, IsHalt, place_of}
use Rattle.nfs_worker.specs.Worker.{request_of}
use Rattle.nfs_worker.proofs.Accounts.{grew_none, grew_idle}
use Rattle.nfs_worker.proofs.Resting.{stays_so, stays_tended}
use Rattle.nfs_worker.proofs.Turns.{untended_same}
use Rattle.nfs_worker.proofs.answering.react.Goals as goal

pub returns-in-NoMeaning : goal.returns-in-NoMeaning
returns-in-NoMeaning g c =
    let volume = c.args.volume.now in
    record {
      holds = [];
      at = c.requires.place;
      grows = grew_none g.S.Stable g.met.S.Stable.clocked (store_of volume);
      rest = stays_so g.S.Stable volume c.requires.rest;
      comes = ((refl, c.in-NoMeaning.is), (refl, untended_same _));
      mine = tt;
      timed = tt;
    }

pub returns-in-Outside : goal.returns-in-Outside
returns-in-Outside g c =
    let s = g.S.Stable in
    let volume = c.args.volume.now in
    let desk = c.args.desk.now in
    let reply = c.in-Outside.reply in
    record {
      holds = [];
      at = c.requires.place;
      grows = grew_none s g.met.S.Stable.clocked (store_of volume);
      rest = stays_so s volume c.requires.rest;
      comes = (refl, subst (λ (m : Meaning). IsAnswered m × Tells desk m (change_of s (store_of volume) (store_of volume)) reply desk) (sym c.in-Outside.is) (tt, (refl, refl, untended_same _)));
      mine = tt;
      timed = tt;
    }

pub returns-in-Ok : goal.returns-in-Ok
returns-in-Ok g c =
    let s = g.S.Stable in
    let volume = c.args.volume.now in
    let desk = c.args.desk.now in
    let then = c.answer_mount.new.desk in
    let reply = c.in-Ok.reply in
    record {
      holds = [];
      at = c.requires.place;
      grows = grew_none s g.met.S.Stable.clocked (store_of volume);
      rest = stays_so s volume c.requires.rest;
      comes = (refl, subst (λ (m : Meaning). IsAnswered m × Tells desk m (change_of s (store_of volume) (store_of volume)) reply then) (sym c.in-Mount.is) (tt, (c.in-Ok.ensures.reply, c.in-Ok.ensures.rows, untended_same _)));
      mine = tt;
      timed = tt;
    }

pub returns-in-Mount : goal.returns-in-Mount
returns-in-Mount g c =
    let volume = c.args.volume.now in
    record {
      holds = [];
      at = c.requires.place;
      grows = grew_none g.S.Stable g.met.S.Stable.clocked (store_of volume);
      rest = stays_so g.S.Stable volume c.requires.rest;
      comes = (refl, (c.in-Err.ensures.err, untended_same _));
      mine = tt;
      timed = tt;
    }

pub returns-in-Command : goal.returns-in-Command
returns-in-Command g c =
    let s = g.S.Stable in
    let old = c.args.volume.now in
    let new = c.obey.new.volume in
    let desk = c.args.desk.now in
    let reply = c.obey.result in
    record {
      holds = [];
      at = c.requires.place;
      grows = grew_idle s g.met.S.Stable.clocked c.obey.ensures.keeps;
      rest = stays_tended s c.obey.ensures.rest c.obey.ensures.kept;
      comes = (refl, subst (λ (m : Meaning). IsAnswered m × Tells desk m (change_of s (store_of old) (store_of new)) reply desk) (sym c.in-Command.is) (tt, (c.obey.ensures.obeyed, refl)));
      mine = tt;
      timed = tt;
    }

pub returns-in-Status : goal.returns-in-Status
returns-in-Status g c =
    let s = g.S.Stable in
    let volume = c.args.volume.now in
    let desk = c.args.desk.now in
    let reply = c.status.result in
    let place : c.args.at ≡ c.in-Status._volume = c.requires.place ∙ ap place_of c.in-Status.is in
    let first : slice_index_or c.list.result.now c.args.at 0 ≡ slice_index desk.first_puts c.in-Status._volume = ap (λ (xs : List ℕ). slice_index xs c.args.at) c.list.ensures ∙ ap (λ (n : ℕ). slice_index desk.first_puts n) place in
    let status : reply ≡ status_reply c.in-Status.xid (slice_index desk.first_puts c.in-Status._volume) (s.snapshot_of (store_of volume)) = c.status.ensures ∙ ap (λ (n : ℕ). status_reply c.in-Status.xid n (s.snapshot_of (store_of volume))) first in
    record {
      holds = [];
      at = c.requires.place;
      grows = grew_none s g.met.S.Stable.clocked (store_of volume);
      rest = stays_so s volume c.requires.rest;
      comes = (refl, subst (λ (m : Meaning). IsAnswered m × Tells desk m (change_of s (store_of volume) (store_of volume)) reply desk) (sym c.in-Status.is) (tt, (status, refl, refl)));
      mine = tt;
      timed = tt;
    }

pub returns-in-Halt : goal.returns-in-Halt
returns-in-Halt g c =
    let s = g.S.Stable in
    let volume = c.args.volume.now in
    let desk = c.args.desk.now in
    let reply = c.write_answer.result in
    record {
      holds = [];
      at = c.requires.place;
      grows = grew_none s g.met.S.Stable.clocked (store_of volume);
      rest = stays_so s volume c.requires.rest;
      comes = (refl, subst (λ (m : Meaning). IsHalt m × Tells desk m (change_of s (store_of volume) (store_of volume)) reply desk) (sym c.in-Halt.is) (tt, (c.write_answer.ensures.bytes, refl, untended_same _)));
      mine = tt;
      timed = tt;
    }

pub returns-in-NoMemory : goal.returns-in-NoMemory
returns-in-NoMemory g c = record {
  holds = [];
  at = c.requires.place;
  grows = c.in-NoMemory.ensures.served;
  rest = c.serve_call.ensures.rest;
  comes = (refl, (refl, c.serve_call.ensures.untended));
  mine = tt;
  timed = tt;
}

pub returns : goal.returns
returns g c =
    let place = c.requires.place ∙ ap place_of c.in-Asks.is in
    let served = c.in-Ready.ensures.served in
    let event = served.1 in
    let is = served.3 in
    record {
      holds = record { events = event ∷ []; mark = g.S.Stable.moment (store_of c.serve_call.new.volume) } ∷ [];
      at = c.requires.place;
      grows = is.grows;
      rest = c.serve_call.ensures.rest;
      comes = (
        record {
          event = event;
          only = refl;
          item = _;
          asked = ap (request_of c.args.asked.from) c.in-Asks.is ∙ ap (λ v. request_of c.args.asked.from (Asks c.in-Asks.xid v c.in-Asks.cred c.in-Asks.call)) (sym place);
          item_is = is.item_is;
          reply_is = is.reply_is;
        },
        (refl, c.serve_call.ensures.untended),
      );
      mine = (is.worker_is, tt);
      timed = (is.time_is, tt);
    }
