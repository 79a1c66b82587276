use Rattle.std.proofs.Common.{◌≡◌, refl, ◌∙◌, arith}
use Rattle.files_model.specs.History.{Item}
use Rattle.nfs2_wire.specs.Replies.{longest_of}
use Rattle.volume.specs.Mounted.{store_of, is_hurt}
use Rattle.nfs_worker.proofs.Accounts.{grew_none}
use Rattle.nfs_worker.proofs.OneHold.{hurt_rose, served_bytes, served_none}
use Rattle.nfs_worker.proofs.Resting.{stays_so}
use Rattle.nfs_worker.proofs.serving.serve_call.Goals as goal

pub handle-requires-clause-room : goal.handle-requires-clause-room
handle-requires-clause-room g c =
    let room : c.in-Ok.room ≡ longest_of c.args.call.now = c.in-Ok.ensures ∙ c.longest.ensures in omega (arith, room)

pub returns-in_default-clause-rest : goal.returns-in_default-clause-rest
returns-in_default-clause-rest g c = stays_so g.S.Stable c.args.volume.now c.requires.rest

pub returns-in_default-clause-served : goal.returns-in_default-clause-served
returns-in_default-clause-served g c = grew_none g.S.Stable g.met.S.Stable.clocked (store_of c.args.volume.now)

pub returns-in-Bytes-clause-served : goal.returns-in-Bytes-clause-served
returns-in-Bytes-clause-served g c =
    let s = g.S.Stable in
    let old = c.args.volume.now in
    let new = c.handle.new.volume in
    let item : Item = record { xid = c.args.xid; from = c.args.from; call = c.args.call.now; cred = c.args.cred.now } in
    served_bytes s g.met.S.Stable.clocked c.args.at (store_of old) (store_of new) (is_hurt old) (is_hurt new) c.args.number c.args.now item c.in-Bytes.ensures.rest.weak (λ told. c.in-Bytes.ensures.opens)
    _ _ refl c.in-Bytes.ensures.handled

pub returns-clause-served : goal.returns-clause-served
returns-clause-served g c =
    let s = g.S.Stable in
    let old = c.args.volume.now in
    let new = c.handle.new.volume in
    let item : Item = record { xid = c.args.xid; from = c.args.from; call = c.args.call.now; cred = c.args.cred.now } in
    served_none s g.met.S.Stable.clocked c.args.at (store_of old) (store_of new) (is_hurt old) (is_hurt new) c.args.number c.args.now item c.in-NoMemory.ensures.rest.weak (λ told. c.in-NoMemory.ensures.opens)
    _ _ c.in-NoMemory.ensures.handled

pub returns-in-Bytes-clause-rest : goal.returns-in-Bytes-clause-rest
returns-in-Bytes-clause-rest g c =
    let handled = c.in-Bytes.ensures.handled in record {
      rest = c.in-Bytes.ensures.rest;
      hurt = hurt_rose g.S.Stable (store_of c.args.volume.now) (store_of c.handle.new.volume) (is_hurt c.args.volume.now) (is_hurt c.handle.new.volume) c.args.call.now c.args.cred.now c.args.now handled.came handled.applied;
    }

pub returns-clause-rest : goal.returns-clause-rest
returns-clause-rest g c =
    let handled = c.in-NoMemory.ensures.handled in record {
      rest = c.in-NoMemory.ensures.rest;
      hurt = hurt_rose g.S.Stable (store_of c.args.volume.now) (store_of c.handle.new.volume) (is_hurt c.args.volume.now) (is_hurt c.handle.new.volume) c.args.call.now c.args.cred.now c.args.now handled.came handled.applied;
    }
