use Rattle.std.proofs.Common.{◌<◌, ℕ, List, [], length, sym, ap, subst, ◌∙◌, refl, rules}
use Rattle.files_model.specs.declared.call.Call.TheVariants.{Create}
use Rattle.stable.specs.Store.{Image}
use Rattle.v7_map.specs.Frame.{frame}
use Rattle.v7_map.proofs.Whole.{as_long}
use Rattle.plan_name.specs.Creating.{FitsIn}
use Rattle.plan_name.proofs.NewInPlace.{new-refused, new-number, new-may, new-planned, inside-of}
use Rattle.plan_name.proofs.PlannedCall.{taken-from}
use Rattle.plan_name.proofs.new_in_place.plan_new_in_place.Goals as goal

pub returns-in-Err-clause-planned : goal.returns-in-Err-clause-planned
returns-in-Err-clause-planned g c = λ tells d told free place stands.
    let S = g.S.Stable in
    let image : Image = S.image c.args.store.now in
    let dir = c.args.spot.now.directory in
    let said = c.refused.ensures in
    new-refused image dir c.args.name.now c.args.wanted.now c.args.cred.now c.args.now d told.strong free c.in-Err.status c.args.sets.now c.refused.result (c.in-Err.ensures image dir.ino d c.args.name.now c.args.now told) told.sets
    said.plan said.reply said.blocks said.inode

pub returns-then-not-can_be_number-clause-planned : goal.returns-then-not-can_be_number-clause-planned
unfolding frame
returns-then-not-can_be_number-clause-planned g c = λ tells d told free place stands.
    let S = g.S.Stable in
    let image : Image = S.image c.args.store.now in
    let dir = c.args.spot.now.directory in
    let long = (as_long S.sector_count g.met.S.Stable.clocked g.met.S.Stable.shape c.args.store.now tells).size in
    absurd (c.if-not-can_be_number.ensures.no refl (new-number image dir c.args.name.now c.args.wanted.now c.args.cred.now c.args.now d told.strong free c.in-Ok.number
    (c.in-Ok.ensures image dir.ino d c.args.name.now c.args.now told) c.sectors.result (long ∙ sym c.sectors.ensures)))

pub returns-clause-planned : goal.returns-clause-planned
returns-clause-planned g c = λ tells d told free place stands.
    let S = g.S.Stable in
    let image : Image = S.image c.args.store.now in
    let spot = c.args.spot.now in
    let dir = spot.directory in
    let may = c.in-Ok.ensures image dir.ino d c.args.name.now c.args.now told in
    let fits : FitsIn image (Create dir c.args.name.now c.args.wanted.now, c.args.cred.now) c.args.now dir.ino c.in-Ok.number spot.index spot.sector c.args.name.now c.args.wanted.now c.args.cred.now d = record {
      may = new-may image dir c.args.name.now c.args.wanted.now c.args.cred.now c.args.now d told.strong free c.in-Ok.number may spot.index place;
      inside = subst (λ (k : ℕ). k < length d.slots) (sym place) (inside-of d told.end);
      stands = stands;
    } in
    let made = c.in_ok-reply.ensures.planned tells told.strong (Create dir c.args.name.now c.args.wanted.now, c.args.cred.now) d fits in
    new-planned image dir c.args.name.now c.args.wanted.now c.args.cred.now c.args.now d told.strong free c.in-Ok.number may record { blocks = c.args.sets.now.blocks; inodes = c.take.new.self }
    c.args.sets.now.blocks c.args.sets.now.inodes [] record { plan = c.make_in_place.new.plan; reply = c.in_ok-reply.reply; freed = c.none_freed.result } told.sets refl c.take.ensures made.0 made.1
    c.none_freed.ensures.blocks c.none_freed.ensures.inode

pub returns-clause-takes : goal.returns-clause-takes
returns-clause-takes g c = record { takes = taken-from c.args.sets.now [] c.in-Ok.number c.args.sets.now.blocks c.take.new.self refl c.take.ensures; kept = search rules }
