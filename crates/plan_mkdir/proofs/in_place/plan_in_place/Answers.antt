use Rattle.std.proofs.Common.{◌<◌, ℕ, [], ◌∷◌, length, sym, subst, ◌∙◌}
use Rattle.stable.specs.Store.{Image}
use Rattle.v7_map.specs.Frame.{frame}
use Rattle.v7_map.specs.View.{view}
use Rattle.v7_map.proofs.Whole.{as_long}
use Rattle.v7_strokes.proofs.Directories.{stands-dir}
use Rattle.plan_name.proofs.NewInPlace.{inside-of}
use Rattle.plan_mkdir.specs.Judging.{MayBeMade}
use Rattle.plan_mkdir.specs.Making.{Makes, IsInside}
use Rattle.plan_mkdir.proofs.FreeName.{free-refused, free-making, free-planned, none-left, one-left}
use Rattle.plan_mkdir.proofs.in_place.plan_in_place.Goals as goal

pub returns-in-Err-clause-planned : goal.returns-in-Err-clause-planned
returns-in-Err-clause-planned g c = λ tells d told free place stands.
    let S = g.S.Stable in
    let image : Image = S.image c.args.store.now in
    let dir = c.args.spot.now.directory in
    let said = c.refused.ensures in
    free-refused image dir c.args.name.now c.args.wanted.now c.args.cred.now c.args.now d told.strong free c.in-Err.status c.args.sets.now c.refused.result (c.in-Err.ensures image dir.ino d c.args.name.now c.args.wanted.now c.args.now told) told.sets
    said.plan said.reply said.blocks said.inode

pub returns-in_default-clause-planned : goal.returns-in_default-clause-planned
unfolding frame
returns-in_default-clause-planned g c = λ tells d told free place stands.
    let S = g.S.Stable in
    let image : Image = S.image c.args.store.now in
    let dir = c.args.spot.now.directory in
    let long = (as_long S.sector_count g.met.S.Stable.clocked g.met.S.Stable.shape c.args.store.now tells).size in
    let may = c.in-Ok.ensures image dir.ino d c.args.name.now c.args.wanted.now c.args.now told in
    absurd (one-left image dir.ino d c.args.parent.now c.args.sets.now.blocks c.args.sets.now.inodes told c.args.name.now c.args.wanted.now c.args.cred.now c.args.now c.in-Ok.number may
    (none-left image dir c.args.name.now c.args.wanted.now c.args.cred.now c.args.now d c.in-Ok.number c.args.sets.now.blocks c.args.sets.now.inodes told.strong told.sets free
    (stands-dir image dir.ino d told.strong.weak told.at told.kind) may c.sectors-sectors.result 0 (long ∙ sym c.sectors-sectors.ensures) c.in_default.ensures.none))

pub returns-clause-planned : goal.returns-clause-planned
returns-clause-planned g c = λ tells d told free place stands.
    let S = g.S.Stable in
    let image : Image = S.image c.args.store.now in
    let spot = c.args.spot.now in let dir = spot.directory in let new = c.in-Some.new in
    let chosen = c.in-Some.ensures.chosen in
    let may = subst (λ (i : ℕ). MayBeMade (view image) dir.ino d c.args.name.now c.args.wanted.now c.args.cred.now c.args.now i) (sym chosen.0) (c.in-Ok.ensures image dir.ino d c.args.name.now c.args.wanted.now c.args.now told) in
    let makes : Makes image spot new c.args.name.now c.args.wanted.now c.args.cred.now c.args.now d = record {
      making = free-making image dir c.args.name.now c.args.wanted.now c.args.cred.now c.args.now d told.strong free new.ino may;
      free = told.sets.free new.block chosen.1.1;
      place = place;
    } in
    let inside : IsInside image spot d = record { inside = subst (λ (k : ℕ). k < length d.slots) (sym place) (inside-of d told.end); stands = stands } in
    let made = c.in_ok-reply.ensures.planned tells told.strong d makes inside in
    free-planned image dir c.args.name.now c.args.wanted.now c.args.cred.now c.args.now d told.strong free new.ino may record { blocks = c.take-2.new.self; inodes = c.take.new.self }
    c.args.sets.now.blocks c.args.sets.now.inodes (new.block ∷ []) record { plan = c.make_in_place.new.plan; reply = c.in_ok-reply.reply; freed = c.none_freed.result } told.sets c.take-2.ensures c.take.ensures made.0 made.1
    c.none_freed.ensures.blocks c.none_freed.ensures.inode
