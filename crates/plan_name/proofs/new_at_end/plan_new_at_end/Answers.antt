use Rattle.std.proofs.Common.{◌≡◌, ℕ, ◌/◌, List, [], sym, ap, subst, ◌∙◌, refl, Option, IsSomeAnd, rules}
use Rattle.files_model.specs.declared.call.Call.TheVariants.{Create}
use Rattle.files_model.specs.Names.{new_file}
use Rattle.stable.specs.Store.{Image}
use Rattle.v7_map.specs.Frame.{frame}
use Rattle.v7_map.specs.Weak.{IsStrong}
use Rattle.v7_map.proofs.Whole.{as_long}
use Rattle.plan_name.specs.Creating.{FitsAtEnd, IsPlannedMaking, made_answer}
use Rattle.plan_name.specs.LayingOut.{LaysLonger, new_list}
use Rattle.plan_name.specs.declared.laying_out.Laid.{Laid}
use Rattle.plan_name.proofs.NewAtEnd.{told-by, may-grow, fits-end}
use Rattle.plan_name.proofs.NewInPlace.{new-refused, new-number, new-planned}
use Rattle.plan_name.proofs.PlannedCall.{taken-from}
use Rattle.plan_name.proofs.new_at_end.plan_new_at_end.Goals as goal

pub returns-in-Err-clause-planned : goal.returns-in-Err-clause-planned
returns-in-Err-clause-planned g c = λ tells d told is free.
    let S = g.S.Stable in
    let image : Image = S.image c.args.store.now in
    let dir = c.args.directory in
    let told' = told-by image dir d c.args.inode.now c.args.sets.now.blocks c.args.sets.now.inodes told is c.attributes_of-attr.result c.attributes_of-attr.ensures in
    let said = c.refused.ensures in
    new-refused image dir c.args.name.now c.args.wanted.now c.args.cred.now c.args.now d told.strong free c.in-Err.status c.args.sets.now c.refused.result (c.in-Err.ensures image dir.ino d c.args.name.now c.args.now told') told.sets
    said.plan said.reply said.blocks said.inode

pub returns-then-not-can_be_number-clause-planned : goal.returns-then-not-can_be_number-clause-planned
unfolding frame
returns-then-not-can_be_number-clause-planned g c = λ tells d told is free.
    let S = g.S.Stable in
    let image : Image = S.image c.args.store.now in
    let dir = c.args.directory in
    let told' = told-by image dir d c.args.inode.now c.args.sets.now.blocks c.args.sets.now.inodes told is c.attributes_of-attr.result c.attributes_of-attr.ensures in
    let long = (as_long S.sector_count g.met.S.Stable.clocked g.met.S.Stable.shape c.args.store.now tells).size in
    absurd (c.if-not-can_be_number.ensures.no refl (new-number image dir c.args.name.now c.args.wanted.now c.args.cred.now c.args.now d told.strong free c.in-Ok.number
    (c.in-Ok.ensures image dir.ino d c.args.name.now c.args.now told') c.sectors.result (long ∙ sym c.sectors.ensures)))

pub returns-in_default-clause-planned : goal.returns-in_default-clause-planned
returns-in_default-clause-planned g c = λ tells d told is free.
    let S = g.S.Stable in
    let image : Image = S.image c.args.store.now in
    let dir = c.args.directory in
    let told' = told-by image dir d c.args.inode.now c.args.sets.now.blocks c.args.sets.now.inodes told is c.attributes_of-attr.result c.attributes_of-attr.ensures in
    let may = c.in-Ok.ensures image dir.ino d c.args.name.now c.args.now told' in
    let grow = may-grow image dir d c.args.inode.now c.args.sets.now.blocks c.args.sets.now.inodes told is c.args.name.now c.args.wanted.now c.args.cred.now c.args.now free c.in-Ok.number may in
    absurd (subst (λ (o : Option Laid). IsSomeAnd o (LaysLonger image dir.ino (c.args.inode.now.size / 16))) c.in_default.is (c.in_ok-laid.ensures.lays tells dir.ino c.args.sets.now.inodes grow))

pub returns-clause-planned : goal.returns-clause-planned
returns-clause-planned g c = λ tells d told is free.
    let S = g.S.Stable in
    let image : Image = S.image c.args.store.now in
    let dir = c.args.directory in
    let told' = told-by image dir d c.args.inode.now c.args.sets.now.blocks c.args.sets.now.inodes told is c.attributes_of-attr.result c.attributes_of-attr.ensures in
    let may = c.in-Ok.ensures image dir.ino d c.args.name.now c.args.now told' in
    let grow = may-grow image dir d c.args.inode.now c.args.sets.now.blocks c.args.sets.now.inodes told is c.args.name.now c.args.wanted.now c.args.cred.now c.args.now free c.in-Ok.number may in
    let lays : LaysLonger image dir.ino (c.args.inode.now.size / 16) c.in-Some.laid = subst (λ (o : Option Laid). IsSomeAnd o (LaysLonger image dir.ino (c.args.inode.now.size / 16))) c.in-Some.is (c.in_ok-laid.ensures.lays tells dir.ino c.args.sets.now.inodes grow) in
    let fits = fits-end image dir d c.args.inode.now c.args.sets.now.blocks c.args.sets.now.inodes told is c.args.name.now c.args.wanted.now c.args.cred.now c.args.now free c.in-Ok.number may c.in-Some.laid lays in
    let same : S.image c.lay_out.new.store ≡ image = c.in_ok-laid.ensures.looked.image in
    let made = subst (λ (z : Image). FitsAtEnd z (Create dir c.args.name.now c.args.wanted.now, c.args.cred.now) c.args.now dir.ino c.in-Ok.number (c.args.inode.now.size / 16) c.in-Some.laid.sector c.in-Some.laid.longer c.args.name.now c.args.wanted.now c.args.cred.now d lays.0 (new_list c.in-Some.laid.new)
    → IsPlannedMaking z (Create dir c.args.name.now c.args.wanted.now, c.args.cred.now) c.args.now c.in-Ok.number (new_list c.in-Some.laid.new) c.make_at_end.new.plan.puts
    × (c.in_ok-reply.reply ≡ made_answer z c.in-Ok.number (new_file c.args.wanted.now c.args.cred.now c.args.now))) same
    (c.in_ok-reply.ensures.planned tells (subst (λ (z : Image). IsStrong (frame z)) (sym same) told.strong) (Create dir c.args.name.now c.args.wanted.now, c.args.cred.now) d lays.0 (new_list c.in-Some.laid.new)) fits in
    new-planned image dir c.args.name.now c.args.wanted.now c.args.cred.now c.args.now d told.strong free c.in-Ok.number may record { blocks = c.take_new.new.blocks; inodes = c.take.new.self }
    c.args.sets.now.blocks c.args.sets.now.inodes (new_list c.in-Some.laid.new) record { plan = c.make_at_end.new.plan; reply = c.in_ok-reply.reply; freed = c.none_freed.result } told.sets c.take_new.ensures c.take.ensures made.0 made.1
    c.none_freed.ensures.blocks c.none_freed.ensures.inode

pub returns-clause-takes : goal.returns-clause-takes
returns-clause-takes g c = record { takes = taken-from c.args.sets.now (new_list c.in-Some.laid.new) c.in-Ok.number c.take_new.new.blocks c.take.new.self c.take_new.ensures c.take.ensures; kept = search rules }
