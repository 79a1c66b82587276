use Rattle.std.proofs.Common.{◌≡◌, ℕ, ◌/◌, ◌∷◌, sym, ap, subst, ◌∙◌, Option, Some, None, IsSomeAnd, IfSome}
use Rattle.files_model.specs.declared.call.Call.TheVariants.{Mkdir}
use Rattle.files_model.specs.NameRows.{new_directory}
use Rattle.index_sets.specs.Free.{IsLowestFrom}
use Rattle.name_plans.specs.Taken.{taken}
use Rattle.stable.specs.Store.{Image}
use Rattle.v7_map.specs.Frame.{frame}
use Rattle.v7_map.specs.View.{view}
use Rattle.v7_map.specs.Weak.{IsStrong}
use Rattle.v7_map.proofs.Whole.{as_long}
use Rattle.v7_strokes.proofs.Directories.{stands-dir}
use Rattle.plan_name.specs.Creating.{IsPlannedMaking, made_answer}
use Rattle.plan_name.specs.LayingOut.{AreLowest, LaysLonger, new_list}
use Rattle.plan_name.specs.declared.laying_out.Laid.{Laid}
use Rattle.plan_name.specs.declared.making.Spot.{Spot}
use Rattle.plan_name.proofs.NewAtEnd.{told-by}
use Rattle.plan_mkdir.specs.Judging.{MayBeMade}
use Rattle.plan_mkdir.specs.Making.{Makes, IsAtEnd}
use Rattle.plan_mkdir.proofs.FreeName.{free-refused, free-making, free-planned, none-left, end-place, end-index, end-room, end-enough, end-grow}
use Rattle.plan_mkdir.proofs.NewBlock.{block-left, block-apart, new-few}
use Rattle.plan_mkdir.proofs.at_end.plan_at_end.Goals as goal

pub returns-in-Err-clause-planned : goal.returns-in-Err-clause-planned
returns-in-Err-clause-planned g c = λ tells d told is free.
    let S = g.S.Stable in
    let image : Image = S.image c.args.store.now in
    let dir = c.args.directory in
    let told' = told-by image dir d c.args.inode.now c.args.sets.now.blocks c.args.sets.now.inodes told is c.attributes_of-attr.result c.attributes_of-attr.ensures in
    let said = c.refused.ensures in
    free-refused image dir c.args.name.now c.args.wanted.now c.args.cred.now c.args.now d told.strong free c.in-Err.status c.args.sets.now c.refused.result (c.in-Err.ensures image dir.ino d c.args.name.now c.args.wanted.now c.args.now told') told.sets
    said.plan said.reply said.blocks said.inode

pub returns-in_default-clause-planned : goal.returns-in_default-clause-planned
returns-in_default-clause-planned g c = λ tells d told is free.
    let S = g.S.Stable in
    let image : Image = S.image c.args.store.now in
    let dir = c.args.directory in
    let told' = told-by image dir d c.args.inode.now c.args.sets.now.blocks c.args.sets.now.inodes told is c.attributes_of-attr.result c.attributes_of-attr.ensures in
    let may = c.in-Ok.ensures image dir.ino d c.args.name.now c.args.wanted.now c.args.now told' in
    let grow = end-grow image dir d c.args.inode.now c.args.sets.now.blocks c.args.sets.now.inodes told is c.args.name.now c.args.wanted.now c.args.cred.now c.args.now c.in-Ok.number may in
    absurd (subst (λ (o : Option Laid). IsSomeAnd o (LaysLonger image dir.ino (c.args.inode.now.size / 16))) c.in_default.is (c.in_ok-laid.ensures.lays tells dir.ino c.args.sets.now.inodes grow))

pub returns-in_default-choose_new-clause-planned : goal.returns-in_default-choose_new-clause-planned
unfolding frame
returns-in_default-choose_new-clause-planned g c = λ tells d told is free.
    let S = g.S.Stable in
    let image : Image = S.image c.args.store.now in
    let dir = c.args.directory in
    let told' = told-by image dir d c.args.inode.now c.args.sets.now.blocks c.args.sets.now.inodes told is c.attributes_of-attr.result c.attributes_of-attr.ensures in
    let may = c.in-Ok.ensures image dir.ino d c.args.name.now c.args.wanted.now c.args.now told' in
    let grow = end-grow image dir d c.args.inode.now c.args.sets.now.blocks c.args.sets.now.inodes told is c.args.name.now c.args.wanted.now c.args.cred.now c.args.now c.in-Ok.number may in
    let lays : LaysLonger image dir.ino (c.args.inode.now.size / 16) c.in-Some.laid = subst (λ (o : Option Laid). IsSomeAnd o (LaysLonger image dir.ino (c.args.inode.now.size / 16))) c.in-Some.is (c.in_ok-laid.ensures.lays tells dir.ino c.args.sets.now.inodes grow) in
    let low : AreLowest c.args.sets.now.blocks c.in-Some.laid = subst (λ (o : Option Laid). IfSome o (AreLowest c.args.sets.now.blocks)) c.in-Some.is c.in_ok-laid.ensures.lowest in
    let long = (as_long S.sector_count g.met.S.Stable.clocked g.met.S.Stable.shape c.args.store.now tells).size in
    let few = new-few image dir.ino c.args.inode.now c.args.sets.now.blocks c.args.sets.now.inodes grow c.in-Some.laid lays low in
    let from = c.past_new-from.ensures few.0 few.1 in
    let none = none-left image dir c.args.name.now c.args.wanted.now c.args.cred.now c.args.now d c.in-Ok.number c.args.sets.now.blocks c.args.sets.now.inodes told.strong told.sets free
    (stands-dir image dir.ino d told.strong.weak told.at told.kind) may c.sectors-sectors.result c.past_new-from.result (long ∙ sym c.in_ok-laid.ensures.looked.sectors ∙ sym c.sectors-sectors.ensures) c.in_default-choose_new.ensures.none in
    absurd (block-left image dir.ino c.args.inode.now c.args.sets.now.blocks c.args.sets.now.inodes grow c.in-Some.laid lays low
    (end-enough image dir d c.args.inode.now c.args.sets.now.blocks c.args.sets.now.inodes told is c.args.name.now c.args.wanted.now c.args.cred.now c.args.now c.in-Ok.number may)
    (subst (λ (n : ℕ). IsLowestFrom c.args.sets.now.blocks n None) from none))

pub returns-clause-planned : goal.returns-clause-planned
returns-clause-planned g c = λ tells d told is free.
    let S = g.S.Stable in
    let image : Image = S.image c.args.store.now in
    let dir = c.args.directory in
    let told' = told-by image dir d c.args.inode.now c.args.sets.now.blocks c.args.sets.now.inodes told is c.attributes_of-attr.result c.attributes_of-attr.ensures in
    let may = c.in-Ok.ensures image dir.ino d c.args.name.now c.args.wanted.now c.args.now told' in
    let grow = end-grow image dir d c.args.inode.now c.args.sets.now.blocks c.args.sets.now.inodes told is c.args.name.now c.args.wanted.now c.args.cred.now c.args.now c.in-Ok.number may in
    let laid = c.in-Some.laid in let new = c.in-Some-choose_new.new in
    let lays : LaysLonger image dir.ino (c.args.inode.now.size / 16) c.in-Some.laid = subst (λ (o : Option Laid). IsSomeAnd o (LaysLonger image dir.ino (c.args.inode.now.size / 16))) c.in-Some.is (c.in_ok-laid.ensures.lays tells dir.ino c.args.sets.now.inodes grow) in
    let low : AreLowest c.args.sets.now.blocks c.in-Some.laid = subst (λ (o : Option Laid). IfSome o (AreLowest c.args.sets.now.blocks)) c.in-Some.is c.in_ok-laid.ensures.lowest in
    let few = new-few image dir.ino c.args.inode.now c.args.sets.now.blocks c.args.sets.now.inodes grow laid lays low in
    let from = c.past_new-from.ensures few.0 few.1 in
    let chosen = c.in-Some-choose_new.ensures.chosen in
    let lowest = subst (λ (n : ℕ). IsLowestFrom c.args.sets.now.blocks n (Some new.block)) from chosen.1 in
    let spot : Spot = record { directory = dir; index = c.args.inode.now.size / 16; sector = laid.sector } in
    let may' = subst (λ (i : ℕ). MayBeMade (view image) dir.ino d c.args.name.now c.args.wanted.now c.args.cred.now c.args.now i) (sym chosen.0) may in
    let makes : Makes image spot new c.args.name.now c.args.wanted.now c.args.cred.now c.args.now d = record {
      making = free-making image dir c.args.name.now c.args.wanted.now c.args.cred.now c.args.now d told.strong free new.ino may';
      free = told.sets.free new.block lowest.1;
      place = end-place image dir d c.args.inode.now c.args.sets.now.blocks c.args.sets.now.inodes told is;
    } in
    let at_end : IsAtEnd image spot new.block laid.longer d lays.0 (new_list laid.new) = record {
      end = end-index image dir d c.args.inode.now c.args.sets.now.blocks c.args.sets.now.inodes told is;
      room = end-room image dir d c.args.inode.now c.args.sets.now.blocks c.args.sets.now.inodes told is c.args.name.now c.args.wanted.now c.args.cred.now c.args.now c.in-Ok.number may;
      lays = lays.1;
      apart = block-apart image dir.ino c.args.inode.now c.args.sets.now.blocks c.args.sets.now.inodes grow laid lays low new.block lowest;
    } in
    let same : S.image c.lay_out.new.store ≡ image = c.in_ok-laid.ensures.looked.image in
    let made = subst (λ (z : Image). Makes z spot new c.args.name.now c.args.wanted.now c.args.cred.now c.args.now d → IsAtEnd z spot new.block laid.longer d lays.0 (new_list laid.new)
    → IsPlannedMaking z (Mkdir dir c.args.name.now c.args.wanted.now, c.args.cred.now) c.args.now new.ino (new.block ∷ new_list laid.new) c.make_at_end.new.plan.puts
    × (c.in_ok-reply.reply ≡ made_answer z new.ino (new_directory c.args.wanted.now c.args.cred.now new.ino dir.ino c.args.now))) same
    (c.in_ok-reply.ensures.planned tells (subst (λ (z : Image). IsStrong (frame z)) (sym same) told.strong) d lays.0 (new_list laid.new)) makes at_end in
    free-planned image dir c.args.name.now c.args.wanted.now c.args.cred.now c.args.now d told.strong free new.ino may' record { blocks = c.take_new.new.blocks; inodes = c.take.new.self }
    c.args.sets.now.blocks c.args.sets.now.inodes (new.block ∷ new_list laid.new) record { plan = c.make_at_end.new.plan; reply = c.in_ok-reply.reply; freed = c.none_freed.result } told.sets
    (c.take_new.ensures ∙ ap (λ b. taken (new_list laid.new) b) c.take-2.ensures) c.take.ensures made.0 made.1 c.none_freed.ensures.blocks c.none_freed.ensures.inode
