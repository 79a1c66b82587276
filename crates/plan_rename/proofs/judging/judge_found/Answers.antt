use Rattle.std.proofs.Common.{◌≡◌, true, List, sym, subst, IfOk}
use Rattle.name_places.specs.Places.{IsNamePlace, IsTakenBy, PlaceWithin}
use Rattle.stable.specs.Store.{Image}
use Rattle.v7_map.specs.Frame.{frame}
use Rattle.v7_map.specs.View.{node_at}
use Rattle.v7_map.specs.Weak.{IsStrong}
use Rattle.v7_sets.specs.Sets.{AreSetsOf}
use Rattle.plan_rename.specs.Found.{FindsOld, call_of}
use Rattle.plan_rename.specs.Renames.{JudgesRename}
use Rattle.plan_rename.proofs.Told.{told-kinds}
use Rattle.plan_rename.proofs.judging.judge_found.Goals as goal

pub returns-in-Taken-clause-judged : goal.returns-in-Taken-clause-judged
returns-in-Taken-clause-judged g c = λ tells name strong are found x now.
    let S = g.S.Stable in
    let image : Image = S.image c.args.store.now in
    let ends = c.args.ends.now in let old = c.args.old.now in let new_name = c.args.new_name.now in let sets = c.args.sets.now in
    let same : S.image c.find_place.new.store ≡ image = c.in_ok-slot.ensures.looked.image in
    let kinds = told-kinds image ends name new_name old sets.blocks sets.inodes strong are x c.args.cred.now now in
    let taken : IsTakenBy image ends.to.ino new_name (node_at image ends.to.ino) c.in-Taken.slot = subst (IsNamePlace image ends.to new_name (node_at image ends.to.ino)) c.in-Taken.is
    (c.in_ok-slot.ensures.place tells strong found.to (node_at image ends.to.ino) x.live_to kinds.1) in
    subst (λ (m : Image). IfOk c.judge_standing.result (JudgesRename m (call_of ends name new_name c.args.cred.now) now)) same
    (c.judge_standing.ensures.judged tells name (subst (λ (m : Image). IsStrong (frame m)) (sym same) strong) (subst (λ (m : Image). AreSetsOf m sets.blocks sets.inodes) (sym same) are)
    (subst (λ (m : Image). FindsOld m ends name new_name old) (sym same) x) (subst (λ (m : Image). IsTakenBy m ends.to.ino new_name (node_at m ends.to.ino) c.in-Taken.slot) (sym same) taken) now)

pub returns-in-Empty-clause-judged : goal.returns-in-Empty-clause-judged
returns-in-Empty-clause-judged g c = λ tells name strong are found x now.
    let S = g.S.Stable in
    let image : Image = S.image c.args.store.now in
    let ends = c.args.ends.now in let old = c.args.old.now in let new_name = c.args.new_name.now in let sets = c.args.sets.now in
    let kinds = told-kinds image ends name new_name old sets.blocks sets.inodes strong are x c.args.cred.now now in
    c.judge_empty.ensures.judged image name strong are x (subst (IsNamePlace image ends.to new_name (node_at image ends.to.ino)) c.in-Empty.is
    (c.in_ok-slot.ensures.place tells strong found.to (node_at image ends.to.ino) x.live_to kinds.1)) now

pub returns-in-End-clause-judged : goal.returns-in-End-clause-judged
returns-in-End-clause-judged g c = λ tells name strong are found x now.
    let S = g.S.Stable in
    let image : Image = S.image c.args.store.now in
    let ends = c.args.ends.now in let old = c.args.old.now in let new_name = c.args.new_name.now in let sets = c.args.sets.now in
    let kinds = told-kinds image ends name new_name old sets.blocks sets.inodes strong are x c.args.cred.now now in
    c.judge_end.ensures.judged image name strong are x (subst (IsNamePlace image ends.to new_name (node_at image ends.to.ino)) c.in-End.is
    (c.in_ok-slot.ensures.place tells strong found.to (node_at image ends.to.ino) x.live_to kinds.1)) now

pub returns-in-Empty-clause-within : goal.returns-in-Empty-clause-within
returns-in-Empty-clause-within g c =
    let S = g.S.Stable in
    let within = subst (PlaceWithin (S.sector_count c.args.store.now)) c.in-Empty.is c.in_ok-slot.ensures.within in
    c.judge_empty.ensures.within (S.sector_count c.args.store.now) c.requires.ends c.requires.old within.0 within.1

pub returns-in-End-clause-within : goal.returns-in-End-clause-within
returns-in-End-clause-within g c = c.judge_end.ensures.within (g.S.Stable.sector_count c.args.store.now) c.requires.ends c.requires.old
