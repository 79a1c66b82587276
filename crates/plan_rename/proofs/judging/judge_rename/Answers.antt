use Rattle.std.proofs.Common.{◌≡◌, true, None, Some, not, sym, ap, subst, ◌∙◌, IfOk}
use Rattle.name_places.specs.Places.{IsNamePlace, IsTakenBy}
use Rattle.files_model.specs.Permission.{is_directory}
use Rattle.stable.specs.Store.{Image}
use Rattle.stable.proofs.Looking.{looks_again}
use Rattle.v7_map.specs.Frame.{frame}
use Rattle.v7_map.specs.Image.{is_inode, inode_at}
use Rattle.v7_map.specs.View.{node_at}
use Rattle.v7_map.specs.Weak.{IsStrong, IsWeak}
use Rattle.v7_sets.specs.Sets.{AreSetsOf}
use Rattle.plan_name.proofs.RemovingJudged.{none_of, no_some, same_inode}
use Rattle.plan_rename.specs.Found.{AreFound, FindsOld, call_of}
use Rattle.plan_rename.specs.Renames.{JudgesRename}
use Rattle.plan_rename.proofs.Finding.{found-by, found-refused, found-kinds, found-absent, found-old, found-live_from, not-taken, taken-some}
use Rattle.plan_rename.proofs.Slotted.{passed-fits}
use Rattle.plan_rename.proofs.judging.judge_rename.Goals as goal

pub returns-in-Some-clause-judged : goal.returns-in-Some-clause-judged
returns-in-Some-clause-judged g c = λ tells strong are found now.
    let image : Image = g.S.Stable.image c.args.store.now in
    let ends = c.args.ends.now in let name = c.args.name.now in let new_name = c.args.new_name.now in
    found-refused image ends name new_name strong found c.args.cred.now now c.in-Some.status
    (found-by image ends name new_name strong found c.kind_of-from_kind.result c.kind_of-to_kind.result (Some c.in-Some.status) c.kind_of-from_kind.ensures c.kind_of-to_kind.ensures c.in-Some.ensures)

pub returns-in_default-clause-judged : goal.returns-in_default-clause-judged
returns-in_default-clause-judged g c = λ tells strong are found now.
    let image : Image = g.S.Stable.image c.args.store.now in
    let ends = c.args.ends.now in let name = c.args.name.now in let new_name = c.args.new_name.now in
    let passed = found-by image ends name new_name strong found c.kind_of-from_kind.result c.kind_of-to_kind.result None c.kind_of-from_kind.ensures c.kind_of-to_kind.ensures c.in-None.ensures in
    let kinds = found-kinds image ends name new_name strong found passed in
    found-absent image ends name new_name strong found passed c.args.cred.now now
    (not-taken image ends.from name (node_at image ends.from.ino) c.in_ok-slot.field-0 c.in_default.not-Taken
    (c.in_ok-slot.ensures.place tells strong found.from (node_at image ends.from.ino) (found-live_from image ends name new_name strong found passed) kinds.0))

pub returns-clause-judged : goal.returns-clause-judged
returns-clause-judged g c = λ tells strong are found now.
    let S = g.S.Stable in
    let image : Image = S.image c.args.store.now in
    let ends = c.args.ends.now in let name = c.args.name.now in let new_name = c.args.new_name.now in let sets = c.args.sets.now in
    let passed = found-by image ends name new_name strong found c.kind_of-from_kind.result c.kind_of-to_kind.result None c.kind_of-from_kind.ensures c.kind_of-to_kind.ensures c.in-None.ensures in
    let kinds = found-kinds image ends name new_name strong found passed in
    let slot = c.in-Taken.slot in
    let taken : IsTakenBy image ends.from.ino name (node_at image ends.from.ino) slot = subst (IsNamePlace image ends.from name (node_at image ends.from.ino)) c.in-Taken.is
    (c.in_ok-slot.ensures.place tells strong found.from (node_at image ends.from.ino) (found-live_from image ends name new_name strong found passed) kinds.0) in
    let first : S.image c.find_place.new.store ≡ image = c.in_ok-slot.ensures.looked.image in
    let second : S.image c.read_inode.new.store ≡ image = c.in_ok-inode.ensures.looked.image ∙ first in
    let read : c.in-Some-2.inode ≡ inode_at image slot.ino = same_inode (sym c.in-Some-2.is ∙ c.in_ok-inode.ensures.inode tells (subst (λ (m : Image). IsWeak (frame m)) (sym first) strong.weak) (subst (λ (m : Image). is_inode m slot.ino ≡ true) (sym first) taken.inode)
    ∙ ap (λ (m : Image). Some (inode_at m slot.ino)) first) in
    let old = found-old image ends name new_name strong found passed slot c.in-Some-2.inode taken read in
    subst (λ (m : Image). IfOk c.judge_found.result (JudgesRename m (call_of ends name new_name c.args.cred.now) now)) second
    (c.judge_found.ensures.judged tells name (subst (λ (m : Image). IsStrong (frame m)) (sym second) strong) (subst (λ (m : Image). AreSetsOf m sets.blocks sets.inodes) (sym second) are)
    (subst (λ (m : Image). AreFound m ends) (sym second) found) (subst (λ (m : Image). FindsOld m ends name new_name record { slot = slot; inode = c.in-Some-2.inode }) (sym second) old) now)

pub returns-then-slot-eq0-clause-judged : goal.returns-then-slot-eq0-clause-judged
returns-then-slot-eq0-clause-judged g c = λ tells strong are found now.
    let image : Image = g.S.Stable.image c.args.store.now in
    let ends = c.args.ends.now in let name = c.args.name.now in let new_name = c.args.new_name.now in
    let passed = found-by image ends name new_name strong found c.kind_of-from_kind.result c.kind_of-to_kind.result None c.kind_of-from_kind.ensures c.kind_of-to_kind.ensures c.in-None.ensures in
    let kinds = found-kinds image ends name new_name strong found passed in
    let taken : IsTakenBy image ends.from.ino name (node_at image ends.from.ino) c.in-Taken.slot = subst (IsNamePlace image ends.from name (node_at image ends.from.ino)) c.in-Taken.is
    (c.in_ok-slot.ensures.place tells strong found.from (node_at image ends.from.ino) (found-live_from image ends name new_name strong found passed) kinds.0) in
    absurd (taken-some image ends.from.ino name (node_at image ends.from.ino) c.in-Taken.slot strong taken c.if-slot-eq0.true)

pub returns-in_default-2-clause-judged : goal.returns-in_default-2-clause-judged
returns-in_default-2-clause-judged g c = λ tells strong are found now.
    let image : Image = g.S.Stable.image c.args.store.now in
    let ends = c.args.ends.now in let name = c.args.name.now in let new_name = c.args.new_name.now in
    let passed = found-by image ends name new_name strong found c.kind_of-from_kind.result c.kind_of-to_kind.result None c.kind_of-from_kind.ensures c.kind_of-to_kind.ensures c.in-None.ensures in
    let kinds = found-kinds image ends name new_name strong found passed in
    let taken : IsTakenBy image ends.from.ino name (node_at image ends.from.ino) c.in-Taken.slot = subst (IsNamePlace image ends.from name (node_at image ends.from.ino)) c.in-Taken.is
    (c.in_ok-slot.ensures.place tells strong found.from (node_at image ends.from.ino) (found-live_from image ends name new_name strong found passed) kinds.0) in
    let first = c.in_ok-slot.ensures.looked.image in
    absurd (no_some (sym (none_of c.in_ok-inode.field-0 c.in_default-2.not-Some) ∙ c.in_ok-inode.ensures.inode tells (subst (λ (m : Image). IsWeak (frame m)) (sym first) strong.weak)
    (subst (λ (m : Image). is_inode m c.in-Taken.slot.ino ≡ true) (sym first) taken.inode)))

pub judge_found-requires-clause-named : goal.judge_found-requires-clause-named
judge_found-requires-clause-named g c = passed-fits c.args.ends.now.from_found.read_only (not (is_directory c.kind_of-from_kind.result)) (not (is_directory c.kind_of-to_kind.result)) c.args.name.now c.args.new_name.now (sym c.in-None.ensures)

pub returns-clause-looked : goal.returns-clause-looked
returns-clause-looked g c =
    let S = g.S.Stable in
    looks_again S g.met.S.Stable.clocked (looks_again S g.met.S.Stable.clocked c.in_ok-slot.ensures.looked c.in_ok-inode.ensures.looked) c.judge_found.ensures.looked
