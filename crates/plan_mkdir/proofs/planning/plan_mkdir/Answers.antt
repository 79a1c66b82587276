use Rattle.std.proofs.Common.{◌≡◌, ℕ, List, None, Some, true, false, sym, ap, subst, ◌∙◌, refl, IfOk}
use Rattle.files_model.specs.declared.call.Call.TheVariants.{Mkdir}
use Rattle.files_model.specs.declared.reply.Reply.TheVariants as reply
use Rattle.files_model.specs.declared.reply.Stat.TheVariants as stat
use Rattle.files_model.specs.Answers.{attr_of}
use Rattle.files_model.specs.Files.{Node}
use Rattle.files_model.specs.Names.{place_for}
use Rattle.stable.specs.Store.{Image}
use Rattle.v7_map.specs.Image.{inode_at}
use Rattle.v7_map.specs.View.{view, node_at}
use Rattle.v7_read.specs.Found.{Finds, IsFile}
use Rattle.v7_strokes.specs.Entries.{entry_sector}
use Rattle.name_places.specs.Places.{IsNamePlace}
use Rattle.plan_name.specs.Judging.{IsTold}
use Rattle.plan_name.specs.Planned.{IsPlannedCall}
use Rattle.plan_name.specs.declared.planned.Planned.{Planned}
use Rattle.plan_name.proofs.FoundDirectory.{found-live}
use Rattle.plan_name.proofs.PlannedCall.{unchanged-call}
use Rattle.plan_name.proofs.RemovingJudged.{none_of}
use Rattle.plan_mkdir.specs.Free.{IsFreeName}
use Rattle.plan_mkdir.proofs.MkdirPlanned.{mkdir-stale, mkdir-tests, mkdir-refused, mkdir-exists, mkdir-kind, mkdir-free, told-inside, told-end, place-same}
use Rattle.plan_mkdir.proofs.planning.plan_mkdir.Goals as goal

pub returns-in_default-clause-planned : goal.returns-in_default-clause-planned
returns-in_default-clause-planned g c = λ tells strong are.
    let image : Image = g.S.Stable.image c.args.store.now in
    let said = c.refused.ensures in
    unchanged-call image (Mkdir c.args.dir c.args.name.now c.args.wanted.now, c.args.cred.now) c.args.now c.args.sets.now c.refused.result (reply.Refused stat.Stale) strong are
    (mkdir-stale image c.args.dir c.args.name.now c.args.wanted.now c.args.cred.now c.args.now strong (subst (Finds image c.args.dir) (none_of c.in_ok-found.found c.in_default.not-Some) (c.in_ok-found.ensures.found tells strong)))
    said.plan said.reply said.blocks said.inode

pub returns-in-Some-place_refusal-clause-planned : goal.returns-in-Some-place_refusal-clause-planned
returns-in-Some-place_refusal-clause-planned g c = λ tells strong are.
    let image : Image = g.S.Stable.image c.args.store.now in
    let dir = c.args.dir in
    let name = c.args.name.now in
    let said = c.refused-in-Some-place_refusal.ensures in
    let is : IsFile image dir c.in-Some.found = subst (Finds image dir) c.in-Some.is (c.in_ok-found.ensures.found tells strong) in
    unchanged-call image (Mkdir dir name c.args.wanted.now, c.args.cred.now) c.args.now c.args.sets.now c.refused-in-Some-place_refusal.result (reply.Refused c.in-Some-place_refusal.status) strong are
    (mkdir-refused image dir name c.in-Some.found strong is c.args.wanted.now c.args.cred.now c.args.now c.in-Some-place_refusal.status
    (mkdir-tests image dir name c.in-Some.found strong is c.attributes_of-parent.result c.attributes_of-parent.ensures (Some c.in-Some-place_refusal.status) c.in-Some-place_refusal.ensures))
    said.plan said.reply said.blocks said.inode

pub returns-in-Taken-clause-planned : goal.returns-in-Taken-clause-planned
returns-in-Taken-clause-planned g c = λ tells strong are.
    let S = g.S.Stable in
    let image : Image = S.image c.args.store.now in
    let dir = c.args.dir in let name = c.args.name.now in
    let d : Node = node_at image dir.ino in
    let said = c.refused-in-Taken.ensures in
    let is : IsFile image dir c.in-Some.found = subst (Finds image dir) c.in-Some.is (c.in_ok-found.ensures.found tells strong) in
    let at = found-live image dir c.in-Some.found strong is in
    let passed = mkdir-tests image dir name c.in-Some.found strong is c.attributes_of-parent.result c.attributes_of-parent.ensures None c.in-None.ensures in
    let kind = mkdir-kind image dir name c.in-Some.found strong is passed in
    let place : IsNamePlace image dir name d c.in_ok-place.place = place-same image (S.image c.find.new.store) c.in_ok-found.ensures.looked.image dir name c.in-Some.found d c.in_ok-place.place
    (λ strong' is' at'. c.in_ok-place.ensures.place tells strong' is' d at' kind) strong is at in
    let taken = subst (IsNamePlace image dir name d) c.in-Taken.is place in
    unchanged-call image (Mkdir dir name c.args.wanted.now, c.args.cred.now) c.args.now c.args.sets.now c.refused-in-Taken.result (reply.Refused stat.Exist) strong are
    (mkdir-exists image dir name c.in-Some.found strong is c.args.wanted.now c.args.cred.now c.args.now passed c.in-Taken._slot.slot taken.first)
    said.plan said.reply said.blocks said.inode

pub returns-in-Empty-clause-planned : goal.returns-in-Empty-clause-planned
returns-in-Empty-clause-planned g c = λ tells strong are.
    let S = g.S.Stable in
    let image : Image = S.image c.args.store.now in
    let dir = c.args.dir in let name = c.args.name.now in
    let d : Node = node_at image dir.ino in
    let is : IsFile image dir c.in-Some.found = subst (Finds image dir) c.in-Some.is (c.in_ok-found.ensures.found tells strong) in
    let at = found-live image dir c.in-Some.found strong is in
    let passed = mkdir-tests image dir name c.in-Some.found strong is c.attributes_of-parent.result c.attributes_of-parent.ensures None c.in-None.ensures in
    let kind = mkdir-kind image dir name c.in-Some.found strong is passed in
    let place : IsNamePlace image dir name d c.in_ok-place.place = place-same image (S.image c.find.new.store) c.in_ok-found.ensures.looked.image dir name c.in-Some.found d c.in_ok-place.place
    (λ strong' is' at'. c.in_ok-place.ensures.place tells strong' is' d at' kind) strong is at in
    let empty = subst (IsNamePlace image dir name d) c.in-Empty.is place in
    let same : S.image c.find_place.new.store ≡ image = c.in_ok-place.ensures.looked.image ∙ c.in_ok-found.ensures.looked.image in
    subst (λ (z : Image). IsTold z dir.ino d c.attributes_of-parent.result false c.args.sets.now.blocks c.args.sets.now.inodes → IsFreeName (view z) dir name d → c.in-Empty.empty.index ≡ place_for d.slots → c.in-Empty.empty.sector ≡ entry_sector z dir.ino c.in-Empty.empty.index
    → IfOk c.plan_in_place.result (λ (r : Planned). IsPlannedCall z (Mkdir dir name c.args.wanted.now, c.args.cred.now) c.args.now c.plan_in_place.new.sets r)) same
    (c.plan_in_place.ensures.planned tells d)
    (told-inside image dir name c.in-Some.found strong is passed c.attributes_of-parent.result c.args.sets.now.blocks c.args.sets.now.inodes are c.attributes_of-parent.ensures empty.inside)
    (mkdir-free image dir name c.in-Some.found strong is passed empty.absent)
    empty.place empty.sector

pub returns-in-End-clause-planned : goal.returns-in-End-clause-planned
returns-in-End-clause-planned g c = λ tells strong are.
    let S = g.S.Stable in
    let image : Image = S.image c.args.store.now in
    let dir = c.args.dir in let name = c.args.name.now in
    let d : Node = node_at image dir.ino in
    let is : IsFile image dir c.in-Some.found = subst (Finds image dir) c.in-Some.is (c.in_ok-found.ensures.found tells strong) in
    let at = found-live image dir c.in-Some.found strong is in
    let passed = mkdir-tests image dir name c.in-Some.found strong is c.attributes_of-parent.result c.attributes_of-parent.ensures None c.in-None.ensures in
    let kind = mkdir-kind image dir name c.in-Some.found strong is passed in
    let place : IsNamePlace image dir name d c.in_ok-place.place = place-same image (S.image c.find.new.store) c.in_ok-found.ensures.looked.image dir name c.in-Some.found d c.in_ok-place.place
    (λ strong' is' at'. c.in_ok-place.ensures.place tells strong' is' d at' kind) strong is at in
    let end = subst (IsNamePlace image dir name d) c.in-End.is place in
    let same : S.image c.find_place.new.store ≡ image = c.in_ok-place.ensures.looked.image ∙ c.in_ok-found.ensures.looked.image in
    subst (λ (z : Image). IsTold z dir.ino d (attr_of dir.ino d) true c.args.sets.now.blocks c.args.sets.now.inodes → c.in-Some.found.inode ≡ inode_at z dir.ino → IsFreeName (view z) dir name d
    → IfOk c.plan_at_end.result (λ (r : Planned). IsPlannedCall z (Mkdir dir name c.args.wanted.now, c.args.cred.now) c.args.now c.plan_at_end.new.sets r)) same
    (c.plan_at_end.ensures.planned tells d)
    (told-end image dir name c.in-Some.found strong is passed c.args.sets.now.blocks c.args.sets.now.inodes are end.full)
    is.inode
    (mkdir-free image dir name c.in-Some.found strong is passed end.absent)
