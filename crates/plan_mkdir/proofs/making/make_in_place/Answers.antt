use Rattle.std.proofs.Common.{◌≡◌, ℕ, List, [], ◌∷◌, sym, ap, subst, ◌∙◌, Some}
use Rattle.files_model.specs.declared.call.Call.TheVariants.{Mkdir}
use Rattle.stable.specs.Store.{Image}
use Rattle.v7_map.specs.Frame.{frame}
use Rattle.v7_map.specs.Weak.{IsStrong}
use Rattle.plan_name.specs.Creating.{IsPlannedMaking}
use Rattle.plan_mkdir.specs.Making.{Makes, HasParts, IsInside}
use Rattle.plan_mkdir.proofs.MadeNew.{new-fresh, new-parts, new-answer}
use Rattle.plan_mkdir.proofs.NewInode.{new-inside}
use Rattle.plan_mkdir.proofs.making.make_in_place.Goals as goal

pub returns-clause-planned : goal.returns-clause-planned
returns-clause-planned g c = λ tells strong d makes inside.
    let S = g.S.Stable in
    let image : Image = S.image c.args.store.now in
    let spot = c.args.spot.now in let new = c.args.new.now in
    let same : S.image c.next_inode.new.store ≡ image = c.in_ok-inode.ensures.looked.image in
    let made = c.in_ok-inode.ensures.made tells (new-inside image spot new c.args.name.now c.args.wanted.now c.args.cred.now c.args.now d strong makes) (new-fresh image spot new c.args.name.now c.args.wanted.now c.args.cred.now c.args.now d strong makes) in
    let slot = c.slot_of-slot.ensures ∙ ap (λ (n : List ℕ). Some (new.ino, n)) c.bytes.ensures.bytes in
    let parts = new-parts image spot new c.args.name.now c.args.wanted.now c.args.cred.now c.args.now d strong makes c.in_ok-inode.inode made c.slot_of-slot.result slot in (
      subst (λ (z : Image). IsPlannedMaking z (Mkdir spot.directory c.args.name.now c.args.wanted.now, c.args.cred.now) c.args.now new.ino (new.block ∷ []) c.add_in_place.new.plan.puts) same
          (c.in_ok-add_in_place.ensures.planned tells (subst (λ (z : Image). IsStrong (frame z)) (sym same) strong) c.args.name.now c.args.wanted.now c.args.cred.now d
          (subst (λ (z : Image). Makes z spot new c.args.name.now c.args.wanted.now c.args.cred.now c.args.now d) (sym same) makes)
          (subst (λ (z : Image). HasParts z spot new c.args.name.now c.args.wanted.now c.args.cred.now c.args.now c.in_ok-inode.inode c.slot_of-slot.result) (sym same) parts)
          (subst (λ (z : Image). IsInside z spot d) (sym same) inside)),
      c.made_reply.ensures ∙ new-answer image spot new c.args.name.now c.args.wanted.now c.args.cred.now c.args.now d strong makes c.in_ok-inode.inode made,
    )
