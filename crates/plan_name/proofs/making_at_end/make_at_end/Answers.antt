use Rattle.std.proofs.Common.{◌≡◌, ℕ, List, sym, ap, subst, ◌∙◌, refl, Some}
use Rattle.files_model.specs.Names.{new_file}
use Rattle.stable.specs.Store.{Image}
use Rattle.v7_map.specs.Frame.{frame}
use Rattle.v7_map.specs.Weak.{IsStrong}
use Rattle.plan_name.specs.Creating.{Makes, IsPlannedMaking, LaysOut}
use Rattle.plan_name.specs.declared.creating_puts.Entry.{Entry}
use Rattle.plan_name.proofs.Made.{fits-number, fits-makes, fits-answer}
use Rattle.plan_name.proofs.making_at_end.make_at_end.Goals as goal

pub returns-clause-planned : goal.returns-clause-planned
returns-clause-planned g c = λ tells strong asked d target new x.
    let S = g.S.Stable in
    let image : Image = S.image c.args.store.now in
    let spot = c.args.spot.now in
    let same : S.image c.next_inode.new.store ≡ image = c.in_ok-inode.ensures.looked.image in
    let made = c.in_ok-inode.ensures.made tells (fits-number image asked c.args.now spot.directory.ino c.args.ino spot.index c.args.name.now c.args.wanted.now c.args.cred.now d strong x.may) x.may.fresh in
    let entry : Entry = record { directory = spot.directory.ino; index = spot.index; sector = spot.sector; slot = c.slot_of.result } in
    let slot = c.slot_of.ensures ∙ ap (λ (n : List ℕ). Some (c.args.ino, n)) c.bytes.ensures.bytes in
    let makes : Makes image asked c.args.now c.args.ino c.in_ok-inode.inode entry c.args.name.now d (new_file c.args.wanted.now c.args.cred.now c.args.now) =
    fits-makes image asked c.args.now spot.directory.ino c.args.ino spot.index c.args.name.now c.args.wanted.now c.args.cred.now d strong x.may c.in_ok-inode.inode made entry refl refl slot in (
      subst (λ (z : Image). IsPlannedMaking z asked c.args.now c.args.ino new c.add_at_end.new.plan.puts) same
          (c.in_ok-add_at_end.ensures.planned tells (subst (λ (z : Image). IsStrong (frame z)) (sym same) strong) asked c.args.name.now d (new_file c.args.wanted.now c.args.cred.now c.args.now) target new
          (subst (λ (z : Image). Makes z asked c.args.now c.args.ino c.in_ok-inode.inode entry c.args.name.now d (new_file c.args.wanted.now c.args.cred.now c.args.now)) (sym same) makes)
          x.end x.room (subst (λ (z : Image). LaysOut z entry c.args.longer.now target new) (sym same) (x.lays c.slot_of.result))),
      c.handle_reply.ensures
          ∙ fits-answer image asked c.args.now spot.directory.ino c.args.ino spot.index c.args.name.now c.args.wanted.now c.args.cred.now d strong x.may c.in_ok-inode.inode made,
    )
