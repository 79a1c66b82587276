use Rattle.std.proofs.Common.{◌≡◌, ℕ, List, ◌++◌, sym, ap, subst, ◌∙◌, refl, Some, OnOk}
use Rattle.files_model.specs.declared.call.Call.TheVariants.{Symlink}
use Rattle.stable.specs.Store.{Image}
use Rattle.v7_map.specs.Frame.{frame}
use Rattle.v7_map.specs.Weak.{IsStrong}
use Rattle.plan_name.specs.Creating.{IsPlannedMaking, LaysOut}
use Rattle.plan_name.specs.declared.creating_puts.Entry.{Entry}
use Rattle.plan_symlink.specs.Making.{MakesLink}
use Rattle.plan_symlink.specs.TextBlocks.{text_list}
use Rattle.plan_symlink.proofs.LinkMade.{link-inode, link-fresh, link-makes}
use Rattle.plan_symlink.proofs.making.make_at_end.Goals as goal

pub returns-clause-planned : goal.returns-clause-planned
returns-clause-planned g c = λ tells strong d target new may next.
    let S = g.S.Stable in
    let image : Image = S.image c.args.store.now in
    let spot = c.args.spot.now in
    let dir = spot.directory in
    let held : List ℕ = text_list c.args.held.now in
    let same : S.image c.next_inode.new.store ≡ image = c.in_ok-inode.ensures.looked.image in
    let made = c.in_ok-inode.ensures.made tells (link-inode image dir c.args.name.now c.args.text.now c.args.wanted.now c.args.cred.now c.args.now d c.args.ino strong may.symlink)
    (link-fresh image dir c.args.name.now c.args.text.now c.args.wanted.now c.args.cred.now c.args.now d c.args.ino strong may.symlink) in
    let entry : Entry = record { directory = dir.ino; index = spot.index; sector = spot.sector; slot = c.slot_of.result } in
    let slot = c.slot_of.ensures ∙ ap (λ (n : List ℕ). Some (c.args.ino, n)) c.bytes.ensures.bytes in
    let makes : MakesLink image dir c.args.name.now c.args.text.now c.args.wanted.now c.args.cred.now c.args.now d c.args.ino held c.in_ok-inode.inode entry =
    link-makes image dir c.args.name.now c.args.text.now c.args.wanted.now c.args.cred.now c.args.now d c.args.ino strong may.symlink held c.in_ok-inode.inode entry may made refl next.place slot in
    subst (λ (z : Image). OnOk c.add_at_end.result (IsPlannedMaking z (Symlink dir c.args.name.now c.args.text.now c.args.wanted.now, c.args.cred.now) c.args.now c.args.ino (held ++ new) c.add_at_end.new.plan.puts)) same
    (c.add_at_end.ensures.planned tells (subst (λ (z : Image). IsStrong (frame z)) (sym same) strong) dir c.args.name.now c.args.wanted.now c.args.cred.now d target new
    (subst (λ (z : Image). MakesLink z dir c.args.name.now c.args.text.now c.args.wanted.now c.args.cred.now c.args.now d c.args.ino held c.in_ok-inode.inode entry) (sym same) makes)
    next.end (subst (λ (z : Image). LaysOut z entry c.args.longer.now target new) (sym same) (next.lays c.slot_of.result)) next.others)
