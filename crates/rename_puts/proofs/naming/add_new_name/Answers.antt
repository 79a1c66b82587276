use Rattle.std.proofs.Common.{◌≡◌, true, [], ◌∷◌, ◌++◌, ap, sym, subst, ◌∙◌, rules}
use Rattle.stable.specs.Puts.{put_all, Reserved}
use Rattle.stable.specs.Store.{Image}
use Rattle.v7_map.specs.Image.{sector_at, is_inode}
use Rattle.v7_strokes.specs.Over.{slot_from}
use Rattle.v7_strokes.specs.Slots.{PutsSlot}
use Rattle.plan_name.specs.Creating.{CanBePut}
use Rattle.rename_puts.specs.Times.{AddsTimes}
use Rattle.rename_puts.proofs.BuiltName.{built-name}
use Rattle.rename_puts.proofs.Numbers.{live-number}
use Rattle.rename_puts.proofs.Steps.{one-put}
use Rattle.rename_puts.proofs.naming.add_new_name.Goals as goal

pub returns-clause-planned : goal.returns-clause-planned
returns-clause-planned g c = λ tells strong call x.
    let S = g.S.Stable in
    let image : Image = S.image c.args.store.now in
    let place = c.args.place.now in
    let same = c.in_ok-_slot.ensures.looked.image in
    let l1 = ap (λ (r : Reserved). r.puts) c.in_ok-_slot.ensures.added ∙ ap (λ l. l ++ (place.sector, c.in_ok-_slot._slot) ∷ []) c.requires.empty in
    let can = subst (CanBePut (S.sector_count c.args.store.now) 1) (sym l1) (one-put (S.sector_count c.args.store.now) place.sector c.in_ok-_slot._slot c.requires.within.past c.requires.within.slot) in
    let inside : is_inode image place.directory ≡ true = subst (λ d. is_inode image d ≡ true) (sym x.directory) (live-number image call.from x.in_directory strong x.naming.live_from) in
    built-name image call c.args.now place c.args.slot.now strong x c.in_ok-_slot._slot
    (subst (λ l. PutsSlot (sector_at (put_all l image) place.sector) place.index c.in_ok-_slot._slot (slot_from c.args.slot.now)) c.requires.empty (c.in_ok-_slot.ensures.put tells))
    c.add_one.new.plan.puts
    (subst (λ (m : Image). AddsTimes m c.args.now (place.directory ∷ []) ((place.sector, c.in_ok-_slot._slot) ∷ []) c.add_one.new.plan.puts) same
    (c.in_ok-add_one.ensures.added tells 1 (subst (λ n. CanBePut n 1 c.add_slot.new.plan.puts) (sym c.in_ok-_slot.ensures.looked.sectors) can)
    (subst (λ (m : Image). is_inode m place.directory ≡ true) (sym same) inside) ((place.sector, c.in_ok-_slot._slot) ∷ []) l1))

pub returns-clause-built : goal.returns-clause-built
returns-clause-built g c = record {
  fits =
      let S = g.S.Stable in
      let place = c.args.place.now in
      let l1 = ap (λ (r : Reserved). r.puts) c.in_ok-_slot.ensures.added ∙ ap (λ l. l ++ (place.sector, c.in_ok-_slot._slot) ∷ []) c.requires.empty in
      let can = subst (CanBePut (S.sector_count c.args.store.now) 1) (sym l1) (one-put (S.sector_count c.args.store.now) place.sector c.in_ok-_slot._slot c.requires.within.past c.requires.within.slot) in
      subst (λ n. CanBePut n 2 c.add_one.new.plan.puts) c.in_ok-_slot.ensures.looked.sectors
      (c.in_ok-add_one.ensures.fits 1 (subst (λ n. CanBePut n 1 c.add_slot.new.plan.puts) (sym c.in_ok-_slot.ensures.looked.sectors) can));
  room = search rules;
  cause = search rules;
  looked = search rules;
}
