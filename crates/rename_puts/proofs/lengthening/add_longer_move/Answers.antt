use Rattle.std.proofs.Common.{◌≡◌, [], ◌∷◌, ◌++◌, cond, get_or, ap, sym, subst, ◌∙◌, arith, rules}
use Rattle.files_model.specs.Answers.{zeros}
use Rattle.stable.specs.Puts.{put_all, with_put, Reserved}
use Rattle.stable.specs.Store.{Image}
use Rattle.v7_map.specs.Image.{inode_sector}
use Rattle.v7_strokes.specs.Over.{slot_from}
use Rattle.v7_strokes.specs.Slots.{PutsSlot}
use Rattle.plan_name.specs.Creating.{CanBePut, map_puts}
use Rattle.rename_puts.proofs.BuiltLonger.{built-longer, fits-longer}
use Rattle.rename_puts.proofs.lengthening.add_longer_move.Goals as goal

pub returns-clause-planned : goal.returns-clause-planned
returns-clause-planned g c = λ tells strong call target new x.
    let S = g.S.Stable in
    let image : Image = S.image c.args.store.now in
    let moved = c.args.moved.now in
    let longer = c.args.longer.now in
    let e1 = c.in_ok-_new.ensures.looked.image in
    let e2 = c.in_ok-_longer.ensures.looked.image ∙ e1 in
    let e3 = c.in_ok-_old.ensures.looked.image ∙ e2 in
    built-longer image call c.args.now moved longer target new strong x
    c.in_ok-_new._new c.in_ok-_longer._longer c.in_ok-_old._old c.in_ok-_times._times
    (S.image c.add_new_slot.new.store) (S.image c.add_longer.new.store) (S.image c.add_emptied.new.store) e1 e2 e3
    c.add_new_slot.new.plan.puts c.add_map.new.plan.puts c.add_longer.new.plan.puts c.add_emptied.new.plan.puts c.add_times.new.plan.puts
    (ap (λ (r : Reserved). r.puts) c.in_ok-_new.ensures.added ∙ ap (λ l. l ++ (moved.new.sector, c.in_ok-_new._new) ∷ []) c.requires.empty)
    (subst (λ l. PutsSlot (cond longer.fresh zeros (get_or (put_all l image) moved.new.sector [])) moved.new.index c.in_ok-_new._new (slot_from moved.slot)) c.requires.empty (c.in_ok-_new.ensures.put tells))
    (ap (λ (r : Reserved). r.puts) c.add_map.ensures)
    (ap (λ (r : Reserved). r.puts) c.in_ok-_longer.ensures.added) (c.in_ok-_longer.ensures.put tells)
    (ap (λ (r : Reserved). r.puts) c.in_ok-_old.ensures.added) (c.in_ok-_old.ensures.put tells)
    (ap (λ (r : Reserved). r.puts) c.in_ok-_times.ensures.added) (c.in_ok-_times.ensures.put tells)
    c.requires.within.old.past

pub returns-clause-built : goal.returns-clause-built
returns-clause-built g c = record {
  fits =
      let S = g.S.Stable in
      let moved = c.args.moved.now in
      let longer = c.args.longer.now in
      let l1 = ap (λ (r : Reserved). r.puts) c.in_ok-_new.ensures.added ∙ ap (λ l. l ++ (moved.new.sector, c.in_ok-_new._new) ∷ []) c.requires.empty in
      let l2 = ap (λ (r : Reserved). r.puts) c.add_map.ensures ∙ ap (λ l. l ++ map_puts longer.map) l1 in
      let l3 = ap (λ (r : Reserved). r.puts) c.in_ok-_longer.ensures.added ∙ ap (λ l. with_put l (inode_sector moved.new.directory, c.in_ok-_longer._longer)) l2 in
      let l4 = ap (λ (r : Reserved). r.puts) c.in_ok-_old.ensures.added ∙ ap (λ l. with_put l (moved.old.sector, c.in_ok-_old._old)) l3 in
      let l5 = ap (λ (r : Reserved). r.puts) c.in_ok-_times.ensures.added ∙ ap (λ l. with_put l (inode_sector moved.old.directory, c.in_ok-_times._times)) l4 in
      subst (CanBePut (S.sector_count c.args.store.now) 5) (sym l5)
      (fits-longer (S.sector_count c.args.store.now) moved longer c.requires.within c.requires.longer.0 c.in_ok-_new._new c.in_ok-_longer._longer c.in_ok-_old._old c.in_ok-_times._times);
  room = search rules;
  cause = search rules;
  looked = search rules;
}
