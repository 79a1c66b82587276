use Rattle.std.proofs.Common.{◌≡◌, [], ◌∷◌, ◌++◌, set, None, ap, sym, subst, ◌∙◌, rules}
use Rattle.stable.specs.Puts.{put_all, with_put, Reserved}
use Rattle.stable.specs.Store.{Image}
use Rattle.v7_map.specs.Image.{sector_at}
use Rattle.v7_strokes.specs.Over.{slot_from}
use Rattle.v7_strokes.specs.Slots.{PutsSlot}
use Rattle.v7_strokes.proofs.Merging.{merged-with}
use Rattle.plan_name.specs.Creating.{CanBePut}
use Rattle.rename_puts.proofs.Steps.{one-put, one-more}
use Rattle.rename_puts.proofs.slots.add_moved.Goals as goal

pub returns-clause-moved : goal.returns-clause-moved
returns-clause-moved g c = λ tells.
    let S = g.S.Stable in
    let image : Image = S.image c.args.store.now in
    let moved = c.args.moved.now in
    let same = c.in_ok-_new.ensures.looked.image in
    let b1 = c.in_ok-_new._new in
    let b2 = c.in_ok-_old._old in
    let l1 = ap (λ (r : Reserved). r.puts) c.in_ok-_new.ensures.added ∙ ap (λ l. l ++ (moved.new.sector, b1) ∷ []) c.requires.empty in
    let first : put_all c.add_slot.new.plan.puts (S.image c.add_slot.new.store) ≡ set image moved.new.sector b1 = (λ z. put_all (l1 z) (same z)) in record {
      new_bytes = b1;
      old_bytes = b2;
      new = subst (λ l. PutsSlot (sector_at (put_all l image) moved.new.sector) moved.new.index b1 (slot_from moved.slot)) c.requires.empty (c.in_ok-_new.ensures.put tells);
      old = subst (λ (m : Image). PutsSlot (sector_at m moved.old.sector) moved.old.index b2 None) first (c.in_ok-_old.ensures.put tells);
      all = ap (λ (r : Reserved). r.puts) c.in_ok-_old.ensures.added ∙ ap (λ l. with_put l (moved.old.sector, b2)) l1 ∙ sym (merged-with ((moved.new.sector, b1) ∷ []) (moved.old.sector, b2));
    }

pub returns-clause-built : goal.returns-clause-built
returns-clause-built g c = record {
  fits =
      let S = g.S.Stable in
      let moved = c.args.moved.now in
      let b1 = c.in_ok-_new._new in
      let b2 = c.in_ok-_old._old in
      let within = c.requires.within in
      let l1 = ap (λ (r : Reserved). r.puts) c.in_ok-_new.ensures.added ∙ ap (λ l. l ++ (moved.new.sector, b1) ∷ []) c.requires.empty in
      let l2 = ap (λ (r : Reserved). r.puts) c.in_ok-_old.ensures.added ∙ ap (λ l. with_put l (moved.old.sector, b2)) l1 in
      subst (CanBePut (S.sector_count c.args.store.now) 2) (sym l2)
      (one-more (S.sector_count c.args.store.now) 1 ((moved.new.sector, b1) ∷ []) (moved.old.sector, b2) (one-put (S.sector_count c.args.store.now) moved.new.sector b1 within.new.past within.new.slot) within.old.past within.old.slot);
  room = search rules;
  cause = search rules;
  looked = search rules;
}
