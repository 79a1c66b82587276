use Rattle.std.proofs.Common.{◌++◌, [], ◌∷◌, ap, sym, ◌∙◌, subst, arith, rules}
use Rattle.stable.specs.Puts.{put_all, with_put, Reserved}
use Rattle.v7_map.specs.Image.{sector_at, inode_sector}
use Rattle.v7_strokes.specs.Over.{slot_from}
use Rattle.v7_strokes.specs.Slots.{PutsSlot}
use Rattle.plan_name.specs.Creating.{CanBePut}
use Rattle.plan_rmdir.proofs.BuiltPuts.{built-parent_first, built-own_first, fits-leaving}
use Rattle.plan_rmdir.proofs.puts.add_leaving.Goals as goal

pub returns-then-leaving-clause-planned : goal.returns-then-leaving-clause-planned
returns-then-leaving-clause-planned g c = λ tells strong dir name cred d n leaves.
    let S = g.S.Stable in
    let image = S.image c.args.store.now in
    let t = c.args.leaving.now in
    built-parent_first image dir name cred c.args.now d n t strong leaves
    c.in_ok-_slot._slot c.in_ok-_parent._parent c.in_ok-_own._own (S.image c.add_slot.new.store) (S.image c.add_left.new.store) c.in_ok-_slot.ensures.looked.image c.in_ok-_parent.ensures.looked.image
    c.add_slot.new.plan.puts c.add_left.new.plan.puts c.add_unlinked.new.plan.puts c.requires.within.past
    (ap (λ (r : Reserved). r.puts) c.in_ok-_slot.ensures.added ∙ ap (λ l. l ++ (t.sector, c.in_ok-_slot._slot) ∷ []) c.requires.empty)
    (subst (PutsSlot (sector_at image t.sector) t.index c.in_ok-_slot._slot) c.empty_slot.ensures
    (subst (λ l. PutsSlot (sector_at (put_all l image) t.sector) t.index c.in_ok-_slot._slot (slot_from c.empty_slot.result)) c.requires.empty (c.in_ok-_slot.ensures.put tells)))
    (ap (λ (r : Reserved). r.puts) c.in_ok-_parent.ensures.added) (c.in_ok-_parent.ensures.put tells)
    (ap (λ (r : Reserved). r.puts) c.in_ok-_own.ensures.added) (c.in_ok-_own.ensures.put tells)

pub returns-clause-planned : goal.returns-clause-planned
returns-clause-planned g c = λ tells strong dir name cred d n leaves.
    let S = g.S.Stable in
    let image = S.image c.args.store.now in
    let t = c.args.leaving.now in
    built-own_first image dir name cred c.args.now d n t strong leaves
    c.in_ok-_slot._slot c.in_ok-_own-2._own c.in_ok-_parent-2._parent (S.image c.add_slot.new.store) (S.image c.add_unlinked-2.new.store) c.in_ok-_slot.ensures.looked.image c.in_ok-_own-2.ensures.looked.image
    c.add_slot.new.plan.puts c.add_unlinked-2.new.plan.puts c.add_left-2.new.plan.puts c.requires.within.past
    (ap (λ (r : Reserved). r.puts) c.in_ok-_slot.ensures.added ∙ ap (λ l. l ++ (t.sector, c.in_ok-_slot._slot) ∷ []) c.requires.empty)
    (subst (PutsSlot (sector_at image t.sector) t.index c.in_ok-_slot._slot) c.empty_slot.ensures
    (subst (λ l. PutsSlot (sector_at (put_all l image) t.sector) t.index c.in_ok-_slot._slot (slot_from c.empty_slot.result)) c.requires.empty (c.in_ok-_slot.ensures.put tells)))
    (ap (λ (r : Reserved). r.puts) c.in_ok-_own-2.ensures.added) (c.in_ok-_own-2.ensures.put tells)
    (ap (λ (r : Reserved). r.puts) c.in_ok-_parent-2.ensures.added) (c.in_ok-_parent-2.ensures.put tells)

pub returns-then-leaving-clause-built : goal.returns-then-leaving-clause-built
returns-then-leaving-clause-built g c = record {
  fits =
      let S = g.S.Stable in
      let t = c.args.leaving.now in
      let l1 = ap (λ (r : Reserved). r.puts) c.in_ok-_slot.ensures.added ∙ ap (λ l. l ++ (t.sector, c.in_ok-_slot._slot) ∷ []) c.requires.empty in
      let l2 = ap (λ (r : Reserved). r.puts) c.in_ok-_parent.ensures.added ∙ ap (λ l. with_put l (inode_sector t.parent, c.in_ok-_parent._parent)) l1 in
      let l3 = ap (λ (r : Reserved). r.puts) c.in_ok-_own.ensures.added ∙ ap (λ l. with_put l (inode_sector t.directory, c.in_ok-_own._own)) l2 in
      subst (CanBePut (S.sector_count c.args.store.now) 3) (sym l3) (fits-leaving (S.sector_count c.args.store.now) t c.requires.within c.in_ok-_slot._slot (inode_sector t.parent, c.in_ok-_parent._parent) (inode_sector t.directory, c.in_ok-_own._own)
      (omega arith) c.requires.within.parent (omega arith) c.requires.within.directory);
  room = search rules;
  cause = search rules;
  looked = search rules;
}

pub returns-clause-built : goal.returns-clause-built
returns-clause-built g c = record {
  fits =
      let S = g.S.Stable in
      let t = c.args.leaving.now in
      let l1 = ap (λ (r : Reserved). r.puts) c.in_ok-_slot.ensures.added ∙ ap (λ l. l ++ (t.sector, c.in_ok-_slot._slot) ∷ []) c.requires.empty in
      let l2 = ap (λ (r : Reserved). r.puts) c.in_ok-_own-2.ensures.added ∙ ap (λ l. with_put l (inode_sector t.directory, c.in_ok-_own-2._own)) l1 in
      let l3 = ap (λ (r : Reserved). r.puts) c.in_ok-_parent-2.ensures.added ∙ ap (λ l. with_put l (inode_sector t.parent, c.in_ok-_parent-2._parent)) l2 in
      subst (CanBePut (S.sector_count c.args.store.now) 3) (sym l3) (fits-leaving (S.sector_count c.args.store.now) t c.requires.within c.in_ok-_slot._slot (inode_sector t.directory, c.in_ok-_own-2._own) (inode_sector t.parent, c.in_ok-_parent-2._parent)
      (omega arith) c.requires.within.directory (omega arith) c.requires.within.parent);
  room = search rules;
  cause = search rules;
  looked = search rules;
}
