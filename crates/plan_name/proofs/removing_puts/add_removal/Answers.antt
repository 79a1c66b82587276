use Rattle.std.proofs.Common.{◌++◌, [], ◌∷◌, ap, sym, ◌∙◌, subst, arith, rules}
use Rattle.stable.specs.Puts.{put_all, with_put, Reserved}
use Rattle.v7_map.specs.Image.{sector_at, inode_sector}
use Rattle.v7_strokes.specs.Over.{slot_from}
use Rattle.v7_strokes.specs.Slots.{PutsSlot}
use Rattle.plan_name.specs.Creating.{CanBePut}
use Rattle.plan_name.proofs.RemovingBuilt.{built-directory_first, built-node_first, fits-removal}
use Rattle.plan_name.proofs.removing_puts.add_removal.Goals as goal

pub returns-then-taking-clause-planned : goal.returns-then-taking-clause-planned
returns-then-taking-clause-planned g c = λ tells strong dir name cred d n takes.
    let S = g.S.Stable in
    let image = S.image c.args.store.now in
    let t = c.args.taking.now in
    built-directory_first image dir name cred c.args.now d n t strong takes
    c.in_ok-_slot._slot c.in_ok-_times._times c.in_ok-_node._node (S.image c.add_slot.new.store) (S.image c.add_times.new.store) c.in_ok-_slot.ensures.looked.image c.in_ok-_times.ensures.looked.image
    c.add_slot.new.plan.puts c.add_times.new.plan.puts c.add_unlinked.new.plan.puts
    (ap (λ (r : Reserved). r.puts) c.in_ok-_slot.ensures.added ∙ ap (λ l. l ++ (t.sector, c.in_ok-_slot._slot) ∷ []) c.requires.empty)
    (subst (PutsSlot (sector_at image t.sector) t.index c.in_ok-_slot._slot) c.empty_slot.ensures
    (subst (λ l. PutsSlot (sector_at (put_all l image) t.sector) t.index c.in_ok-_slot._slot (slot_from c.empty_slot.result)) c.requires.empty (c.in_ok-_slot.ensures.put tells)))
    (ap (λ (r : Reserved). r.puts) c.in_ok-_times.ensures.added) (c.in_ok-_times.ensures.put tells)
    (ap (λ (r : Reserved). r.puts) c.in_ok-_node.ensures.added) (c.in_ok-_node.ensures.put tells)

pub returns-clause-planned : goal.returns-clause-planned
returns-clause-planned g c = λ tells strong dir name cred d n takes.
    let S = g.S.Stable in
    let image = S.image c.args.store.now in
    let t = c.args.taking.now in
    built-node_first image dir name cred c.args.now d n t strong takes
    c.in_ok-_slot._slot c.in_ok-_node-2._node c.in_ok-_times-2._times (S.image c.add_slot.new.store) (S.image c.add_unlinked-2.new.store) c.in_ok-_slot.ensures.looked.image c.in_ok-_node-2.ensures.looked.image
    c.add_slot.new.plan.puts c.add_unlinked-2.new.plan.puts c.add_times-2.new.plan.puts
    (ap (λ (r : Reserved). r.puts) c.in_ok-_slot.ensures.added ∙ ap (λ l. l ++ (t.sector, c.in_ok-_slot._slot) ∷ []) c.requires.empty)
    (subst (PutsSlot (sector_at image t.sector) t.index c.in_ok-_slot._slot) c.empty_slot.ensures
    (subst (λ l. PutsSlot (sector_at (put_all l image) t.sector) t.index c.in_ok-_slot._slot (slot_from c.empty_slot.result)) c.requires.empty (c.in_ok-_slot.ensures.put tells)))
    (ap (λ (r : Reserved). r.puts) c.in_ok-_node-2.ensures.added) (c.in_ok-_node-2.ensures.put tells)
    (ap (λ (r : Reserved). r.puts) c.in_ok-_times-2.ensures.added) (c.in_ok-_times-2.ensures.put tells)

pub returns-then-taking-clause-built : goal.returns-then-taking-clause-built
returns-then-taking-clause-built g c = record {
  fits =
      let S = g.S.Stable in
      let t = c.args.taking.now in
      let l1 = ap (λ (r : Reserved). r.puts) c.in_ok-_slot.ensures.added ∙ ap (λ l. l ++ (t.sector, c.in_ok-_slot._slot) ∷ []) c.requires.empty in
      let l2 = ap (λ (r : Reserved). r.puts) c.in_ok-_times.ensures.added ∙ ap (λ l. with_put l (inode_sector t.directory, c.in_ok-_times._times)) l1 in
      let l3 = ap (λ (r : Reserved). r.puts) c.in_ok-_node.ensures.added ∙ ap (λ l. with_put l (inode_sector t.node, c.in_ok-_node._node)) l2 in
      subst (CanBePut (S.sector_count c.args.store.now) 3) (sym l3) (fits-removal (S.sector_count c.args.store.now) t c.requires.within c.in_ok-_slot._slot (inode_sector t.directory, c.in_ok-_times._times) (inode_sector t.node, c.in_ok-_node._node)
      (omega arith) c.requires.within.directory (omega arith) c.requires.within.node);
  room = search rules;
  cause = search rules;
  looked = search rules;
}

pub returns-clause-built : goal.returns-clause-built
returns-clause-built g c = record {
  fits =
      let S = g.S.Stable in
      let t = c.args.taking.now in
      let l1 = ap (λ (r : Reserved). r.puts) c.in_ok-_slot.ensures.added ∙ ap (λ l. l ++ (t.sector, c.in_ok-_slot._slot) ∷ []) c.requires.empty in
      let l2 = ap (λ (r : Reserved). r.puts) c.in_ok-_node-2.ensures.added ∙ ap (λ l. with_put l (inode_sector t.node, c.in_ok-_node-2._node)) l1 in
      let l3 = ap (λ (r : Reserved). r.puts) c.in_ok-_times-2.ensures.added ∙ ap (λ l. with_put l (inode_sector t.directory, c.in_ok-_times-2._times)) l2 in
      subst (CanBePut (S.sector_count c.args.store.now) 3) (sym l3) (fits-removal (S.sector_count c.args.store.now) t c.requires.within c.in_ok-_slot._slot (inode_sector t.node, c.in_ok-_node-2._node) (inode_sector t.directory, c.in_ok-_times-2._times)
      (omega arith) c.requires.within.node (omega arith) c.requires.within.directory);
  room = search rules;
  cause = search rules;
  looked = search rules;
}
