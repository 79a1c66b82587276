use Rattle.std.proofs.Common.{◌≡◌, ◌<◌, ◌+◌, ◌++◌, [], ◌∷◌, cond, get_or, ap, sym, ◌∙◌, subst, true, rules}
use Rattle.files_model.specs.Answers.{zeros}
use Rattle.stable.specs.Puts.{put_all, with_put, Reserved}
use Rattle.v7_map.specs.Image.{is_inode, inode_at, inode_sector}
use Rattle.v7_map.specs.Plan.{PutsInode}
use Rattle.v7_strokes.specs.Inodes.{linked_inode}
use Rattle.v7_strokes.specs.Over.{slot_from}
use Rattle.v7_strokes.specs.Slots.{PutsSlot}
use Rattle.plan_name.specs.Creating.{CanBePut, map_puts}
use Rattle.plan_name.specs.declared.creating_puts.Entry.{Entry}
use Rattle.plan_name.proofs.Fitting.{fits-at_end}
use Rattle.plan_link.specs.Links.{entry_of}
use Rattle.plan_link.proofs.LinkLaid.{built-at_end}
use Rattle.plan_link.proofs.link_puts.add_at_end.Goals as goal

pub returns-clause-planned : goal.returns-clause-planned
returns-clause-planned g c = λ tells strong name cred n d target new links end lay.
    let S = g.S.Stable in
    let image = S.image c.args.store.now in
    let link = c.args.link.now in
    let is = c.entry_of.ensures in
    built-at_end image link name cred c.args.now n d strong links end c.args.longer.now target new lay
    c.in_ok-_node._node c.in_ok-_slot._slot c.in_ok-_longer._longer (S.image c.add_linked.new.store) (S.image c.add_new_slot.new.store) c.in_ok-_node.ensures.looked.image c.in_ok-_slot.ensures.looked.image
    c.add_linked.new.plan.puts c.add_new_slot.new.plan.puts c.add_map.new.plan.puts c.add_longer.new.plan.puts
    (ap (λ (r : Reserved). r.puts) c.in_ok-_node.ensures.added ∙ ap (λ l. with_put l (inode_sector link.file.ino, c.in_ok-_node._node)) c.requires.empty)
    (subst (λ l. is_inode (put_all l image) link.file.ino ≡ true → (inode_at (put_all l image) link.file.ino).nlink + 1 < 65536 → PutsInode (put_all l image) link.file.ino c.in_ok-_node._node (linked_inode (inode_at (put_all l image) link.file.ino) c.args.now)) c.requires.empty (c.in_ok-_node.ensures.put tells))
    (ap (λ (r : Reserved). r.puts) c.in_ok-_slot.ensures.added ∙ ap (λ (e : Entry). c.add_linked.new.plan.puts ++ (e.sector, c.in_ok-_slot._slot) ∷ []) is)
    (subst (λ (e : Entry). PutsSlot (cond c.args.longer.now.fresh zeros (get_or (put_all c.add_linked.new.plan.puts (S.image c.add_linked.new.store)) e.sector [])) e.index c.in_ok-_slot._slot (slot_from e.slot)) is (c.in_ok-_slot.ensures.put tells))
    (ap (λ (r : Reserved). r.puts) c.add_map.ensures)
    (ap (λ (r : Reserved). r.puts) c.in_ok-_longer.ensures.added) (c.in_ok-_longer.ensures.put tells)

pub returns-clause-built : goal.returns-clause-built
returns-clause-built g c = record {
  fits =
      let S = g.S.Stable in let longer = c.args.longer.now in
      let link = c.args.link.now in
      let is = c.entry_of.ensures in
      let l1 = ap (λ (r : Reserved). r.puts) c.in_ok-_node.ensures.added ∙ ap (λ l. with_put l (inode_sector link.file.ino, c.in_ok-_node._node)) c.requires.empty in
      let l2 = ap (λ (r : Reserved). r.puts) c.in_ok-_slot.ensures.added ∙ ap (λ (e : Entry). c.add_linked.new.plan.puts ++ (e.sector, c.in_ok-_slot._slot) ∷ []) is ∙ ap (λ l. l ++ (link.spot.sector, c.in_ok-_slot._slot) ∷ []) l1 in
      let l3 = ap (λ (r : Reserved). r.puts) c.add_map.ensures ∙ ap (λ l. l ++ map_puts longer.map) l2 in
      let l4 = ap (λ (r : Reserved). r.puts) c.in_ok-_longer.ensures.added ∙ ap (λ l. with_put l (inode_sector link.spot.directory.ino, c.in_ok-_longer._longer)) l3 in
      subst (CanBePut (S.sector_count c.args.store.now) 4) (sym l4) (fits-at_end (S.sector_count c.args.store.now) link.file.ino (entry_of link) c.requires.within.0 c.in_ok-_node._node c.in_ok-_slot._slot c.in_ok-_longer._longer longer c.requires.within.1);
  room = search rules;
  cause = search rules;
  looked = search rules;
}
