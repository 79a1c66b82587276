use Rattle.std.proofs.Common.{◌≡◌, ◌<◌, ◌+◌, ◌++◌, [], ◌∷◌, ap, sym, ◌∙◌, subst, true, rules}
use Rattle.stable.specs.Puts.{put_all, with_put, Reserved}
use Rattle.v7_map.specs.Image.{is_inode, inode_at, inode_sector}
use Rattle.v7_map.specs.Plan.{PutsInode}
use Rattle.v7_strokes.specs.Inodes.{linked_inode}
use Rattle.plan_name.specs.Creating.{CanBePut}
use Rattle.plan_name.proofs.Fitting.{fits-in_place}
use Rattle.plan_link.specs.Links.{entry_of}
use Rattle.plan_link.proofs.LinkBuilt.{built-in_place}
use Rattle.plan_link.proofs.link_puts.add_in_place.Goals as goal

pub returns-clause-planned : goal.returns-clause-planned
returns-clause-planned g c = λ tells strong name cred n d links inside stands.
    let S = g.S.Stable in
    let image = S.image c.args.store.now in
    let link = c.args.link.now in
    built-in_place image link name cred c.args.now n d strong links inside stands
    c.in_ok-_node._node c.in_ok-_slot._slot c.in_ok-_times._times (S.image c.add_linked.new.store) (S.image c.add_slot.new.store) c.in_ok-_node.ensures.looked.image c.in_ok-_slot.ensures.looked.image
    c.add_linked.new.plan.puts c.add_slot.new.plan.puts c.add_times.new.plan.puts
    (ap (λ (r : Reserved). r.puts) c.in_ok-_node.ensures.added ∙ ap (λ l. with_put l (inode_sector link.file.ino, c.in_ok-_node._node)) c.requires.empty)
    (subst (λ l. is_inode (put_all l image) link.file.ino ≡ true → (inode_at (put_all l image) link.file.ino).nlink + 1 < 65536 → PutsInode (put_all l image) link.file.ino c.in_ok-_node._node (linked_inode (inode_at (put_all l image) link.file.ino) c.args.now)) c.requires.empty (c.in_ok-_node.ensures.put tells))
    (ap (λ (r : Reserved). r.puts) c.in_ok-_slot.ensures.added) (c.in_ok-_slot.ensures.put tells)
    (ap (λ (r : Reserved). r.puts) c.in_ok-_times.ensures.added) (c.in_ok-_times.ensures.put tells)

pub returns-clause-built : goal.returns-clause-built
returns-clause-built g c = record {
  fits =
      let S = g.S.Stable in
      let link = c.args.link.now in
      let l1 = ap (λ (r : Reserved). r.puts) c.in_ok-_node.ensures.added ∙ ap (λ l. with_put l (inode_sector link.file.ino, c.in_ok-_node._node)) c.requires.empty in
      let l2 = ap (λ (r : Reserved). r.puts) c.in_ok-_slot.ensures.added ∙ ap (λ l. l ++ (link.spot.sector, c.in_ok-_slot._slot) ∷ []) l1 in
      let l3 = ap (λ (r : Reserved). r.puts) c.in_ok-_times.ensures.added ∙ ap (λ l. with_put l (inode_sector link.spot.directory.ino, c.in_ok-_times._times)) l2 in
      subst (CanBePut (S.sector_count c.args.store.now) 3) (sym l3) (fits-in_place (S.sector_count c.args.store.now) link.file.ino (entry_of link) c.requires.within c.in_ok-_node._node c.in_ok-_slot._slot c.in_ok-_times._times);
  room = search rules;
  cause = search rules;
  looked = search rules;
}
