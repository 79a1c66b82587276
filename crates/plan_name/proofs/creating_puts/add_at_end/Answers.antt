use Rattle.std.proofs.Common.{◌≡◌, ◌++◌, [], ◌∷◌, ap, sym, ◌∙◌, subst, true, rules}
use Rattle.stable.specs.Puts.{put_all, with_put, Reserved}
use Rattle.v7_map.specs.Image.{is_inode, inode_sector}
use Rattle.v7_map.specs.Plan.{PutsInode}
use Rattle.plan_name.specs.Creating.{CanBePut, map_puts}
use Rattle.plan_name.proofs.CreatingLaid.{built-at_end}
use Rattle.plan_name.proofs.Fitting.{fits-at_end}
use Rattle.plan_name.proofs.creating_puts.add_at_end.Goals as goal

pub returns-clause-planned : goal.returns-clause-planned
returns-clause-planned g c = λ tells strong asked name d m target new makes end room lay.
    let S = g.S.Stable in
    let image = S.image c.args.store.now in
    built-at_end image asked c.args.now c.args.ino c.args.inode.now c.args.entry.now name d m strong makes end room c.args.longer.now target new lay
    c.in_ok-_inode._inode c.in_ok-_slot._slot c.in_ok-_longer._longer (S.image c.add_inode.new.store) (S.image c.add_new_slot.new.store) c.in_ok-_inode.ensures.looked.image c.in_ok-_slot.ensures.looked.image
    c.add_inode.new.plan.puts c.add_new_slot.new.plan.puts c.add_map.new.plan.puts c.add_longer.new.plan.puts
    (ap (λ (r : Reserved). r.puts) c.in_ok-_inode.ensures.added ∙ ap (λ l. with_put l (inode_sector c.args.ino, c.in_ok-_inode._inode)) c.requires.empty)
    (subst (λ l. is_inode (put_all l image) c.args.ino ≡ true → PutsInode (put_all l image) c.args.ino c.in_ok-_inode._inode c.args.inode.now) c.requires.empty (c.in_ok-_inode.ensures.put tells))
    (ap (λ (r : Reserved). r.puts) c.in_ok-_slot.ensures.added) (c.in_ok-_slot.ensures.put tells)
    (ap (λ (r : Reserved). r.puts) c.add_map.ensures)
    (ap (λ (r : Reserved). r.puts) c.in_ok-_longer.ensures.added) (c.in_ok-_longer.ensures.put tells)

pub returns-clause-built : goal.returns-clause-built
returns-clause-built g c = record {
  fits =
      let S = g.S.Stable in let longer = c.args.longer.now in
      let l1 = ap (λ (r : Reserved). r.puts) c.in_ok-_inode.ensures.added ∙ ap (λ l. with_put l (inode_sector c.args.ino, c.in_ok-_inode._inode)) c.requires.empty in
      let l2 = ap (λ (r : Reserved). r.puts) c.in_ok-_slot.ensures.added ∙ ap (λ l. l ++ (c.args.entry.now.sector, c.in_ok-_slot._slot) ∷ []) l1 in
      let l3 = ap (λ (r : Reserved). r.puts) c.add_map.ensures ∙ ap (λ l. l ++ map_puts longer.map) l2 in
      let l4 = ap (λ (r : Reserved). r.puts) c.in_ok-_longer.ensures.added ∙ ap (λ l. with_put l (inode_sector c.args.entry.now.directory, c.in_ok-_longer._longer)) l3 in
      subst (CanBePut (S.sector_count c.args.store.now) 4) (sym l4) (fits-at_end (S.sector_count c.args.store.now) c.args.ino c.args.entry.now c.requires.within.0 c.in_ok-_inode._inode c.in_ok-_slot._slot c.in_ok-_longer._longer longer c.requires.within.1);
  room = search rules;
  cause = search rules;
  looked = search rules;
}
