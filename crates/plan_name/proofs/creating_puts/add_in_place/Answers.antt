use Rattle.std.proofs.Common.{◌≡◌, ◌++◌, [], ◌∷◌, ap, sym, ◌∙◌, subst, true, rules}
use Rattle.stable.specs.Puts.{put_all, with_put, Reserved}
use Rattle.v7_map.specs.Image.{is_inode, inode_sector}
use Rattle.v7_map.specs.Plan.{PutsInode}
use Rattle.plan_name.specs.Creating.{CanBePut}
use Rattle.plan_name.proofs.Fitting.{fits-in_place}
use Rattle.plan_name.proofs.CreatingBuilt.{built-in_place}
use Rattle.plan_name.proofs.creating_puts.add_in_place.Goals as goal

pub returns-clause-planned : goal.returns-clause-planned
returns-clause-planned g c = λ tells strong asked name d m makes inside stands.
    let S = g.S.Stable in
    let image = S.image c.args.store.now in
    let entry = c.args.entry.now in
    built-in_place image asked c.args.now c.args.ino c.args.inode.now entry name d m strong makes inside stands
    c.in_ok-_inode._inode c.in_ok-_slot._slot c.in_ok-_times._times (S.image c.add_inode.new.store) (S.image c.add_slot.new.store) c.in_ok-_inode.ensures.looked.image c.in_ok-_slot.ensures.looked.image
    c.add_inode.new.plan.puts c.add_slot.new.plan.puts c.add_times.new.plan.puts
    (ap (λ (r : Reserved). r.puts) c.in_ok-_inode.ensures.added ∙ ap (λ l. with_put l (inode_sector c.args.ino, c.in_ok-_inode._inode)) c.requires.empty)
    (subst (λ l. is_inode (put_all l image) c.args.ino ≡ true → PutsInode (put_all l image) c.args.ino c.in_ok-_inode._inode c.args.inode.now) c.requires.empty (c.in_ok-_inode.ensures.put tells))
    (ap (λ (r : Reserved). r.puts) c.in_ok-_slot.ensures.added) (c.in_ok-_slot.ensures.put tells)
    (ap (λ (r : Reserved). r.puts) c.in_ok-_times.ensures.added) (c.in_ok-_times.ensures.put tells)

pub returns-clause-built : goal.returns-clause-built
returns-clause-built g c = record {
  fits =
      let S = g.S.Stable in
      let l1 = ap (λ (r : Reserved). r.puts) c.in_ok-_inode.ensures.added ∙ ap (λ l. with_put l (inode_sector c.args.ino, c.in_ok-_inode._inode)) c.requires.empty in
      let l2 = ap (λ (r : Reserved). r.puts) c.in_ok-_slot.ensures.added ∙ ap (λ l. l ++ (c.args.entry.now.sector, c.in_ok-_slot._slot) ∷ []) l1 in
      let l3 = ap (λ (r : Reserved). r.puts) c.in_ok-_times.ensures.added ∙ ap (λ l. with_put l (inode_sector c.args.entry.now.directory, c.in_ok-_times._times)) l2 in
      subst (CanBePut (S.sector_count c.args.store.now) 3) (sym l3) (fits-in_place (S.sector_count c.args.store.now) c.args.ino c.args.entry.now c.requires.within c.in_ok-_inode._inode c.in_ok-_slot._slot c.in_ok-_times._times);
  room = search rules;
  cause = search rules;
  looked = search rules;
}
