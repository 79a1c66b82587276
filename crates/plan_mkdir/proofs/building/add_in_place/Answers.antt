use Rattle.std.proofs.Common.{◌++◌, [], ◌∷◌, ap, sym, ◌∙◌, subst, rules}
use Rattle.stable.specs.Puts.{with_put, Reserved}
use Rattle.v7_map.specs.Image.{inode_sector}
use Rattle.plan_name.specs.Creating.{CanBePut}
use Rattle.plan_mkdir.proofs.BuiltInPlace.{built-in_place}
use Rattle.plan_mkdir.proofs.Fitting.{fits-in_place}
use Rattle.plan_mkdir.proofs.building.add_in_place.Goals as goal

pub returns-clause-planned : goal.returns-clause-planned
returns-clause-planned g c = λ tells strong name wanted cred d makes parts inside.
    let S = g.S.Stable in
    let image = S.image c.args.store.now in
    built-in_place image c.args.spot.now c.args.new.now name wanted cred c.args.now d strong makes c.args.inode.now c.args.slot.now parts inside
    c.dots_sector-dots.result c.in_ok-_inode._inode c.in_ok-_slot._slot c.in_ok-_parent._parent c.dots_sector-dots.ensures
    (S.image c.add_inode.new.store) (S.image c.add_slot.new.store) c.in_ok-_inode.ensures.looked.image c.in_ok-_slot.ensures.looked.image
    c.add.new.self.puts c.add_inode.new.plan.puts c.add_slot.new.plan.puts c.add_parent.new.plan.puts
    (ap (λ (r : Reserved). r.puts) c.add.ensures ∙ ap (λ l. l ++ (c.args.new.now.block, c.dots_sector-dots.result) ∷ []) c.requires.plan.0)
    (ap (λ (r : Reserved). r.puts) c.in_ok-_inode.ensures.added) (c.in_ok-_inode.ensures.put tells)
    (ap (λ (r : Reserved). r.puts) c.in_ok-_slot.ensures.added) (c.in_ok-_slot.ensures.put tells)
    (ap (λ (r : Reserved). r.puts) c.in_ok-_parent.ensures.added) (c.in_ok-_parent.ensures.put tells)

pub returns-clause-built : goal.returns-clause-built
returns-clause-built g c = record {
  fits =
      let S = g.S.Stable in
      let l0 = ap (λ (r : Reserved). r.puts) c.add.ensures ∙ ap (λ l. l ++ (c.args.new.now.block, c.dots_sector-dots.result) ∷ []) c.requires.plan.0 in
      let l1 = ap (λ (r : Reserved). r.puts) c.in_ok-_inode.ensures.added ∙ ap (λ l. with_put l (inode_sector c.args.new.now.ino, c.in_ok-_inode._inode)) l0 in
      let l2 = ap (λ (r : Reserved). r.puts) c.in_ok-_slot.ensures.added ∙ ap (λ l. l ++ (c.args.spot.now.sector, c.in_ok-_slot._slot) ∷ []) l1 in
      let l3 = ap (λ (r : Reserved). r.puts) c.in_ok-_parent.ensures.added ∙ ap (λ l. with_put l (inode_sector c.args.spot.now.directory.ino, c.in_ok-_parent._parent)) l2 in
      subst (CanBePut (S.sector_count c.args.store.now) 4) (sym l3) (fits-in_place (S.sector_count c.args.store.now) c.args.new.now c.args.spot.now c.requires.within.0 c.requires.within.1
      c.dots_sector-dots.result c.in_ok-_inode._inode c.in_ok-_slot._slot c.in_ok-_parent._parent);
  room = search rules;
  cause = search rules;
  looked = search rules;
}
