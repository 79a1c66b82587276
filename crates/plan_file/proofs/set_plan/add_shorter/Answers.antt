use Rattle.std.proofs.Common.{arith, ◌≡◌, ℕ, min, [], ◌∷◌, ◌++◌, length, sym, ap, subst, ◌∙◌}
use Rattle.stable.specs.Puts.{Reserved}
use Rattle.stable.specs.Store.{Image}
use Rattle.v7_map.proofs.Whole.{as_long}
use Rattle.plan_file.specs.Places.{ArePlaces}
use Rattle.plan_file.specs.Found.{ReplacesInode}
use Rattle.plan_file.specs.Shorter.{AreCut}
use Rattle.plan_file.proofs.Adding.{fits-none, fits-one, fits-then}
use Rattle.plan_file.proofs.set_plan.add_shorter.Goals as goal

pub returns-clause-added : goal.returns-clause-added
returns-clause-added g c = λ tells.
    let S = g.S.Stable in
    let image : Image = S.image c.args.store.now in
    let long : length image ≡ S.sector_count c.args.store.now = (as_long S.sector_count g.met.S.Stable.clocked g.met.S.Stable.shape c.args.store.now tells).size in
    let left = c.add_left.ensures.added in
    record {
      old = c.in_ok-places.places;
      new = c.cut_places-kept.result;
      places = subst (λ (n : ℕ). ArePlaces image (min n 1048576) c.args.found.now.inode c.in_ok-places.places) (sym long) (c.in_ok-places.ensures.places tells);
      cut = subst (λ (n : ℕ). AreCut c.in_ok-places.places n c.cut_places-kept.result) c.sectors_of.ensures c.cut_places-kept.ensures;
      direct = c.direct_places-direct.result;
      are_direct = c.direct_places-direct.ensures.direct;
      last = c.sector_with-sector.result;
      replaces = subst (λ n. ReplacesInode c.args.found.now.sector c.args.ino n c.sector_with-sector.result) c.stored_inode-inode.ensures c.sector_with-sector.ensures;
      maps = left.0;
      left = left.2;
      is = left.1 ∙ ap (λ l. l ++ left.0) (ap (λ (p : Reserved). p.puts) c.add.ensures ∙ ap (λ (p : Reserved). p.puts ++ (c.inode_sector_of.result, c.sector_with-sector.result) ∷ []) c.requires.empty ∙ ap (λ s. (s, c.sector_with-sector.result) ∷ []) c.inode_sector_of.ensures);
      dropped = c.dropped.ensures;
    }

pub returns-clause-fits : goal.returns-clause-fits
returns-clause-fits g c =
    let sectors : ℕ = g.S.Stable.sector_count c.args.store.now in
    let place = c.inode_sector_of.ensures in
    let inside = c.requires.place in
    let one = fits-one sectors 0 c.args.plan.now c.args.plan.now c.add.new.self c.inode_sector_of.result c.sector_with-sector.result (fits-none sectors 0 c.args.plan.now) (omega arith) (omega arith) c.add.ensures in
    let left = c.add_left.ensures.fits sectors (λ nz.
    let same : c.cut_places-kept.result.single ≡ c.in_ok-places.places.single = c.cut_places-kept.ensures.same nz in
    let w = c.in_ok-places.ensures.within.single (λ z. nz (same ∙ z)) in let low = w.0 in let high = w.1 in (omega arith, omega arith)) in
    fits-then sectors 1 1 c.args.plan.now c.add.new.self c.add_left.new.plan one left
