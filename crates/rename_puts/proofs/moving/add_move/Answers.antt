use Rattle.std.proofs.Common.{◌≡◌, ◌+◌, ◌<◌, true, [], ◌∷◌, length, ap, sym, subst, rules}
use Rattle.stable.specs.Store.{Image}
use Rattle.v7_map.specs.Image.{is_inode, inode_sector}
use Rattle.plan_name.specs.Creating.{CanBePut}
use Rattle.rename_puts.specs.Times.{AddsTimes, AreInodes, TimedWithin, listed, rising}
use Rattle.rename_puts.proofs.BuiltMove.{built-move}
use Rattle.rename_puts.proofs.Numbers.{live-number}
use Rattle.rename_puts.proofs.Sides.{of-min, of-max}
use Rattle.rename_puts.proofs.moving.add_move.Goals as goal

pub add_timed-requires-clause-within : goal.add_timed-requires-clause-within
add_timed-requires-clause-within g c =
    let S = g.S.Stable in
    let moved = c.args.moved.now in
    let within = c.requires.within in
    subst (λ n. TimedWithin n c.rising-timed.result) (sym c.in_ok-add_moved.ensures.built.looked.sectors)
    (subst (TimedWithin (S.sector_count c.args.store.now)) (sym c.rising-timed.ensures) (
      of-min (λ d. inode_sector d < S.sector_count c.args.store.now) moved.old.directory moved.new.directory within.old.directory within.new.directory,
      of-max (λ d. inode_sector d < S.sector_count c.args.store.now) moved.old.directory moved.new.directory within.old.directory within.new.directory,
    ))

pub returns-clause-planned : goal.returns-clause-planned
returns-clause-planned g c = λ tells strong call x.
    let S = g.S.Stable in
    let image : Image = S.image c.args.store.now in
    let moved = c.args.moved.now in
    let same = c.in_ok-add_moved.ensures.built.looked.image in
    let h = c.in_ok-add_moved.ensures.moved tells in
    let raw = (moved.new.sector, h.new_bytes) ∷ (moved.old.sector, h.old_bytes) ∷ [] in
    let old : is_inode image moved.old.directory ≡ true = subst (λ d. is_inode image d ≡ true) (sym x.stands.old_directory) (live-number image call.from x.old_node strong x.moving.live_from) in
    let new : is_inode image moved.new.directory ≡ true = subst (λ d. is_inode image d ≡ true) (sym x.stands.new_directory) (live-number image call.to x.new_node strong x.moving.live_to) in
    let inside : AreInodes image c.rising-timed.result = subst (AreInodes image) (sym c.rising-timed.ensures) (
      of-min (λ d. is_inode image d ≡ true) moved.old.directory moved.new.directory old new,
      of-max (λ d. is_inode image d ≡ true) moved.old.directory moved.new.directory old new,
    ) in
    built-move image call c.args.now moved strong x c.add_moved.new.plan.puts h c.add_timed.new.plan.puts
    (subst (λ t. AddsTimes image c.args.now (listed t) raw c.add_timed.new.plan.puts) c.rising-timed.ensures
    (subst (λ (m : Image). AddsTimes m c.args.now (listed c.rising-timed.result) raw c.add_timed.new.plan.puts) same
    (c.in_ok-add_timed.ensures.added tells 2 (subst (λ n. CanBePut n 2 c.add_moved.new.plan.puts) (sym c.in_ok-add_moved.ensures.built.looked.sectors) c.in_ok-add_moved.ensures.built.fits)
    (subst (λ (m : Image). AreInodes m c.rising-timed.result) (sym same) inside) raw h.all)))

pub returns-clause-built : goal.returns-clause-built
returns-clause-built g c = record {
  fits =
      let S = g.S.Stable in
      let four : 2 + length (listed c.rising-timed.result) ≡ 4 = ap (λ t. 2 + length (listed t)) c.rising-timed.ensures in
      subst (λ n. CanBePut n 4 c.add_timed.new.plan.puts) c.in_ok-add_moved.ensures.built.looked.sectors
      (subst (λ t. CanBePut (S.sector_count c.add_moved.new.store) t c.add_timed.new.plan.puts) four
      (c.in_ok-add_timed.ensures.fits 2 (subst (λ n. CanBePut n 2 c.add_moved.new.plan.puts) (sym c.in_ok-add_moved.ensures.built.looked.sectors) c.in_ok-add_moved.ensures.built.fits)));
  room = search rules;
  cause = search rules;
  looked = search rules;
}
