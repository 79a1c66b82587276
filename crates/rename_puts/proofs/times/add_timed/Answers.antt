use Rattle.std.proofs.Common.{◌≡◌, ℕ, ◌+◌, ◌≤◌, true, List, ◌++◌, length, length-append, IfSome, sym, subst, arith}
use Rattle.stable.specs.Store.{Image}
use Rattle.v7_map.specs.Image.{is_inode}
use Rattle.v7_strokes.specs.Last.{inode_puts}
use Rattle.plan_name.specs.Creating.{CanBePut}
use Rattle.plan_name.specs.LayingOut.{one_of}
use Rattle.rename_puts.specs.Times.{AddsTimes, listed}
use Rattle.rename_puts.proofs.Steps.{adds-both, can-equal}
use Rattle.rename_puts.proofs.times.add_timed.Goals as goal

pub returns-clause-added : goal.returns-clause-added
returns-clause-added g c = λ tells most can inside raw is.
    let S = g.S.Stable in
    let image : Image = S.image c.args.store.now in
    let timed = c.args.timed.now in
    let same = c.in_ok-add_one.ensures.looked.image in
    let x = c.in_ok-add_one.ensures.added tells most can inside.0 raw is in
    let y = c.in_ok-add_one-2.ensures.added tells (most + length (one_of timed.first))
    (subst (λ n. CanBePut n (most + length (one_of timed.first)) c.add_one.new.plan.puts) (sym c.in_ok-add_one.ensures.looked.sectors) (c.in_ok-add_one.ensures.fits most can))
    (subst (λ (m : Image). IfSome timed.second (λ d. is_inode m d ≡ true)) (sym same) inside.1) (raw ++ inode_puts (one_of timed.first) x.bytes) x.puts in
    adds-both image c.args.now (one_of timed.first) (one_of timed.second) raw c.add_one.new.plan.puts c.add_one-2.new.plan.puts x
    (subst (λ (m : Image). AddsTimes m c.args.now (one_of timed.second) (raw ++ inode_puts (one_of timed.first) x.bytes) c.add_one-2.new.plan.puts) same y)

pub returns-clause-fits : goal.returns-clause-fits
returns-clause-fits g c = λ most can.
    let S = g.S.Stable in
    let timed = c.args.timed.now in
    let both : length (listed timed) ≡ length (one_of timed.first) + length (one_of timed.second) = length-append (one_of timed.first) (one_of timed.second) in
    can-equal (S.sector_count c.args.store.now) (most + length (one_of timed.first) + length (one_of timed.second)) (most + length (listed timed)) c.add_one-2.new.plan.puts (omega arith)
    (subst (λ n. CanBePut n (most + length (one_of timed.first) + length (one_of timed.second)) c.add_one-2.new.plan.puts) c.in_ok-add_one.ensures.looked.sectors
    (c.in_ok-add_one-2.ensures.fits (most + length (one_of timed.first))
    (subst (λ n. CanBePut n (most + length (one_of timed.first)) c.add_one.new.plan.puts) (sym c.in_ok-add_one.ensures.looked.sectors) (c.in_ok-add_one.ensures.fits most can))))
