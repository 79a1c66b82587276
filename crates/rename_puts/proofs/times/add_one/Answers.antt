use Rattle.std.proofs.Common.{◌≡◌, true, IfSome, ap, sym, subst}
use Rattle.stable.specs.Puts.{Reserved}
use Rattle.v7_map.specs.Image.{is_inode}
use Rattle.plan_name.specs.LayingOut.{one_of}
use Rattle.rename_puts.specs.Times.{AddsTimes}
use Rattle.rename_puts.proofs.Steps.{adds-one}
use Rattle.rename_puts.proofs.times.add_one.Goals as goal

pub returns-in_ok-_times-in-Some-clause-added : goal.returns-in_ok-_times-in-Some-clause-added
returns-in_ok-_times-in-Some-clause-added g c = λ tells most can inside raw is.
    let image = g.S.Stable.image c.args.store.now in
    subst (λ d. AddsTimes image c.args.now (one_of d) raw c.add_times.new.plan.puts) (sym c.in-Some.is)
    (adds-one image c.args.now c.in-Some.ino c.in_ok-_times-in-Some._times raw c.args.plan.now.puts c.add_times.new.plan.puts is
    (ap (λ (r : Reserved). r.puts) c.in_ok-_times-in-Some.ensures.added) can.past (subst (λ d. IfSome d (λ e. is_inode image e ≡ true)) c.in-Some.is inside)
    (c.in_ok-_times-in-Some.ensures.put tells))
