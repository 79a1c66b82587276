use Rattle.stable.proofs.Clocked.{idles}
use Rattle.volume.proofs.Starts.{crash_marked, puts_marked, puts_looked}
use Rattle.volume.proofs.starting.open_store.Goals as goal

pub returns-in_err-mark_open-clause-crash : goal.returns-in_err-mark_open-clause-crash
returns-in_err-mark_open-clause-crash g c =
    let run = c.in-Ok.ensures.run in
    crash_marked g.S.Stable g.met.S.Stable.clocked c.args.store.now c.repair.new.store c.mark_open.new.store c.in-Ok.mended c.args.now run.puts.crash c.in-Ok.ensures.leaves c.in_err-mark_open.ensures.crash

pub returns-in_err-mark_open-clause-snapshot : goal.returns-in_err-mark_open-clause-snapshot
returns-in_err-mark_open-clause-snapshot g c =
    let run = c.in-Ok.ensures.run in
    puts_marked run.count _ _ _ _ _ _ run.few run.puts.later c.in_err-mark_open.ensures.cause.later run.puts.snapshot c.in_err-mark_open.ensures.snapshot

pub returns-in_err-title-clause-crash : goal.returns-in_err-title-clause-crash
returns-in_err-title-clause-crash g c =
    let run = c.in-Ok.ensures.run in
    idles g.met.S.Stable.clocked
    (crash_marked g.S.Stable g.met.S.Stable.clocked c.args.store.now c.repair.new.store c.mark_open.new.store c.in-Ok.mended c.args.now run.puts.crash c.in-Ok.ensures.leaves c.in_ok-mark_open.ensures.crash)
    c.look.ensures.looked.crash

pub returns-in_err-title-clause-snapshot : goal.returns-in_err-title-clause-snapshot
returns-in_err-title-clause-snapshot g c =
    let run = c.in-Ok.ensures.run in
    puts_looked _ _ _ _ _ _ _ c.look.ensures.looked.later c.look.ensures.looked.snapshot
    (puts_marked run.count _ _ _ _ _ _ run.few run.puts.later c.in_ok-mark_open.ensures.cause.later run.puts.snapshot c.in_ok-mark_open.ensures.snapshot)

pub returns-in-Some-clause-crash : goal.returns-in-Some-clause-crash
returns-in-Some-clause-crash g c =
    let run = c.in-Ok.ensures.run in
    idles g.met.S.Stable.clocked
    (crash_marked g.S.Stable g.met.S.Stable.clocked c.args.store.now c.repair.new.store c.mark_open.new.store c.in-Ok.mended c.args.now run.puts.crash c.in-Ok.ensures.leaves c.in_ok-mark_open.ensures.crash)
    c.look.ensures.looked.crash

pub returns-in-Some-clause-snapshot : goal.returns-in-Some-clause-snapshot
returns-in-Some-clause-snapshot g c =
    let run = c.in-Ok.ensures.run in
    puts_looked _ _ _ _ _ _ _ c.look.ensures.looked.later c.look.ensures.looked.snapshot
    (puts_marked run.count _ _ _ _ _ _ run.few run.puts.later c.in_ok-mark_open.ensures.cause.later run.puts.snapshot c.in_ok-mark_open.ensures.snapshot)

pub returns-in-None-clause-crash : goal.returns-in-None-clause-crash
returns-in-None-clause-crash g c =
    let run = c.in-Ok.ensures.run in
    idles g.met.S.Stable.clocked
    (crash_marked g.S.Stable g.met.S.Stable.clocked c.args.store.now c.repair.new.store c.mark_open.new.store c.in-Ok.mended c.args.now run.puts.crash c.in-Ok.ensures.leaves c.in_ok-mark_open.ensures.crash)
    c.look.ensures.looked.crash

pub returns-in-None-clause-snapshot : goal.returns-in-None-clause-snapshot
returns-in-None-clause-snapshot g c =
    let run = c.in-Ok.ensures.run in
    puts_looked _ _ _ _ _ _ _ c.look.ensures.looked.later c.look.ensures.looked.snapshot
    (puts_marked run.count _ _ _ _ _ _ run.few run.puts.later c.in_ok-mark_open.ensures.cause.later run.puts.snapshot c.in_ok-mark_open.ensures.snapshot)
