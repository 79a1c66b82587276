use Rattle.volume.proofs.Counting.{cost_looked}
use Rattle.volume.proofs.calling.make_call.Goals as goal

pub returns-in-Getattr-clause-snapshot : goal.returns-in-Getattr-clause-snapshot
returns-in-Getattr-clause-snapshot g c =
    let looked = c.getattr.ensures.looked in
    cost_looked g.S.Stable g.met.S.Stable.counted c.args.store.now c.getattr.new.store _ _ looked.later looked.snapshot

pub returns-in-Read-clause-snapshot : goal.returns-in-Read-clause-snapshot
returns-in-Read-clause-snapshot g c =
    let looked = c.read.ensures.looked in
    cost_looked g.S.Stable g.met.S.Stable.counted c.args.store.now c.read.new.store _ _ looked.later looked.snapshot

pub returns-in-Lookup-clause-snapshot : goal.returns-in-Lookup-clause-snapshot
returns-in-Lookup-clause-snapshot g c =
    let looked = c.lookup.ensures.looked in
    cost_looked g.S.Stable g.met.S.Stable.counted c.args.store.now c.lookup.new.store _ _ looked.later looked.snapshot

pub returns-in-Statfs-clause-snapshot : goal.returns-in-Statfs-clause-snapshot
returns-in-Statfs-clause-snapshot g c =
    let looked = c.statfs.ensures.looked in
    cost_looked g.S.Stable g.met.S.Stable.counted c.args.store.now c.statfs.new.store _ _ looked.later looked.snapshot

pub returns-in-Readlink-clause-snapshot : goal.returns-in-Readlink-clause-snapshot
returns-in-Readlink-clause-snapshot g c =
    let looked = c.readlink.ensures.looked in
    cost_looked g.S.Stable g.met.S.Stable.counted c.args.store.now c.readlink.new.store _ _ looked.later looked.snapshot

pub returns-in-Readdir-clause-snapshot : goal.returns-in-Readdir-clause-snapshot
returns-in-Readdir-clause-snapshot g c =
    let looked = c.readdir.ensures.looked in
    cost_looked g.S.Stable g.met.S.Stable.counted c.args.store.now c.readdir.new.store _ _ looked.later looked.snapshot
