use Rattle.v7_inspect.proofs.inspection.inspect.Goals as goal

pub seen_of-requires : goal.seen_of-requires
seen_of-requires g c = let e = c.in-Ok.ensures.tables in record { some = e.some; few = e.few; counts = e.counts; summaries = e.summaries }

pub returns-clause-inspected : goal.returns-clause-inspected
returns-clause-inspected g c = λ tells. c.seen_of.ensures (g.S.Stable.image c.args.store.now) (c.in-Ok.ensures.tested tells)
