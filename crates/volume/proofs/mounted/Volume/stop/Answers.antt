use Rattle.stable.proofs.Clocked.{weaker}
use Rattle.volume.proofs.Stopping.{idle_of, chain_same}
use Rattle.volume.proofs.mounted.Volume.stop.Goals as goal

pub write_chain-written-requires-clause-idle : goal.write_chain-written-requires-clause-idle
write_chain-written-requires-clause-idle g c told =
    let rest = c.requires.rest in
    idle_of (g.S.Stable.image c.args.self.store) _ _ (rest.weak told) (rest.are_sets told c.if-hurt.false)

pub returns-clause-crash : goal.returns-clause-crash
returns-clause-crash g c =
    let S = g.S.Stable in
    weaker c.write_chain-written.ensures.crash (λ d left keeps. chain_same _ (S.image c.args.self.store) d (c.requires.rest.weak (g.met.S.Stable.clocked.told _ _ d left)) keeps)
