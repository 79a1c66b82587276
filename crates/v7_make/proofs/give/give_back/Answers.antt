use Rattle.std.proofs.Common.{rules, arith, ◌≡◌, ◌<◌, ◌≤◌, ◌∷◌, length, sym, subst, ap, ◌∙◌}
use Rattle.stable.specs.Store.{Image}
use Rattle.stable.proofs.Clocked.{weaker}
use Rattle.v7_layout.specs.declared.chain.Chain.{Chain}
use Rattle.v7_layout.specs.Written.{chain_bytes}
use Rattle.v7_map.proofs.Whole.{as_long}
use Rattle.v7_make.specs.Chains.{Takes}
use Rattle.v7_make.proofs.Steps.{puts_at}
use Rattle.v7_make.proofs.Taking.{pushed, takes_pushed, takes_first}
use Rattle.v7_make.proofs.give.give_back.Goals as goal

pub returns-then-chain-lt-MOST-clause-done : goal.returns-then-chain-lt-MOST-clause-done
returns-then-chain-lt-MOST-clause-done g c = λ tells blocks far takes.
    let S = g.S.Stable in
    let is : pushed c.args.chain.now c.args.block ≡ c.pushed.result = λ z. record { s_nfree = sym c.pushed.ensures.count z; s_free = sym c.pushed.ensures.listed z } in
    let some = c.requires.places.some in
    let past = c.requires.past tells in
    subst (λ (d : Chain). Takes (S.image c.args.store.now) d (c.args.block ∷ blocks)) is
    (takes_pushed (S.image c.args.store.now) c.args.chain.now c.args.block blocks some (search rules) (λ z. omega (arith, past, z)) takes)

pub returns-in_err-put-clause-crash : goal.returns-in_err-put-clause-crash
returns-in_err-put-clause-crash g c = weaker c.put.ensures.crash (λ d left cut. puts_at (g.S.Stable.image c.args.store.now) d c.args.block _ cut)

pub returns-clause-crash : goal.returns-clause-crash
returns-clause-crash g c = weaker c.put.ensures.crash (λ d left cut. puts_at (g.S.Stable.image c.args.store.now) d c.args.block _ cut)

pub returns-clause-done : goal.returns-clause-done
returns-clause-done g c = λ tells blocks far takes.
    let S = g.S.Stable in
    let shape = as_long S.sector_count g.met.S.Stable.clocked g.met.S.Stable.shape c.args.store.now tells in
    let past = c.requires.past tells in
    let most = c.requires.places.most in
    let full : 50 ≤ c.args.chain.now.s_nfree = search rules in
    let all : c.args.chain.now.s_nfree ≡ 50 = omega (arith, most, full) in
    let place : c.args.block < length (S.image c.args.store.now) = subst (λ n. c.args.block < n) (sym shape.size) c.requires.place in
    subst (λ (x : Image). Takes x c.single.result (c.args.block ∷ blocks)) (sym (c.in_ok-put.ensures.done tells))
    (takes_first (S.image c.args.store.now) c.args.chain.now c.single.result c.args.block c.write.new.bytes blocks c.single.ensures.count c.single.ensures.first (λ z. omega (arith, past, z)) place
    c.write.ensures.reads_back (record {
      full = ap (λ (d : Chain). d.s_nfree) c.write.ensures.reads_back ∙ all;
      whole = c.write.ensures.bytes ∙ ap chain_bytes (sym c.write.ensures.reads_back);
    }) far takes)
