use Rattle.std.proofs.Common.{rules, arith, ◌≡◌, ◌≤◌, ◌+◌, ◌-◌, ◌/◌, ℕ, suc, refl, sym, subst, ap, ◌∙◌, length}
use Rattle.index_sets.specs.Free.{is_free}
use Rattle.stable.proofs.Clocked.{started, goes_on, ends}
use Rattle.v7_make.specs.Chains.{IsFilled, KeepsVolume, PutsItem, given, record_puts}
use Rattle.v7_make.specs.Sets.{free_among}
use Rattle.v7_make.proofs.Counts.{among-before, among-within}
use Rattle.v7_make.proofs.Filling.{fill_next, fill_puts}
use Rattle.v7_make.proofs.Puts.{some_none, some_then}
use Rattle.v7_make.proofs.Steps.{chained_none, chain_moment, chain_step, at_numbers, keeps_none, past_super}
use Rattle.v7_make.proofs.Taking.{takes_none}
use Rattle.v7_make.proofs.chain.write_records.Goals as goal

pub loop-count-init : goal.loop-count-init
loop-count-init g c =
    let S = g.S.Stable in
    let count = c.single-chain.ensures.count in
    record {
      done = λ tells. chained_none (S.image c.args.store.now) c.args.blocks.now c.single-chain.result (c.size-size.result - 0) (takes_none (S.image c.args.store.now) c.single-chain.result c.single-chain.ensures.count c.single-chain.ensures.first);
      filled = record { places = record { some = omega (arith, count); most = omega (arith, count); unused = λ k le. c.single-chain.ensures.unused k (omega (arith, count, le)) }; count_is = omega (arith, count) };
      crash = started g.met.S.Stable.clocked c.args.store.now (KeepsVolume c.args.blocks.now (S.image c.args.store.now)) (λ tells. keeps_none (S.image c.args.store.now) c.args.blocks.now);
      opens = λ tells t le opens. opens;
      faults = omega arith;
      sectors = refl;
      snapshot = some_none _ _ _ (g.met.S.Stable.counted c.args.store.now);
    }

pub give_item-requires-clause-place : goal.give_item-requires-clause-place
give_item-requires-clause-place g c = λ there.
    let in' = c.requires.within (c.size-size.result - 1 - c.loop-count.count) there in
    let same = c.loop-count.invariant.sectors in
    omega (arith, in', same)

pub give_item-requires-clause-past : goal.give_item-requires-clause-past
give_item-requires-clause-past g c = λ tells there. past_super (g.S.Stable.image c.args.store.now) c.args.blocks.now (c.requires.idle tells) (c.size-size.result - 1 - c.loop-count.count) there

pub give_item-requires-clause-places : goal.give_item-requires-clause-places
give_item-requires-clause-places g c = c.loop-count.invariant.filled.places

pub returns-in_err-chain-clause-crash : goal.returns-in_err-chain-clause-crash
returns-in_err-chain-clause-crash g c =
    let S = g.S.Stable in
    goes_on c.loop-count.invariant.crash c.give_item.ensures.crash (λ d left cut.
    let tells = g.met.S.Stable.clocked.told _ _ d left in
    chain_moment (S.image c.args.store.now) (S.image c.loop-count.store) c.args.blocks.now c.loop-count.chain (c.size-size.result - c.loop-count.count) c.loop-count.count (c.size-size.result - 1 - c.loop-count.count)
    (c.requires.idle tells) (c.loop-count.invariant.done tells) (omega (arith, c.loop-count-test.true)) d cut)

pub returns-in_err-chain-clause-snapshot : goal.returns-in_err-chain-clause-snapshot
returns-in_err-chain-clause-snapshot g c =
    let i = c.loop-count.invariant in
    let block : ℕ = c.size-size.result - 1 - c.loop-count.count in
    let before : ℕ = free_among c.args.blocks.now (c.size-size.result - c.loop-count.count) c.loop-count.count in
    let more : suc c.loop-count.count ≡ c.loop-count.count + 1 = omega arith in
    let next : block + 1 ≡ c.size-size.result - c.loop-count.count = omega (arith, c.loop-count-test.true) in
    let one = fill_puts (is_free c.args.blocks.now block) c.loop-count.chain before i.filled in
    let now : free_among c.args.blocks.now block (suc c.loop-count.count) ≡ given (is_free c.args.blocks.now block) + before = among-before c.args.blocks.now block (c.size-size.result - c.loop-count.count) c.loop-count.count next in
    let all : c.size-size.result ≡ length c.args.blocks.now = c.size-size.ensures in
    let within : free_among c.args.blocks.now block (suc c.loop-count.count) ≤ free_among c.args.blocks.now 0 (length c.args.blocks.now) =
    among-within c.args.blocks.now block (suc c.loop-count.count) (length c.args.blocks.now) (omega (arith, next, all, c.loop-count-test.true)) in
    some_then (before / 50) (record_puts (is_free c.args.blocks.now block) c.loop-count.chain) _ _ _ _ _ _ _ (omega (arith, one, now, within)) i.faults c.give_item.ensures.cause.later i.snapshot c.give_item.ensures.snapshot

pub loop-count-preserved : goal.loop-count-preserved
loop-count-preserved g c =
    let S = g.S.Stable in
    let i = c.loop-count.invariant in
    let block : ℕ = c.size-size.result - 1 - c.loop-count.count in
    let before : ℕ = free_among c.args.blocks.now (c.size-size.result - c.loop-count.count) c.loop-count.count in
    let less : c.size-size.result - 1 - c.loop-count.count ≡ c.size-size.result - (c.loop-count.count + 1) = omega arith in
    let more : suc c.loop-count.count ≡ c.loop-count.count + 1 = omega arith in
    let now : given (is_free c.args.blocks.now block) + before ≡ free_among c.args.blocks.now (c.size-size.result - (c.loop-count.count + 1)) (c.loop-count.count + 1) =
    sym (among-before c.args.blocks.now block (c.size-size.result - c.loop-count.count) c.loop-count.count (omega (arith, c.loop-count-test.true)))
    ∙ (λ z. free_among c.args.blocks.now (less z) (more z)) in
    record {
      done = λ tells.
          let put : PutsItem c.args.blocks.now (c.size-size.result - 1 - c.loop-count.count) (S.image c.loop-count.store) (S.image c.give_item.new.store) = ends g.met.S.Stable.clocked c.give_item.ensures.crash tells in
          at_numbers (S.image c.args.store.now) (S.image c.give_item.new.store) c.args.blocks.now c.in_ok-chain.chain less more
          (chain_step (S.image c.args.store.now) (S.image c.loop-count.store) c.args.blocks.now c.loop-count.chain (c.size-size.result - c.loop-count.count) c.loop-count.count (c.size-size.result - 1 - c.loop-count.count)
          (c.requires.idle tells) (i.done tells) (omega (arith, c.loop-count-test.true)) (S.image c.give_item.new.store) c.in_ok-chain.chain put (c.in_ok-chain.ensures.done tells));
      filled = subst (IsFilled c.in_ok-chain.chain) now (fill_next (is_free c.args.blocks.now block) c.loop-count.chain c.in_ok-chain.chain before i.filled c.in_ok-chain.ensures.given);
      crash = goes_on i.crash c.give_item.ensures.crash (λ d left cut.
          let tells = g.met.S.Stable.clocked.told _ _ d left in
          chain_moment (S.image c.args.store.now) (S.image c.loop-count.store) c.args.blocks.now c.loop-count.chain (c.size-size.result - c.loop-count.count) c.loop-count.count (c.size-size.result - 1 - c.loop-count.count)
          (c.requires.idle tells) (i.done tells) (omega (arith, c.loop-count-test.true)) d cut);
      opens = λ tells t le opens. let later = i.crash.later in c.give_item.ensures.opens tells t (omega (arith, le, later)) (i.opens tells t le opens);
      faults = omega (arith, i.faults, c.give_item.ensures.cause.later);
      sectors = search rules;
      snapshot =
          let puts : before / 50 + record_puts (is_free c.args.blocks.now block) c.loop-count.chain ≡ free_among c.args.blocks.now (c.size-size.result - (c.loop-count.count + 1)) (c.loop-count.count + 1) / 50 =
          fill_puts (is_free c.args.blocks.now block) c.loop-count.chain before i.filled ∙ ap (λ n. n / 50) now in
          some_then (before / 50) (record_puts (is_free c.args.blocks.now block) c.loop-count.chain) _ _ _ _ _ _ _ (omega (arith, puts)) i.faults c.give_item.ensures.cause.later i.snapshot c.give_item.ensures.snapshot;
    }
