use Rattle.std.proofs.Common.{rules, arith, ◌<◌, ◌+◌, ◌≡◌, sym, subst}
use Rattle.v7_mend.specs.Trims.{AreTrimmed, first_in}
use Rattle.v7_mend.proofs.KeptFrames.{keeps-weak}
use Rattle.v7_mend.proofs.Running.{answers, answered, few_answered, fails, puts_then}
use Rattle.v7_mend.proofs.TrimSteps.{next_number, next_held, trim_moment, trim_step, trim_exact_step}
use Rattle.v7_mend.proofs.Whole.{long_sectors}
use Rattle.v7_mend.proofs.trim_all.trim_eight.Goals as goal

pub trim_map-requires-clause-held : goal.trim_map-requires-clause-held
trim_map-requires-clause-held g c = λ tells.
    let S = g.S.Stable in
    let few = c.loop-ino.invariant.few in
    let high : c.loop-ino.ino < first_in c.args.sector + 8 = search rules in
    next_held (S.image c.args.store.now) (S.image c.loop-ino.store) c.args.links.now c.args.sector c.loop-ino.ino c.requires.past (c.requires.inodes tells) (omega (arith, few)) high (c.loop-ino.invariant.done tells) c.args.held.now (c.requires.held tells)

pub trim_map-requires-clause-number : goal.trim_map-requires-clause-number
trim_map-requires-clause-number g c = λ tells.
    let S = g.S.Stable in
    let few = c.loop-ino.invariant.few in
    let high : c.loop-ino.ino < first_in c.args.sector + 8 = search rules in
    next_number (S.image c.args.store.now) (S.image c.loop-ino.store) c.args.links.now c.args.sector c.loop-ino.ino c.requires.past (c.requires.inodes tells) (omega (arith, few)) high (c.loop-ino.invariant.done tells)

pub trim_map-requires-clause-weak : goal.trim_map-requires-clause-weak
trim_map-requires-clause-weak g c = λ tells. keeps-weak (g.S.Stable.image c.args.store.now) (g.S.Stable.image c.loop-ino.store) (c.requires.weak tells) (c.loop-ino.invariant.done tells).files

pub returns-in_err-changed-clause-puts : goal.returns-in_err-changed-clause-puts
returns-in_err-changed-clause-puts g c =
    let S = g.S.Stable in
    let few = c.loop-ino.invariant.few in
    let high : c.loop-ino.ino < first_in c.args.sector + 8 = search rules in
    fails S 8 (omega (arith, few, high)) c.loop-ino.invariant.puts c.in_err-changed.ensures.puts (λ d left cut.
    let tells = g.met.S.Stable.clocked.told _ _ d left in
    trim_moment (S.image c.args.store.now) (S.image c.loop-ino.store) c.args.links.now (first_in c.args.sector) c.loop-ino.ino (c.requires.weak tells) (c.loop-ino.invariant.done tells)
    (long_sectors S.sector_count g.met.S.Stable.clocked g.met.S.Stable.shape c.loop-ino.store tells) d cut) c.from_residual.result c.from_residual.ensures.0

pub loop-ino-preserved : goal.loop-ino-preserved
loop-ino-preserved g c =
    let S = g.S.Stable in
    let i = c.loop-ino.invariant in
    let so_far = i.few in
    let few = few_answered S c.in_ok-changed.ensures.puts in
    record {
      done = λ tells.
          subst (λ x. AreTrimmed (S.image c.args.store.now) x c.args.links.now (first_in c.args.sector) (c.loop-ino.ino + 1)) (sym (c.in_ok-changed.ensures.done tells))
          (trim_step (S.image c.args.store.now) (S.image c.loop-ino.store) c.args.links.now (first_in c.args.sector) c.loop-ino.ino (c.requires.weak tells) (i.done tells)
          (long_sectors S.sector_count g.met.S.Stable.clocked g.met.S.Stable.shape c.loop-ino.store tells));
      exact = λ tells. trim_exact_step (S.image c.args.store.now) (S.image c.loop-ino.store) (S.image c.trim_map.new.store) c.args.links.now (first_in c.args.sector) c.loop-ino.ino c.loop-ino.changed c.in_ok-changed.field-0
          (omega (arith, so_far)) (c.requires.weak tells) (i.done tells) (i.exact tells) (c.in_ok-changed.ensures.done tells) (c.in_ok-changed.ensures.needed tells);
      puts = puts_then S i.puts (answered S c.in_ok-changed.ensures.puts) (λ d left cut.
          let tells = g.met.S.Stable.clocked.told _ _ d left in
          trim_moment (S.image c.args.store.now) (S.image c.loop-ino.store) c.args.links.now (first_in c.args.sector) c.loop-ino.ino (c.requires.weak tells) (i.done tells)
          (long_sectors S.sector_count g.met.S.Stable.clocked g.met.S.Stable.shape c.loop-ino.store tells) d cut);
      few = omega (arith, few, so_far);
    }

pub returns-clause-puts : goal.returns-clause-puts
returns-clause-puts g c =
    let few = c.loop-ino.invariant.few in
    let end : c.loop-ino.ino ≡ first_in c.args.sector + 8 = search rules in
    answers g.S.Stable 8 (omega (arith, few, end)) c.loop-ino.invariant.puts
