use Rattle.std.proofs.Common.{arith, ◌+◌, ◌-◌, ◌*◌, ◌≡◌, subst}
use Rattle.v7_mend.specs.Changes.{Differ, IsMapIn}
use Rattle.v7_mend.specs.Trims.{AreTrimmed, first_in}
use Rattle.v7_mend.proofs.KeptFrames.{keeps-weak}
use Rattle.v7_mend.proofs.KeptFiles.{keeps_then}
use Rattle.v7_mend.proofs.Running.{answered, few_answered, fails, puts_then}
use Rattle.v7_mend.proofs.TrimSteps.{trimmed_exact, trimmed_then}
use Rattle.v7_mend.proofs.trim_all.trim_all.Goals as goal

pub trim_sector-requires-clause-weak : goal.trim_sector-requires-clause-weak
trim_sector-requires-clause-weak g c = λ tells. keeps-weak (g.S.Stable.image c.args.store.now) (g.S.Stable.image c.loop-sector.store) (c.requires.weak tells) (c.loop-sector.invariant.done tells).files

pub returns-in_err-changed-clause-puts : goal.returns-in_err-changed-clause-puts
returns-in_err-changed-clause-puts g c =
    let S = g.S.Stable in
    let few = c.loop-sector.invariant.few in
    let below = c.loop-sector-test.true in
    fails S (8 * (c.args.isize - 2)) (omega (arith, few, below)) c.loop-sector.invariant.puts c.in_err-changed.ensures.puts (λ d left kept.
    let tells = g.met.S.Stable.clocked.told _ _ d left in
    keeps_then (S.image c.args.store.now) (S.image c.loop-sector.store) d (c.requires.weak tells) (c.loop-sector.invariant.done tells).files kept) c.from_residual.result c.from_residual.ensures.0

pub loop-sector-preserved : goal.loop-sector-preserved
loop-sector-preserved g c =
    let S = g.S.Stable in
    let i = c.loop-sector.invariant in
    let so_far = i.few in
    let few = few_answered S c.in_ok-changed.ensures.puts in
    let next : first_in c.loop-sector.sector + 8 ≡ first_in (c.loop-sector.sector + 1) = omega arith in
    record {
      done = λ tells. subst (AreTrimmed (S.image c.args.store.now) (S.image c.trim_sector.new.store) c.args.links.now 1) next
          (trimmed_then (S.image c.args.store.now) (S.image c.loop-sector.store) (S.image c.trim_sector.new.store) c.args.links.now 1 (first_in c.loop-sector.sector) (first_in c.loop-sector.sector + 8)
          (c.requires.weak tells) (i.done tells) (c.in_ok-changed.ensures.done tells));
      exact = λ tells. subst (λ n. Differ (IsMapIn (S.image c.args.store.now) 1 n) (S.image c.args.store.now) (S.image c.trim_sector.new.store) (c.loop-sector.changed + c.in_ok-changed.field-0)) next
          (trimmed_exact (S.image c.args.store.now) (S.image c.loop-sector.store) (S.image c.trim_sector.new.store) c.args.links.now 1 (first_in c.loop-sector.sector) (first_in c.loop-sector.sector + 8) c.loop-sector.changed c.in_ok-changed.field-0
          (omega arith) (omega arith) (c.requires.weak tells) (i.done tells) (i.exact tells) (c.in_ok-changed.ensures.exact tells));
      puts = puts_then S i.puts (answered S c.in_ok-changed.ensures.puts) (λ d left kept.
          let tells = g.met.S.Stable.clocked.told _ _ d left in
          keeps_then (S.image c.args.store.now) (S.image c.loop-sector.store) d (c.requires.weak tells) (i.done tells).files kept);
      few = omega (arith, few, so_far);
    }
