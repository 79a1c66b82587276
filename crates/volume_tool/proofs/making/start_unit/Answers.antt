use Rattle.std.proofs.Common.{rules, ◌≡◌, ◌∙◌, ℕ, length, sym, ap}
use Rattle.stable.specs.declared.state.Cause.TheVariants as cause
use Rattle.presto_cache.specs.Cache.{Knows}
use Rattle.presto_unit.specs.Happenings.{starting}
use Rattle.presto_unit.specs.Shown.{dirty_in}
use Rattle.presto_recover.proofs.Counted.{cache_counts}
use Rattle.volume_tool.proofs.making.start_unit.Goals as goal

pub returns-in-Ok-new-clause-down : goal.returns-in-Ok-new-clause-down
returns-in-Ok-new-clause-down g c tells =
    let r = g.R.Rig in
    let knows : Knows r c.args.rig c.in-Ok.cache = search rules in
    let none : dirty_in c.in-Ok.cache ≡ 0 = cache_counts c.in-Ok.cache (r.contents c.args.rig) (knows.is tells) c.in-Ok.ensures.sure ∙ ap length (sym (c.requires.ready.read tells).read) in
    c.start.ensures.state ∙ ap (λ (n : ℕ). starting n cause.Disk) none
