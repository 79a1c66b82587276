use Rattle.std.proofs.Common.{◌<◌, length, sym, subst, ◌∙◌}
use Rattle.v7_strokes.specs.Over.{sector_after}
use Rattle.v7_strokes.proofs.Overlaid.{sector_after-all}
use Rattle.v7_map.proofs.Whole.{as_long}
use Rattle.v7_strokes.proofs.over.planned_sector.Goals as goal

pub returns-clause-done : goal.returns-clause-done
returns-clause-done g c = λ tells.
    let old = c.args.store.now in
    let whole = as_long g.S.Stable.sector_count g.met.S.Stable.clocked g.met.S.Stable.shape old tells in
    let inside : c.args.sector < length (g.S.Stable.image old) = subst (λ n. c.args.sector < n) (sym whole.size) c.requires in
    c.after_puts.ensures ∙ (λ z. sector_after (c.puts.ensures z) c.args.sector (c.in_ok-read.ensures.done tells z))
    ∙ sector_after-all c.args.plan.now.puts (g.S.Stable.image old) c.args.sector inside
