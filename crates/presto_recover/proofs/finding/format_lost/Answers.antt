use Rattle.presto_recover.proofs.Formatting.{formats, marks}
use Rattle.presto_recover.proofs.finding.format_lost.Goals as goal

pub returns-in_err-format-clause-formats : goal.returns-in_err-format-clause-formats
returns-in_err-format-clause-formats g c =
    let law = g.met.R.Rig in
    formats g.R.Rig law.clocked law.kept_told c.args.name c.requires.lost c.requires.name c.format.ensures.crash c.format.ensures.stays

pub returns-in_err-mark_kept-clause-formats : goal.returns-in_err-mark_kept-clause-formats
returns-in_err-mark_kept-clause-formats g c =
    let law = g.met.R.Rig in
    let so_far = formats g.R.Rig law.clocked law.kept_told c.args.name c.requires.lost c.requires.name c.format.ensures.crash c.format.ensures.stays in
    let mark = c.mark_kept.ensures in
    marks g.R.Rig law.clocked law.kept_told c.args.name c.requires.lost c.requires.name so_far c.in_ok-format.ensures.done mark.crash mark.cause.later mark.sizes mark.disk_writes mark.readings

pub returns-clause-formats : goal.returns-clause-formats
returns-clause-formats g c =
    let law = g.met.R.Rig in
    let so_far = formats g.R.Rig law.clocked law.kept_told c.args.name c.requires.lost c.requires.name c.format.ensures.crash c.format.ensures.stays in
    let mark = c.mark_kept.ensures in
    marks g.R.Rig law.clocked law.kept_told c.args.name c.requires.lost c.requires.name so_far c.in_ok-format.ensures.done mark.crash mark.cause.later mark.sizes mark.disk_writes mark.readings
