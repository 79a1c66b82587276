use Rattle.std.proofs.Common.{◌∙◌, []}
use Rattle.v7_strokes.proofs.Overlaid.{sector_after-step}
use Rattle.v7_strokes.proofs.over.after_puts.Goals as goal

pub loop-put-preserved : goal.loop-put-preserved
loop-put-preserved c = record {
  sofar = c.after_put-bytes.ensures ∙ sector_after-step c.args.puts.now c.loop-put.put-index c.args.sector c.args.read.now c.loop-put.bytes (0, []) c.loop-put-test.true c.loop-put.invariant.sofar;
}
