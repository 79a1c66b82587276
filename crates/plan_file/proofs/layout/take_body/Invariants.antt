use Rattle.plan_file.specs.Started.{AreTaken}
use Rattle.plan_file.proofs.layout.take_body.Given as goal

abbrev pub invariant-loop-index : goal.invariant-loop-index
invariant-loop-index l = record { taken : AreTaken l.fn.blocks l.body l.held l.target l.index l.blocks }
