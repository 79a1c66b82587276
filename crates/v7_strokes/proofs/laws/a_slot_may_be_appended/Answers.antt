use Rattle.v7_strokes.proofs.Longer.{end-quiet, longer-grows, standing-target}
use Rattle.v7_strokes.proofs.laws.a_slot_may_be_appended.Goals as goal

pub returns-clause-quiet : goal.returns-clause-quiet
returns-clause-quiet c image d k bytes s x below puts = end-quiet image d k bytes s x.weak x.walked x.end below puts

pub returns-clause-longer : goal.returns-clause-longer
returns-clause-longer c image d k now s direct single target x lay at content = longer-grows image d k now s direct single target x lay at content

pub returns-clause-standing : goal.returns-clause-standing
returns-clause-standing c f d q weak held single = standing-target f d q weak held single
