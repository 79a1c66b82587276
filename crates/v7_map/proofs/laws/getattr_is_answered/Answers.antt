use Rattle.v7_map.proofs.Answers.{getattr-answer}
use Rattle.v7_map.proofs.laws.getattr_is_answered.Goals as goal

pub returns : goal.returns
returns c image file cred now strong = getattr-answer image strong file cred now
