use Rattle.v7_map.proofs.Answers.{read-answer}
use Rattle.v7_map.proofs.laws.read_is_answered.Goals as goal

pub returns : goal.returns
returns c image file offset count cred now strong = read-answer image strong file offset count cred now
