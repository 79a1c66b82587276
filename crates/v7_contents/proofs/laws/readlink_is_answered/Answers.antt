use Rattle.v7_contents.proofs.Answered.{readlink-answer}
use Rattle.v7_contents.proofs.laws.readlink_is_answered.Goals as goal

pub returns : goal.returns
returns c image file cred now strong = readlink-answer image strong file
