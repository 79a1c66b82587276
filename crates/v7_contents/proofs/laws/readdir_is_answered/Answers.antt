use Rattle.v7_contents.proofs.Answered.{readdir-answer}
use Rattle.v7_contents.proofs.laws.readdir_is_answered.Goals as goal

pub returns : goal.returns
returns c image dir cookie count cred now strong = readdir-answer image strong dir cookie count cred
