use Rattle.v7_plans.proofs.SetPlans.{shorter-file}
use Rattle.v7_plans.proofs.laws.a_shorter_file_is_planned.Goals as goal

pub returns-clause-planned : goal.returns-clause-planned
returns-clause-planned c image file set cred now n v b a left bytes strong whole is none regular less stores keeps puts by =
    (shorter-file image file set cred now n v b a left bytes strong whole is none regular less stores keeps puts by).0

pub returns-clause-blocks : goal.returns-clause-blocks
returns-clause-blocks c image file set cred now n v b a left bytes strong whole is none regular less stores keeps puts by =
    (shorter-file image file set cred now n v b a left bytes strong whole is none regular less stores keeps puts by).1
