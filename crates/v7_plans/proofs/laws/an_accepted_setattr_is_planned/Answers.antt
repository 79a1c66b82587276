use Rattle.v7_plans.proofs.SetPlans.{setattr-plan}
use Rattle.v7_plans.proofs.laws.an_accepted_setattr_is_planned.Goals as goal

pub returns-clause-planned : goal.returns-clause-planned
returns-clause-planned c image file set cred now n first v b strong whole is none quiet stores keeps cut clean puts =
    (setattr-plan image file set cred now n first v b strong whole is none quiet stores keeps cut clean puts).0

pub returns-clause-blocks : goal.returns-clause-blocks
returns-clause-blocks c image file set cred now n first v b strong whole is none quiet stores keeps cut clean puts =
    (setattr-plan image file set cred now n first v b strong whole is none quiet stores keeps cut clean puts).1
