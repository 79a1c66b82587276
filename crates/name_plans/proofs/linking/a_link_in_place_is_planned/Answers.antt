use Rattle.files_model.specs.declared.call.Call.TheVariants as call
use Rattle.name_plans.proofs.LinkAccepted.{link-linking}
use Rattle.name_plans.proofs.LinkInPlace.{link-plan, link-sets}
use Rattle.name_plans.proofs.linking.a_link_in_place_is_planned.Goals as goal

pub returns-clause-planned : goal.returns-clause-planned
returns-clause-planned c image file dir name cred now n d b1 b2 b3 strong x y = link-plan image (call.Link file dir name, cred) now dir.ino name d file.ino n b1 b2 b3 strong (link-linking image file dir name cred now n d strong x) y

pub returns-clause-sets : goal.returns-clause-sets
returns-clause-sets c image file dir name cred now n d b1 b2 b3 strong x y blocks inodes sets = link-sets image (call.Link file dir name, cred) now dir.ino name d file.ino n b1 b2 b3 strong (link-linking image file dir name cred now n d strong x) y blocks inodes sets
