use Rattle.files_model.specs.declared.call.Call.TheVariants as call
use Rattle.name_plans.proofs.LinkAccepted.{link-linking}
use Rattle.name_plans.proofs.LinkAtEnd.{link-growing}
use Rattle.name_plans.proofs.linking.a_link_at_the_end_is_planned.Goals as goal

pub returns : goal.returns
returns c image file dir name cred now n d g b1 b3 inner strong x y = link-growing image (call.Link file dir name, cred) now dir.ino name d file.ino n g b1 b3 inner strong (link-linking image file dir name cred now n d strong x) y
