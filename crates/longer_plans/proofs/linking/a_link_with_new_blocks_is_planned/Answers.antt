use Rattle.files_model.specs.declared.call.Call.TheVariants as call
use Rattle.name_plans.proofs.LinkAccepted.{link-linking}
use Rattle.longer_plans.proofs.LinkLonger.{link-room, link-longer, link-own, link-others, link-taken}
use Rattle.v7_map.specs.View.{view}
use Rattle.longer_plans.proofs.linking.a_link_with_new_blocks_is_planned.Goals as goal

pub returns-clause-planned : goal.returns-clause-planned
returns-clause-planned c image file dir name cred now n d target b1 b2 maps direct single b3 strong x y =
    link-longer image (call.Link file dir name, cred) now dir.ino name d file.ino n target b1 b2 maps direct single b3 strong (link-linking image file dir name cred now n d strong x) (link-room (view image) file dir name cred now n d x y.full) y

pub returns-clause-own_blocks : goal.returns-clause-own_blocks
returns-clause-own_blocks c image file dir name cred now n d target b1 b2 maps direct single b3 strong x y =
    link-own image (call.Link file dir name, cred) now dir.ino name d file.ino n target b1 b2 maps direct single b3 strong (link-linking image file dir name cred now n d strong x) (link-room (view image) file dir name cred now n d x y.full) y

pub returns-clause-other_blocks : goal.returns-clause-other_blocks
returns-clause-other_blocks c image file dir name cred now n d target b1 b2 maps direct single b3 strong x y =
    link-others image (call.Link file dir name, cred) now dir.ino name d file.ino n target b1 b2 maps direct single b3 strong (link-linking image file dir name cred now n d strong x) (link-room (view image) file dir name cred now n d x y.full) y

pub returns-clause-sets : goal.returns-clause-sets
returns-clause-sets c image file dir name cred now n d target b1 b2 maps direct single b3 strong x y new fresh blocks inodes sets =
    link-taken image (call.Link file dir name, cred) now dir.ino name d file.ino n target b1 b2 maps direct single b3 strong (link-linking image file dir name cred now n d strong x) (link-room (view image) file dir name cred now n d x y.full) y new fresh blocks inodes sets
