-- What is known of the i-numbers of nodes.
use Rattle.std.proofs.Common.{◌≡◌, ◌≤◌, ℕ, true, Some, arith}
use Rattle.std.specs.FinMap.{get}
use Rattle.files_model.specs.declared.attributes.FileId.{FileId}
use Rattle.files_model.specs.Files.{Node, live}
use Rattle.stable.specs.Store.{Image}
use Rattle.v7_map.specs.Frame.{frame}
use Rattle.v7_map.specs.Image.{is_inode}
use Rattle.v7_map.specs.View.{view}
use Rattle.v7_map.specs.Weak.{IsStrong}
use Rattle.v7_map.proofs.AnyFrame.{frame-IsFrame}
use Rattle.v7_map.proofs.Nodes.{live-node, view-node}
use Rattle.v7_map.proofs.Used.{named_used}
use Rattle.v7_strokes.proofs.SlotStep.{used-number}
use Rattle.plan_name.proofs.Past.{is_number}

pub node-number : (image : Image) (i : ℕ) (n : Node) → IsStrong (frame image) → get (view image).nodes i ≡ Some n → is_inode image i ≡ true
node-number image i n strong at = let u = used-number image i (named_used (frame image) strong.weak (frame-IsFrame image).directories i (view-node image i n at).named) in let high = u.1 in is_number image i u.0 (omega arith)

pub live-number : (image : Image) (file : FileId) (n : Node) → IsStrong (frame image) → live (view image) file ≡ Some n → is_inode image file.ino ≡ true
live-number image file n strong at = node-number image file.ino n strong (live-node (view image) file n at)

pub node-positive : (image : Image) (i : ℕ) (n : Node) → IsStrong (frame image) → get (view image).nodes i ≡ Some n → 1 ≤ i
node-positive image i n strong at = (used-number image i (named_used (frame image) strong.weak (frame-IsFrame image).directories i (view-node image i n at).named)).0
