-- A put of an inode with other times.
use Rattle.std.proofs.Common.{◌≡◌, ℕ, List, set, refl, ap, ◌∙◌, Some}
use Rattle.std.specs.FinMap.{get}
use Rattle.files_model.specs.Files.{Node}
use Rattle.files_model.specs.Step.{with_node}
use Rattle.stable.specs.Store.{Image}
use Rattle.v7_map.specs.Image.{inode_at, inode_sector}
use Rattle.v7_map.specs.Frame.{frame}
use Rattle.v7_map.specs.View.{view}
use Rattle.v7_map.specs.Weak.{IsWeak}
use Rattle.v7_map.specs.Plan.{PutsInode}
use Rattle.v7_map.proofs.Inodes.{inode-frame, inode-view}
use Rattle.v7_map.proofs.Nodes.{view-node}
use Rattle.v7_strokes.specs.Inodes.{timed_inode}

module _ (image : Image) (i : ℕ) (n : Node) (weak : IsWeak (frame image)) (at : get (view image).nodes i ≡ Some n) (bytes : List ℕ) (now : ℕ) (puts : PutsInode image i bytes (timed_inode (inode_at image i) now)) where
  pub frame_after_times : frame (set image (inode_sector i) bytes) ≡ frame image
  frame_after_times = inode-frame image i bytes _ weak puts refl

  pub view_after_times : view (set image (inode_sector i) bytes) ≡ with_node (view image) i (record n { mtime = now; ctime = now })
  view_after_times =
      let s = view-node image i n at in
      inode-view image i bytes _ weak puts refl refl s.named s.within
      ∙ ap (λ (m : Node). with_node (view image) i (record m { mtime = now; ctime = now })) s.is
