-- A put of a sector of a body in the words of files.
use Rattle.std.proofs.Common.{◌≡◌, ◌≢◌, ℕ, ◌<◌, List, set, sym, ap, subst, ◌∙◌, Some}
use Rattle.std.specs.FinMap.{get, insert}
use Rattle.files_model.specs.declared.attributes.Kind.TheVariants.{Regular}
use Rattle.files_model.specs.Files.{Node, sectors_of, clipped}
use Rattle.files_model.specs.Step.{with_node}
use Rattle.stable.specs.Store.{Image}
use Rattle.v7_map.specs.Image.{inode_at}
use Rattle.v7_map.specs.Frame.{Body, frame}
use Rattle.v7_map.specs.Tree.{tree}
use Rattle.v7_map.specs.Weak.{IsWeak}
use Rattle.v7_map.specs.View.{view, node_of, body_at}
use Rattle.v7_map.proofs.Nodes.{view-node, is_file, size_of}
use Rattle.v7_map.proofs.Data.{data-frame, data-view}

module _ (image : Image) (i : ℕ) (n : Node) (weak : IsWeak (frame image)) (at : get (view image).nodes i ≡ Some n) where
  module _ (regular : n.kind ≡ Regular) (k a : ℕ) (bytes : List ℕ) (below : k < sectors_of n.size) (is : (frame image).address i (Body k) ≡ a) (there : a ≢ 0) where
    -- a data sector of a regular file is put
    pub frame_after_data : frame (set image a bytes) ≡ frame image
    frame_after_data = let s = view-node image i n at in data-frame image i k a bytes weak (is_file image i n s regular) is there

    pub view_after_data : view (set image a bytes) ≡ with_node (view image) i (record n { sectors = insert n.sectors k (clipped n.size k bytes) })
    view_after_data =
        let s = view-node image i n at in
        let size : ((frame image).head i).size ≡ n.size = size_of image i n s in
        data-view image i k a bytes weak (is_file image i n s regular) is there (subst (λ z. k < sectors_of z) (sym size) below) s.named s.within
        ∙ ap (λ z. with_node (view image) i (node_of (tree (frame image)) i (inode_at image i) (insert (body_at image (frame image) i) k (clipped z k bytes)))) size
        ∙ ap (λ (m : Node). with_node (view image) i (record m { sectors = insert m.sectors k (clipped n.size k bytes) })) s.is
