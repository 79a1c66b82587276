-- The put of one inode that has a name: its attributes, size and blocks change, its names don't.
use Rattle.std.proofs.Common.{◌≡◌, ◌≢◌, ℕ, ◌≤◌, Bool, true, false, not, ◌==◌, List, [], ◌∷◌, set, refl, sym, ap, subst, ◌∙◌, arith, inl, inr}
use Rattle.std.specs.List.{range_with_len, list_any}
use Rattle.v7_layout.specs.declared.inode.Inode.{Inode}
use Rattle.files_model.specs.Files.{Node, sectors_of}
use Rattle.files_model.specs.Step.{with_node}
use Rattle.files_model.specs.Torn.{Asked, after_calls}
use Rattle.stable.specs.Store.{Image}
use Rattle.v7_map.specs.Image.{inode_sector}
use Rattle.v7_map.specs.Frame.{Head, Place, Body, Single, head_of, is_directory, address_of, frame}
use Rattle.v7_map.specs.Tree.{tree, is_named, links}
use Rattle.v7_map.specs.View.{view, node_of}
use Rattle.v7_map.specs.Weak.{IsWeak, IsStrong}
use Rattle.v7_map.specs.Plans.{IsPlanOf}
use Rattle.v7_map.proofs.AnyFrame.{frame-IsFrame}
use Rattle.v7_map.proofs.Data.{view_but_one}
use Rattle.v7_map.proofs.Nodes.{StandsAs, view-node}
use Rattle.v7_map.proofs.Ranges.{inode_sector-inside}
use Rattle.v7_map.proofs.Used.{named_used}
use Rattle.v7_plans.specs.Setting.{IsSetting, SetsInode}
use Rattle.v7_plans.proofs.InodePut.{put-head, put-address, put-tree, put-elsewhere, put-weak, put-inode, put-inode_other, put-body, put-body_other, put-first}
use Rattle.v7_plans.proofs.Local.{Elsewhere, strong_for, strong_of, strong_for_local, same-IsTree, each}

clash : {b : Bool} → b ≡ true → b ≡ false → ⊥
clash {b = b} x y = cc

module _ (image : Image) (asked : Asked) (now i : ℕ) (n m : Node) (v : Inode) (b : List ℕ) (strong : IsStrong (frame image)) (c : IsSetting (view image) asked now i n m) (x : SetsInode image i v m b) where
  s_i : StandsAs image i n
  s_i = view-node image i n c.at

  used : ((frame image).head i).is_used ≡ true
  used = named_used (frame image) strong.weak (frame-IsFrame image).directories i s_i.named

  new : Image
  new = set image (inode_sector i) b

  but : Elsewhere i (frame image) (frame new)
  unfolding new
  but = put-elsewhere image i b v strong.weak x.puts x.placed.mine x.placed.needed

  head_new : (frame new).head i ≡ head_of v
  unfolding new
  head_new = put-head image i b v strong.weak x.puts x.placed.mine x.placed.needed

  address_new : (p : Place) → (frame new).address i p ≡ address_of image (head_of v) p
  unfolding new
  address_new = put-address image i b v strong.weak x.puts x.placed.mine x.placed.needed

  same_tree : tree (frame new) ≡ tree (frame image)
  unfolding new
  same_tree = put-tree image i b v strong.weak x.puts x.placed.mine x.placed.needed x.same_kind x.same_slots

  used_stay : (j : ℕ) → ((frame image).head j).is_used ≡ true → ((frame new).head j).is_used ≡ true
  used_stay = each i (λ j. ((frame image).head j).is_used ≡ true → ((frame new).head j).is_used ≡ true) (λ u. ap (λ (h : Head). h.is_used) head_new ∙ x.used) (λ j ne u. ap (λ (h : Head). h.is_used) (but.heads j ne) ∙ u)

  weak_new : IsWeak (frame new)
  unfolding new
  weak_new = put-weak image i b v strong.weak x.puts x.placed.mine x.placed.needed
      (λ e. absurd (clash used (subst (λ z. ((frame image).head z).is_used ≡ false) (sym e) strong.weak.first)))
      (λ e. x.same_kind ∙ subst (λ z. is_directory ((frame image).head z) ≡ true) (sym e) strong.weak.root)
      x.placed.good x.placed.apart x.placed.no_double
      (same-IsTree (frame image) (frame new) strong.weak.names same_tree (λ d k j name w s. used_stay j (strong.weak.names.used d k j name w s).0))

  stored : v.nlink ≡ links (tree (frame image)) i
  unfolding frame
  stored = x.nlink ∙ strong.counted i used

  strong_new : IsStrong (frame new)
  unfolding new
  strong_new = strong_of i (frame new) (strong_for_local i (λ j. j ≢ i) (frame image) (frame new) (λ j ne. ne) (strong_for (λ j. j ≢ i) (frame image) strong) weak_new but same_tree
      (λ k le. address_new (Body k) ∙ x.placed.past k (subst (λ (h : Head). sectors_of h.size ≤ k) head_new le))
      (λ nz. (λ z. list_any (λ k. not (address_new (Body k) z == 0)) (range_with_len 10 128)) ∙ x.placed.single (λ z. nz (address_new Single ∙ z))))
      (λ u. (ap (λ (h : Head). h.nlink) head_new ∙ stored ∙ ap (λ t. links t i) (sym same_tree), ap (λ t. is_named t i) same_tree ∙ s_i.named))

  view_new : view new ≡ after_calls (view image) (asked ∷ []) now
  unfolding new
  view_new =
      view_but_one i image new (record {
        first = put-first image i b v strong.weak x.puts x.placed.mine x.placed.needed;
        tree = same_tree;
        inodes = put-inode_other image i b v strong.weak x.puts x.placed.mine x.placed.needed;
        bodies = put-body_other image i b v strong.weak x.puts x.placed.mine x.placed.needed;
        generation = ap (λ (y : Inode). y.generation) (put-inode image i b v strong.weak x.puts x.placed.mine x.placed.needed) ∙ x.generation;
      }) s_i.named s_i.within
      ∙ (λ z. with_node (view image) i (node_of (tree (frame image)) i (put-inode image i b v strong.weak x.puts x.placed.mine x.placed.needed z) (put-body image i b v strong.weak x.puts x.placed.mine x.placed.needed z)))
      ∙ ap (with_node (view image) i) x.is ∙ sym c.after

  pub setting-plan : IsPlanOf image (asked ∷ []) now ((inode_sector i, b) ∷ [])
  unfolding new
  setting-plan = record {
    past = (omega arith, tt);
    inside = ((inode_sector-inside image strong.weak i x.puts.inside).2, tt);
    whole = (x.puts.long, tt);
    prefixes = (record { weak = strong.weak; torn = inl refl }, record { weak = weak_new; torn = inr (inl view_new) });
    strong = strong_new;
    after = view_new;
  }

  -- where the blocks stand afterwards
  pub setting-blocks : ((p : Place) → (frame (set image (inode_sector i) b)).address i p ≡ address_of image (head_of v) p) × ((j : ℕ) → j ≢ i → (p : Place) → (frame (set image (inode_sector i) b)).address j p ≡ (frame image).address j p)
  unfolding new
  setting-blocks = (address_new, but.addresses)
