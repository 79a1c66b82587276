-- The usage of the view is what the named inodes need.
use Rattle.std.proofs.Common.{◌≡◌, ℕ, ◌+◌, ◌-◌, ◌/◌, ◌<◌, ◌≤◌, Bool, true, false, cond, not, ◌==◌, refl, sym, ap, ◌∙◌, arith, ⊎_elim, ltb, leb, Some, None}
use Rattle.std.specs.Prelude.{is_some}
use Rattle.std.specs.FinMap.{get, empty}
use Rattle.std.specs.List.{range_with_len, sum_by}
use Rattle.std.proofs.lemmas.Bool.{cases_Bool, ne_eqb, lt-ltb, le-leb}
use Rattle.files_model.specs.declared.attributes.Kind.TheVariants.{Regular, Directory, Link}
use Rattle.files_model.specs.Files.{Node, sectors_of, clipped, tabulated}
use Rattle.files_model.specs.Permission.{is_directory as is_directory_kind}
use Rattle.files_model.specs.Space.{is_held, node_usage, usage_at, usage}
use Rattle.files_model.proofs.Maps.{get-tabulated}
use Rattle.stable.specs.Store.{Image}
use Rattle.v7_layout.specs.Records.{super_of}
use Rattle.v7_map.specs.Image.{inode_at, sector_at, is_inode, inodes_before, isize_of}
use Rattle.v7_map.specs.Frame.{Frame, Body, frame, is_directory}
use Rattle.v7_map.specs.Tree.{Tree, tree, is_named}
use Rattle.v7_map.specs.Weak.{IsWeak}
use Rattle.v7_map.specs.View.{kind_of, view, files_of, node_of, body_at, body_of, held}
use Rattle.v7_map.proofs.AnyFrame.{frame-IsFrame}
use Rattle.v7_map.proofs.Used.{named_used}
use Rattle.v7_map.proofs.Walks.{and_both}
use Rattle.v7_damage.specs.Summaries.{needed_by, sectors_in_size, needs}
use Rattle.v7_damage.proofs.Summing.{needed_same}
use Rattle.v7_inspect.specs.Usage.{named_needs}
use Rattle.v7_inspect.proofs.Tallies.{node-at}
use Rattle.v7_inspect.proofs.Usages.{sum_same}

kind-dir : (type : ℕ) → is_directory_kind (kind_of type) ≡ (type == 4)
kind-dir type = by_tests (type == 4) (type == 10)
  where
    by_tests : (a b : Bool) → is_directory_kind (cond a Directory (cond b Link Regular)) ≡ a
    by_tests true b = refl
    by_tests false true = refl
    by_tests false false = refl

held-some : (image : Image) (size k a : ℕ) → is_some (held image size k a) ≡ not (a == 0)
held-some image size k a = by_test (a == 0)
  where
    by_test : (b : Bool) → is_some (cond b None (Some (clipped size k (sector_at image a)))) ≡ not b
    by_test true = refl
    by_test false = refl

usage-cond : (b : Bool) (n : Node) → usage_at (cond b (Some n) None) ≡ cond b (node_usage n) 0
usage-cond true n = refl
usage-cond false n = refl

module _ (image : Image) (weak : IsWeak (frame image)) where
  abbrev f : Frame
  f = frame image

  abbrev t : Tree
  t = tree f

  held-is : (i k : ℕ) → k < sectors_of (f.head i).size → is_held (node_of t i (inode_at image i) (body_at image f i)) k ≡ not (f.address i (Body k) == 0)
  unfolding body_of frame
  held-is i k lt = ⊎_elim
      (λ (dir : is_directory (f.head i) ≡ true).
      ap (λ b. cond b (ltb k (sectors_of (inode_at image i).size)) (is_some (get (body_at image f i) k))) (kind-dir ((inode_at image i).mode / 4096) ∙ dir)
      ∙ lt-ltb k (sectors_of (inode_at image i).size) lt ∙ sym (ap not (ne_eqb (f.address i (Body k)) 0 (weak.needed i k dir lt))))
      (λ (other : is_directory (f.head i) ≡ false).
      ap (λ b. cond b (ltb k (sectors_of (inode_at image i).size)) (is_some (get (body_at image f i) k))) (kind-dir ((inode_at image i).mode / 4096) ∙ other)
      ∙ ap (λ b. is_some (get (cond b empty (tabulated (λ k. held image (f.head i).size k (f.address i (Body k))) (sectors_of (f.head i).size))) k)) other
      ∙ ap is_some (get-tabulated (λ k. held image (f.head i).size k (f.address i (Body k))) (sectors_of (f.head i).size) k lt)
      ∙ held-some image (f.head i).size k (f.address i (Body k)))
      (cases_Bool (is_directory (f.head i)))

  node-needs : (i : ℕ) → is_named t i ≡ true → node_usage (node_of t i (inode_at image i) (body_at image f i)) ≡ needs f i
  unfolding needs frame
  node-needs i named =
      let size = (weak.good i (named_used f weak (frame-IsFrame image).directories i named)).length in
      let few : sectors_of (f.head i).size ≡ sectors_in_size (f.head i).size = omega arith in
      needed_same (is_held (node_of t i (inode_at image i) (body_at image f i))) (λ k. not (f.address i (Body k) == 0)) (sectors_of (f.head i).size) (λ k lt. held-is i k lt)
      ∙ ap (needed_by (λ k. not (f.address i (Body k) == 0))) few

  each-usage : (i : ℕ) → i < t.inodes + 1 → usage_at (get (view image).nodes i) ≡ named_needs image i
  each-usage i lt = ap usage_at (node-at image i lt) ∙ usage-cond (is_named t i) (node_of t i (inode_at image i) (body_at image f i)) ∙ ⊎_elim
      (λ (yes : is_named t i ≡ true). (λ z. cond (yes z) (node_usage (node_of t i (inode_at image i) (body_at image f i))) 0) ∙ node-needs i yes ∙ sym (λ z. cond (yes z) (needs f i) 0))
      (λ (other : is_named t i ≡ false). (λ z. cond (other z) (node_usage (node_of t i (inode_at image i) (body_at image f i))) 0) ∙ sym (λ z. cond (other z) (needs f i) 0))
      (cases_Bool (is_named t i))

  pub usage_is : usage (view image) ≡ sum_by (named_needs image) (range_with_len 1 t.inodes)
  unfolding usage view files_of
  usage_is = sum_same (λ i. usage_at (get (view image).nodes i)) (named_needs image) 1 t.inodes (λ i low high. each-usage i (omega arith))

pub in-range : (image : Image) (i : ℕ) → 1 ≤ i → i < (tree (frame image)).inodes + 1 → is_inode image i ≡ true
unfolding frame
in-range image i low high = and_both (leb 1 i) (leb i (inodes_before (isize_of image))) (le-leb 1 i low) (le-leb i _ (omega arith))

-- the blocks of the view, by the super-block
pub blocks_are : (image : Image) → (view image).blocks ≡ (super_of (sector_at image 1)).s_fsize - (super_of (sector_at image 1)).s_isize
unfolding view files_of frame super_of
blocks_are image = refl
