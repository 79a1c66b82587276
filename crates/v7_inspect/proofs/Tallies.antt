-- What is counted by the tables is what the view has.
use Rattle.std.proofs.Common.{◌≡◌, ℕ, suc, ◌+◌, ◌-◌, ◌/◌, ◌<◌, ◌≤◌, Bool, true, false, cond, not, ◌&&◌, ◌||◌, ◌==◌, length, get_or, refl, sym, ap, ◌∙◌, arith, ltb, Some, None}
use Rattle.std.specs.Prelude.{count_by}
use Rattle.std.specs.List.{range_with_len}
use Rattle.std.specs.FinMap.{get}
use Rattle.std.proofs.lemmas.Bool.{eqb-true}
use Rattle.v7_damage.proofs.Ranges.{count_next, count_same}
use Rattle.files_model.specs.declared.attributes.Kind.{Kind}
use Rattle.files_model.specs.declared.attributes.Kind.TheVariants.{Regular, Directory, Link}
use Rattle.files_model.specs.Files.{Node}
use Rattle.files_model.proofs.Maps.{get-tabulated}
use Rattle.stable.specs.Store.{Image}
use Rattle.v7_map.specs.Image.{inode_at}
use Rattle.v7_map.specs.Frame.{Frame, frame}
use Rattle.v7_map.specs.Tree.{Tree, tree, is_named}
use Rattle.v7_map.specs.View.{kind_of, view, files_of, node_of, body_at}
use Rattle.v7_damage.specs.declared.tested.Undamaged.{Undamaged}
use Rattle.v7_damage.specs.declared.damage.RepairFault.{RepairFault}
use Rattle.v7_damage.specs.declared.damage.RepairFault.TheVariants.{Damaged, Failed, NoMemory}
use Rattle.v7_damage.specs.Tests.{IsNoDamage}
use Rattle.v7_damage.specs.Undamaged.{IsFaultOf, IsUndamaged}
use Rattle.v7_damage.specs.Marks.{mark_at}
use Rattle.v7_inspect.specs.SeenNumbers.{is_of, same_kind, is_node_of, nodes_of, is_counted}

pub counted_yes : (p : ℕ → Bool) (k : ℕ) → 1 ≤ k → p k ≡ true → count_by p (range_with_len 1 (k + 1 - 1)) ≡ count_by p (range_with_len 1 (k - 1)) + 1
counted_yes p k low e =
    let m : k + 1 - 1 ≡ suc (k - 1) = omega arith in
    let at : 1 + (k - 1) ≡ k = omega arith in
    ap (λ n. count_by p (range_with_len 1 n)) m ∙ count_next p 1 (k - 1) ∙ (λ z. count_by p (range_with_len 1 (k - 1)) + cond ((ap p at ∙ e) z) 1 0)

pub counted_no : (p : ℕ → Bool) (k : ℕ) → 1 ≤ k → p k ≡ false → count_by p (range_with_len 1 (k + 1 - 1)) ≡ count_by p (range_with_len 1 (k - 1))
counted_no p k low e =
    let m : k + 1 - 1 ≡ suc (k - 1) = omega arith in
    let at : 1 + (k - 1) ≡ k = omega arith in
    ap (λ n. count_by p (range_with_len 1 n)) m ∙ count_next p 1 (k - 1) ∙ (λ z. count_by p (range_with_len 1 (k - 1)) + cond ((ap p at ∙ e) z) 1 0) ∙ (let e : count_by p (range_with_len 1 (k - 1)) + 0 ≡ count_by p (range_with_len 1 (k - 1)) = omega arith in e)

-- ---- kinds

not-both : (type : ℕ) → (type == 4) ≡ true → (type == 10) ≡ false
not-both type e = let four : type ≡ 4 = eqb-true type 4 e in (λ z. four z == 10)

-- the kind that a type says
kind-is : (k : Kind) (type : ℕ) → is_of k type ≡ same_kind k (kind_of type)
kind-is Directory type = by_tests (type == 4) (type == 10)
  where
    by_tests : (a b : Bool) → a ≡ same_kind Directory (cond a Directory (cond b Link Regular))
    by_tests true b = refl
    by_tests false true = refl
    by_tests false false = refl
kind-is Link type = by_tests (type == 4) (type == 10) (not-both type)
  where
    by_tests : (a b : Bool) → (a ≡ true → b ≡ false) → b ≡ same_kind Link (cond a Directory (cond b Link Regular))
    by_tests true b h = h refl
    by_tests false true h = refl
    by_tests false false h = refl
kind-is Regular type = by_tests (type == 4) (type == 10)
  where
    by_tests : (a b : Bool) → (not a && not b) ≡ same_kind Regular (cond a Directory (cond b Link Regular))
    by_tests true b = refl
    by_tests false true = refl
    by_tests false false = refl

node-is : (k : Kind) (b : Bool) (n : Node) → is_node_of k (cond b (Some n) None) ≡ (b && same_kind k n.kind)
node-is k true n = refl
node-is k false n = refl

-- ---- the view

module _ (image : Image) where
  abbrev f : Frame
  f = frame image

  abbrev t : Tree
  t = tree f

  pub node-at : (i : ℕ) → i < t.inodes + 1 → get (view image).nodes i ≡ cond (is_named t i) (Some (node_of t i (inode_at image i) (body_at image f i))) None
  unfolding view files_of
  node-at i lt = get-tabulated (λ i. cond (is_named t i) (Some (node_of t i (inode_at image i) (body_at image f i))) None) (t.inodes + 1) i lt

  view-inodes : (view image).inodes ≡ t.inodes
  unfolding view files_of
  view-inodes = refl

  type-is : (i : ℕ) → (f.head i).type ≡ (inode_at image i).mode / 4096
  unfolding frame
  type-is i = refl

  module _ (known : Undamaged) (is : IsUndamaged image known) (long : length known.counts.items ≡ length known.types.items) where
    pub named-by : (i : ℕ) → 1 ≤ i → i < t.inodes + 1 → (mark_at known.walked i || ltb 0 (get_or known.counts.items i 0)) ≡ is_named t i
    named-by i low high = let count = is.count in λ z. is.walked_are i z || ltb 0 (is.counts_are i low (omega arith) z)

    each-counted : (k : Kind) (i : ℕ) → 1 ≤ i → i < 1 + t.inodes → is_counted k known i ≡ is_node_of k (get (view image).nodes i)
    each-counted k i low high =
        (λ z. named-by i low (omega arith) z && is_of k ((is.types_are.each i ∙ type-is i) z)) ∙ ap (λ b. is_named t i && b) (kind-is k ((inode_at image i).mode / 4096))
        ∙ sym (ap (is_node_of k) (node-at i (omega arith)) ∙ node-is k (is_named t i) (node_of t i (inode_at image i) (body_at image f i)))

    pub nodes_counted : (k : Kind) → count_by (is_counted k known) (range_with_len 1 (length known.types.items - 1)) ≡ nodes_of k (view image)
    unfolding nodes_of
    nodes_counted k =
        let count = is.count in
        let all : length known.types.items - 1 ≡ t.inodes = omega arith in
        ap (λ m. count_by (is_counted k known) (range_with_len 1 m)) all
        ∙ count_same (is_counted k known) (λ i. is_node_of k (get (view image).nodes i)) 1 t.inodes (each-counted k)
        ∙ ap (λ m. count_by (λ i. is_node_of k (get (view image).nodes i)) (range_with_len 1 m)) (sym view-inodes)

pub undamaged_told : (image : Image) (e : RepairFault) → IsNoDamage e → IsFaultOf image e
undamaged_told image (Damaged sector which) none = absurd none
undamaged_told image Failed none = tt
undamaged_told image NoMemory none = tt
