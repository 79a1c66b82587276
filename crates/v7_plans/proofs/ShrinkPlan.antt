-- A size that shrinks, where the block of addresses keeps some: the inode, and then that block.
use Rattle.std.proofs.Common.{◌≡◌, ◌≢◌, ℕ, ◌≤◌, Bool, true, false, not, ◌==◌, List, [], ◌∷◌, set, refl, sym, ap, subst, ◌∙◌, arith, inl, inr}
use Rattle.std.specs.List.{range_with_len, list_any}
use Rattle.v7_layout.specs.declared.inode.Inode.{Inode}
use Rattle.files_model.specs.Files.{Node, sectors_of}
use Rattle.files_model.specs.Step.{with_node}
use Rattle.files_model.specs.Torn.{Asked, after_calls}
use Rattle.stable.specs.Store.{Image}
use Rattle.v7_map.specs.Image.{inode_sector}
use Rattle.v7_map.specs.Frame.{Head, Place, Body, Single, head_of, is_directory, address_of, frame}
use Rattle.v7_map.specs.Tree.{tree, is_named, links}
use Rattle.v7_map.specs.View.{view, node_of}
use Rattle.v7_map.specs.Weak.{IsWeak, IsStrong}
use Rattle.v7_map.specs.Plans.{IsPlanOf}
use Rattle.v7_map.proofs.AnyFrame.{frame-IsFrame}
use Rattle.v7_map.proofs.Data.{view_but_one}
use Rattle.v7_map.proofs.Nodes.{StandsAs, view-node}
use Rattle.v7_map.proofs.Ranges.{inode_sector-inside}
use Rattle.v7_map.proofs.Used.{named_used}
use Rattle.v7_plans.specs.Setting.{IsSetting, ShrinksTo, IsCutBy, put_inode}
use Rattle.v7_plans.proofs.InodePut.{put-head, put-address, put-tree, put-elsewhere, put-weak, put-inode, put-inode_other, put-body, put-body_other, put-first}
use Rattle.v7_plans.proofs.Local.{Elsewhere, IsStrongBut, held-mine, same-IsTree, each}
use Rattle.std.proofs.Common.{◌<◌, length, false, ⊎_elim, length-set, List, set}
use Rattle.v7_map.specs.Image.{inode_at}
use Rattle.std.proofs.lemmas.Bool.{cases_eq}
use Rattle.stable.specs.Puts.{put_all}
use Rattle.v7_map.specs.Frame.{Single, Double, Body, slots_of}
use Rattle.v7_map.specs.Weak.{IsWeak}
use Rattle.v7_map.proofs.Frames.{no_slots}
use Rattle.v7_plans.specs.Placed.{IsMine}
use Rattle.v7_plans.proofs.Muting.{muted-tree, muted-heads, muted-view, muted-strong, muted-prefixes, muted-past, muted-inside, muted-whole}

clash : {b : Bool} → b ≡ true → b ≡ false → ⊥
clash {b = b} x y = cc

module _ (image : Image) (asked : Asked) (now i : ℕ) (n m : Node) (v : Inode) (b : List ℕ) (strong : IsStrong (frame image)) (c : IsSetting (view image) asked now i n m) (x : ShrinksTo image i v m b) where
  s_i : StandsAs image i n
  s_i = view-node image i n c.at

  used : ((frame image).head i).is_used ≡ true
  used = named_used (frame image) strong.weak (frame-IsFrame image).directories i s_i.named

  mine : (q : Place) → address_of image (head_of v) q ≢ 0 → IsMine (frame image) i (address_of image (head_of v) q)
  mine q nz = subst (IsMine (frame image) i) (sym (x.kept q nz)) (held-mine (frame image) i q strong.weak (λ z. nz (x.kept q nz ∙ z)))

  needed : (k : ℕ) → is_directory (head_of v) ≡ true → k < sectors_of (head_of v).size → address_of image (head_of v) (Body k) ≢ 0
  needed k dir lt = absurd (clash dir x.no_directory)

  apart : (q r : Place) → address_of image (head_of v) q ≢ 0 → address_of image (head_of v) q ≡ address_of image (head_of v) r → q ≡ r
  apart q r nz same = (strong.weak.unshared i i q r (λ z. nz (x.kept q nz ∙ z)) (sym (x.kept q nz) ∙ same ∙ x.kept r (λ z. nz (same ∙ z)))).1

  no_double : address_of image (head_of v) Double ≡ 0
  no_double = ⊎_elim (λ (e : address_of image (head_of v) Double ≡ 0). e) (λ (ne : address_of image (head_of v) Double ≢ 0). x.kept Double ne ∙ strong.weak.no_double i) (cases_eq (address_of image (head_of v) Double) 0)

  same_kind : is_directory (head_of v) ≡ is_directory ((frame image).head i)
  same_kind = x.no_directory ∙ sym x.was_none

  same_slots : slots_of image (head_of v) ≡ (frame image).slots i
  unfolding frame
  same_slots = no_slots image (head_of v) x.no_directory ∙ sym (no_slots image (head_of (inode_at image i)) x.was_none)

  abbrev new : Image
  new = set image (inode_sector i) b

  pub shrink-elsewhere : Elsewhere i (frame image) (frame (put_inode image i b))
  shrink-elsewhere = put-elsewhere image i b v strong.weak x.puts mine needed

  pub shrink-head : (frame (put_inode image i b)).head i ≡ head_of v
  shrink-head = put-head image i b v strong.weak x.puts mine needed

  pub shrink-address : (p : Place) → (frame (put_inode image i b)).address i p ≡ address_of image (head_of v) p
  shrink-address = put-address image i b v strong.weak x.puts mine needed

  same_tree : tree (frame new) ≡ tree (frame image)
  same_tree = put-tree image i b v strong.weak x.puts mine needed same_kind same_slots

  used_stay : (j : ℕ) → ((frame image).head j).is_used ≡ true → ((frame new).head j).is_used ≡ true
  used_stay = each i (λ j. ((frame image).head j).is_used ≡ true → ((frame new).head j).is_used ≡ true) (λ u. ap (λ (h : Head). h.is_used) shrink-head ∙ x.used) (λ j ne u. ap (λ (h : Head). h.is_used) (shrink-elsewhere.heads j ne) ∙ u)

  pub shrink-weak : IsWeak (frame (put_inode image i b))
  shrink-weak = put-weak image i b v strong.weak x.puts mine needed
      (λ e. absurd (clash used (subst (λ z. ((frame image).head z).is_used ≡ false) (sym e) strong.weak.first)))
      (λ e. same_kind ∙ subst (λ z. is_directory ((frame image).head z) ≡ true) (sym e) strong.weak.root)
      (λ u. x.good) apart no_double
      (same-IsTree (frame image) (frame new) strong.weak.names same_tree (λ d k j name w s. used_stay j (strong.weak.names.used d k j name w s).0))

  stored : v.nlink ≡ links (tree (frame image)) i
  unfolding frame
  stored = x.nlink ∙ strong.counted i used

  view_new : view new ≡ after_calls (view image) (asked ∷ []) now
  view_new =
      view_but_one i image new (record {
        first = put-first image i b v strong.weak x.puts mine needed;
        tree = same_tree;
        inodes = put-inode_other image i b v strong.weak x.puts mine needed;
        bodies = put-body_other image i b v strong.weak x.puts mine needed;
        generation = ap (λ (y : Inode). y.generation) (put-inode image i b v strong.weak x.puts mine needed) ∙ x.generation;
      }) s_i.named s_i.within
      ∙ (λ z. with_node (view image) i (node_of (tree (frame image)) i (put-inode image i b v strong.weak x.puts mine needed z) (put-body image i b v strong.weak x.puts mine needed z)))
      ∙ ap (with_node (view image) i) x.is ∙ sym c.after

  sound_new : IsStrongBut (λ j. j ≢ i) i (frame new)
  sound_new = record {
    weak = shrink-weak;
    counted = λ j ne u. ap (λ (h : Head). h.nlink) (shrink-elsewhere.heads j ne) ∙ strong.counted j (ap (λ (h : Head). h.is_used) (sym (shrink-elsewhere.heads j ne)) ∙ u) ∙ ap (λ t. links t j) (sym same_tree);
    named = λ j ne u. ap (λ t. is_named t j) same_tree ∙ strong.named j (ap (λ (h : Head). h.is_used) (sym (shrink-elsewhere.heads j ne)) ∙ u);
    none_past = λ j k ne le. shrink-elsewhere.addresses j ne (Body k) ∙ strong.none_past j k (subst (λ (h : Head). sectors_of h.size ≤ k) (shrink-elsewhere.heads j ne) le);
    single_needed = λ j ne nz. (λ z. list_any (λ k. not (shrink-elsewhere.addresses j ne (Body k) z == 0)) (range_with_len 10 128)) ∙ strong.single_needed j (λ z. nz (shrink-elsewhere.addresses j ne Single ∙ z));
  }

  module _ (inner : List (ℕ × List ℕ)) (cut : IsCutBy (put_inode image i b) i v inner) where
    last : Image
    last = put_all inner new

    sound_last : IsStrongBut (λ j. j ≢ i) i (frame last)
    unfolding last
    sound_last = muted-strong (λ j. j ≢ i) i inner (set image (inode_sector i) b) cut.muted sound_new

    head_last : (frame last).head i ≡ head_of v
    unfolding last
    head_last = muted-heads i inner (set image (inode_sector i) b) cut.muted i ∙ shrink-head

    tree_last : tree (frame last) ≡ tree (frame image)
    unfolding last
    tree_last = muted-tree i inner (set image (inode_sector i) b) cut.muted ∙ same_tree

    strong_last : IsStrong (frame last)
    unfolding last
    strong_last = record {
      weak = sound_last.weak;
      counted = each i (λ j. ((frame last).head j).is_used ≡ true → ((frame last).head j).nlink ≡ links (tree (frame last)) j) (λ u. ap (λ (h : Head). h.nlink) head_last ∙ stored ∙ ap (λ t. links t i) (sym tree_last)) sound_last.counted;
      named = each i (λ j. ((frame last).head j).is_used ≡ true → is_named (tree (frame last)) j ≡ true) (λ u. ap (λ t. is_named t i) tree_last ∙ s_i.named) sound_last.named;
      none_past = each i (λ j. (k : ℕ) → sectors_of ((frame last).head j).size ≤ k → (frame last).address j (Body k) ≡ 0) (λ k le. cut.none_past k (subst (λ (h : Head). sectors_of h.size ≤ k) head_last le)) (λ j ne k le. sound_last.none_past j k ne le);
      single_needed = each i (λ j. (frame last).address j Single ≢ 0 → list_any (λ k. not ((frame last).address j (Body k) == 0)) (range_with_len 10 128) ≡ true) cut.single_needed (λ j ne nz. sound_last.single_needed j ne nz);
    }

    pub shrink-plan : IsPlanOf image (asked ∷ []) now ((inode_sector i, b) ∷ inner)
    unfolding last
    shrink-plan = record {
      past = (omega arith, muted-past i inner (set image (inode_sector i) b) cut.muted);
      inside = ((inode_sector-inside image strong.weak i x.puts.inside).2, muted-inside i (length image) inner (set image (inode_sector i) b) (length-set image (inode_sector i) b) cut.muted);
      whole = (x.puts.long, muted-whole i inner (set image (inode_sector i) b) cut.muted);
      prefixes = (record { weak = strong.weak; torn = inl refl }, muted-prefixes i (view image) (asked ∷ []) now inner (set image (inode_sector i) b) cut.muted (record { weak = shrink-weak; torn = inr (inl view_new) }));
      strong = strong_last;
      after = muted-view i inner (set image (inode_sector i) b) cut.muted ∙ view_new;
    }
