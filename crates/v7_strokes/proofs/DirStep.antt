-- The put of a slot that comes to name a new directory.
use Rattle.std.proofs.Common.{◌≡◌, ◌≢◌, ℕ, ◌+◌, ◌/◌, ◌<◌, ◌≤◌, true, cond, ◌||◌, ◌==◌, List, [], ◌∷◌, get_or, set, refl, sym, ap, subst, ◌∙◌, arith, ⊎_elim, Some, None, ltb, eq-eqb, not, suc}
use Rattle.std.proofs.lemmas.Bool.{cases_eq, ne_eqb}
use Rattle.std.specs.FinMap.{get}
use Rattle.std.specs.List.{range_with_len, list_any, count_by}
use Rattle.v7_layout.specs.declared.inode.Inode.{Inode}
use Rattle.files_model.specs.Files.{Slot, Node, sectors_of}
use Rattle.stable.specs.Store.{Image}
use Rattle.v7_map.specs.Image.{inode_at}
use Rattle.v7_map.specs.Frame.{Frame, Place, Head, Body, Single, is_directory, frame}
use Rattle.v7_map.specs.Tree.{tree, is_walked, is_named, links, is_slot_of}
use Rattle.v7_map.specs.View.{view, node_of, node_at, body_at}
use Rattle.v7_map.specs.Weak.{IsWeak, IsTree}
use Rattle.v7_map.proofs.AnyFrame.{frame-IsFrame}
use Rattle.v7_map.proofs.Nodes.{view-node}
use Rattle.v7_strokes.specs.Slots.{NewDirectory, PutsDirectory}
use Rattle.v7_map.proofs.Named.{tree-numbers}
use Rattle.v7_plans.proofs.Local.{IsStrongFor}
use Rattle.v7_strokes.proofs.Exempt.{weak_slots}
use Rattle.v7_strokes.proofs.NewDirectory.{new-links, new-walked_other, new-walked_here, new-no_links, made-IsTree}
use Rattle.v7_strokes.proofs.Slots.{same_count, count-cons}
use Rattle.v7_strokes.proofs.SlotPut.{slot-frame, slot-slots_other, slot_rest, slot-here, slot-length, slot-first, slot-inodes, slot-bodies}
use Rattle.v7_strokes.proofs.SlotStep.{walked-dir, walked-number}
use Rattle.v7_strokes.proofs.Two.{view-two}
use Rattle.v7_strokes.proofs.Views.{set_is}
use Rattle.v7_strokes.specs.Left.{one}
use Rattle.v7_strokes.specs.Changes.{changed, node_if}

module _ (old : Image) (d k i : ℕ) (name : List ℕ) (bytes : List ℕ) (weak : IsWeak (frame old)) (x : PutsDirectory old d k i name bytes) where
  a : ℕ
  a = (frame old).address d (Body (k / 32))

  new : Image
  new = set old ((frame old).address d (Body (k / 32))) bytes

  dir : is_directory ((frame old).head d) ≡ true
  dir = walked-dir old d x.walked

  below : k / 32 < sectors_of ((frame old).head d).size
  below = let i = x.inside in omega arith

  next : Frame
  next = record (frame old) { slots = (frame new).slots }

  same : frame new ≡ next
  unfolding next new
  same = slot-frame old d k ((frame old).address d (Body (k / 32))) bytes (Some (i, name)) weak dir below refl x.puts

  change : NewDirectory (tree (frame old)) (tree next) d k i name
  unfolding next new
  change = record {
    inodes = refl;
    dirs = λ j. refl;
    others = slot-slots_other old d k ((frame old).address d (Body (k / 32))) bytes (Some (i, name)) weak dir below refl x.puts;
    rest = slot_rest old d k ((frame old).address d (Body (k / 32))) bytes (Some (i, name)) weak dir below refl x.puts;
    past = x.past;
    old = x.empty;
    new = slot-here old d k ((frame old).address d (Body (k / 32))) bytes (Some (i, name)) weak dir below refl x.puts x.inside;
    dir = x.dir;
    apart = x.apart;
    no_root = x.no_root;
    unnamed = x.unnamed;
    walked = x.walked;
    dot = x.dot;
    dots = x.dots;
    empty = x.nothing;
    numbers = tree-numbers old;
  }

  -- the new directory's slots name itself once, and its parent once
  own : (j : ℕ) → count_by (is_slot_of j) ((tree (frame old)).slots i) ≡ one (i == j) + one (d == j)
  own j = counted ((tree (frame old)).slots i) x.dot x.dots x.nothing
    where
      nothing_counts : (xs : List Slot) → ((l : ℕ) → get_or xs l None ≡ None) → count_by (is_slot_of j) xs ≡ 0
      nothing_counts xs none = same_count (is_slot_of j) [] xs refl (λ l. ap (is_slot_of j) (none l))

      counted : (xs : List Slot) → get_or xs 0 None ≡ Some (i, 46 ∷ []) → get_or xs 1 None ≡ Some (d, 46 ∷ 46 ∷ []) → ((l : ℕ) → 2 ≤ l → get_or xs l None ≡ None) → count_by (is_slot_of j) xs ≡ one (i == j) + one (d == j)
      counted [] a b none = absurd (cc)
      counted (y ∷ []) a b none = absurd (cc)
      counted (y ∷ z ∷ zs) a b none =
          let e = count-cons (is_slot_of j) y (z ∷ zs) in let f = count-cons (is_slot_of j) z zs in
          let rest : count_by (is_slot_of j) zs ≡ 0 = nothing_counts zs (λ l. none (suc (suc l)) (omega arith)) in
          let p : ◌≡◌ {A = ℕ} (one (is_slot_of j y)) (one (i == j)) = ap (λ s. one (is_slot_of j s)) a in
          let q : ◌≡◌ {A = ℕ} (one (is_slot_of j z)) (one (d == j)) = ap (λ s. one (is_slot_of j s)) b in omega arith

  links_next : (j : ℕ) → links (tree next) j ≡ links (tree (frame old)) j + (one (i == j) + one (d == j)) + one (i == j)
  links_next j = new-links (tree (frame old)) (tree next) d k i name change j ∙ ap (λ n. links (tree (frame old)) j + n + one (i == j)) (own j)

  pub dir-links : (j : ℕ) → links (tree (frame (set old ((frame old).address d (Body (k / 32))) bytes))) j ≡ links (tree (frame old)) j + (one (i == j) + one (d == j)) + one (i == j)
  unfolding new
  dir-links j = ap (λ f. links (tree f) j) same ∙ links_next j

  no_one : (p q : ℕ) → p ≢ q → ◌≡◌ {A = ℕ} (one (p == q)) 0
  no_one p q ne = ap one (ne_eqb p q ne)

  yes_one : (p : ℕ) → ◌≡◌ {A = ℕ} (one (p == p)) 1
  yes_one p = ap one (eq-eqb p p refl)

  pub dir-links_here : links (tree (frame (set old ((frame old).address d (Body (k / 32))) bytes))) i ≡ 2
  dir-links_here = let l = dir-links i in let z = new-no_links (tree (frame old)) (tree next) d k i name change in let y = yes_one i in let n = no_one d i (λ e. x.apart (sym e)) in omega arith

  pub dir-links_parent : links (tree (frame (set old ((frame old).address d (Body (k / 32))) bytes))) d ≡ links (tree (frame old)) d + 1
  dir-links_parent = let l = dir-links d in let y = yes_one d in let n = no_one i d x.apart in omega arith

  pub dir-links_other : (j : ℕ) → j ≢ i → j ≢ d → links (tree (frame (set old ((frame old).address d (Body (k / 32))) bytes))) j ≡ links (tree (frame old)) j
  dir-links_other j ni nd = let l = dir-links j in let y = no_one i j (λ e. ni (sym e)) in let n = no_one d j (λ e. nd (sym e)) in omega arith

  linked : (j : ℕ) → links (tree next) j ≤ 65535
  unfolding new
  linked j = let same_links : links (tree next) j ≡ links (tree (frame new)) j = ap (λ f. links (tree f) j) (sym same) in ⊎_elim
      (λ (e : j ≡ i). let h : links (tree (frame new)) j ≡ 2 = ap (links (tree (frame new))) e ∙ dir-links_here in omega arith)
      (λ (ni : j ≢ i). ⊎_elim
      (λ (e : j ≡ d). let h : links (tree (frame new)) j ≡ links (tree (frame old)) d + 1 = ap (links (tree (frame new))) e ∙ dir-links_parent in let b = x.bound in omega arith)
      (λ (nd : j ≢ d). let h = dir-links_other j ni nd in let b = weak.names.linked j in omega arith)
      (cases_eq j d))
      (cases_eq j i)

  names : IsTree next (tree next)
  unfolding next
  names = made-IsTree (tree (frame old)) (tree next) d k i name change (frame old) next weak.names (λ j u. u) ((frame-IsFrame old).directories i x.dir) ((frame-IsFrame old).directories d dir) x.good_name linked

  pub dir-weak : IsWeak (frame (set old ((frame old).address d (Body (k / 32))) bytes))
  unfolding next new
  dir-weak = subst IsWeak (sym same) (weak_slots (frame old) (frame new).slots weak names)

  walked_other : (j : ℕ) → j ≢ i → is_walked (tree (frame new)) j ≡ is_walked (tree (frame old)) j
  walked_other j ne = ap (λ f. is_walked (tree f) j) same ∙ new-walked_other (tree (frame old)) (tree next) d k i name change j ne

  walked_here : is_walked (tree (frame new)) i ≡ true
  walked_here = ap (λ f. is_walked (tree f) i) same ∙ new-walked_here (tree (frame old)) (tree next) d k i name change

  pub dir-head : (j : ℕ) → (frame (set old ((frame old).address d (Body (k / 32))) bytes)).head j ≡ (frame old).head j
  unfolding next new
  dir-head j = ap (λ (f : Frame). f.head j) same

  pub dir-sizes : ((frame (set old ((frame old).address d (Body (k / 32))) bytes)).isize ≡ (frame old).isize) × ((frame (set old ((frame old).address d (Body (k / 32))) bytes)).fsize ≡ (frame old).fsize)
  unfolding next new
  dir-sizes = (ap (λ (f : Frame). f.isize) same, ap (λ (f : Frame). f.fsize) same)

  pub dir-address : (j : ℕ) (p : Place) → (frame (set old ((frame old).address d (Body (k / 32))) bytes)).address j p ≡ (frame old).address j p
  unfolding next new
  dir-address j p = ap (λ (f : Frame). f.address j p) same

  pub dir-named : is_named (tree (frame (set old ((frame old).address d (Body (k / 32))) bytes))) i ≡ true
  unfolding new
  dir-named = ap (λ b. b || ltb 0 (links (tree (frame new)) i)) walked_here

  -- all but the two count their links
  pub dir-strong : (K : ℕ → Type 0) → ((j : ℕ) → K j → (j ≢ i) × (j ≢ d)) → IsStrongFor K (frame old) → IsStrongFor K (frame (set old ((frame old).address d (Body (k / 32))) bytes))
  unfolding new
  dir-strong K others strong = record {
    weak = dir-weak;
    counted = λ j l u. let o = others j l in ap (λ (h : Head). h.nlink) (dir-head j) ∙ strong.counted j l (ap (λ (h : Head). h.is_used) (sym (dir-head j)) ∙ u) ∙ sym (dir-links_other j o.0 o.1);
    named = λ j l u. let o = others j l in (λ z. walked_other j o.0 z || ltb 0 (dir-links_other j o.0 o.1 z)) ∙ strong.named j l (ap (λ (h : Head). h.is_used) (sym (dir-head j)) ∙ u);
    none_past = λ j q le. dir-address j (Body q) ∙ strong.none_past j q (subst (λ (h : Head). sectors_of h.size ≤ q) (dir-head j) le);
    single_needed = λ j nz. (λ z. list_any (λ q. not (dir-address j (Body q) z == 0)) (range_with_len 10 128)) ∙ strong.single_needed j (λ z. nz (dir-address j Single ∙ z));
  }

  inodes_same : (j : ℕ) → inode_at new j ≡ inode_at old j
  unfolding new
  inodes_same = slot-inodes old d k ((frame old).address d (Body (k / 32))) bytes (Some (i, name)) weak dir below refl x.puts

  bodies_same : (j : ℕ) → body_at new (frame new) j ≡ body_at old (frame old) j
  unfolding new
  bodies_same = slot-bodies old d k ((frame old).address d (Body (k / 32))) bytes (Some (i, name)) weak dir below refl x.puts

  slots_other : (j : ℕ) → j ≢ d → (tree (frame new)).slots j ≡ (tree (frame old)).slots j
  unfolding new
  slots_other = slot-slots_other old d k ((frame old).address d (Body (k / 32))) bytes (Some (i, name)) weak dir below refl x.puts

  module _ (m : Node) (at : get (view old).nodes d ≡ Some m) (within : i < (tree (frame old)).inodes + 1) where
    slots_d : (tree (frame new)).slots d ≡ set m.slots k (Some (i, name))
    unfolding new
    slots_d =
        let sd = view-node old d m at in
        let slots : (tree (frame old)).slots d ≡ m.slots = ap (λ (y : Node). y.slots) sd.is in
        let lengths = slot-length old d k ((frame old).address d (Body (k / 32))) bytes (Some (i, name)) weak dir below refl x.puts in
        set_is ((tree (frame old)).slots d) ((tree (frame new)).slots d) k (Some (i, name)) (subst (λ z. k < z) (sym lengths.1) x.inside) (lengths.0 ∙ sym lengths.1)
        (slot_rest old d k ((frame old).address d (Body (k / 32))) bytes (Some (i, name)) weak dir below refl x.puts)
        (slot-here old d k ((frame old).address d (Body (k / 32))) bytes (Some (i, name)) weak dir below refl x.puts x.inside) ∙ ap (λ y. set y k (Some (i, name))) slots

    parent_node : node_if new d ≡ Some (record m { nlink = m.nlink + 1; slots = set m.slots k (Some (i, name)) })
    unfolding new
    parent_node =
        let sd = view-node old d m at in
        let w : is_walked (tree (frame new)) d ≡ true = walked_other d (λ e. x.apart (sym e)) ∙ x.walked in
        (λ z. cond (w z || ltb 0 (links (tree (frame new)) d)) (Some (record (node_of (tree (frame old)) d (inodes_same d z) (bodies_same d z)) { nlink = dir-links_parent z; slots = slots_d z })) None)
        ∙ ap (λ (y : Node). Some (record y { nlink = y.nlink + 1; slots = set m.slots k (Some (i, name)) })) sd.is

    other_node : (j : ℕ) → j ≢ i → j ≢ d → node_if new j ≡ node_if old j
    unfolding new
    other_node j ni nd z = cond (walked_other j ni z || ltb 0 (dir-links_other j ni nd z)) (Some (record (node_of (tree (frame old)) j (inodes_same j z) (bodies_same j z)) { nlink = dir-links_other j ni nd z; slots = slots_other j nd z })) None

    -- the new directory appears, and its parent has one link more
    pub dir-view : view (set old ((frame old).address d (Body (k / 32))) bytes) ≡ changed (view old) i (Some (record (node_at old i) { nlink = 2 })) d (record m { nlink = m.nlink + 1; slots = set m.slots k (Some (i, name)) })
    unfolding new
    dir-view = view-two old new i d (record m { nlink = m.nlink + 1; slots = set m.slots k (Some (i, name)) })
        (slot-first old d k ((frame old).address d (Body (k / 32))) bytes (Some (i, name)) weak dir below refl x.puts)
        (λ j. ap (λ (y : Inode). y.generation) (inodes_same j)) other_node parent_node within (let h = walked-number old d x.walked in let high = h.1 in omega arith)
        ∙ ap (λ o. changed (view old) i o d (record m { nlink = m.nlink + 1; slots = set m.slots k (Some (i, name)) }))
        (λ z. cond (dir-named z) (Some (record (node_of (tree (frame old)) i (inodes_same i z) (bodies_same i z)) { nlink = dir-links_here z; slots = slots_other i x.apart z })) None)
