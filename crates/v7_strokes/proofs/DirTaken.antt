-- The put that empties the slot of an empty directory.
use Rattle.std.proofs.Common.{◌≡◌, ◌≢◌, ℕ, suc, ◌+◌, ◌-◌, ◌/◌, ◌<◌, ◌≤◌, true, false, cond, not, ◌||◌, ◌==◌, List, [], ◌∷◌, get_or, set, refl, sym, ap, subst, ◌∙◌, arith, Some, None, ltb, eq-eqb}
use Rattle.std.proofs.lemmas.Bool.{ne_eqb}
use Rattle.std.specs.FinMap.{get}
use Rattle.std.specs.List.{range_with_len, list_any, count_by}
use Rattle.v7_layout.specs.declared.inode.Inode.{Inode}
use Rattle.files_model.specs.Files.{Slot, Node, sectors_of}
use Rattle.stable.specs.Store.{Image}
use Rattle.v7_map.specs.Image.{inode_at}
use Rattle.v7_map.specs.Frame.{Frame, Place, Head, Body, Single, is_directory, frame}
use Rattle.v7_map.specs.Tree.{tree, is_walked, is_named, links, is_slot_of}
use Rattle.v7_map.specs.View.{view, node_of, node_at, body_at}
use Rattle.v7_map.specs.Weak.{IsWeak, IsTree}
use Rattle.v7_map.proofs.AnyFrame.{frame-IsFrame}
use Rattle.v7_map.proofs.Nodes.{view-node}
use Rattle.v7_strokes.specs.Slots.{NewDirectory, TakesDirectory}
use Rattle.v7_plans.proofs.Local.{IsStrongFor}
use Rattle.v7_strokes.proofs.Exempt.{weak_slots}
use Rattle.v7_strokes.proofs.NewDirectory.{new-links, new-walked_other, taken-IsTree}
use Rattle.v7_strokes.proofs.Slots.{same_count, count-cons}
use Rattle.v7_strokes.proofs.SlotPut.{slot-frame, slot-slots_other, slot_rest, slot-here, slot-length, slot-first, slot-inodes, slot-bodies}
use Rattle.v7_strokes.proofs.SlotStep.{walked-dir, walked-number}
use Rattle.v7_strokes.proofs.Two.{view-two}
use Rattle.v7_strokes.proofs.Vanish.{vanish-NewDirectory}
use Rattle.v7_strokes.proofs.Views.{set_is}
use Rattle.v7_strokes.specs.Left.{one}
use Rattle.v7_strokes.specs.Changes.{changed, node_if}

own-count : (d i j : ℕ) (xs : List Slot) → get_or xs 0 None ≡ Some (i, 46 ∷ []) → get_or xs 1 None ≡ Some (d, 46 ∷ 46 ∷ []) → ((l : ℕ) → 2 ≤ l → get_or xs l None ≡ None) → count_by (is_slot_of j) xs ≡ one (i == j) + one (d == j)
own-count d i j [] a b none = absurd (cc)
own-count d i j (y ∷ []) a b none = absurd (cc)
own-count d i j (y ∷ z ∷ zs) a b none =
    let e = count-cons (is_slot_of j) y (z ∷ zs) in let f = count-cons (is_slot_of j) z zs in
    let rest : count_by (is_slot_of j) zs ≡ 0 = same_count (is_slot_of j) [] zs refl (λ l. ap (is_slot_of j) (none (suc (suc l)) (omega arith))) in
    let p : ◌≡◌ {A = ℕ} (one (is_slot_of j y)) (one (i == j)) = ap (λ s. one (is_slot_of j s)) a in
    let q : ◌≡◌ {A = ℕ} (one (is_slot_of j z)) (one (d == j)) = ap (λ s. one (is_slot_of j s)) b in omega arith

module _ (old : Image) (d k i : ℕ) (name : List ℕ) (bytes : List ℕ) (weak : IsWeak (frame old)) (x : TakesDirectory old d k i name bytes) where
  new : Image
  new = set old ((frame old).address d (Body (k / 32))) bytes

  dir : is_directory ((frame old).head d) ≡ true
  dir = walked-dir old d x.walked

  below : k / 32 < sectors_of ((frame old).head d).size
  below = let i = x.inside in omega arith

  next : Frame
  next = record (frame old) { slots = (frame new).slots }

  same : frame new ≡ next
  unfolding next new
  same = slot-frame old d k ((frame old).address d (Body (k / 32))) bytes None weak dir below refl x.puts

  change : NewDirectory (tree next) (tree (frame old)) d k i name
  unfolding next new
  change = vanish-NewDirectory (frame old) (frame new).slots d k i name weak (frame-IsFrame old)
      (slot-slots_other old d k ((frame old).address d (Body (k / 32))) bytes None weak dir below refl x.puts)
      (slot_rest old d k ((frame old).address d (Body (k / 32))) bytes None weak dir below refl x.puts)
      x.past x.slot (slot-here old d k ((frame old).address d (Body (k / 32))) bytes None weak dir below refl x.puts x.inside) x.walked x.dir x.apart x.no_root x.nothing

  links_next : (j : ℕ) → links (tree (frame old)) j ≡ links (tree next) j + (one (i == j) + one (d == j)) + one (i == j)
  links_next j = new-links (tree next) (tree (frame old)) d k i name change j ∙ ap (λ n. links (tree next) j + n + one (i == j)) (own-count d i j ((tree next).slots i) change.dot change.dots change.empty)

  pub gone-links : (j : ℕ) → links (tree (frame old)) j ≡ links (tree (frame (set old ((frame old).address d (Body (k / 32))) bytes))) j + (one (i == j) + one (d == j)) + one (i == j)
  unfolding new
  gone-links j = links_next j ∙ ap (λ f. links (tree f) j + (one (i == j) + one (d == j)) + one (i == j)) (sym same)

  no_one : (p q : ℕ) → p ≢ q → ◌≡◌ {A = ℕ} (one (p == q)) 0
  no_one p q ne = ap one (ne_eqb p q ne)

  yes_one : (p : ℕ) → ◌≡◌ {A = ℕ} (one (p == p)) 1
  yes_one p = ap one (eq-eqb p p refl)

  pub gone-links_parent : links (tree (frame (set old ((frame old).address d (Body (k / 32))) bytes))) d + 1 ≡ links (tree (frame old)) d
  gone-links_parent = let l = gone-links d in let y = yes_one d in let n = no_one i d x.apart in omega arith

  pub gone-links_other : (j : ℕ) → j ≢ i → j ≢ d → links (tree (frame (set old ((frame old).address d (Body (k / 32))) bytes))) j ≡ links (tree (frame old)) j
  gone-links_other j ni nd = let l = gone-links j in let y = no_one i j (λ e. ni (sym e)) in let n = no_one d j (λ e. nd (sym e)) in omega arith

  names : IsTree next (tree next)
  unfolding next
  names = taken-IsTree (tree next) (tree (frame old)) d k i name change (frame old) next weak.names (λ j ni u. u)

  pub gone-weak : IsWeak (frame (set old ((frame old).address d (Body (k / 32))) bytes))
  unfolding next new
  gone-weak = subst IsWeak (sym same) (weak_slots (frame old) (frame new).slots weak names)

  walked_other : (j : ℕ) → j ≢ i → is_walked (tree (frame new)) j ≡ is_walked (tree (frame old)) j
  walked_other j ne = ap (λ f. is_walked (tree f) j) same ∙ sym (new-walked_other (tree next) (tree (frame old)) d k i name change j ne)

  pub gone-unnamed : is_named (tree (frame (set old ((frame old).address d (Body (k / 32))) bytes))) i ≡ false
  unfolding new
  gone-unnamed = ap (λ f. is_named (tree f) i) same ∙ change.unnamed

  pub gone-sizes : ((frame (set old ((frame old).address d (Body (k / 32))) bytes)).isize ≡ (frame old).isize) × ((frame (set old ((frame old).address d (Body (k / 32))) bytes)).fsize ≡ (frame old).fsize)
  unfolding next new
  gone-sizes = (ap (λ (f : Frame). f.isize) same, ap (λ (f : Frame). f.fsize) same)

  pub gone-address : (j : ℕ) (p : Place) → (frame (set old ((frame old).address d (Body (k / 32))) bytes)).address j p ≡ (frame old).address j p
  unfolding next new
  gone-address j p = ap (λ (f : Frame). f.address j p) same

  pub gone-head : (j : ℕ) → (frame (set old ((frame old).address d (Body (k / 32))) bytes)).head j ≡ (frame old).head j
  unfolding next new
  gone-head j = ap (λ (f : Frame). f.head j) same

  address_same : (j : ℕ) (p : Place) → (frame new).address j p ≡ (frame old).address j p
  unfolding next
  address_same j p = ap (λ (f : Frame). f.address j p) same

  -- all but the two count their links
  pub gone-strong : (K : ℕ → Type 0) → ((j : ℕ) → K j → (j ≢ i) × (j ≢ d)) → IsStrongFor K (frame old) → IsStrongFor K (frame (set old ((frame old).address d (Body (k / 32))) bytes))
  unfolding new
  gone-strong K others strong = record {
    weak = gone-weak;
    counted = λ j l u. let o = others j l in ap (λ (h : Head). h.nlink) (gone-head j) ∙ strong.counted j l (ap (λ (h : Head). h.is_used) (sym (gone-head j)) ∙ u) ∙ sym (gone-links_other j o.0 o.1);
    named = λ j l u. let o = others j l in (λ z. walked_other j o.0 z || ltb 0 (gone-links_other j o.0 o.1 z)) ∙ strong.named j l (ap (λ (h : Head). h.is_used) (sym (gone-head j)) ∙ u);
    none_past = λ j q le. address_same j (Body q) ∙ strong.none_past j q (subst (λ (h : Head). sectors_of h.size ≤ q) (gone-head j) le);
    single_needed = λ j nz. (λ z. list_any (λ q. not (address_same j (Body q) z == 0)) (range_with_len 10 128)) ∙ strong.single_needed j (λ z. nz (address_same j Single ∙ z));
  }

  inodes_same : (j : ℕ) → inode_at new j ≡ inode_at old j
  unfolding new
  inodes_same = slot-inodes old d k ((frame old).address d (Body (k / 32))) bytes None weak dir below refl x.puts

  bodies_same : (j : ℕ) → body_at new (frame new) j ≡ body_at old (frame old) j
  unfolding new
  bodies_same = slot-bodies old d k ((frame old).address d (Body (k / 32))) bytes None weak dir below refl x.puts

  slots_other : (j : ℕ) → j ≢ d → (tree (frame new)).slots j ≡ (tree (frame old)).slots j
  unfolding new
  slots_other = slot-slots_other old d k ((frame old).address d (Body (k / 32))) bytes None weak dir below refl x.puts

  module _ (m : Node) (at : get (view old).nodes d ≡ Some m) (within : i < (tree (frame old)).inodes + 1) where
    slots_d : (tree (frame new)).slots d ≡ set m.slots k None
    unfolding new
    slots_d =
        let sd = view-node old d m at in
        let slots : (tree (frame old)).slots d ≡ m.slots = ap (λ (y : Node). y.slots) sd.is in
        let lengths = slot-length old d k ((frame old).address d (Body (k / 32))) bytes None weak dir below refl x.puts in
        set_is ((tree (frame old)).slots d) ((tree (frame new)).slots d) k None (subst (λ z. k < z) (sym lengths.1) x.inside) (lengths.0 ∙ sym lengths.1)
        (slot_rest old d k ((frame old).address d (Body (k / 32))) bytes None weak dir below refl x.puts)
        (slot-here old d k ((frame old).address d (Body (k / 32))) bytes None weak dir below refl x.puts x.inside) ∙ ap (λ y. set y k None) slots

    less : links (tree (frame new)) d ≡ links (tree (frame old)) d - 1
    unfolding new
    less = let l = gone-links_parent in omega arith

    parent_node : node_if new d ≡ Some (record m { nlink = m.nlink - 1; slots = set m.slots k None })
    parent_node =
        let sd = view-node old d m at in
        let w : is_walked (tree (frame new)) d ≡ true = walked_other d (λ e. x.apart (sym e)) ∙ x.walked in
        (λ z. cond (w z || ltb 0 (links (tree (frame new)) d)) (Some (record (node_of (tree (frame old)) d (inodes_same d z) (bodies_same d z)) { nlink = less z; slots = slots_d z })) None)
        ∙ ap (λ (y : Node). Some (record y { nlink = y.nlink - 1; slots = set m.slots k None })) sd.is

    other_node : (j : ℕ) → j ≢ i → j ≢ d → node_if new j ≡ node_if old j
    unfolding new
    other_node j ni nd z = cond (walked_other j ni z || ltb 0 (gone-links_other j ni nd z)) (Some (record (node_of (tree (frame old)) j (inodes_same j z) (bodies_same j z)) { nlink = gone-links_other j ni nd z; slots = slots_other j nd z })) None

    -- the directory is gone, and its parent has one link less
    pub gone-view : view (set old ((frame old).address d (Body (k / 32))) bytes) ≡ changed (view old) i None d (record m { nlink = m.nlink - 1; slots = set m.slots k None })
    unfolding new
    gone-view = view-two old new i d (record m { nlink = m.nlink - 1; slots = set m.slots k None })
        (slot-first old d k ((frame old).address d (Body (k / 32))) bytes None weak dir below refl x.puts)
        (λ j. ap (λ (y : Inode). y.generation) (inodes_same j)) other_node parent_node within (let h = walked-number old d x.walked in let high = h.1 in omega arith)
        ∙ ap (λ o. changed (view old) i o d (record m { nlink = m.nlink - 1; slots = set m.slots k None })) (λ z. cond (gone-unnamed z) (Some (node_at new i)) None)
