-- A new file whose entry takes an empty slot: the new inode, and the slot.
use Rattle.std.proofs.Common.{◌≡◌, ◌≢◌, ℕ, ◌+◌, ◌/◌, ◌<◌, ◌≤◌, Bool, true, false, cond, List, [], length, get_or, set, refl, sym, ap, subst, ◌∙◌, arith, ⊎_elim, eq-eqb, ltb, Some, None}
use Rattle.std.proofs.lemmas.Bool.{cases_eq, ne_eqb}
use Rattle.std.specs.FinMap.{get, insert}
use Rattle.v7_layout.specs.declared.inode.Inode.{Inode}
use Rattle.files_model.specs.Files.{Node, Files, Slot}
use Rattle.stable.specs.Store.{Image}
use Rattle.v7_map.specs.Image.{sector_at, inode_at, inode_sector}
use Rattle.v7_map.specs.Frame.{Head, Body, head_of, is_directory, address_of, frame}
use Rattle.v7_map.specs.Tree.{tree, is_walked, is_named, links, is_slot_of}
use Rattle.v7_map.specs.View.{view, node_of, node_at, body_of, body_at}
use Rattle.v7_map.specs.Weak.{IsWeak, IsStrong, slot_at}
use Rattle.v7_map.specs.Plan.{PutsInode}
use Rattle.v7_map.proofs.Frames.{no_slots}
use Rattle.v7_map.proofs.Walks.{or_right}
use Rattle.v7_strokes.specs.NewNodes.{IsNewFile}
use Rattle.v7_strokes.specs.Slots.{PutsSlot, PutsEntry}
use Rattle.v7_strokes.proofs.Directories.{StandsDir}
use Rattle.v7_plans.proofs.InodePut.{put-body, put-slots}
use Rattle.v7_plans.proofs.Local.{IsStrongFor, strong_for, strong_of}
use Rattle.v7_strokes.proofs.Slots.{plain-alike}
use Rattle.v7_strokes.proofs.SlotStep.{step-strong, step-links, step-heads}
use Rattle.v7_strokes.proofs.Unnamed.{unnamed-weak, unnamed-strong, unnamed-view, unnamed-head, unnamed-heads, unnamed-walked, unnamed-links, unnamed-slots, unnamed-inode}
use Rattle.v7_strokes.proofs.Views.{view-slot, same-within}
use Rattle.v7_strokes.proofs.Names.{some_slot, none_slot}
use Rattle.v7_strokes.proofs.Absent.{absent-unnamed, absent-links}
use Rattle.v7_strokes.specs.Left.{one}
use Rattle.v7_strokes.specs.Changes.{put_option, with_generation}

clash : {b : Bool} → b ≡ true → b ≡ false → ⊥
clash {b = b} x y = cc

-- ---- the new inode

module _ (image : Image) (i : ℕ) (n : Inode) (m : Node) (b1 : List ℕ) (strong : IsStrong (frame image)) (absent : get (view image).nodes i ≡ None) (within : i < (tree (frame image)).inodes + 1) (low : 3 ≤ i)
    (is : IsNewFile image i n m) (puts : PutsInode image i b1 n) where
  unnamed : is_named (tree (frame image)) i ≡ false
  unnamed = absent-unnamed image i strong absent within

  first : Image
  first = set image (inode_sector i) b1

  pub new-weak : IsWeak (frame (set image (inode_sector i) b1))
  new-weak = unnamed-weak image i b1 n strong.weak puts is.placed low unnamed

  pub new-view : view (set image (inode_sector i) b1) ≡ with_generation (view image) i n.generation
  new-view = unnamed-view image i b1 n strong.weak puts is.placed low unnamed within

  -- all but the new one counts its links
  pub new-strong : IsStrongFor (λ j. j ≢ i) (frame (set image (inode_sector i) b1))
  new-strong = unnamed-strong image i b1 n strong.weak puts is.placed low unnamed (λ j. j ≢ i) (λ j ne. ne) (strong_for (λ j. j ≢ i) (frame image) strong)

  pub new-head : (frame (set image (inode_sector i) b1)).head i ≡ head_of n
  new-head = unnamed-head image i b1 n strong.weak puts is.placed low unnamed

  pub new-links : links (tree (frame (set image (inode_sector i) b1))) i ≡ 0
  new-links = unnamed-links image i b1 n strong.weak puts is.placed low unnamed i ∙ absent-links image i strong absent within

  -- it is the new node, but for its links
  pub new-node : node_at (set image (inode_sector i) b1) i ≡ record m { nlink = links (tree (frame (set image (inode_sector i) b1))) i }
  unfolding first
  new-node =
      let slots : (tree (frame first)).slots i ≡ [] = put-slots image i b1 n strong.weak puts is.placed.mine is.placed.needed ∙ no_slots image (head_of n) is.file in
      let inode : inode_at first i ≡ n = unnamed-inode image i b1 n strong.weak puts is.placed low unnamed in
      let body : body_at first (frame first) i ≡ body_of image (head_of n) (address_of image (head_of n)) = put-body image i b1 n strong.weak puts is.placed.mine is.placed.needed in
      let made : node_at first i ≡ record (node_of (tree (frame first)) i n (body_of image (head_of n) (address_of image (head_of n)))) { slots = m.slots } =
      λ z. record (node_of (tree (frame first)) i (inode z) (body z)) { slots = (slots ∙ sym is.no_slots) z } in
      made ∙ ap (λ (x : Node). record x { nlink = links (tree (frame first)) i; slots = m.slots }) is.is

  -- ---- the slot, in a sector that the directory has

  module _ (p : ℕ) (d : Node) (s : StandsDir image p d) (at : get (view image).nodes p ≡ Some d) (name : List ℕ) (named_well : name ≢ []) (k : ℕ) (past : 2 ≤ k) (vacant : slot_at (tree (frame image)) p k ≡ None) (inside : k < length d.slots) (b2 : List ℕ)
      (slot_puts : PutsSlot (sector_at (set image (inode_sector i) b1) ((frame (set image (inode_sector i) b1)).address p (Body (k / 32)))) k b2 (Some (i, name))) where
    a : ℕ
    a = (frame first).address p (Body (k / 32))

    second : Image
    second = set first a b2

    apart : p ≢ i
    apart e = clash (subst (λ z. is_named (tree (frame image)) z ≡ true) e s.stands.named) unnamed

    head_p : (frame first).head p ≡ (frame image).head p
    unfolding first
    head_p = unnamed-heads image i b1 n strong.weak puts is.placed low unnamed p apart

    slots_p : (tree (frame first)).slots p ≡ (tree (frame image)).slots p
    unfolding first
    slots_p = unnamed-slots image i b1 n strong.weak puts is.placed low unnamed p apart

    empty : slot_at (tree (frame first)) p k ≡ None
    empty = ap (λ l. get_or l k None) slots_p ∙ vacant

    file_first : is_directory ((frame first).head i) ≡ false
    unfolding first
    file_first = ap is_directory new-head ∙ is.file

    new_used : (j : ℕ) (other : List ℕ) → ◌≡◌ {A = Slot} (Some (i, name)) (Some (j, other)) → (((frame first).head j).is_used ≡ true) × (other ≢ [])
    unfolding first
    new_used j other e = let r = some_slot i j name other e in (subst (λ z. ((frame first).head z).is_used ≡ true) r.0 (ap (λ (h : Head). h.is_used) new-head ∙ is.used), subst (λ z. z ≢ []) r.1 named_well)

    bound : (j : ℕ) → is_slot_of j (Some (i, name)) ≡ true → links (tree (frame first)) j + 1 ≤ 65535
    unfolding first
    bound j e = ⊎_elim (λ (same : j ≡ i). subst (λ z. links (tree (frame first)) z + 1 ≤ 65535) (sym same) (let l = new-links in omega arith))
        (λ (ne : j ≢ i). absurd (clash e (ne_eqb i j (λ z. ne (sym z))))) (cases_eq j i)

    pub create-entry : PutsEntry (set image (inode_sector i) b1) p k ((frame (set image (inode_sector i) b1)).address p (Body (k / 32))) b2 (Some (i, name))
    unfolding first
    create-entry = record {
      walked = unnamed-walked image i b1 n strong.weak puts is.placed low unnamed p ∙ s.walked;
      inside = subst (λ (h : Head). k < h.size / 16) (sym head_p) (let e = s.size in let l = s.long in omega arith);
      is = refl;
      puts = slot_puts;
      past = past;
      alike = plain-alike (tree (frame first)) (slot_at (tree (frame first)) p k) (Some (i, name)) (λ j other e. absurd (none_slot j other (sym empty ∙ e))) (λ j other e. subst (λ z. is_directory ((frame first).head z) ≡ false) (some_slot i j name other e).0 file_first);
      used = new_used;
      bound = λ j e _. bound j e;
    }

    only : (j : ℕ) → j ≢ i → is_slot_of j (slot_at (tree (frame first)) p k) ≡ is_slot_of j (Some (i, name))
    only j ne = ap (is_slot_of j) empty ∙ sym (ne_eqb i j (λ e. ne (sym e)))

    links_second : links (tree (frame second)) i ≡ 1
    unfolding second first a
    links_second =
        let r = step-links first p k a b2 (Some (i, name)) new-weak create-entry i in
        let before : ◌≡◌ {A = ℕ} (one (is_slot_of i (slot_at (tree (frame first)) p k))) 0 = ap (λ s. one (is_slot_of i s)) empty in
        let after : ◌≡◌ {A = ℕ} (one (is_slot_of i (Some (i, name)))) 1 = ap one (eq-eqb i i refl) in
        let l = new-links in omega arith

    named_second : is_named (tree (frame second)) i ≡ true
    named_second = or_right (is_walked (tree (frame second)) i) (ltb 0 (links (tree (frame second)) i)) (ap (ltb 0) links_second)

    head_second : (frame second).head i ≡ head_of n
    unfolding second first a
    head_second = step-heads first p k a b2 (Some (i, name)) new-weak create-entry i ∙ new-head

    -- the slot makes the node appear, and nothing is left to mend but times
    pub create-strong : IsStrong (frame (set (set image (inode_sector i) b1) ((frame (set image (inode_sector i) b1)).address p (Body (k / 32))) b2))
    unfolding second first a
    create-strong = strong_of i (frame second) (step-strong first p k a b2 (Some (i, name)) new-weak create-entry (λ j. j ≢ i) new-strong only)
        (λ u. (ap (λ (h : Head). h.nlink) head_second ∙ is.one_link ∙ sym links_second, named_second))

    at_first : get (view first).nodes p ≡ Some d
    unfolding first
    at_first = ap (λ (f : Files). get f.nodes p) new-view ∙ at

    within_first : i < (tree (frame first)).inodes + 1
    unfolding first
    within_first = same-within image (set image (inode_sector i) b1) i (ap (λ (f : Files). f.inodes) new-view) within

    pub create-view : view (set (set image (inode_sector i) b1) ((frame (set image (inode_sector i) b1)).address p (Body (k / 32))) b2)
        ≡ record (view image) { nodes = insert (insert (view image).nodes i m) p (record d { slots = set d.slots k (Some (i, name)) }); generations = insert (view image).generations i n.generation }
    unfolding second first a
    create-view =
        view-slot first p k a b2 (Some (i, name)) new-weak create-entry i only apart d at_first within_first
        ∙ (λ z. record (view first) { nodes = insert (put_option (view first).nodes i (cond (named_second z) (Some (record (new-node z) { nlink = links_second z })) None)) p (record d { slots = set d.slots k (Some (i, name)) }) })
        ∙ (λ z. record (new-view z) { nodes = insert (insert (new-view z).nodes i (record m { nlink = sym is.link z })) p (record d { slots = set d.slots k (Some (i, name)) }) })
