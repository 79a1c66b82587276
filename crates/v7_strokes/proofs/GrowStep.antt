-- The put of a directory's inode that makes it longer by one slot: the name in that slot appears.
use Rattle.std.proofs.Common.{◌≡◌, ◌≢◌, ℕ, zero, suc, ◌+◌, ◌*◌, ◌/◌, ◌%◌, ◌<◌, ◌≤◌, Bool, true, false, cond, not, ◌||◌, ◌==◌, List, [], ◌∷◌, ◌++◌, map, length, get_or, set, refl, sym, ap, subst, ◌∙◌, arith, ⊎_elim, ltb, Some, None, length-append}
use Rattle.std.proofs.lemmas.Bool.{cases_eq, cases_lt, cases_Bool, eqb-true}
use Rattle.std.proofs.lemmas.List.FromFn.{get_or-map-range_with_len, length-map-range_with_len}
use Rattle.std.specs.FinMap.{get, empty}
use Rattle.std.specs.List.{range_with_len, list_any}
use Rattle.v7_layout.specs.declared.inode.Inode.{Inode}
use Rattle.v7_layout.specs.Numbers.{part}
use Rattle.files_model.specs.Files.{sectors_of, Slot, Node, tabulated}
use Rattle.stable.specs.Store.{Image}
use Rattle.v7_map.specs.Image.{sector_at, inode_at, inode_sector, inodes_before}
use Rattle.v7_map.specs.Frame.{Head, Place, Body, Single, head_of, is_directory, address_of, slots_of, slot_in, slot_of, frame}
use Rattle.v7_map.specs.Tree.{tree, is_walked, is_named, links, is_slot_of}
use Rattle.v7_map.specs.View.{view, node_of, node_at, body_of, body_at, held}
use Rattle.v7_map.specs.Weak.{IsWeak, IsTree, slot_at}
use Rattle.v7_map.specs.Plan.{PutsInode}
use Rattle.v7_map.proofs.AnyFrame.{frame-IsFrame}
use Rattle.v7_map.proofs.Nodes.{view-node}
use Rattle.v7_strokes.specs.Slots.{SlotChange, IsPlain, GrowsBy}
use Rattle.v7_strokes.proofs.Slots.{plain-alike, change-walked, change-links, change-IsTree}
use Rattle.v7_strokes.proofs.SlotPut.{past_range}
use Rattle.v7_strokes.proofs.SlotStep.{walked-dir, walked-number}
use Rattle.v7_plans.proofs.Local.{IsStrongFor, IsStrongBut, Elsewhere, each}
use Rattle.v7_plans.proofs.InodePut.{put-head, put-address, put-slots, put-slots_other, put-elsewhere, put-weak, put-inode, put-inode_other, put-body_other, put-first}
use Rattle.v7_strokes.proofs.Views.{same_list}
use Rattle.v7_strokes.proofs.Two.{view-two}
use Rattle.v7_strokes.specs.Left.{one}
use Rattle.v7_strokes.specs.Changes.{changed, node_if}

none_is : (j : ℕ) (name : List ℕ) → ◌≡◌ {A = Slot} None (Some (j, name)) → ⊥
none_is j name e = cc

clash : {b : Bool} → b ≡ true → b ≡ false → ⊥
clash {b = b} x y = cc

pub no_body : (image : Image) (h : Head) (address : Place → ℕ) → is_directory h ≡ true → body_of image h address ≡ empty
unfolding body_of
no_body image h address dir = ap (λ b. cond b empty (tabulated (λ k. held image h.size k (address (Body k))) (sectors_of h.size))) dir

module _ (old : Image) (d k : ℕ) (n : Inode) (bytes : List ℕ) (s : Slot) (weak : IsWeak (frame old)) (puts : PutsInode old d bytes n) (x : GrowsBy old d k n s) where
  dir : is_directory ((frame old).head d) ≡ true
  dir = walked-dir old d x.walked

  at : (1 ≤ d) × (d < 1 + (tree (frame old)).inodes)
  at = walked-number old d x.walked

  n_dir : is_directory (head_of n) ≡ true
  unfolding frame
  n_dir = ap (λ m. m / 4096 == 4) x.mode ∙ dir

  used_d : ((frame old).head d).is_used ≡ true
  used_d = (frame-IsFrame old).directories d dir

  n_used : (head_of n).is_used ≡ true
  unfolding frame
  n_used = ap (λ m. not (m == 0)) x.mode ∙ used_d

  new : Image
  new = set old (inode_sector d) bytes

  but : Elsewhere d (frame old) (frame new)
  unfolding new
  but = put-elsewhere old d bytes n weak puts x.placed.mine x.placed.needed

  head_new : (frame new).head d ≡ head_of n
  unfolding new
  head_new = put-head old d bytes n weak puts x.placed.mine x.placed.needed

  address_new : (p : Place) → (frame new).address d p ≡ address_of old (head_of n) p
  unfolding new
  address_new p = put-address old d bytes n weak puts x.placed.mine x.placed.needed p

  slots_new : (frame new).slots d ≡ map (slot_in old (head_of n)) (range_with_len 0 (k + 1))
  unfolding new slots_of
  slots_new = put-slots old d bytes n weak puts x.placed.mine x.placed.needed ∙ ap (λ b. cond b (map (slot_in old (head_of n)) (range_with_len 0 (n.size / 16))) []) n_dir
      ∙ ap (λ c. map (slot_in old (head_of n)) (range_with_len 0 c)) (let a = x.longer in let b = x.even in let c = x.end in let e : n.size / 16 ≡ k + 1 = omega arith in e)

  slots_old : (frame old).slots d ≡ map (slot_in old ((frame old).head d)) (range_with_len 0 k)
  unfolding frame slots_of
  slots_old = ap (λ b. cond b (map (slot_in old (head_of (inode_at old d))) (range_with_len 0 ((inode_at old d).size / 16))) []) dir ∙ ap (λ c. map (slot_in old (head_of (inode_at old d))) (range_with_len 0 c)) (sym x.end)

  slot_same : (l : ℕ) → l < k → slot_in old (head_of n) l ≡ slot_in old ((frame old).head d) l
  unfolding frame
  slot_same l lt = ap (λ b. slot_of (part (sector_at old b) (16 * (l % 32)) 16)) (x.kept (l / 32) (let e = x.end in omega arith))

  rest : (l : ℕ) → l ≢ k → slot_at (tree (frame new)) d l ≡ slot_at (tree (frame old)) d l
  rest l ne = ap (λ q. get_or q l None) slots_new ∙ ⊎_elim
      (λ (lt : l < k). get_or-map-range_with_len (slot_in old (head_of n)) 0 (k + 1) l l None (omega arith) (omega arith) ∙ slot_same l lt
      ∙ sym (get_or-map-range_with_len (slot_in old ((frame old).head d)) 0 k l l None lt (omega arith)))
      (λ (ge : k ≤ l). past_range (slot_in old (head_of n)) 0 (k + 1) l (omega arith) ∙ sym (past_range (slot_in old ((frame old).head d)) 0 k l ge))
      (cases_lt l k) ∙ ap (λ q. get_or q l None) (sym slots_old)

  vacant : slot_at (tree (frame old)) d k ≡ None
  vacant = ap (λ q. get_or q k None) slots_old ∙ past_range (slot_in old ((frame old).head d)) 0 k k (omega arith)

  slot : slot_at (tree (frame new)) d k ≡ s
  slot = ap (λ q. get_or q k None) slots_new ∙ get_or-map-range_with_len (slot_in old (head_of n)) 0 (k + 1) k k None (omega arith) (omega arith) ∙ x.content

  two_slots : 2 ≤ k
  two_slots = let g = weak.good d used_d in let r = g.directory (eqb-true ((frame old).head d).type 4 dir) in let low = r.0 in let e = x.end in omega arith

  change : SlotChange (tree (frame old)) (tree (frame new)) d k
  unfolding new
  change = record {
    inodes = ap inodes_before but.isize;
    dirs = each d (λ j. is_directory ((frame new).head j) ≡ is_directory ((frame old).head j)) (ap is_directory head_new ∙ n_dir ∙ sym dir) (λ j ne. ap is_directory (but.heads j ne));
    others = λ j ne. put-slots_other old d bytes n weak puts x.placed.mine x.placed.needed j ne;
    rest = rest;
    past = two_slots;
    alike = plain-alike (tree (frame old)) (slot_at (tree (frame old)) d k) (slot_at (tree (frame new)) d k) (λ j name e. absurd (none_is j name (sym vacant ∙ e))) (subst (IsPlain (tree (frame old))) (sym slot) x.new_plain);
  }

  counts : (j : ℕ) → links (tree (frame new)) j ≡ links (tree (frame old)) j + one (is_slot_of j s)
  counts j = let r = change-links (tree (frame old)) (tree (frame new)) d k change j at.0 at.1 x.walked in
      let e : ◌≡◌ {A = ℕ} (one (is_slot_of j (slot_at (tree (frame old)) d k))) 0 = ap (λ z. one (is_slot_of j z)) vacant in
      let f : ◌≡◌ {A = ℕ} (one (is_slot_of j (slot_at (tree (frame new)) d k))) (one (is_slot_of j s)) = ap (λ z. one (is_slot_of j z)) slot in omega arith

  pub grow-links : (j : ℕ) → links (tree (frame (set old (inode_sector d) bytes))) j ≡ links (tree (frame old)) j + one (is_slot_of j s)
  unfolding new
  grow-links = counts

  links_same : (j : ℕ) → is_slot_of j s ≡ false → links (tree (frame new)) j ≡ links (tree (frame old)) j
  links_same j e = let r = counts j in let o : ◌≡◌ {A = ℕ} (one (is_slot_of j s)) 0 = ap one e in omega arith

  linked : (j : ℕ) → links (tree (frame new)) j ≤ 65535
  linked j = ⊎_elim
      (λ (e : is_slot_of j s ≡ true). let c = counts j in let b = x.bound j e in let o : ◌≡◌ {A = ℕ} (one (is_slot_of j s)) 1 = ap one e in omega arith)
      (λ (e : is_slot_of j s ≡ false). let c = links_same j e in let b = weak.names.linked j in omega arith)
      (cases_Bool (is_slot_of j s))

  used_stay : (j : ℕ) → ((frame old).head j).is_used ≡ true → ((frame new).head j).is_used ≡ true
  used_stay = each d (λ j. ((frame old).head j).is_used ≡ true → ((frame new).head j).is_used ≡ true) (λ _. ap (λ (h : Head). h.is_used) head_new ∙ n_used) (λ j ne u. ap (λ (h : Head). h.is_used) (but.heads j ne) ∙ u)

  names : IsTree (frame new) (tree (frame new))
  names = change-IsTree (tree (frame old)) (tree (frame new)) d k change (frame old) (frame new) weak.names used_stay
      (λ j name e. let r = x.used j name (sym slot ∙ e) in (used_stay j r.0, r.1)) linked

  first_free : d ≡ 1 → (head_of n).is_used ≡ false
  first_free e = absurd (clash used_d (subst (λ z. ((frame old).head z).is_used ≡ false) (sym e) weak.first))

  pub grow-weak : IsWeak (frame (set old (inode_sector d) bytes))
  unfolding new
  grow-weak = put-weak old d bytes n weak puts x.placed.mine x.placed.needed first_free (λ e. n_dir) x.placed.good x.placed.apart x.placed.no_double names

  pub grow-walked : (j : ℕ) → is_walked (tree (frame (set old (inode_sector d) bytes))) j ≡ is_walked (tree (frame old)) j
  unfolding new
  grow-walked j z = list_any (λ q. q == j) (change-walked (tree (frame old)) (tree (frame new)) d k change z)

  pub grow-head : (frame (set old (inode_sector d) bytes)).head d ≡ head_of n
  unfolding new
  grow-head = head_new

  pub grow-sizes : ((frame (set old (inode_sector d) bytes)).isize ≡ (frame old).isize) × ((frame (set old (inode_sector d) bytes)).fsize ≡ (frame old).fsize)
  unfolding new
  grow-sizes = (but.isize, but.fsize)

  pub grow-address : (p : Place) → (frame (set old (inode_sector d) bytes)).address d p ≡ address_of old (head_of n) p
  grow-address = put-address old d bytes n weak puts x.placed.mine x.placed.needed

  pub grow-addresses : (j : ℕ) → j ≢ d → (p : Place) → (frame (set old (inode_sector d) bytes)).address j p ≡ (frame old).address j p
  unfolding new
  grow-addresses = but.addresses

  pub grow-heads : (j : ℕ) → j ≢ d → (frame (set old (inode_sector d) bytes)).head j ≡ (frame old).head j
  unfolding new
  grow-heads = but.heads

  same_nlink : (head_of n).nlink ≡ ((frame old).head d).nlink
  unfolding frame
  same_nlink = x.nlink

  pub grow-strong : (K : ℕ → Type 0) → ((j : ℕ) → K j → is_slot_of j s ≡ false) → IsStrongBut K d (frame old) → IsStrongFor K (frame (set old (inode_sector d) bytes))
  unfolding new
  grow-strong K only strong = record {
    weak = grow-weak;
    counted = each d (λ j. K j → ((frame new).head j).is_used ≡ true → ((frame new).head j).nlink ≡ links (tree (frame new)) j)
        (λ l u. ap (λ (h : Head). h.nlink) head_new ∙ same_nlink ∙ strong.counted d l used_d ∙ sym (links_same d (only d l)))
        (λ j nd l u. ap (λ (h : Head). h.nlink) (but.heads j nd) ∙ strong.counted j l (ap (λ (h : Head). h.is_used) (sym (but.heads j nd)) ∙ u) ∙ sym (links_same j (only j l)));
    named = λ j l u. (λ z. grow-walked j z || ltb 0 (links_same j (only j l) z)) ∙ strong.named j l (was_used j u);
    none_past = each d (λ j. (q : ℕ) → sectors_of ((frame new).head j).size ≤ q → (frame new).address j (Body q) ≡ 0)
        (λ q le. address_new (Body q) ∙ x.placed.past q (subst (λ (h : Head). sectors_of h.size ≤ q) head_new le))
        (λ j nd q le. but.addresses j nd (Body q) ∙ strong.none_past j q nd (subst (λ (h : Head). sectors_of h.size ≤ q) (but.heads j nd) le));
    single_needed = each d (λ j. (frame new).address j Single ≢ 0 → list_any (λ q. not ((frame new).address j (Body q) == 0)) (range_with_len 10 128) ≡ true)
        (λ nz. (λ z. list_any (λ q. not (address_new (Body q) z == 0)) (range_with_len 10 128)) ∙ x.placed.single (λ z. nz (address_new Single ∙ z)))
        (λ j nd nz. (λ z. list_any (λ q. not (but.addresses j nd (Body q) z == 0)) (range_with_len 10 128)) ∙ strong.single_needed j nd (λ z. nz (but.addresses j nd Single ∙ z)));
  }
    where
      was_used : (j : ℕ) → ((frame new).head j).is_used ≡ true → ((frame old).head j).is_used ≡ true
      was_used = each d (λ j. ((frame new).head j).is_used ≡ true → ((frame old).head j).is_used ≡ true) (λ _. used_d) (λ j nd u. ap (λ (h : Head). h.is_used) (sym (but.heads j nd)) ∙ u)

  -- ---- the files

  inode_new : inode_at new d ≡ n
  unfolding new
  inode_new = put-inode old d bytes n weak puts x.placed.mine x.placed.needed

  inodes_same : (j : ℕ) → j ≢ d → inode_at new j ≡ inode_at old j
  unfolding new
  inodes_same = put-inode_other old d bytes n weak puts x.placed.mine x.placed.needed

  bodies_same : (j : ℕ) → j ≢ d → body_at new (frame new) j ≡ body_at old (frame old) j
  unfolding new
  bodies_same = put-body_other old d bytes n weak puts x.placed.mine x.placed.needed

  no_body_old : body_at old (frame old) d ≡ empty
  no_body_old = no_body old ((frame old).head d) ((frame old).address d) dir

  no_body_new : body_at new (frame new) d ≡ empty
  no_body_new = no_body new ((frame new).head d) ((frame new).address d) (ap is_directory head_new ∙ n_dir)

  get_or_front : (xs : List Slot) (l : ℕ) → l < length xs → get_or (xs ++ s ∷ []) l None ≡ get_or xs l None
  get_or_front [] l lt = absurd (omega arith)
  get_or_front (y ∷ ys) zero lt = refl
  get_or_front (y ∷ ys) (suc l) lt = get_or_front ys l (omega arith)

  get_or_back : (xs : List Slot) → get_or (xs ++ s ∷ []) (length xs) None ≡ s
  get_or_back [] = refl
  get_or_back (y ∷ ys) = let e : suc (length ys) ≡ length (y ∷ ys) = omega arith in subst (λ m. get_or (y ∷ (ys ++ s ∷ [])) m None ≡ s) e (get_or_back ys)

  get_or_after : (xs : List Slot) (l : ℕ) → length xs < l → get_or (xs ++ s ∷ []) l None ≡ None
  get_or_after [] zero lt = absurd (omega arith)
  get_or_after [] (suc l) lt = refl
  get_or_after (y ∷ ys) zero lt = absurd (omega arith)
  get_or_after (y ∷ ys) (suc l) lt = get_or_after ys l (omega arith)

  get_or_none : (xs : List Slot) (l : ℕ) → length xs ≤ l → get_or xs l None ≡ None
  get_or_none [] l le = refl
  get_or_none (y ∷ ys) zero le = absurd (omega arith)
  get_or_none (y ∷ ys) (suc l) le = get_or_none ys l (omega arith)

  length_old : length ((frame old).slots d) ≡ k
  length_old = ap length slots_old ∙ length-map-range_with_len (slot_in old ((frame old).head d)) 0 k

  grown_slots : (frame new).slots d ≡ (frame old).slots d ++ s ∷ []
  grown_slots = same_list ((frame new).slots d) ((frame old).slots d ++ s ∷ [])
      (ap length slots_new ∙ length-map-range_with_len (slot_in old (head_of n)) 0 (k + 1) ∙ ap (λ m. m + 1) (sym length_old) ∙ sym (length-append ((frame old).slots d) (s ∷ [])))
      (λ l. ⊎_elim
      (λ (e : l ≡ k). subst (λ z. get_or ((frame new).slots d) z None ≡ get_or ((frame old).slots d ++ s ∷ []) z None) (sym e)
      (slot ∙ sym (get_or_back ((frame old).slots d)) ∙ ap (λ m. get_or ((frame old).slots d ++ s ∷ []) m None) length_old))
      (λ (ne : l ≢ k). rest l ne ∙ ⊎_elim
      (λ (lt : l < k). let lo = length_old in sym (get_or_front ((frame old).slots d) l (omega arith)))
      (λ (ge : k ≤ l). let lo = length_old in get_or_none ((frame old).slots d) l (omega arith) ∙ sym (get_or_after ((frame old).slots d) l (omega arith)))
      (cases_lt l k))
      (cases_eq l k))

  module _ (i : ℕ) (only : (j : ℕ) → j ≢ i → is_slot_of j s ≡ false) (apart : d ≢ i) (m : Node) (is_dir_node : get (view old).nodes d ≡ Some m) where
    same_named : (j : ℕ) → j ≢ i → is_named (tree (frame new)) j ≡ is_named (tree (frame old)) j
    unfolding new
    same_named j ne z = grow-walked j z || ltb 0 (links_same j (only j ne) z)

    other_node : (j : ℕ) → j ≢ i → j ≢ d → node_if new j ≡ node_if old j
    unfolding new
    other_node j ne nd z = cond (same_named j ne z) (Some (record (node_of (tree (frame old)) j (inodes_same j nd z) (bodies_same j nd z)) { nlink = links_same j (only j ne) z; slots = change.others j nd z })) None

    grown : Node
    grown = record m { uid = n.uid; gid = n.gid; size = n.size; atime = n.atime; mtime = n.mtime; ctime = n.ctime; slots = m.slots ++ s ∷ [] }

    dir_node : node_if new d ≡ Some grown
    unfolding new grown
    dir_node =
        let sd = view-node old d m is_dir_node in
        (λ z. cond ((same_named d apart ∙ sd.named) z) (Some (record (node_of (tree (frame old)) d (inode_new z) ((no_body_new ∙ sym no_body_old) z)) { nlink = links_same d (only d apart) z; slots = grown_slots z })) None)
        ∙ (λ z. Some (record (node_of (tree (frame old)) d (record n { mode = x.mode z }) (body_at old (frame old) d)) { slots = (frame old).slots d ++ s ∷ [] }))
        ∙ ap (λ (y : Node). Some (record y { uid = n.uid; gid = n.gid; size = n.size; atime = n.atime; mtime = n.mtime; ctime = n.ctime; slots = y.slots ++ s ∷ [] })) sd.is

    pub grow-view : i < (tree (frame old)).inodes + 1 → view (set old (inode_sector d) bytes)
        ≡ changed (view old) i (node_if (set old (inode_sector d) bytes) i) d (record m { uid = n.uid; gid = n.gid; size = n.size; atime = n.atime; mtime = n.mtime; ctime = n.ctime; slots = m.slots ++ s ∷ [] })
    unfolding new grown
    grow-view within = view-two old new i d grown (put-first old d bytes n weak puts x.placed.mine x.placed.needed)
        (each d (λ j. (inode_at new j).generation ≡ (inode_at old j).generation) (ap (λ (y : Inode). y.generation) inode_new ∙ x.generation) (λ j ne. ap (λ (y : Inode). y.generation) (inodes_same j ne)))
        other_node dir_node within (let h = at.1 in omega arith)

    -- the node that the slot names, with its links
    pub grow-node : node_if (set old (inode_sector d) bytes) i ≡ cond (is_named (tree (frame (set old (inode_sector d) bytes))) i) (Some (record (node_at old i) { nlink = links (tree (frame (set old (inode_sector d) bytes))) i })) None
    unfolding new
    grow-node z = cond (is_named (tree (frame new)) i) (Some (record (node_of (tree (frame old)) i (inodes_same i (λ e. apart (sym e)) z) (bodies_same i (λ e. apart (sym e)) z)) { nlink = links (tree (frame new)) i; slots = change.others i (λ e. apart (sym e)) z })) None
