-- The put of a directory's inode that makes it longer by one slot which comes to name a new directory, and gives it one link more.
use Rattle.std.proofs.Common.{◌≡◌, ◌≢◌, ℕ, zero, suc, ◌+◌, ◌*◌, ◌/◌, ◌%◌, ◌<◌, ◌≤◌, Bool, true, false, cond, not, ◌||◌, ◌==◌, List, [], ◌∷◌, ◌++◌, map, length, get_or, set, refl, sym, ap, subst, ◌∙◌, arith, ⊎_elim, ltb, Some, None, length-append}
use Rattle.std.proofs.lemmas.Bool.{cases_eq, cases_lt, eqb-true}
use Rattle.std.proofs.lemmas.List.FromFn.{get_or-map-range_with_len, length-map-range_with_len}
use Rattle.std.specs.FinMap.{get, empty}
use Rattle.std.specs.List.{range_with_len, list_any}
use Rattle.v7_layout.specs.declared.inode.Inode.{Inode}
use Rattle.v7_layout.specs.Numbers.{part}
use Rattle.files_model.specs.Files.{sectors_of, Slot, Node}
use Rattle.stable.specs.Store.{Image}
use Rattle.v7_map.specs.Image.{sector_at, inode_at, inode_sector, inodes_before}
use Rattle.v7_map.specs.Frame.{Head, Place, Body, Single, head_of, is_directory, address_of, slots_of, slot_in, slot_of, frame}
use Rattle.v7_map.specs.Tree.{tree, is_walked, is_named, links, is_slot_of}
use Rattle.v7_map.specs.View.{view, node_of, node_at, body_at}
use Rattle.v7_map.specs.Weak.{IsWeak, IsTree, slot_at}
use Rattle.v7_map.specs.Plan.{PutsInode}
use Rattle.v7_map.proofs.AnyFrame.{frame-IsFrame}
use Rattle.v7_map.proofs.Nodes.{view-node}
use Rattle.v7_strokes.proofs.SlotPut.{past_range}
use Rattle.v7_strokes.proofs.SlotStep.{walked-dir, walked-number}
use Rattle.v7_plans.proofs.InodePut.{put-head, put-address, put-slots, put-slots_other, put-elsewhere, put-weak, put-inode, put-inode_other, put-body_other, put-first}
use Rattle.v7_strokes.proofs.Views.{same_list}
use Rattle.v7_strokes.proofs.Two.{view-two}
use Rattle.std.proofs.Common.{eq-eqb}
use Rattle.std.proofs.lemmas.Bool.{ne_eqb}
use Rattle.std.specs.List.{count_by}
use Rattle.v7_strokes.specs.Slots.{GrowsDirectory}
use Rattle.v7_strokes.specs.Slots.{NewDirectory}
use Rattle.v7_map.proofs.Named.{tree-numbers}
use Rattle.v7_strokes.proofs.GrowStep.{no_body}
use Rattle.v7_plans.proofs.Local.{IsStrongFor, IsStrongBut, Elsewhere, each}
use Rattle.v7_strokes.proofs.NewDirectory.{new-links, new-walked_other, new-walked_here, new-no_links, made-IsTree}
use Rattle.v7_strokes.proofs.Slots.{same_count, count-cons}
use Rattle.v7_strokes.specs.Left.{one}
use Rattle.v7_strokes.specs.Changes.{changed, node_if}

clash : {b : Bool} → b ≡ true → b ≡ false → ⊥
clash {b = b} x y = cc

module _ (old : Image) (d k i : ℕ) (name : List ℕ) (n : Inode) (bytes : List ℕ) (weak : IsWeak (frame old)) (puts : PutsInode old d bytes n) (x : GrowsDirectory old d k i name n) where
  dir : is_directory ((frame old).head d) ≡ true
  dir = walked-dir old d x.walked

  at : (1 ≤ d) × (d < 1 + (tree (frame old)).inodes)
  at = walked-number old d x.walked

  n_dir : is_directory (head_of n) ≡ true
  unfolding frame
  n_dir = ap (λ m. m / 4096 == 4) x.mode ∙ dir

  used_d : ((frame old).head d).is_used ≡ true
  used_d = (frame-IsFrame old).directories d dir

  n_used : (head_of n).is_used ≡ true
  unfolding frame
  n_used = ap (λ m. not (m == 0)) x.mode ∙ used_d

  new : Image
  new = set old (inode_sector d) bytes

  but : Elsewhere d (frame old) (frame new)
  unfolding new
  but = put-elsewhere old d bytes n weak puts x.placed.mine x.placed.needed

  head_new : (frame new).head d ≡ head_of n
  unfolding new
  head_new = put-head old d bytes n weak puts x.placed.mine x.placed.needed

  address_new : (p : Place) → (frame new).address d p ≡ address_of old (head_of n) p
  unfolding new
  address_new p = put-address old d bytes n weak puts x.placed.mine x.placed.needed p

  slots_new : (frame new).slots d ≡ map (slot_in old (head_of n)) (range_with_len 0 (k + 1))
  unfolding new slots_of
  slots_new = put-slots old d bytes n weak puts x.placed.mine x.placed.needed ∙ ap (λ b. cond b (map (slot_in old (head_of n)) (range_with_len 0 (n.size / 16))) []) n_dir
      ∙ ap (λ c. map (slot_in old (head_of n)) (range_with_len 0 c)) (let a = x.longer in let b = x.even in let c = x.end in let e : n.size / 16 ≡ k + 1 = omega arith in e)

  slots_old : (frame old).slots d ≡ map (slot_in old ((frame old).head d)) (range_with_len 0 k)
  unfolding frame slots_of
  slots_old = ap (λ b. cond b (map (slot_in old (head_of (inode_at old d))) (range_with_len 0 ((inode_at old d).size / 16))) []) dir ∙ ap (λ c. map (slot_in old (head_of (inode_at old d))) (range_with_len 0 c)) (sym x.end)

  slot_same : (l : ℕ) → l < k → slot_in old (head_of n) l ≡ slot_in old ((frame old).head d) l
  unfolding frame
  slot_same l lt = ap (λ b. slot_of (part (sector_at old b) (16 * (l % 32)) 16)) (x.kept (l / 32) (let e = x.end in omega arith))

  rest : (l : ℕ) → l ≢ k → slot_at (tree (frame new)) d l ≡ slot_at (tree (frame old)) d l
  rest l ne = ap (λ q. get_or q l None) slots_new ∙ ⊎_elim
      (λ (lt : l < k). get_or-map-range_with_len (slot_in old (head_of n)) 0 (k + 1) l l None (omega arith) (omega arith) ∙ slot_same l lt
      ∙ sym (get_or-map-range_with_len (slot_in old ((frame old).head d)) 0 k l l None lt (omega arith)))
      (λ (ge : k ≤ l). past_range (slot_in old (head_of n)) 0 (k + 1) l (omega arith) ∙ sym (past_range (slot_in old ((frame old).head d)) 0 k l ge))
      (cases_lt l k) ∙ ap (λ q. get_or q l None) (sym slots_old)

  vacant : slot_at (tree (frame old)) d k ≡ None
  vacant = ap (λ q. get_or q k None) slots_old ∙ past_range (slot_in old ((frame old).head d)) 0 k k (omega arith)

  slot : slot_at (tree (frame new)) d k ≡ Some (i, name)
  slot = ap (λ q. get_or q k None) slots_new ∙ get_or-map-range_with_len (slot_in old (head_of n)) 0 (k + 1) k k None (omega arith) (omega arith) ∙ x.content

  two_slots : 2 ≤ k
  two_slots = let g = weak.good d used_d in let r = g.directory (eqb-true ((frame old).head d).type 4 dir) in let low = r.0 in let e = x.end in omega arith

  change : NewDirectory (tree (frame old)) (tree (frame new)) d k i name
  unfolding new
  change = record {
    inodes = ap inodes_before but.isize;
    dirs = each d (λ j. is_directory ((frame new).head j) ≡ is_directory ((frame old).head j)) (ap is_directory head_new ∙ n_dir ∙ sym dir) (λ j ne. ap is_directory (but.heads j ne));
    others = λ j ne. put-slots_other old d bytes n weak puts x.placed.mine x.placed.needed j ne;
    rest = rest;
    past = two_slots;
    old = vacant;
    new = slot;
    dir = x.dir;
    apart = x.apart;
    no_root = x.no_root;
    unnamed = x.unnamed;
    walked = x.walked;
    dot = x.dot;
    dots = x.dots;
    empty = x.nothing;
    numbers = tree-numbers old;
  }

  own : (j : ℕ) → count_by (is_slot_of j) ((tree (frame old)).slots i) ≡ one (i == j) + one (d == j)
  own j = counted ((tree (frame old)).slots i) x.dot x.dots x.nothing
    where
      nothing_counts : (xs : List Slot) → ((l : ℕ) → get_or xs l None ≡ None) → count_by (is_slot_of j) xs ≡ 0
      nothing_counts xs none = same_count (is_slot_of j) [] xs refl (λ l. ap (is_slot_of j) (none l))

      counted : (xs : List Slot) → get_or xs 0 None ≡ Some (i, 46 ∷ []) → get_or xs 1 None ≡ Some (d, 46 ∷ 46 ∷ []) → ((l : ℕ) → 2 ≤ l → get_or xs l None ≡ None) → count_by (is_slot_of j) xs ≡ one (i == j) + one (d == j)
      counted [] a b none = absurd (cc)
      counted (y ∷ []) a b none = absurd (cc)
      counted (y ∷ z ∷ zs) a b none =
          let e = count-cons (is_slot_of j) y (z ∷ zs) in let f = count-cons (is_slot_of j) z zs in
          let rest : count_by (is_slot_of j) zs ≡ 0 = nothing_counts zs (λ l. none (suc (suc l)) (omega arith)) in
          let p : ◌≡◌ {A = ℕ} (one (is_slot_of j y)) (one (i == j)) = ap (λ s. one (is_slot_of j s)) a in
          let q : ◌≡◌ {A = ℕ} (one (is_slot_of j z)) (one (d == j)) = ap (λ s. one (is_slot_of j s)) b in omega arith

  counts : (j : ℕ) → links (tree (frame new)) j ≡ links (tree (frame old)) j + (one (i == j) + one (d == j)) + one (i == j)
  counts j = new-links (tree (frame old)) (tree (frame new)) d k i name change j ∙ ap (λ n. links (tree (frame old)) j + n + one (i == j)) (own j)

  no_one : (p q : ℕ) → p ≢ q → ◌≡◌ {A = ℕ} (one (p == q)) 0
  no_one p q ne = ap one (ne_eqb p q ne)

  yes_one : (p : ℕ) → ◌≡◌ {A = ℕ} (one (p == p)) 1
  yes_one p = ap one (eq-eqb p p refl)

  pub longer-links_here : links (tree (frame (set old (inode_sector d) bytes))) i ≡ 2
  unfolding new
  longer-links_here = let l = counts i in let z = new-no_links (tree (frame old)) (tree (frame new)) d k i name change in let y = yes_one i in let n = no_one d i (λ e. x.apart (sym e)) in omega arith

  pub longer-links_parent : links (tree (frame (set old (inode_sector d) bytes))) d ≡ links (tree (frame old)) d + 1
  unfolding new
  longer-links_parent = let l = counts d in let y = yes_one d in let n = no_one i d x.apart in omega arith

  pub longer-links_other : (j : ℕ) → j ≢ i → j ≢ d → links (tree (frame (set old (inode_sector d) bytes))) j ≡ links (tree (frame old)) j
  unfolding new
  longer-links_other j ni nd = let l = counts j in let y = no_one i j (λ e. ni (sym e)) in let n = no_one d j (λ e. nd (sym e)) in omega arith

  linked : (j : ℕ) → links (tree (frame new)) j ≤ 65535
  unfolding new
  linked j = ⊎_elim
      (λ (e : j ≡ i). let h : links (tree (frame new)) j ≡ 2 = ap (links (tree (frame new))) e ∙ longer-links_here in omega arith)
      (λ (ni : j ≢ i). ⊎_elim
      (λ (e : j ≡ d). let h : links (tree (frame new)) j ≡ links (tree (frame old)) d + 1 = ap (links (tree (frame new))) e ∙ longer-links_parent in let b = x.bound in omega arith)
      (λ (nd : j ≢ d). let h = longer-links_other j ni nd in let b = weak.names.linked j in omega arith)
      (cases_eq j d))
      (cases_eq j i)

  used_stay : (j : ℕ) → ((frame old).head j).is_used ≡ true → ((frame new).head j).is_used ≡ true
  used_stay = each d (λ j. ((frame old).head j).is_used ≡ true → ((frame new).head j).is_used ≡ true) (λ _. ap (λ (h : Head). h.is_used) head_new ∙ n_used) (λ j ne u. ap (λ (h : Head). h.is_used) (but.heads j ne) ∙ u)

  names : IsTree (frame new) (tree (frame new))
  names = made-IsTree (tree (frame old)) (tree (frame new)) d k i name change (frame old) (frame new) weak.names used_stay (used_stay i ((frame-IsFrame old).directories i x.dir)) (used_stay d used_d) x.good_name linked

  first_free : d ≡ 1 → (head_of n).is_used ≡ false
  first_free e = absurd (clash used_d (subst (λ z. ((frame old).head z).is_used ≡ false) (sym e) weak.first))

  pub longer-weak : IsWeak (frame (set old (inode_sector d) bytes))
  unfolding new
  longer-weak = put-weak old d bytes n weak puts x.placed.mine x.placed.needed first_free (λ e. n_dir) x.placed.good x.placed.apart x.placed.no_double names

  walked_other : (j : ℕ) → j ≢ i → is_walked (tree (frame new)) j ≡ is_walked (tree (frame old)) j
  walked_other j ne = new-walked_other (tree (frame old)) (tree (frame new)) d k i name change j ne

  walked_here : is_walked (tree (frame new)) i ≡ true
  walked_here = new-walked_here (tree (frame old)) (tree (frame new)) d k i name change

  pub longer-named : is_named (tree (frame (set old (inode_sector d) bytes))) i ≡ true
  unfolding new
  longer-named = ap (λ b. b || ltb 0 (links (tree (frame new)) i)) walked_here

  pub longer-heads : (j : ℕ) → j ≢ d → (frame (set old (inode_sector d) bytes)).head j ≡ (frame old).head j
  unfolding new
  longer-heads = but.heads

  same_nlink : (head_of n).nlink ≡ ((frame old).head d).nlink + 1
  unfolding frame
  same_nlink = x.nlink

  -- all but the new one count their links
  pub longer-strong : IsStrongBut (λ j. j ≢ i) d (frame old) → IsStrongFor (λ j. j ≢ i) (frame (set old (inode_sector d) bytes))
  unfolding new
  longer-strong strong = record {
    weak = longer-weak;
    counted = each d (λ j. j ≢ i → ((frame new).head j).is_used ≡ true → ((frame new).head j).nlink ≡ links (tree (frame new)) j)
        (λ l u. ap (λ (h : Head). h.nlink) head_new ∙ same_nlink ∙ ap (λ m. m + 1) (strong.counted d l used_d) ∙ sym longer-links_parent)
        (λ j nd l u. ap (λ (h : Head). h.nlink) (but.heads j nd) ∙ strong.counted j l (ap (λ (h : Head). h.is_used) (sym (but.heads j nd)) ∙ u) ∙ sym (longer-links_other j l nd));
    named = each d (λ j. j ≢ i → ((frame new).head j).is_used ≡ true → is_named (tree (frame new)) j ≡ true)
        (λ l u. ap (λ b. b || ltb 0 (links (tree (frame new)) d)) (walked_other d l ∙ x.walked))
        (λ j nd l u. (λ z. walked_other j l z || ltb 0 (longer-links_other j l nd z)) ∙ strong.named j l (ap (λ (h : Head). h.is_used) (sym (but.heads j nd)) ∙ u));
    none_past = each d (λ j. (q : ℕ) → sectors_of ((frame new).head j).size ≤ q → (frame new).address j (Body q) ≡ 0)
        (λ q le. address_new (Body q) ∙ x.placed.past q (subst (λ (h : Head). sectors_of h.size ≤ q) head_new le))
        (λ j nd q le. but.addresses j nd (Body q) ∙ strong.none_past j q nd (subst (λ (h : Head). sectors_of h.size ≤ q) (but.heads j nd) le));
    single_needed = each d (λ j. (frame new).address j Single ≢ 0 → list_any (λ q. not ((frame new).address j (Body q) == 0)) (range_with_len 10 128) ≡ true)
        (λ nz. (λ z. list_any (λ q. not (address_new (Body q) z == 0)) (range_with_len 10 128)) ∙ x.placed.single (λ z. nz (address_new Single ∙ z)))
        (λ j nd nz. (λ z. list_any (λ q. not (but.addresses j nd (Body q) z == 0)) (range_with_len 10 128)) ∙ strong.single_needed j nd (λ z. nz (but.addresses j nd Single ∙ z)));
  }

  inode_new : inode_at new d ≡ n
  unfolding new
  inode_new = put-inode old d bytes n weak puts x.placed.mine x.placed.needed

  inodes_same : (j : ℕ) → j ≢ d → inode_at new j ≡ inode_at old j
  unfolding new
  inodes_same = put-inode_other old d bytes n weak puts x.placed.mine x.placed.needed

  bodies_same : (j : ℕ) → j ≢ d → body_at new (frame new) j ≡ body_at old (frame old) j
  unfolding new
  bodies_same = put-body_other old d bytes n weak puts x.placed.mine x.placed.needed

  no_body_old : body_at old (frame old) d ≡ empty
  no_body_old = no_body old ((frame old).head d) ((frame old).address d) dir

  no_body_new : body_at new (frame new) d ≡ empty
  no_body_new = no_body new ((frame new).head d) ((frame new).address d) (ap is_directory head_new ∙ n_dir)

  get_or_front : (xs : List Slot) (l : ℕ) → l < length xs → get_or (xs ++ Some (i, name) ∷ []) l None ≡ get_or xs l None
  get_or_front [] l lt = absurd (omega arith)
  get_or_front (y ∷ ys) zero lt = refl
  get_or_front (y ∷ ys) (suc l) lt = get_or_front ys l (omega arith)

  get_or_back : (xs : List Slot) → get_or (xs ++ Some (i, name) ∷ []) (length xs) None ≡ Some (i, name)
  get_or_back [] = refl
  get_or_back (y ∷ ys) = let e : suc (length ys) ≡ length (y ∷ ys) = omega arith in subst (λ m. get_or (y ∷ (ys ++ Some (i, name) ∷ [])) m None ≡ Some (i, name)) e (get_or_back ys)

  get_or_after : (xs : List Slot) (l : ℕ) → length xs < l → get_or (xs ++ Some (i, name) ∷ []) l None ≡ None
  get_or_after [] zero lt = absurd (omega arith)
  get_or_after [] (suc l) lt = refl
  get_or_after (y ∷ ys) zero lt = absurd (omega arith)
  get_or_after (y ∷ ys) (suc l) lt = get_or_after ys l (omega arith)

  get_or_none : (xs : List Slot) (l : ℕ) → length xs ≤ l → get_or xs l None ≡ None
  get_or_none [] l le = refl
  get_or_none (y ∷ ys) zero le = absurd (omega arith)
  get_or_none (y ∷ ys) (suc l) le = get_or_none ys l (omega arith)

  length_old : length ((frame old).slots d) ≡ k
  length_old = ap length slots_old ∙ length-map-range_with_len (slot_in old ((frame old).head d)) 0 k

  grown_slots : (frame new).slots d ≡ (frame old).slots d ++ Some (i, name) ∷ []
  grown_slots = same_list ((frame new).slots d) ((frame old).slots d ++ Some (i, name) ∷ [])
      (ap length slots_new ∙ length-map-range_with_len (slot_in old (head_of n)) 0 (k + 1) ∙ ap (λ m. m + 1) (sym length_old) ∙ sym (length-append ((frame old).slots d) (Some (i, name) ∷ [])))
      (λ l. ⊎_elim
      (λ (e : l ≡ k). subst (λ z. get_or ((frame new).slots d) z None ≡ get_or ((frame old).slots d ++ Some (i, name) ∷ []) z None) (sym e)
      (slot ∙ sym (get_or_back ((frame old).slots d)) ∙ ap (λ m. get_or ((frame old).slots d ++ Some (i, name) ∷ []) m None) length_old))
      (λ (ne : l ≢ k). rest l ne ∙ ⊎_elim
      (λ (lt : l < k). let lo = length_old in sym (get_or_front ((frame old).slots d) l (omega arith)))
      (λ (ge : k ≤ l). let lo = length_old in get_or_none ((frame old).slots d) l (omega arith) ∙ sym (get_or_after ((frame old).slots d) l (omega arith)))
      (cases_lt l k))
      (cases_eq l k))

  module _ (m : Node) (is_dir_node : get (view old).nodes d ≡ Some m) (within : i < (tree (frame old)).inodes + 1) where
    other_node : (j : ℕ) → j ≢ i → j ≢ d → node_if new j ≡ node_if old j
    unfolding new
    other_node j ni nd z = cond (walked_other j ni z || ltb 0 (longer-links_other j ni nd z)) (Some (record (node_of (tree (frame old)) j (inodes_same j nd z) (bodies_same j nd z)) { nlink = longer-links_other j ni nd z; slots = change.others j nd z })) None

    grown : Node
    grown = record m { uid = n.uid; gid = n.gid; nlink = m.nlink + 1; size = n.size; atime = n.atime; mtime = n.mtime; ctime = n.ctime; slots = m.slots ++ Some (i, name) ∷ [] }

    dir_node : node_if new d ≡ Some grown
    unfolding new grown
    dir_node =
        let sd = view-node old d m is_dir_node in
        let w : is_walked (tree (frame new)) d ≡ true = walked_other d (λ e. x.apart (sym e)) ∙ x.walked in
        (λ z. cond (w z || ltb 0 (links (tree (frame new)) d)) (Some (record (node_of (tree (frame old)) d (inode_new z) ((no_body_new ∙ sym no_body_old) z)) { nlink = longer-links_parent z; slots = grown_slots z })) None)
        ∙ (λ z. Some (record (node_of (tree (frame old)) d (record n { mode = x.mode z }) (body_at old (frame old) d)) { nlink = links (tree (frame old)) d + 1; slots = (frame old).slots d ++ Some (i, name) ∷ [] }))
        ∙ ap (λ (y : Node). Some (record y { uid = n.uid; gid = n.gid; nlink = y.nlink + 1; size = n.size; atime = n.atime; mtime = n.mtime; ctime = n.ctime; slots = y.slots ++ Some (i, name) ∷ [] })) sd.is

    -- the new directory appears, and its parent is longer with one link more
    pub longer-view : view (set old (inode_sector d) bytes) ≡ changed (view old) i (Some (record (node_at old i) { nlink = 2 })) d
        (record m { uid = n.uid; gid = n.gid; nlink = m.nlink + 1; size = n.size; atime = n.atime; mtime = n.mtime; ctime = n.ctime; slots = m.slots ++ Some (i, name) ∷ [] })
    unfolding new grown
    longer-view = view-two old new i d grown (put-first old d bytes n weak puts x.placed.mine x.placed.needed)
        (each d (λ j. (inode_at new j).generation ≡ (inode_at old j).generation) (ap (λ (y : Inode). y.generation) inode_new ∙ x.generation) (λ j ne. ap (λ (y : Inode). y.generation) (inodes_same j ne)))
        other_node dir_node within (let h = at.1 in omega arith)
        ∙ ap (λ o. changed (view old) i o d grown)
        (λ z. cond (longer-named z) (Some (record (node_of (tree (frame old)) i (inodes_same i x.apart z) (bodies_same i x.apart z)) { nlink = longer-links_here z; slots = change.others i x.apart z })) None)
