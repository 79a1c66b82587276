-- A new directory is walked, and no other one; it has two links, and its parent one more. Read backwards: a directory that is taken away.
use Rattle.std.proofs.Common.{◌≡◌, ◌≢◌, ◌⊎◌, ℕ, ◌+◌, ◌<◌, ◌≤◌, Bool, true, false, cond, ◌||◌, List, [], ◌∷◌, get_or, drop, refl, sym, ap, subst, ◌∙◌, arith, inl, inr, ⊎_elim, Some, None, ◌==◌, eq-eqb, ltb}
use Rattle.std.proofs.lemmas.Bool.{cases_eq, ne_eqb}
use Rattle.std.specs.List.{range_with_len, list_any, count_by, flat_map}
use Rattle.files_model.specs.Files.{Slot}
use Rattle.v7_map.specs.Frame.{Frame}
use Rattle.v7_map.specs.Tree.{Tree, Walked, root, named, has_slot_of, is_child, is_walked, links, seen_in, is_slot_of, number_in}
use Rattle.v7_map.specs.Weak.{IsTree, HasDots, slot_at, parent}
use Rattle.v7_map.proofs.Children.{has_slot-at}
use Rattle.v7_map.proofs.Used.{walked_is_dir}
use Rattle.v7_map.proofs.Walks.{or_left, walked_reached, reached_walked}
use Rattle.v7_strokes.specs.Slots.{NewDirectory}
use Rattle.v7_strokes.proofs.Aside.{same_bool, slot-named, zero_of}
use Rattle.v7_map.proofs.Named.{names_is}
use Rattle.v7_strokes.proofs.Names.{slot_of_any, same_number, none_slot}
use Rattle.v7_strokes.proofs.Slots.{any_pointwise, count_but_one, flat_but_one}
use Rattle.v7_strokes.specs.Left.{one}

clash : {b : Bool} → b ≡ true → b ≡ false → ⊥
clash {b = b} x y = cc

module _ (t u : Tree) (d k i : ℕ) (name : List ℕ) (c : NewDirectory t u d k i name) where
  slot_same : (e l : ℕ) → ((e ≡ d) × (l ≡ k) → ⊥) → slot_at u e l ≡ slot_at t e l
  slot_same e l other = ⊎_elim
      (λ (s : e ≡ d). subst (λ z. slot_at u z l ≡ slot_at t z l) (sym s) (c.rest l (λ q. other (s, q))))
      (λ (ne : e ≢ d). ap (λ s. get_or s l None) (c.others e ne))
      (cases_eq e d)

  low_same : (e l : ℕ) → l < 2 → slot_at u e l ≡ slot_at t e l
  low_same e l lt = slot_same e l (λ h. let q = h.1 in let p = c.past in omega arith)

  -- slots of directory i are the same
  slots_i : u.slots i ≡ t.slots i
  slots_i = c.others i c.apart

  not_i : (j : ℕ) → is_walked t j ≡ true → j ≢ i
  not_i j w e = clash (or_left (is_walked t i) (ltb 0 (links t i)) (subst (λ z. is_walked t z ≡ true) e w)) c.unnamed

  no_name : (e j : ℕ) → is_walked t e ≡ true → has_slot_of t e j ≡ true → j ≢ i
  no_name e j w has s = clash (slot-named t c.numbers e i w (subst (λ z. has_slot_of t e z ≡ true) s has)) c.unnamed

  -- a slot that names another than i is there in both
  any_same : (n e j : ℕ) → j ≢ i → list_any (is_slot_of j) (drop n (u.slots e)) ≡ list_any (is_slot_of j) (drop n (t.slots e))
  any_same n e j nj = ⊎_elim
      (λ (s : e ≡ d). subst (λ z. list_any (is_slot_of j) (drop n (u.slots z)) ≡ list_any (is_slot_of j) (drop n (t.slots z))) (sym s) (any_pointwise (is_slot_of j) (t.slots d) (u.slots d) n refl (λ l. ⊎_elim
      (λ (q : l ≡ k). subst (λ z. is_slot_of j (slot_at u d z) ≡ is_slot_of j (slot_at t d z)) (sym q) (ap (is_slot_of j) c.new ∙ ne_eqb i j (λ z. nj (sym z)) ∙ sym (ap (is_slot_of j) c.old)))
      (λ (ne : l ≢ k). ap (is_slot_of j) (c.rest l ne))
      (cases_eq l k))))
      (λ (ne : e ≢ d). ap (λ s. list_any (is_slot_of j) (drop n s)) (c.others e ne))
      (cases_eq e d)

  named_at : (n : ℕ) → n ≤ k → list_any (is_slot_of i) (drop n (u.slots d)) ≡ true
  named_at n le = has_slot-at u d n i k name le c.new

  -- directory i names itself and its parent alone
  own : (j : ℕ) → has_slot_of t i j ≡ true → (j ≡ i) ⊎ (j ≡ d)
  own j has = let r = slot_of_any (t.slots i) 0 j has in let s = names_is j (slot_at t i r.0) r.2 in ⊎_elim
      (λ (z : r.0 ≡ 0). inl (same_number j i s.0 (46 ∷ []) (sym s.1 ∙ ap (slot_at t i) z ∙ c.dot)))
      (λ (nz : r.0 ≢ 0). ⊎_elim
      (λ (o : r.0 ≡ 1). inr (same_number j d s.0 (46 ∷ 46 ∷ []) (sym s.1 ∙ ap (slot_at t i) o ∙ c.dots)))
      (λ (no : r.0 ≢ 1). absurd (none_slot j s.0 (sym (c.empty r.0 (omega arith)) ∙ s.1)))
      (cases_eq r.0 1))
      (cases_eq r.0 0)

  stays : {j : ℕ} → Walked t j → Walked u j
  stays (root r) = root (c.dirs 2 ∙ r)
  stays (named {d = e} {i = j} w by dir) = named (stays w) (any_same 0 e j (no_name e j (reached_walked t c.numbers w) by) ∙ by) (c.dirs j ∙ dir)

  was : {j : ℕ} → Walked u j → (Walked t j) ⊎ (j ≡ i)
  was (root r) = inl (root (sym (c.dirs 2) ∙ r))
  was (named {d = e} {i = j} w by dir) = ⊎_elim
      (λ (new : j ≡ i). inr new)
      (λ (nj : j ≢ i). ⊎_elim
      (λ (we : Walked t e). inl (named we (sym (any_same 0 e j nj) ∙ by) (sym (c.dirs j) ∙ dir)))
      (λ (s : e ≡ i). ⊎_elim
      (λ (self : j ≡ i). absurd (nj self))
      (λ (up : j ≡ d). inl (subst (Walked t) (sym up) (walked_reached t d c.walked)))
      (own j (subst (λ z. has_slot_of t z j ≡ true) s (sym (any_same 0 e j nj) ∙ by))))
      (was w))
      (cases_eq j i)

  numbers_u : (j : ℕ) → u.is_dir j ≡ true → (1 ≤ j) × (j < 1 + u.inodes)
  numbers_u j dir = let r = c.numbers j (sym (c.dirs j) ∙ dir) in (r.0, subst (λ n. j < 1 + n) (sym c.inodes) r.1)

  pub new-walked_other : (j : ℕ) → j ≢ i → is_walked u j ≡ is_walked t j
  new-walked_other j ne = same_bool (is_walked u j) (is_walked t j)
      (λ w. ⊎_elim (λ (x : Walked t j). reached_walked t c.numbers x) (λ (e : j ≡ i). absurd (ne e)) (was (walked_reached u j w)))
      (λ w. reached_walked u numbers_u (stays (walked_reached t j w)))

  pub new-walked_here : is_walked u i ≡ true
  new-walked_here = reached_walked u numbers_u (named (stays (walked_reached t d c.walked)) (named_at 0 (omega arith)) (c.dirs i ∙ c.dir))

  pub new-unwalked : is_walked t i ≡ false
  new-unwalked = (or_no (is_walked t i) (ltb 0 (links t i)) c.unnamed).0
    where
      or_no : (a b : Bool) → (a || b) ≡ false → (a ≡ false) × (b ≡ false)
      or_no true b e = absurd (cc)
      or_no false b e = (refl, e)

  pub new-no_links : links t i ≡ 0
  new-no_links = zero_of (links t i) (or_no (is_walked t i) (ltb 0 (links t i)) c.unnamed)
    where
      or_no : (a b : Bool) → (a || b) ≡ false → b ≡ false
      or_no true b e = absurd (cc)
      or_no false b e = e

  -- ---- how many links there are

  -- what is seen of t, and of directory i besides
  mid : ℕ → List Slot
  mid e = cond (e == i) (t.slots i) (seen_in t 0 e)

  mid_other : (e : ℕ) → e ≢ i → mid e ≡ seen_in t 0 e
  unfolding mid
  mid_other e ne = ap (λ b. cond b (t.slots i) (seen_in t 0 e)) (ne_eqb e i ne)

  mid_here : mid i ≡ t.slots i
  unfolding mid
  mid_here = ap (λ b. cond b (t.slots i) (seen_in t 0 i)) (eq-eqb i i refl)

  at_i : (1 ≤ i) × (i < 1 + t.inodes)
  at_i = c.numbers i c.dir

  at_d : (1 ≤ d) × (d < 1 + t.inodes)
  at_d = c.numbers d (walked_is_dir {t = t} (walked_reached t d c.walked))

  -- the new directory's own slots
  first_count : (j : ℕ) → count_by (is_slot_of j) (flat_map mid (range_with_len 1 t.inodes)) + 0 ≡ links t j + count_by (is_slot_of j) (t.slots i)
  unfolding links
  first_count j = flat_but_one (is_slot_of j) (seen_in t 0) mid 1 t.inodes i 0 (count_by (is_slot_of j) (t.slots i)) at_i.0 at_i.1 (λ e ne. mid_other e ne)
      ((λ z. count_by (is_slot_of j) (mid_here z) + 0)
      ∙ (let e : count_by (is_slot_of j) (t.slots i) + 0 ≡ 0 + count_by (is_slot_of j) (t.slots i) = omega arith in e)
      ∙ (λ z. count_by (is_slot_of j) (cond (sym new-unwalked z) (t.slots i) []) + count_by (is_slot_of j) (t.slots i)))

  -- and slot k
  second_count : (j : ℕ) → links u j + 0 ≡ count_by (is_slot_of j) (flat_map mid (range_with_len 1 t.inodes)) + one (is_slot_of j (Some (i, name)))
  unfolding links
  second_count j =
      ap (λ n. count_by (is_slot_of j) (flat_map (seen_in u 0) (range_with_len 1 n)) + 0) c.inodes
      ∙ flat_but_one (is_slot_of j) mid (seen_in u 0) 1 t.inodes d 0 (one (is_slot_of j (Some (i, name)))) at_d.0 at_d.1
      (λ e ne. ⊎_elim
      (λ (s : e ≡ i). subst (λ z. seen_in u 0 z ≡ mid z) (sym s) ((λ z. cond (new-walked_here z) (slots_i z) []) ∙ sym mid_here))
      (λ (ni : e ≢ i). (λ z. cond (new-walked_other e ni z) (c.others e ne z) []) ∙ sym (mid_other e ni))
      (cases_eq e i))
      ((λ z. count_by (is_slot_of j) (cond ((new-walked_other d (λ e. c.apart (sym e)) ∙ c.walked) z) (u.slots d) []) + 0)
      ∙ (let n : ◌≡◌ {A = ℕ} (one (is_slot_of j (slot_at t d k))) 0 = ap (λ s. one (is_slot_of j s)) c.old in
      let s : ◌≡◌ {A = ℕ} (one (is_slot_of j (slot_at u d k))) (one (is_slot_of j (Some (i, name)))) = ap (λ s. one (is_slot_of j s)) c.new in
      let b = count_but_one (is_slot_of j) (t.slots d) (u.slots d) k refl (λ l ne. ap (is_slot_of j) (c.rest l ne)) in
      let e : count_by (is_slot_of j) (u.slots d) + 0 ≡ count_by (is_slot_of j) (t.slots d) + one (is_slot_of j (Some (i, name))) = omega arith in e)
      ∙ (λ z. count_by (is_slot_of j) (cond (sym c.walked z) (t.slots d) []) + one (is_slot_of j (Some (i, name))))
      ∙ (λ z. count_by (is_slot_of j) (sym (mid_other d (λ e. c.apart (sym e))) z) + one (is_slot_of j (Some (i, name)))))

  pub new-links : (j : ℕ) → links u j ≡ links t j + count_by (is_slot_of j) (t.slots i) + one (is_slot_of j (Some (i, name)))
  new-links j = let a = first_count j in let b = second_count j in omega arith

  -- ---- the tree

  none_past : (l j : ℕ) (x : List ℕ) → 2 ≤ l → slot_at u i l ≡ Some (j, x) → ⊥
  none_past l j x le at = none_slot j x (sym (ap (λ s. get_or s l None) slots_i ∙ c.empty l le) ∙ at)

  -- in u only slot k past the first two names i
  only_k : (e l : ℕ) (x : List ℕ) → is_walked u e ≡ true → 2 ≤ l → slot_at u e l ≡ Some (i, x) → (e ≡ d) × (l ≡ k)
  only_k e l x w le at = ⊎_elim
      (λ (s : e ≡ i). absurd (none_past l i x le (subst (λ z. slot_at u z l ≡ Some (i, x)) s at)))
      (λ (ni : e ≢ i). ⊎_elim
      (λ (sd : e ≡ d). ⊎_elim
      (λ (q : l ≡ k). (sd, q))
      (λ (nk : l ≢ k). absurd (no_name e i (sym (new-walked_other e ni) ∙ w) (has_slot-at t e 0 i l x (omega arith) (sym (slot_same e l (λ h. nk h.1)) ∙ at)) refl))
      (cases_eq l k))
      (λ (nd : e ≢ d). absurd (no_name e i (sym (new-walked_other e ni) ∙ w) (has_slot-at t e 0 i l x (omega arith) (sym (slot_same e l (λ h. nd h.0)) ∙ at)) refl))
      (cases_eq e d))
      (cases_eq e i)

  not_k : (e l j : ℕ) (x : List ℕ) → j ≢ i → slot_at u e l ≡ Some (j, x) → slot_at t e l ≡ Some (j, x)
  not_k e l j x nj at = sym (slot_same e l (λ h. nj (sym (same_number i j name x (sym c.new ∙ (λ z. slot_at u (sym h.0 z) (sym h.1 z)) ∙ at))))) ∙ at

  up_same : (e : ℕ) → parent u e ≡ parent t e
  up_same e = ap number_in (low_same e 1 (omega arith))

  -- a directory that is made
  pub made-IsTree : (f g : Frame) → IsTree f t → ((j : ℕ) → (f.head j).is_used ≡ true → (g.head j).is_used ≡ true) → (g.head i).is_used ≡ true → (g.head d).is_used ≡ true → name ≢ []
      → ((j : ℕ) → links u j ≤ 65535) → IsTree g u
  made-IsTree f g is used_stay used_i used_d good linked = record {
    dots = λ e w. ⊎_elim
        (λ (s : e ≡ i). subst (HasDots u) (sym s) dots_i)
        (λ (ni : e ≢ i). dots_other e ni (sym (new-walked_other e ni) ∙ w))
        (cases_eq e i);
    used = λ e l j x w at. ⊎_elim
        (λ (s : e ≡ i). used_own l j x (subst (λ z. slot_at u z l ≡ Some (j, x)) s at))
        (λ (ni : e ≢ i). ⊎_elim
        (λ (s : (e ≡ d) × (l ≡ k)). let here : ◌≡◌ {A = Slot} (Some (i, name)) (Some (j, x)) = sym c.new ∙ (λ z. slot_at u (sym s.0 z) (sym s.1 z)) ∙ at in
        (subst (λ z. (g.head z).is_used ≡ true) (same_number i j name x here) used_i, subst (λ z. z ≢ []) (same_text i j name x here) good))
        (λ (other : (e ≡ d) × (l ≡ k) → ⊥). let r = is.used e l j x (sym (new-walked_other e ni) ∙ w) (sym (slot_same e l other) ∙ at) in (used_stay j r.0, r.1))
        (both e l))
        (cases_eq e i);
    linked = linked;
    one_slot = λ e o l m j x y we wo l2 m2 dir at at'. ⊎_elim
        (λ (s : j ≡ i). let p = only_k e l x we l2 (at ∙ (λ z. Some (s z, x))) in let q = only_k o m y wo m2 (at' ∙ (λ z. Some (s z, y))) in
        (λ z. c.no_root (sym s ∙ z), p.0 ∙ sym q.0, p.1 ∙ sym q.1))
        (λ (nj : j ≢ i). let te = walked_t e l j x we l2 at in let to = walked_t o m j y wo m2 at' in
        is.one_slot e o l m j x y te to l2 m2 (sym (c.dirs j) ∙ dir) (not_k e l j x nj at) (not_k o m j y nj at'))
        (cases_eq j i);
  }
    where
      both : (e l : ℕ) → ((e ≡ d) × (l ≡ k)) ⊎ ((e ≡ d) × (l ≡ k) → ⊥)
      both e l = ⊎_elim
          (λ (s : e ≡ d). ⊎_elim (λ (q : l ≡ k). inl (s, q)) (λ (ne : l ≢ k). inr (λ h. ne h.1)) (cases_eq l k))
          (λ (ne : e ≢ d). inr (λ h. ne h.0))
          (cases_eq e d)

      same_text : (a b : ℕ) (x y : List ℕ) → ◌≡◌ {A = Slot} (Some (a, x)) (Some (b, y)) → x ≡ y
      same_text a b x y e = ap text e
        where
          text : Slot → List ℕ
          text None = []
          text (Some s) = s.1

      walked_t : (e l j : ℕ) (x : List ℕ) → is_walked u e ≡ true → 2 ≤ l → slot_at u e l ≡ Some (j, x) → is_walked t e ≡ true
      walked_t e l j x w le at = ⊎_elim
          (λ (s : e ≡ i). absurd (none_past l j x le (subst (λ z. slot_at u z l ≡ Some (j, x)) s at)))
          (λ (ni : e ≢ i). sym (new-walked_other e ni) ∙ w)
          (cases_eq e i)

      used_own : (l j : ℕ) (x : List ℕ) → slot_at u i l ≡ Some (j, x) → ((g.head j).is_used ≡ true) × (x ≢ [])
      used_own l j x at = ⊎_elim
          (λ (z : l ≡ 0). let e : ◌≡◌ {A = Slot} (Some (i, 46 ∷ [])) (Some (j, x)) = sym c.dot ∙ sym (low_same i 0 (omega arith)) ∙ ap (slot_at u i) (sym z) ∙ at in
          (subst (λ q. (g.head q).is_used ≡ true) (same_number i j (46 ∷ []) x e) used_i, subst (λ q. q ≢ []) (same_text i j (46 ∷ []) x e) (λ h. cc)))
          (λ (nz : l ≢ 0). ⊎_elim
          (λ (o : l ≡ 1). let e : ◌≡◌ {A = Slot} (Some (d, 46 ∷ 46 ∷ [])) (Some (j, x)) = sym c.dots ∙ sym (low_same i 1 (omega arith)) ∙ ap (slot_at u i) (sym o) ∙ at in
          (subst (λ q. (g.head q).is_used ≡ true) (same_number d j (46 ∷ 46 ∷ []) x e) used_d, subst (λ q. q ≢ []) (same_text d j (46 ∷ 46 ∷ []) x e) (λ h. cc)))
          (λ (no : l ≢ 1). absurd (none_past l j x (omega arith) at))
          (cases_eq l 1))
          (cases_eq l 0)

      up_i : parent u i ≡ d
      up_i = up_same i ∙ ap number_in c.dots

      dots_i : HasDots u i
      dots_i = record {
        self = low_same i 0 (omega arith) ∙ c.dot;
        up = low_same i 1 (omega arith) ∙ c.dots ∙ (λ z. Some (sym up_i z, 46 ∷ 46 ∷ []));
        root = λ r. absurd (c.no_root r);
        walked = ap (is_walked u) up_i ∙ new-walked_other d (λ e. c.apart (sym e)) ∙ c.walked;
        child = λ r. ap (λ p. is_child u p i) up_i ∙ named_at 2 c.past;
      }

      dots_other : (e : ℕ) → e ≢ i → is_walked t e ≡ true → HasDots u e
      dots_other e ni wt = let h = is.dots e wt in record {
        self = low_same e 0 (omega arith) ∙ h.self;
        up = low_same e 1 (omega arith) ∙ h.up ∙ (λ z. Some (sym (up_same e) z, 46 ∷ 46 ∷ []));
        root = λ r. up_same e ∙ h.root r;
        walked = ap (is_walked u) (up_same e) ∙ new-walked_other (parent t e) (not_i (parent t e) h.walked) ∙ h.walked;
        child = λ r. ap (λ p. is_child u p e) (up_same e) ∙ any_same 2 (parent t e) e ni ∙ h.child r;
      }

  -- a directory that is taken away
  pub taken-IsTree : (f g : Frame) → IsTree f u → ((j : ℕ) → j ≢ i → (f.head j).is_used ≡ true → (g.head j).is_used ≡ true) → IsTree g t
  taken-IsTree f g is used_stay = record {
    dots = λ e w. let ni = not_i e w in let wu : is_walked u e ≡ true = new-walked_other e ni ∙ w in let h = is.dots e wu in record {
      self = sym (low_same e 0 (omega arith)) ∙ h.self;
      up = sym (low_same e 1 (omega arith)) ∙ h.up ∙ (λ z. Some (up_same e z, 46 ∷ 46 ∷ []));
      root = λ r. sym (up_same e) ∙ h.root r;
      walked = above e w;
      child = λ r. sym (any_same 2 (parent t e) e ni) ∙ ap (λ p. is_child u p e) (sym (up_same e)) ∙ h.child r;
    };
    used = λ e l j x w at. let ni = not_i e w in let nj = no_name e j w (has_slot-at t e 0 j l x (omega arith) at) in
        let r = is.used e l j x (new-walked_other e ni ∙ w) (back e l j x at) in (used_stay j nj r.0, r.1);
    linked = λ j. let b = is.linked j in let e = new-links j in omega arith;
    one_slot = λ e o l m j x y we wo l2 m2 dir at at'.
        is.one_slot e o l m j x y (new-walked_other e (not_i e we) ∙ we) (new-walked_other o (not_i o wo) ∙ wo) l2 m2 (c.dirs j ∙ dir) (back e l j x at) (back o m j y at');
  }
    where
      back : (e l j : ℕ) (x : List ℕ) → slot_at t e l ≡ Some (j, x) → slot_at u e l ≡ Some (j, x)
      back e l j x at = slot_same e l (λ h. none_slot j x (sym c.old ∙ (λ z. slot_at t (sym h.0 z) (sym h.1 z)) ∙ at)) ∙ at

      -- where `..` leads isn't i, which has no children
      above : (e : ℕ) → is_walked t e ≡ true → is_walked t (parent t e) ≡ true
      above e w = let ni = not_i e w in let h = is.dots e (new-walked_other e ni ∙ w) in ⊎_elim
          (λ (s : parent t e ≡ i). ⊎_elim
          (λ (two : e ≡ 2). absurd (c.no_root (sym s ∙ sym (up_same e) ∙ h.root two)))
          (λ (nr : e ≢ 2). absurd (childless e (ap (λ p. is_child u p e) (sym (up_same e ∙ s)) ∙ h.child nr)))
          (cases_eq e 2))
          (λ (np : parent t e ≢ i). sym (new-walked_other (parent t e) np) ∙ ap (is_walked u) (sym (up_same e)) ∙ h.walked)
          (cases_eq (parent t e) i)
        where
          childless : (e : ℕ) → is_child u i e ≡ true → ⊥
          childless e has = let r = slot_of_any (u.slots i) 2 e has in let s = names_is e (slot_at u i r.0) r.2 in none_past r.0 e s.0 r.1 s.1
