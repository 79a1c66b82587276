-- A slot that names no directory changes: the walk stays, and links change by that slot alone.
use Rattle.std.proofs.Common.{eq-eqb, ◌≡◌, ◌≢◌, ℕ, zero, suc, ◌+◌, ◌<◌, ◌≤◌, Bool, true, false, cond, ◌&&◌, ◌||◌, List, [], ◌∷◌, ◌++◌, get_or, drop, refl, sym, ap, subst, ◌∙◌, arith, ⊎_elim, Some, None, ◌==◌}
use Rattle.std.proofs.lemmas.Bool.{cases_eq, ne_eqb}
use Rattle.std.proofs.lemmas.List.Sums.{sum_by-append}
use Rattle.std.specs.List.{range_with_len, list_any, count_by, flat_map, filter}
use Rattle.files_model.specs.Files.{Slot}
use Rattle.v7_map.specs.Frame.{Frame}
use Rattle.v7_map.specs.Tree.{Tree, is_child, has_slot_of, grown, found_in, walked, is_walked, links, is_slot_of, number_in, seen_in}
use Rattle.v7_map.specs.Weak.{IsTree, slot_at, parent}
use Rattle.v7_map.proofs.Named.{names_is}
use Rattle.v7_strokes.specs.Slots.{SlotChange, IsPlain}
use Rattle.v7_map.proofs.Walks.{walked_reached}
use Rattle.v7_map.proofs.Used.{walked_is_dir}
use Rattle.v7_strokes.specs.Left.{one}

-- ---- lists of slots, slot by slot

none_any : (p : Slot → Bool) (ys : List Slot) (n : ℕ) → ((l : ℕ) → p (get_or ys l None) ≡ false) → list_any p (drop n ys) ≡ false
none_any p [] zero h = refl
none_any p [] (suc n) h = refl
none_any p (y ∷ ys) zero h = ap (λ b. b || list_any p ys) (h 0) ∙ none_any p ys zero (λ l. h (suc l))
none_any p (y ∷ ys) (suc n) h = none_any p ys n (λ l. h (suc l))

pub any_pointwise : (p : Slot → Bool) (xs ys : List Slot) (n : ℕ) → p None ≡ false → ((l : ℕ) → p (get_or ys l None) ≡ p (get_or xs l None)) → list_any p (drop n ys) ≡ list_any p (drop n xs)
any_pointwise p [] ys n none h = none_any p ys n (λ l. h l ∙ none) ∙ sym (none_any p [] n (λ l. none))
any_pointwise p (x ∷ xs) [] n none h = none_any p [] n (λ l. none) ∙ sym (none_any p (x ∷ xs) n (λ l. sym (h l) ∙ none))
any_pointwise p (x ∷ xs) (y ∷ ys) zero none h = (λ z. h 0 z || any_pointwise p xs ys 0 none (λ l. h (suc l)) z)
any_pointwise p (x ∷ xs) (y ∷ ys) (suc n) none h = any_pointwise p xs ys n none (λ l. h (suc l))

pub count-cons : (p : Slot → Bool) (x : Slot) (xs : List Slot) → count_by p (x ∷ xs) ≡ (0 + one (p x)) + count_by p xs
count-cons p x xs = sum_by-append (λ y. cond (p y) 1 0) (x ∷ []) xs

none_count : (p : Slot → Bool) (ys : List Slot) → ((l : ℕ) → p (get_or ys l None) ≡ false) → count_by p ys ≡ 0
none_count p [] h = refl
none_count p (y ∷ ys) h = let a = count-cons p y ys in let b = none_count p ys (λ l. h (suc l)) in let c : ◌≡◌ {A = ℕ} (one (p y)) 0 = ap one (h 0) in omega arith

pub same_count : (p : Slot → Bool) (xs ys : List Slot) → p None ≡ false → ((l : ℕ) → p (get_or ys l None) ≡ p (get_or xs l None)) → count_by p ys ≡ count_by p xs
same_count p [] ys none h = none_count p ys (λ l. h l ∙ none)
same_count p (x ∷ xs) [] none h = sym (none_count p (x ∷ xs) (λ l. sym (h l) ∙ none))
same_count p (x ∷ xs) (y ∷ ys) none h = let a = count-cons p x xs in let b = count-cons p y ys in let c = same_count p xs ys none (λ l. h (suc l)) in let e : ◌≡◌ {A = ℕ} (one (p y)) (one (p x)) = ap one (h 0) in omega arith

-- two lists that differ at one place alone
pub count_but_one : (p : Slot → Bool) (xs ys : List Slot) (k : ℕ) → p None ≡ false → ((l : ℕ) → l ≢ k → p (get_or ys l None) ≡ p (get_or xs l None))
    → count_by p ys + one (p (get_or xs k None)) ≡ count_by p xs + one (p (get_or ys k None))
count_but_one p [] [] k none h = refl
count_but_one p [] (y ∷ ys) zero none h = let b = count-cons p y ys in let c = none_count p ys (λ l. h (suc l) (λ e. absurd (omega arith)) ∙ none) in let e : ◌≡◌ {A = ℕ} (one (p None)) 0 = ap one none in omega arith
count_but_one p [] (y ∷ ys) (suc k) none h = let b = count-cons p y ys in let c = count_but_one p [] ys k none (λ l ne. h (suc l) (λ e. ne (omega arith))) in let e : ◌≡◌ {A = ℕ} (one (p y)) 0 = ap one (h 0 (λ e. absurd (omega arith)) ∙ none) in omega arith
count_but_one p (x ∷ xs) [] zero none h = let b = count-cons p x xs in let c = none_count p xs (λ l. sym (h (suc l) (λ e. absurd (omega arith))) ∙ none) in let e : ◌≡◌ {A = ℕ} (one (p None)) 0 = ap one none in omega arith
count_but_one p (x ∷ xs) [] (suc k) none h = let b = count-cons p x xs in let c = count_but_one p xs [] k none (λ l ne. h (suc l) (λ e. ne (omega arith))) in let e : ◌≡◌ {A = ℕ} (one (p x)) 0 = ap one (sym (h 0 (λ e. absurd (omega arith))) ∙ none) in omega arith
count_but_one p (x ∷ xs) (y ∷ ys) zero none h = let a = count-cons p x xs in let b = count-cons p y ys in let c = same_count p xs ys none (λ l. h (suc l) (λ e. absurd (omega arith))) in omega arith
count_but_one p (x ∷ xs) (y ∷ ys) (suc k) none h = let a = count-cons p x xs in let b = count-cons p y ys in let c = count_but_one p xs ys k none (λ l ne. h (suc l) (λ e. ne (omega arith))) in
    let e : ◌≡◌ {A = ℕ} (one (p y)) (one (p x)) = ap one (h 0 (λ e. absurd (omega arith))) in omega arith

flat_same : (g h : ℕ → List Slot) (b n : ℕ) → ((j : ℕ) → b ≤ j → h j ≡ g j) → flat_map h (range_with_len b n) ≡ flat_map g (range_with_len b n)
flat_same g h b zero e = refl
flat_same g h b (suc n) e = λ z. e b (omega arith) z ++ flat_same g h (b + 1) n (λ j le. e j (omega arith)) z

-- the count over lists of which one is another
pub flat_but_one : (p : Slot → Bool) (g h : ℕ → List Slot) (a n d x y : ℕ) → a ≤ d → d < a + n → ((j : ℕ) → j ≢ d → h j ≡ g j) → count_by p (h d) + x ≡ count_by p (g d) + y → count_by p (flat_map h (range_with_len a n)) + x ≡ count_by p (flat_map g (range_with_len a n)) + y
flat_but_one p g h a zero d x y low high others here = absurd (omega arith)
flat_but_one p g h a (suc n) d x y low high others here =
    let v = sum_by-append (λ q. cond (p q) 1 0) (h a) (flat_map h (range_with_len (a + 1) n)) in
    let w = sum_by-append (λ q. cond (p q) 1 0) (g a) (flat_map g (range_with_len (a + 1) n)) in
    ⊎_elim
    (λ (e : a ≡ d). let rest : count_by p (flat_map h (range_with_len (a + 1) n)) ≡ count_by p (flat_map g (range_with_len (a + 1) n)) = ap (count_by p) (flat_same g h (a + 1) n (λ j le. others j (λ q. omega arith))) in
    let now : count_by p (h a) + x ≡ count_by p (g a) + y = subst (λ q. count_by p (h q) + x ≡ count_by p (g q) + y) (sym e) here in omega arith)
    (λ (ne : a ≢ d). let rest = flat_but_one p g h (a + 1) n d x y (omega arith) (omega arith) others here in let now = ap (count_by p) (others a ne) in omega arith)
    (cases_eq a d)

-- ---- the walk

and_same : (b x y : Bool) → (b ≡ true → x ≡ y) → (b && x) ≡ (b && y)
and_same true x y h = h refl
and_same false x y h = refl

-- the walked directories are the same where the slots name the same directories
pub walked_same : (t u : Tree) → u.inodes ≡ t.inodes → ((i : ℕ) → u.is_dir i ≡ t.is_dir i) → ((d i : ℕ) → t.is_dir i ≡ true → has_slot_of u d i ≡ has_slot_of t d i) → walked u ≡ walked t
unfolding walked
walked_same t u inodes dirs slots = (λ z. found_in u (inodes z)) ∙ found (t.inodes)
  where
    test : (i : ℕ) (xs : List ℕ) → (u.is_dir i && (list_any (λ d. d == i) xs || list_any (λ d. has_slot_of u d i) xs)) ≡ (t.is_dir i && (list_any (λ d. d == i) xs || list_any (λ d. has_slot_of t d i) xs))
    test i xs = (λ z. dirs i z && (list_any (λ d. d == i) xs || list_any (λ d. has_slot_of u d i) xs))
        ∙ and_same (t.is_dir i) _ _ (λ dir z. list_any (λ d. d == i) xs || list_any (λ d. slots d i dir z) xs)

    found : (n : ℕ) → found_in u n ≡ found_in t n
    found zero = λ z. filter (λ i. (i == 2) && dirs i z) (range_with_len 1 (inodes z))
    found (suc n) = ap (grown u) (found n) ∙ (λ z. filter (λ i. test i (found_in t n) z) (range_with_len 1 (inodes z)))

-- a plain slot names no directory
plain_no : (t : Tree) (s : Slot) (j : ℕ) → IsPlain t s → t.is_dir j ≡ true → is_slot_of j s ≡ false
plain_no t None j plain dir = refl
plain_no t (Some (i, name)) j plain dir = ne_eqb i j (λ e. let no' : t.is_dir i ≡ false = plain i name refl in let yes : t.is_dir i ≡ true = ap t.is_dir e ∙ dir in cc)

-- slots that name no directory are alike to each directory
pub plain-alike : (t : Tree) (a b : Slot) → IsPlain t a → IsPlain t b → (j : ℕ) → t.is_dir j ≡ true → is_slot_of j a ≡ is_slot_of j b
plain-alike t a b p q j dir = plain_no t a j p dir ∙ sym (plain_no t b j q dir)

module _ (t u : Tree) (d k : ℕ) (c : SlotChange t u d k) where
  same_children : (n e j : ℕ) → t.is_dir j ≡ true → list_any (is_slot_of j) (drop n (u.slots e)) ≡ list_any (is_slot_of j) (drop n (t.slots e))
  same_children n e j dir = ⊎_elim
      (λ (s : e ≡ d). subst (λ z. list_any (is_slot_of j) (drop n (u.slots z)) ≡ list_any (is_slot_of j) (drop n (t.slots z))) (sym s) (any_pointwise (is_slot_of j) (t.slots d) (u.slots d) n refl (λ l. ⊎_elim
      (λ (q : l ≡ k). subst (λ z. is_slot_of j (slot_at u d z) ≡ is_slot_of j (slot_at t d z)) (sym q) (sym (c.alike j dir)))
      (λ (ne : l ≢ k). ap (is_slot_of j) (c.rest l ne))
      (cases_eq l k))))
      (λ (ne : e ≢ d). ap (λ s. list_any (is_slot_of j) (drop n s)) (c.others e ne))
      (cases_eq e d)

  pub change-walked : walked u ≡ walked t
  change-walked = walked_same t u c.inodes c.dirs (λ e j dir. same_children 0 e j dir)

  pub change-links : (j : ℕ) → 1 ≤ d → d < 1 + t.inodes → is_walked t d ≡ true → links u j + one (is_slot_of j (slot_at t d k)) ≡ links t j + one (is_slot_of j (slot_at u d k))
  unfolding links
  change-links j low high w =
      ap (λ n. count_by (is_slot_of j) (flat_map (seen_in u 0) (range_with_len 1 n)) + one (is_slot_of j (slot_at t d k))) c.inodes
      ∙ flat_but_one (is_slot_of j) (seen_in t 0) (seen_in u 0) 1 t.inodes d (one (is_slot_of j (slot_at t d k))) (one (is_slot_of j (slot_at u d k))) low high
      (λ e ne z. cond (list_any (λ q. q == e) (change-walked z)) (c.others e ne z) [])
      ((λ z. count_by (is_slot_of j) (cond (list_any (λ q. q == d) (change-walked z)) (u.slots d) []) + one (is_slot_of j (slot_at t d k)))
      ∙ (λ z. count_by (is_slot_of j) (cond (w z) (u.slots d) []) + one (is_slot_of j (slot_at t d k)))
      ∙ count_but_one (is_slot_of j) (t.slots d) (u.slots d) k refl (λ l ne. ap (is_slot_of j) (c.rest l ne))
      ∙ (λ z. count_by (is_slot_of j) (cond (sym w z) (t.slots d) []) + one (is_slot_of j (slot_at u d k))))

  slot_low : (e l : ℕ) → l < 2 → slot_at u e l ≡ slot_at t e l
  slot_low e l lt = ⊎_elim
      (λ (s : e ≡ d). subst (λ z. slot_at u z l ≡ slot_at t z l) (sym s) (c.rest l (λ q. let p = c.past in omega arith)))
      (λ (ne : e ≢ d). ap (λ s. get_or s l None) (c.others e ne))
      (cases_eq e d)

  -- a slot that names a directory was there before
  -- a slot that names a directory named it before
  slot_dir : (e l i : ℕ) (name : List ℕ) → u.is_dir i ≡ true → slot_at u e l ≡ Some (i, name) → (was : List ℕ) × (slot_at t e l ≡ Some (i, was))
  slot_dir e l i name dir at = ⊎_elim
      (λ (s : e ≡ d). ⊎_elim
      (λ (q : l ≡ k).
      let here : slot_at u d k ≡ Some (i, name) = subst (λ z. slot_at u d z ≡ Some (i, name)) q (subst (λ z. slot_at u z l ≡ Some (i, name)) s at) in
      let was = names_is i (slot_at t d k) (c.alike i (sym (c.dirs i) ∙ dir) ∙ ap (is_slot_of i) here ∙ eq-eqb i i refl) in
      (was.0, (λ z. slot_at t (s z) (q z)) ∙ was.1))
      (λ (ne : l ≢ k). (name, subst (λ z. slot_at t z l ≡ Some (i, name)) (sym s) (sym (c.rest l ne) ∙ subst (λ z. slot_at u z l ≡ Some (i, name)) s at)))
      (cases_eq l k))
      (λ (ne : e ≢ d). (name, ap (λ s. get_or s l None) (sym (c.others e ne)) ∙ at))
      (cases_eq e d)

  was_walked : (e : ℕ) → is_walked u e ≡ true → is_walked t e ≡ true
  was_walked e w = (λ z. list_any (λ q. q == e) (sym change-walked z)) ∙ w

  now_walked : (e : ℕ) → is_walked t e ≡ true → is_walked u e ≡ true
  now_walked e w = (λ z. list_any (λ q. q == e) (change-walked z)) ∙ w

  pub change-IsTree : (f g : Frame) → IsTree f t → ((j : ℕ) → (f.head j).is_used ≡ true → (g.head j).is_used ≡ true)
      → ((j : ℕ) (name : List ℕ) → slot_at u d k ≡ Some (j, name) → ((g.head j).is_used ≡ true) × (name ≢ [])) → ((j : ℕ) → links u j ≤ 65535) → IsTree g u
  change-IsTree f g is used_stay new_used linked = record {
    dots = λ e w. let wt = was_walked e w in let h = is.dots e wt in
        let up : parent u e ≡ parent t e = ap number_in (slot_low e 1 (omega arith)) in record {
          self = slot_low e 0 (omega arith) ∙ h.self;
          up = slot_low e 1 (omega arith) ∙ h.up ∙ (λ z. Some (sym up z, 46 ∷ 46 ∷ []));
          root = λ r. up ∙ h.root r;
          walked = (λ z. is_walked u (up z)) ∙ now_walked (parent t e) h.walked;
          child = λ r. (λ z. is_child u (up z) e) ∙ same_children 2 (parent t e) e (walked_is_dir {t = t} (walked_reached t e wt)) ∙ h.child r;
        };
    used = λ e l j name w at. ⊎_elim
        (λ (s : e ≡ d). ⊎_elim
        (λ (q : l ≡ k). new_used j name (subst (λ z. slot_at u d z ≡ Some (j, name)) q (subst (λ z. slot_at u z l ≡ Some (j, name)) s at)))
        (λ (ne : l ≢ k). let r = is.used e l j name (was_walked e w) (subst (λ z. slot_at t z l ≡ Some (j, name)) (sym s) (sym (c.rest l ne) ∙ subst (λ z. slot_at u z l ≡ Some (j, name)) s at)) in (used_stay j r.0, r.1))
        (cases_eq l k))
        (λ (ne : e ≢ d). let r = is.used e l j name (was_walked e w) (ap (λ s. get_or s l None) (sym (c.others e ne)) ∙ at) in (used_stay j r.0, r.1))
        (cases_eq e d);
    linked = linked;
    one_slot = λ e o k' l j name other we wo k2 l2 dir at at'.
        let p = slot_dir e k' j name dir at in let q = slot_dir o l j other dir at' in
        is.one_slot e o k' l j p.0 q.0 (was_walked e we) (was_walked o wo) k2 l2 (sym (c.dirs j) ∙ dir) p.1 q.1;
  }

  -- who is named afterwards
  pub change-links_other : (j : ℕ) → 1 ≤ d → d < 1 + t.inodes → is_walked t d ≡ true → is_slot_of j (slot_at t d k) ≡ is_slot_of j (slot_at u d k) → links u j ≡ links t j
  change-links_other j low high w e = let r = change-links j low high w in let s : ◌≡◌ {A = ℕ} (one (is_slot_of j (slot_at t d k))) (one (is_slot_of j (slot_at u d k))) = ap one e in omega arith
