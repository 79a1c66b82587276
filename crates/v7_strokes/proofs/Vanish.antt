-- A directory that is empty loses its only slot: no name leads to it any more, and all others stay walked.
use Rattle.std.proofs.Common.{◌≡◌, ◌≢◌, ℕ, ◌+◌, ◌<◌, ◌≤◌, Bool, true, false, ◌||◌, List, [], ◌∷◌, get_or, refl, sym, ap, subst, ◌∙◌, arith, ⊎_elim, Some, None, ltb}
use Rattle.std.proofs.lemmas.Bool.{cases_eq, cases_lt, cases_Bool}
use Rattle.files_model.specs.Files.{Slot}
use Rattle.v7_map.specs.Frame.{Frame, IsFrame}
use Rattle.v7_map.specs.Tree.{Tree, tree, Walked, root, named, is_child, is_walked, is_named, links}
use Rattle.v7_map.specs.Weak.{IsWeak, slot_at, parent}
use Rattle.v7_map.proofs.Children.{Descends, top, down, walked_descends, has_slot-at}
use Rattle.v7_map.proofs.Walks.{walked_reached, reached_walked}
use Rattle.v7_strokes.specs.Slots.{NewDirectory}
use Rattle.v7_map.proofs.Named.{names_is, linked-slot}
use Rattle.v7_strokes.proofs.Names.{slot_of_any, same_number, none_slot}

clash : {b : Bool} → b ≡ true → b ≡ false → ⊥
clash {b = b} x y = cc

module _ (f : Frame) (slots' : ℕ → List Slot) (d k i : ℕ) (name : List ℕ) (weak : IsWeak f) (is : IsFrame f)
    (others : (j : ℕ) → j ≢ d → slots' j ≡ (tree f).slots j) (rest : (l : ℕ) → l ≢ k → get_or (slots' d) l None ≡ slot_at (tree f) d l) (past : 2 ≤ k)
    (old : slot_at (tree f) d k ≡ Some (i, name)) (new : get_or (slots' d) k None ≡ None) (walked : is_walked (tree f) d ≡ true)
    (dir : (tree f).is_dir i ≡ true) (apart : i ≢ d) (no_root : i ≢ 2) (nothing : (l : ℕ) → 2 ≤ l → slot_at (tree f) i l ≡ None) where
  u : Tree
  u = tree f

  t : Tree
  t = tree (record f { slots = slots' })

  numbers : (j : ℕ) → t.is_dir j ≡ true → (1 ≤ j) × (j < 1 + t.inodes)
  unfolding t
  numbers j h = let r = is.numbers j (is.directories j h) in let high = r.1 in (r.0, omega arith)

  numbers_u : (j : ℕ) → u.is_dir j ≡ true → (1 ≤ j) × (j < 1 + u.inodes)
  unfolding u
  numbers_u j h = let r = is.numbers j (is.directories j h) in let high = r.1 in (r.0, omega arith)

  slot_same : (e l : ℕ) → ((e ≡ d) × (l ≡ k) → ⊥) → slot_at t e l ≡ slot_at u e l
  unfolding t u
  slot_same e l other = ⊎_elim
      (λ (s : e ≡ d). subst (λ z. get_or (slots' z) l None ≡ slot_at (tree f) z l) (sym s) (rest l (λ q. other (s, q))))
      (λ (ne : e ≢ d). ap (λ x. get_or x l None) (others e ne))
      (cases_eq e d)

  -- a slot that is there still was there before
  was_slot : (e l j : ℕ) (x : List ℕ) → slot_at t e l ≡ Some (j, x) → slot_at u e l ≡ Some (j, x)
  unfolding t
  was_slot e l j x at = sym (slot_same e l (λ h. none_slot j x (sym new ∙ (λ z. get_or (slots' (sym h.0 z)) (sym h.1 z) None) ∙ at))) ∙ at

  -- the directory has no children
  childless : (e : ℕ) → is_child u i e ≡ true → ⊥
  unfolding u
  childless e has = let r = slot_of_any ((tree f).slots i) 2 e has in let s = names_is e (slot_at (tree f) i r.0) r.2 in none_slot e s.0 (sym (nothing r.0 r.1) ∙ s.1)

  -- no slot of a directory that was walked, but that one, names it
  no_slot : (e l : ℕ) (x : List ℕ) → is_walked u e ≡ true → e ≢ i → slot_at t e l ≡ Some (i, x) → ⊥
  unfolding u t
  no_slot e l x w ne at =
      let at' = was_slot e l i x at in let h = weak.names.dots e w in ⊎_elim
      (λ (z : l ≡ 0). ne (sym (same_number i e x (46 ∷ []) (sym at' ∙ ap (slot_at (tree f) e) z ∙ h.self))))
      (λ (nz : l ≢ 0). ⊎_elim
      (λ (o : l ≡ 1). let up : i ≡ parent (tree f) e = same_number i (parent (tree f) e) x (46 ∷ 46 ∷ []) (sym at' ∙ ap (slot_at (tree f) e) o ∙ h.up) in ⊎_elim
      (λ (two : e ≡ 2). no_root (up ∙ h.root two))
      (λ (nr : e ≢ 2). childless e (ap (λ p. is_child (tree f) p e) up ∙ h.child nr))
      (cases_eq e 2))
      (λ (no : l ≢ 1).
      let r = weak.names.one_slot e d l k i x name w walked (omega arith) past dir at' old in
      none_here e l x r.1 r.2 at)
      (cases_eq l 1))
      (cases_eq l 0)
    where
      none_here : (e l : ℕ) (x : List ℕ) → e ≡ d → l ≡ k → slot_at t e l ≡ Some (i, x) → ⊥
      none_here e l x p q at = none_slot i x (sym new ∙ (λ z. slot_at t (sym p z) (sym q z)) ∙ at)

  was_walked : {j : ℕ} → Walked t j → (Walked u j) × (j ≢ i)
  unfolding t u
  was_walked (root r) = (root r, λ e. no_root (sym e))
  was_walked (named {d = e} {i = j} w by dir') =
      let h = was_walked w in
      let r = slot_of_any (slots' e) 0 j by in let s = names_is j (slot_at t e r.0) r.2 in
      let at : slot_at u e r.0 ≡ Some (j, s.0) = was_slot e r.0 j s.0 s.1 in (
        named h.0 (has_slot-at u e 0 j r.0 s.0 (omega arith) at) dir',
        λ same. no_slot e r.0 s.0 (reached_walked u numbers_u h.0) h.1 (s.1 ∙ (λ z. Some (same z, s.0))),
      )

  stays : {j : ℕ} → Descends u j → j ≢ i → Walked t j
  unfolding t u
  stays top ne = root weak.root
  stays (down {d = e} {i = j} from by dir') ne = ⊎_elim
      (λ (s : e ≡ i). absurd (childless j (subst (λ z. is_child u z j ≡ true) s by)))
      (λ (ni : e ≢ i).
      let r = slot_of_any ((tree f).slots e) 2 j by in let s = names_is j (slot_at u e r.0) r.2 in
      let at : slot_at t e r.0 ≡ Some (j, s.0) = slot_same e r.0 (λ h. ne (sym (same_number i j name s.0 (sym old ∙ (λ z. slot_at (tree f) (sym h.0 z) (sym h.1 z)) ∙ s.1)))) ∙ s.1 in
      named (stays from ni) (has_slot-at t e 0 j r.0 s.0 (omega arith) at) dir')
      (cases_eq e i)

  not_walked : is_walked t i ≡ false
  not_walked = ⊎_elim (λ (w : is_walked t i ≡ true). absurd ((was_walked (walked_reached t i w)).1 refl)) (λ (w : is_walked t i ≡ false). w) (cases_Bool (is_walked t i))

  no_links : links t i ≡ 0
  no_links = ⊎_elim
      (λ (some : 0 < links t i). absurd (found some))
      (λ (le : links t i ≤ 0). omega arith)
      (cases_lt 0 (links t i))
    where
      found : 0 < links t i → ⊥
      found some = let e = linked-slot t i some in let v = was_walked (walked_reached t e.0 e.3) in no_slot e.0 e.1 e.2 (reached_walked u numbers_u v.0) v.1 e.4

  unnamed : is_named t i ≡ false
  unnamed = (λ z. not_walked z || ltb 0 (no_links z))

  walked_i : is_walked u i ≡ true
  unfolding u
  walked_i = reached_walked u numbers_u (named (walked_reached u d walked) (has_slot-at u d 0 i k name (omega arith) old) dir)

  up_i : parent u i ≡ d
  unfolding u
  up_i = let h = weak.names.dots i walked_i in
      let r = slot_of_any ((tree f).slots (parent (tree f) i)) 2 i (h.child no_root) in let s = names_is i (slot_at (tree f) (parent (tree f) i) r.0) r.2 in
      (weak.names.one_slot (parent (tree f) i) d r.0 k i s.0 name h.walked walked r.1 past dir s.1 old).1

  -- read backwards, the directory is a new one
  pub vanish-NewDirectory : NewDirectory (tree (record f { slots = slots' })) (tree f) d k i name
  unfolding t u
  vanish-NewDirectory = let h = weak.names.dots i walked_i in record {
    inodes = refl;
    dirs = λ j. refl;
    others = λ j ne. sym (others j ne);
    rest = λ l ne. sym (rest l ne);
    past = past;
    old = new;
    new = old;
    dir = dir;
    apart = apart;
    no_root = no_root;
    unnamed = unnamed;
    walked = reached_walked t numbers (stays (walked_descends f weak is (walked_reached u d walked)) (λ e. apart (sym e)));
    dot = slot_same i 0 (λ h. apart h.0) ∙ h.self;
    dots = slot_same i 1 (λ h. apart h.0) ∙ h.up ∙ (λ z. Some (up_i z, 46 ∷ 46 ∷ []));
    empty = λ l le. slot_same i l (λ h. apart h.0) ∙ nothing l le;
    numbers = numbers;
  }
