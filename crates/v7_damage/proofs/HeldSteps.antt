-- What parents hold, directory by directory.
use Rattle.std.proofs.Common.{◌≡◌, ◌≢◌, ℕ, zero, suc, ◌+◌, ◌<◌, ◌≤◌, Bool, true, false, ◌&&◌, ◌||◌, ◌==◌, List, [], ◌∷◌, map, drop, get_or, refl, sym, ap, ◌∙◌, arith, ⊎_elim, eq-eqb}
use Rattle.std.specs.Prelude.{replicate}
use Rattle.std.specs.List.{list_any}
use Rattle.std.proofs.lemmas.Bool.{cases_eq, cases_lt, cases_Bool, ne_eqb, lt-ltb, le-ltb}
use Rattle.stable.specs.Store.{Image}
use Rattle.v7_layout.specs.declared.slot.Slot.{Slot as Stored}
use Rattle.v7_map.specs.Frame.{frame}
use Rattle.v7_map.specs.Weak.{parent}
use Rattle.v7_map.specs.Tree.{Tree, tree, is_slot_of, is_walked, is_child}
use Rattle.v7_map.proofs.Walks.{walked_reached}
use Rattle.v7_map.proofs.Used.{walked_is_dir}
use Rattle.v7_damage.specs.Marks.{mark_at}
use Rattle.v7_damage.specs.Slots.{seen_slot, names}
use Rattle.v7_damage.specs.Walk.{AreWalked}
use Rattle.v7_damage.specs.Names.{AreHeld}
use Rattle.v7_damage.proofs.WalkSteps.{dir-numbers, no-marks}

map-drop : {A B : Type 0} (f : A → B) (n : ℕ) (xs : List A) → map f (drop n xs) ≡ drop n (map f xs)
map-drop f zero xs = refl
map-drop f (suc n) [] = refl
map-drop f (suc n) (x ∷ xs) = map-drop f n xs

-- the slots past the first two name the children
pub child-seen : (t : Tree) (d : ℕ) (slots past : List Stored) → map seen_slot slots ≡ t.slots d → past ≡ drop 2 slots → (i : ℕ) → names past i ≡ is_child t d i
unfolding names
child-seen t d slots past are is i = ap (λ l. list_any (is_slot_of i) (map seen_slot l)) is ∙ ap (list_any (is_slot_of i)) (map-drop seen_slot 2 slots ∙ ap (drop 2) are)

pub walked-number : (image : Image) (i : ℕ) → is_walked (tree (frame image)) i ≡ true → i ≢ 0
walked-number image i walks none = let r = dir-numbers image i (walked_is_dir (walked_reached (tree (frame image)) i walks)) in let low = r.0 in omega arith

or_none : (a : Bool) → (a || false) ≡ a
or_none true = refl
or_none false = refl

module _ (image : Image) (found : List Bool) (ups : List ℕ) (are : AreWalked (tree (frame image)) found ups) where
  abbrev t : Tree
  t = tree (frame image)

  -- one walked directory more
  pub held_more : (held more : List Bool) (d : ℕ) (slots past : List Stored) → is_walked t d ≡ true → map seen_slot slots ≡ t.slots d → past ≡ drop 2 slots
      → ((i : ℕ) → i ≢ 0 → mark_at more i ≡ (mark_at held i || ((get_or ups i 0 == d) && names past i))) → AreHeld t held d → AreHeld t more (d + 1)
  held_more held more d slots past walks seen is marks was = record {
    each = λ i wi.
        let p : ℕ = parent t i in
        let old = was.each i wi in
        let now = marks i (walked-number image i wi) ∙ (λ z. old z || ((are.up i wi z == d) && child-seen t d slots past seen is i z)) in
        now ∙ ⊎_elim
        (λ (low : p < d).
        (λ z. (lt-ltb p d low z && (is_walked t p && is_child t p i)) || (ne_eqb p d (λ e. omega arith) z && is_child t d i))
        ∙ or_none (is_walked t p && is_child t p i)
        ∙ sym (λ z. lt-ltb p (d + 1) (omega arith) z && (is_walked t p && is_child t p i)))
        (λ (high : d ≤ p). ⊎_elim
        (λ (same : p ≡ d).
        (λ z. (le-ltb p d high z && (is_walked t p && is_child t p i)) || (eq-eqb p d same z && is_child t d i))
        ∙ sym ((λ z. lt-ltb p (d + 1) (omega arith) z && (is_walked t p && is_child t p i)) ∙ (λ z. is_walked t (same z) && is_child t (same z) i) ∙ ap (λ b. b && is_child t d i) walks))
        (λ (other : p ≢ d).
        (λ z. (le-ltb p d high z && (is_walked t p && is_child t p i)) || (ne_eqb p d other z && is_child t d i))
        ∙ sym (λ z. le-ltb p (d + 1) (omega arith) z && (is_walked t p && is_child t p i)))
        (cases_eq p d))
        (cases_lt p d);
  }

  -- a directory that isn't walked holds nothing
  pub held_same : (held : List Bool) (d : ℕ) → is_walked t d ≡ false → AreHeld t held d → AreHeld t held (d + 1)
  held_same held d other was = record {
    each = λ i wi.
        let p : ℕ = parent t i in
        was.each i wi ∙ ⊎_elim
        (λ (low : p < d). (λ z. lt-ltb p d low z && (is_walked t p && is_child t p i)) ∙ sym (λ z. lt-ltb p (d + 1) (omega arith) z && (is_walked t p && is_child t p i)))
        (λ (high : d ≤ p). ⊎_elim
        (λ (same : p ≡ d). (λ z. le-ltb p d high z && (is_walked t p && is_child t p i))
        ∙ sym ((λ z. lt-ltb p (d + 1) (omega arith) z && (is_walked t p && is_child t p i)) ∙ (λ z. is_walked t (same z) && is_child t (same z) i) ∙ ap (λ b. b && is_child t d i) other))
        (λ (more : p ≢ d). (λ z. le-ltb p d high z && (is_walked t p && is_child t p i)) ∙ sym (λ z. le-ltb p (d + 1) (omega arith) z && (is_walked t p && is_child t p i)))
        (cases_eq p d))
        (cases_lt p d);
  }

  pub held_none : (held : List Bool) (n : ℕ) → held ≡ replicate n false → AreHeld t held 1
  held_none held n none = record {
    each = λ i wi.
        let p : ℕ = parent t i in
        ap (λ m. mark_at m i) none ∙ no-marks n i ∙ sym (⊎_elim
        (λ (low : p < 1).
        let zero' : p ≡ 0 = omega arith in
        let not_walked : is_walked t p ≡ false = ⊎_elim (λ (w : is_walked t p ≡ true). absurd (walked-number image p w zero')) (λ (no : is_walked t p ≡ false). no) (cases_Bool (is_walked t p)) in
        (λ z. lt-ltb p 1 low z && (not_walked z && is_child t p i)))
        (λ (high : 1 ≤ p). (λ z. le-ltb p 1 high z && (is_walked t p && is_child t p i)))
        (cases_lt p 1));
  }
