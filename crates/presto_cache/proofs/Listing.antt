-- The order lists each dirty entry once.
use Rattle.std.proofs.Common.{◌≡◌, ◌≢◌, ◌⊎◌, inl, inr, ⊎_elim, ℕ, zero, suc, ◌+◌, ◌-◌, ◌<◌, ◌≤◌, Bool, true, false, ◌||◌, if◌then◌else◌, nat_eq, Some, List, [], ◌∷◌, ◌++◌, map, length, get_or, set, take, refl, sym, ◌∙◌, ap, subst, arith, length-append}
use Rattle.std.proofs.lemmas.Bool.{eqb-true, eqb-false, eq-eqb, ltb-true, ltb-false}
use Rattle.std.proofs.lemmas.List.{length-take, get_or_past, get_or_append_left, get_or_at}
use Rattle.std.proofs.Math.Seq.{take-suc}
use Rattle.std.specs.List.Sorted.{IsStrictlyIncreasing}
use Rattle.std.proofs.lemmas.Option.{none-some}
use Rattle.std.proofs.Math.Dec.{eqb, ltb}
use Rattle.index_sets.specs.Queue.{is_listed}
use Rattle.presto_cache.specs.Slots.{at, is_dirty}
use Rattle.presto_cache.specs.Order.{times, IsOrderOf, without, followed, first_of}
use Rattle.presto_cache.specs.Entries.{Entry, entry_in, entries_in, with_entry, without_entry, oldest_in, changed}
use Rattle.presto_cache.specs.declared.slot.Slot.{Slot}
use Rattle.presto_cache.specs.declared.slot.Slot.TheVariants.{Free}
use Rattle.presto_cache.proofs.Slots.{at_set}

-- the index at the head is that one, or another
pub by_head : {P : Type 0} (x k : ℕ) → (x ≡ k → P) → (x ≢ k → P) → P
by_head {P} x k same other = case (nat_eq x k) refl
  where
    case : (b : Bool) → nat_eq x k ≡ b → P
    case true is = same (eqb-true x k is)
    case false is = other (eqb-false x k is)

pub nat_eq_same : (x k : ℕ) → x ≡ k → nat_eq x k ≡ true
nat_eq_same x k e = eq-eqb x k e

pub nat_eq_other : (x k : ℕ) → x ≢ k → nat_eq x k ≡ false
nat_eq_other x k ne = case (nat_eq x k) refl
  where
    case : (b : Bool) → nat_eq x k ≡ b → nat_eq x k ≡ false
    case true is = absurd (ne (eqb-true x k is))
    case false is = is

module _ (x k : ℕ) (xs : List ℕ) where
  pub times_here : x ≡ k → times k (x ∷ xs) ≡ suc (times k xs)
  times_here e = ap (λ b. if b then suc (times k xs) else times k xs) (nat_eq_same x k e)

  pub times_there : x ≢ k → times k (x ∷ xs) ≡ times k xs
  times_there ne = ap (λ b. if b then suc (times k xs) else times k xs) (nat_eq_other x k ne)

  without_here : x ≡ k → without k (x ∷ xs) ≡ xs
  without_here e = ap (λ b. if b then xs else x ∷ without k xs) (nat_eq_same x k e)

  without_there : x ≢ k → without k (x ∷ xs) ≡ x ∷ without k xs
  without_there ne = ap (λ b. if b then xs else x ∷ without k xs) (nat_eq_other x k ne)

times_append : (k : ℕ) (xs ys : List ℕ) → times k (xs ++ ys) ≡ times k xs + times k ys
times_append k [] ys = omega arith
times_append k (x ∷ xs) ys = by_head x k
    (λ e. let l = times_here x k (xs ++ ys) e in let r = times_here x k xs e in omega (arith, l, r, times_append k xs ys))
    (λ ne. let l = times_there x k (xs ++ ys) ne in let r = times_there x k xs ne in omega (arith, l, r, times_append k xs ys))

pub times_without_same : (k : ℕ) (xs : List ℕ) → times k (without k xs) ≡ times k xs - 1
times_without_same k [] = refl
times_without_same k (x ∷ xs) = by_head x k
    (λ e. let l = ap (times k) (without_here x k xs e) in let r = times_here x k xs e in omega (arith, l, r))
    (λ ne. ap (times k) (without_there x k xs ne) ∙ times_there x k (without k xs) ne ∙ times_without_same k xs ∙ ap (λ n. n - 1) (sym (times_there x k xs ne)))

pub times_without_other : (k i : ℕ) (xs : List ℕ) → k ≢ i → times k (without i xs) ≡ times k xs
times_without_other k i [] ne = refl
times_without_other k i (x ∷ xs) ne = by_head x i
    (λ e. ap (times k) (without_here x i xs e) ∙ sym (times_there x k xs (λ f. ne (sym f ∙ e))))
    (λ off. ap (times k) (without_there x i xs off) ∙ by_head x k
    (λ e. times_here x k (without i xs) e ∙ ap suc (times_without_other k i xs ne) ∙ sym (times_here x k xs e))
    (λ no_k. times_there x k (without i xs) no_k ∙ times_without_other k i xs ne ∙ sym (times_there x k xs no_k)))

times_last_same : (k : ℕ) (xs : List ℕ) → times k (xs ++ k ∷ []) ≡ times k xs + 1
times_last_same k xs = times_append k xs (k ∷ []) ∙ ap (λ n. times k xs + n) (times_here k k [] refl)

times_last_other : (k i : ℕ) (xs : List ℕ) → k ≢ i → times k (xs ++ i ∷ []) ≡ times k xs
times_last_other k i xs ne = let t = times_append k xs (i ∷ []) in let z = times_there i k [] (λ e. ne (sym e)) in omega (arith, t, z)

-- what becomes of the entry, and of each other
followed_other : (was is : Bool) (k i : ℕ) (xs : List ℕ) → k ≢ i → times k (followed was is i xs) ≡ times k xs
followed_other false false k i xs ne = refl
followed_other false true k i xs ne = times_last_other k i xs ne
followed_other true false k i xs ne = times_without_other k i xs ne
followed_other true true k i xs ne = refl

followed_same : (was is : Bool) (i : ℕ) (xs : List ℕ) → times i xs ≡ (if was then 1 else 0) → times i (followed was is i xs) ≡ (if is then 1 else 0)
followed_same false false i xs h = h
followed_same false true i xs h = times_last_same i xs ∙ ap (λ n. n + 1) h
followed_same true false i xs h = times_without_same i xs ∙ ap (λ n. n - 1) h
followed_same true true i xs h = h

pub still_ordered : (slots : List Slot) (order : List ℕ) (i : ℕ) (new : Slot) → i < length slots → IsOrderOf slots order → IsOrderOf (set slots i new) (followed (is_dirty (at slots i)) (is_dirty new) i order)
still_ordered slots order i new lt is k = ⊎_elim
    (λ here. ap (λ n. times n (followed (is_dirty (at slots i)) (is_dirty new) i order)) here.0
    ∙ followed_same (is_dirty (at slots i)) (is_dirty new) i order (is i)
    ∙ ap (λ s. if is_dirty s then 1 else 0) (sym here.1))
    (λ there. followed_other (is_dirty (at slots i)) (is_dirty new) k i order there.0 ∙ is k ∙ ap (λ s. if is_dirty s then 1 else 0) (sym there.1))
    (at_set slots i k new lt)

pub moved_ordered : (slots : List Slot) (order : List ℕ) (i : ℕ) → is_dirty (at slots i) ≡ true → IsOrderOf slots order → IsOrderOf slots (without i order ++ i ∷ [])
moved_ordered slots order i dirty is k = by_head k i
    (λ e. let one = is i ∙ ap (λ b. if b then 1 else 0) dirty in
    ap (λ n. times n (without i order ++ i ∷ [])) e ∙ times_last_same i (without i order) ∙ ap (λ n. n + 1) (times_without_same i order ∙ ap (λ n. n - 1) one)
    ∙ sym (ap (λ n. if is_dirty (at slots n) then 1 else 0) e ∙ ap (λ b. if b then 1 else 0) dirty))
    (λ ne. times_last_other k i (without i order) ne ∙ times_without_other k i order ne ∙ is k)

times_more : (k x : ℕ) (xs : List ℕ) → times k xs ≤ times k (x ∷ xs)
times_more k x xs = by_head x k (λ e. let t = times_here x k xs e in omega (arith, t)) (λ ne. let t = times_there x k xs ne in omega (arith, t))

pub length_without : (k : ℕ) (xs : List ℕ) → 1 ≤ times k xs → length (without k xs) + 1 ≡ length xs
length_without k [] h = absurd (omega (arith, h))
length_without k (x ∷ xs) h = by_head x k
    (λ e. let l = ap length (without_here x k xs e) in omega (arith, l))
    (λ ne. let l = ap length (without_there x k xs ne) in let t = times_there x k xs ne in let r = length_without k xs (omega (arith, h, t)) in omega (arith, l, r))

unlisted : (k : ℕ) (xs : List ℕ) → times k xs ≡ 0 → is_listed k xs ≡ false
unlisted k [] h = refl
unlisted k (x ∷ xs) h = by_head x k
    (λ e. let t = times_here x k xs e in absurd (omega (arith, t, h)))
    (λ ne. ap (λ b. b || is_listed k xs) (nat_eq_other x k ne) ∙ unlisted k xs (sym (times_there x k xs ne) ∙ h))

-- an entry that is free isn't listed
pub not_listed : (slots : List Slot) (order : List ℕ) (i : ℕ) → is_dirty (at slots i) ≡ false → IsOrderOf slots order → is_listed i order ≡ false
not_listed slots order i free is = unlisted i order (is i ∙ ap (λ b. if b then 1 else 0) free)

pub without_absent : (k : ℕ) (xs : List ℕ) → times k xs ≡ 0 → without k xs ≡ xs
without_absent k [] h = refl
without_absent k (x ∷ xs) h = by_head x k
    (λ e. let t = times_here x k xs e in absurd (omega (arith, t, h)))
    (λ ne. without_there x k xs ne ∙ ap (λ l. x ∷ l) (without_absent k xs (sym (times_there x k xs ne) ∙ h)))

-- the entries in that order
module _ (slots : List Slot) (i : ℕ) (new : Slot) (lt : i < length slots) where
  abbrev entry : Entry
  entry = record { index = i; slot = new }

  entry_other : (x : ℕ) → x ≢ i → entry_in (set slots i new) x ≡ entry_in slots x
  entry_other x ne = ⊎_elim (λ here. absurd (ne here.0)) (λ there. ap (λ (s : Slot). entry_with x s) there.1) (at_set slots i x new lt)
    where
      entry_with : ℕ → Slot → Entry
      entry_with x s = record { index = x; slot = s }

  entry_same : (x : ℕ) → x ≡ i → entry_in (set slots i new) x ≡ entry
  entry_same x e = ⊎_elim (λ here. ap (λ (s : Slot). entry_with x s) here.1 ∙ ap (λ n. entry_with n new) e) (λ there. absurd (there.0 e)) (at_set slots i x new lt)
    where
      entry_with : ℕ → Slot → Entry
      entry_with x s = record { index = x; slot = s }

  entries_other : (order : List ℕ) → times i order ≡ 0 → entries_in (set slots i new) order ≡ entries_in slots order
  entries_other [] h = refl
  entries_other (x ∷ xs) h = by_head x i
      (λ e. let t = times_here x i xs e in absurd (omega (arith, t, h)))
      (λ ne. ap (λ (y : Entry). y ∷ entries_in (set slots i new) xs) (entry_other x ne) ∙ ap (λ (l : List Entry). entry_in slots x ∷ l) (entries_other xs (sym (times_there x i xs ne) ∙ h)))

  with_here : (e : Entry) (es : List Entry) → e.index ≡ i → with_entry entry (e ∷ es) ≡ entry ∷ es
  with_here e es h = ap (λ b. if b then entry ∷ es else e ∷ with_entry entry es) (nat_eq_same e.index i h)

  with_there : (e : Entry) (es : List Entry) → e.index ≢ i → with_entry entry (e ∷ es) ≡ e ∷ with_entry entry es
  with_there e es ne = ap (λ b. if b then entry ∷ es else e ∷ with_entry entry es) (nat_eq_other e.index i ne)

  added : (order : List ℕ) → times i order ≡ 0 → entries_in (set slots i new) (order ++ i ∷ []) ≡ with_entry entry (entries_in slots order)
  added [] h = ap (λ (e : Entry). e ∷ []) (entry_same i refl)
  added (x ∷ xs) h = by_head x i
      (λ e. let t = times_here x i xs e in absurd (omega (arith, t, h)))
      (λ ne. ap (λ (y : Entry). y ∷ entries_in (set slots i new) (xs ++ i ∷ [])) (entry_other x ne)
      ∙ ap (λ (l : List Entry). entry_in slots x ∷ l) (added xs (sym (times_there x i xs ne) ∙ h))
      ∙ sym (with_there (entry_in slots x) (entries_in slots xs) ne))

  replaced_in : (order : List ℕ) → times i order ≡ 1 → entries_in (set slots i new) order ≡ with_entry entry (entries_in slots order)
  replaced_in [] h = absurd (omega (arith, h))
  replaced_in (x ∷ xs) h = by_head x i
      (λ e. let t = times_here x i xs e in
      ap (λ (y : Entry). y ∷ entries_in (set slots i new) xs) (entry_same x e)
      ∙ ap (λ (l : List Entry). entry ∷ l) (entries_other xs (omega (arith, t, h)))
      ∙ sym (with_here (entry_in slots x) (entries_in slots xs) e))
      (λ ne. ap (λ (y : Entry). y ∷ entries_in (set slots i new) xs) (entry_other x ne)
      ∙ ap (λ (l : List Entry). entry_in slots x ∷ l) (replaced_in xs (sym (times_there x i xs ne) ∙ h))
      ∙ sym (with_there (entry_in slots x) (entries_in slots xs) ne))

pub without_in : (slots : List Slot) (i : ℕ) (order : List ℕ) → entries_in slots (without i order) ≡ without_entry i (entries_in slots order)
without_in slots i [] = refl
without_in slots i (x ∷ xs) = by_head x i
    (λ e. ap (entries_in slots) (without_here x i xs e) ∙ sym (ap (λ b. if b then entries_in slots xs else entry_in slots x ∷ without_entry i (entries_in slots xs)) (nat_eq_same x i e)))
    (λ ne. ap (entries_in slots) (without_there x i xs ne) ∙ ap (λ (l : List Entry). entry_in slots x ∷ l) (without_in slots i xs)
    ∙ sym (ap (λ b. if b then entries_in slots xs else entry_in slots x ∷ without_entry i (entries_in slots xs)) (nat_eq_other x i ne)))

pub entries_changed : (slots : List Slot) (order : List ℕ) (i : ℕ) (new : Slot) → i < length slots → IsOrderOf slots order
    → entries_in (set slots i new) (followed (is_dirty (at slots i)) (is_dirty new) i order) ≡ changed i new (entries_in slots order)
entries_changed slots order i new lt is = case (is_dirty (at slots i)) (is_dirty new) (is i) refl
  where
    entry_i : Entry
    entry_i = record { index = i; slot = new }

    case : (was now : Bool) → times i order ≡ (if was then 1 else 0) → is_dirty new ≡ now
        → entries_in (set slots i new) (followed was now i order) ≡ (if now then with_entry entry_i (entries_in slots order) else without_entry i (entries_in slots order))
    case false false h e = entries_other slots i new lt order h ∙ ap (entries_in slots) (sym (without_absent i order h)) ∙ without_in slots i order
    case false true h e = added slots i new lt order h
    case true false h e = entries_other slots i new lt (without i order) (times_without_same i order ∙ ap (λ n. n - 1) h) ∙ without_in slots i order
    case true true h e = replaced_in slots i new lt order h

pub moved_in : (slots : List Slot) (order : List ℕ) (i : ℕ) → entries_in slots (without i order ++ i ∷ []) ≡ without_entry i (entries_in slots order) ++ entry_in slots i ∷ []
moved_in slots order i = map_last (without i order) ∙ ap (λ (l : List Entry). l ++ entry_in slots i ∷ []) (without_in slots i order)
  where
    map_last : (xs : List ℕ) → entries_in slots (xs ++ i ∷ []) ≡ entries_in slots xs ++ entry_in slots i ∷ []
    map_last [] = refl
    map_last (x ∷ xs) = ap (λ (l : List Entry). entry_in slots x ∷ l) (map_last xs)

pub oldest_is : (slots : List Slot) (order : List ℕ) → first_of order ≡ oldest_in (entries_in slots order)
oldest_is slots [] = refl
oldest_is slots (x ∷ xs) = refl

-- the dirty ones among the first entries, by index
times_past : (slots : List Slot) (order : List ℕ) (k : ℕ) → length slots ≤ k → IsOrderOf slots order → times k order ≡ 0
times_past slots order k past is = is k ∙ ap (λ s. if is_dirty s then 1 else 0) (get_or_past slots k Free past)

at_more : (slots : List Slot) (x : Slot) (k : ℕ) → ((k ≡ length slots) × (at (slots ++ x ∷ []) k ≡ x)) ⊎ ((k ≢ length slots) × (at (slots ++ x ∷ []) k ≡ at slots k))
at_more [] x zero = inl (refl, refl)
at_more [] x (suc k) = inr ((λ e. omega (arith, e)), refl)
at_more (s ∷ slots) x zero = inr ((λ e. omega (arith, e)), refl)
at_more (s ∷ slots) x (suc k) = ⊎_elim (λ a. inl (ap suc a.0, a.1)) (λ a. inr ((λ e. a.0 (omega (arith, e))), a.1)) (at_more slots x k)

pub one_more_dirty : (slots : List Slot) (order : List ℕ) (x : Slot) → is_dirty x ≡ true → IsOrderOf slots order → IsOrderOf (slots ++ x ∷ []) (order ++ length slots ∷ [])
one_more_dirty slots order x dirty is k = ⊎_elim
    (λ here. ap (λ n. times n (order ++ length slots ∷ [])) here.0 ∙ times_last_same (length slots) order ∙ ap (λ n. n + 1) (times_past slots order (length slots) (omega arith) is)
    ∙ sym (ap (λ s. if is_dirty s then 1 else 0) here.1 ∙ ap (λ b. if b then 1 else 0) dirty))
    (λ there. times_last_other k (length slots) order there.0 ∙ is k ∙ ap (λ s. if is_dirty s then 1 else 0) (sym there.1))
    (at_more slots x k)

pub one_more_free : (slots : List Slot) (order : List ℕ) (x : Slot) → is_dirty x ≡ false → IsOrderOf slots order → IsOrderOf (slots ++ x ∷ []) order
one_more_free slots order x free is k = ⊎_elim
    (λ here. times_past slots order k (omega (arith, here.0)) is ∙ sym (ap (λ s. if is_dirty s then 1 else 0) here.1 ∙ ap (λ b. if b then 1 else 0) free))
    (λ there. is k ∙ ap (λ s. if is_dirty s then 1 else 0) (sym there.1))
    (at_more slots x k)

listed_once : (xs : List ℕ) (k : ℕ) → k < length xs → 1 ≤ times (get_or xs k 0) xs
listed_once [] k lt = absurd (omega (arith, lt))
listed_once (x ∷ xs) zero lt = let t = times_here x x xs refl in omega (arith, t)
listed_once (x ∷ xs) (suc k) lt = let m = times_more (get_or xs k 0) x xs in let n = listed_once xs k (omega (arith, lt)) in omega (arith, m, n)

order_below : (slots : List Slot) (order : List ℕ) → IsOrderOf slots order → (k : ℕ) → k < length order → get_or order k 0 < length slots
order_below slots order is k lt = case (ltb (get_or order k 0) (length slots)) refl
  where
    case : (b : Bool) → ltb (get_or order k 0) (length slots) ≡ b → get_or order k 0 < length slots
    case true below = ltb-true (get_or order k 0) (length slots) below
    case false ge =
        let none = times_past slots order (get_or order k 0) (ltb-false (get_or order k 0) (length slots) ge) is in
        let some = listed_once order k lt in
        absurd (omega (arith, none, some))

rising_last : (xs : List ℕ) (n : ℕ) → IsStrictlyIncreasing xs → ((k : ℕ) → k < length xs → get_or xs k 0 < n) → IsStrictlyIncreasing (xs ++ n ∷ [])
rising_last xs n up below k lt = case (ltb (k + 1) (length xs)) refl
  where
    case : (b : Bool) → ltb (k + 1) (length xs) ≡ b → get_or (xs ++ n ∷ []) k 0 < get_or (xs ++ n ∷ []) (k + 1) 0
    case true inside =
        let a = get_or_append_left xs (n ∷ []) 0 k (omega (arith, ltb-true (k + 1) (length xs) inside)) in
        let b = get_or_append_left xs (n ∷ []) 0 (k + 1) (ltb-true (k + 1) (length xs) inside) in
        omega (arith, a, b, up k (ltb-true (k + 1) (length xs) inside))
    case false last =
        let e : k + 1 ≡ length xs = omega (arith, lt, ltb-false (k + 1) (length xs) last, length-append xs (n ∷ [])) in
        let a = get_or_append_left xs (n ∷ []) 0 k (omega (arith, e)) in
        let b = ap (λ m. get_or (xs ++ n ∷ []) m 0) e ∙ get_or_at xs n [] 0 (length xs) refl in
        omega (arith, a, b, below k (omega (arith, e)))

-- one entry more of a board is looked at
module _ (slots : List Slot) (n : ℕ) (order : List ℕ) (lt : n < length slots) (is : IsOrderOf (take n slots) order) (up : IsStrictlyIncreasing order) where
  next : take (suc n) slots ≡ take n slots ++ at slots n ∷ []
  next = take-suc slots n Free lt

  here : length (take n slots) ≡ n
  here = omega (arith, length-take n slots, lt)

  looked_dirty : is_dirty (at slots n) ≡ true → IsOrderOf (take (suc n) slots) (order ++ n ∷ []) × IsStrictlyIncreasing (order ++ n ∷ [])
  looked_dirty dirty = (
    subst (λ (l : List Slot). IsOrderOf l (order ++ n ∷ [])) (sym next) (subst (λ (m : ℕ). IsOrderOf (take n slots ++ at slots n ∷ []) (order ++ m ∷ [])) here (one_more_dirty (take n slots) order (at slots n) dirty is)),
    rising_last order n up (λ k below. omega (arith, here, order_below (take n slots) order is k below)),
  )

  looked_free : is_dirty (at slots n) ≡ false → IsOrderOf (take (suc n) slots) order
  looked_free free = subst (λ (l : List Slot). IsOrderOf l order) (sym next) (one_more_free (take n slots) order (at slots n) free is)

  pub looked : IsOrderOf (take (suc n) slots) (followed false (is_dirty (at slots n)) n order) × IsStrictlyIncreasing (followed false (is_dirty (at slots n)) n order)
  looked = case (is_dirty (at slots n)) refl
    where
      case : (b : Bool) → is_dirty (at slots n) ≡ b → IsOrderOf (take (suc n) slots) (followed false b n order) × IsStrictlyIncreasing (followed false b n order)
      case true dirty = looked_dirty dirty
      case false free = (looked_free free, up)

  pub looked_new : is_listed n order ≡ false
  looked_new = unlisted n order (times_past (take n slots) order n (omega (arith, here)) is)

pub indices_in : (slots : List Slot) (order : List ℕ) → map (λ (e : Entry). e.index) (entries_in slots order) ≡ order
indices_in slots [] = refl
indices_in slots (x ∷ xs) = ap (λ l. x ∷ l) (indices_in slots xs)

listed_dirty : (b : Bool) (n : ℕ) → n ≡ (if b then 1 else 0) → 1 ≤ n → b ≡ true
listed_dirty true n e some = refl
listed_dirty false n e some = absurd (omega (arith, e, some))

listed_free : (b : Bool) (n : ℕ) → n ≡ (if b then 1 else 0) → n ≡ 0 → b ≡ false
listed_free true n e none = absurd (omega (arith, e, none))
listed_free false n e none = refl

-- the oldest is one of the dirty
pub oldest_dirty : (slots : List Slot) (order : List ℕ) (i : ℕ) → IsOrderOf slots order → oldest_in (entries_in slots order) ≡ Some i → (i < length slots) × (is_dirty (at slots i) ≡ true)
oldest_dirty slots [] i is h = absurd (none-some i h)
oldest_dirty slots (x ∷ xs) i is h =
    let same : x ≡ i = some_same h in (
      subst (λ n. n < length slots) same (order_below slots (x ∷ xs) is 0 (omega arith)),
      subst (λ n. is_dirty (at slots n) ≡ true) same (listed_dirty (is_dirty (at slots x)) (times x (x ∷ xs)) (is x) (listed_once (x ∷ xs) 0 (omega arith))),
    )
  where
    some_same : {a b : ℕ} → Some a ≡ Some b → a ≡ b
    some_same e = cc

-- where none is listed, none is dirty
pub none_listed : (slots : List Slot) (order : List ℕ) → IsOrderOf slots order → length order ≡ 0 → (i : ℕ) → is_dirty (at slots i) ≡ false
none_listed slots [] is h i = listed_free (is_dirty (at slots i)) (times i []) (is i) refl
none_listed slots (x ∷ xs) is h i = absurd (omega (arith, h))
