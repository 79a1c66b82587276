-- The list of walked directories is that of the relation.
use Rattle.std.proofs.Common.{◌≡◌, ◌≢◌, ◌⊎◌, ℕ, zero, suc, ◌+◌, ◌<◌, ◌≤◌, Bool, true, false, cond, ◌&&◌, ◌||◌, List, [], ◌∷◌, length, refl, sym, ap, subst, arith, inl, inr, ⊎_elim, eqb, eq-eqb, ◌==◌}
use Rattle.std.proofs.lemmas.Bool.{cases_eq, cases_lt, eqb-true}
use Rattle.std.specs.List.{range_with_len, list_any, filter}
use Rattle.v7_map.specs.Tree.{Tree, Walked, root, named, has_slot_of, grown, found_in, walked, is_walked}
use Rattle.v7_map.proofs.Frames.{and_left, and_right}

unfoldable pub among : ℕ → List ℕ → Bool
among i xs = list_any (λ d. d == i) xs

pub or_cases : (a b : Bool) → (a || b) ≡ true → (a ≡ true) ⊎ (b ≡ true)
or_cases true b e = inl refl
or_cases false b e = inr e

pub or_left : (a b : Bool) → a ≡ true → (a || b) ≡ true
or_left true b e = refl
or_left false b e = absurd (cc)

pub or_right : (a b : Bool) → b ≡ true → (a || b) ≡ true
or_right true b e = refl
or_right false b e = e

pub and_both : (a b : Bool) → a ≡ true → b ≡ true → (a && b) ≡ true
and_both true b e h = h
and_both false b e h = absurd (cc)

-- some element passes
pub any_found : (p : ℕ → Bool) (xs : List ℕ) → list_any p xs ≡ true → (d : ℕ) × (among d xs ≡ true) × (p d ≡ true)
unfolding among
any_found p [] e = absurd (cc)
any_found p (x ∷ xs) e = ⊎_elim (λ (h : p x ≡ true). (x, or_left (eqb x x) _ (eq-eqb x x refl), h)) (λ (h : list_any p xs ≡ true). let r = any_found p xs h in (r.0, or_right (eqb x r.0) _ r.1, r.2)) (or_cases (p x) _ e)

pub any_at : (p : ℕ → Bool) (xs : List ℕ) (d : ℕ) → among d xs ≡ true → p d ≡ true → list_any p xs ≡ true
unfolding among
any_at p [] d e h = absurd (cc)
any_at p (x ∷ xs) d e h = ⊎_elim (λ (s : eqb x d ≡ true). or_left (p x) _ (subst (λ z. p z ≡ true) (sym (eqb-true x d s)) h)) (λ (s : list_any (λ c. c == d) xs ≡ true). or_right (p x) _ (any_at p xs d s h)) (or_cases (eqb x d) _ e)

-- what a filter keeps
pub among-filter : (p : ℕ → Bool) (xs : List ℕ) (d : ℕ) → among d (filter p xs) ≡ true → p d ≡ true
unfolding among
among-filter p [] d e = absurd (cc)
among-filter p (x ∷ xs) d e = elim (p x) as (λ b. p x ≡ b → among d (cond b (x ∷ filter p xs) (filter p xs)) ≡ true → p d ≡ true) [
  | true ↦ λ t e. ⊎_elim (λ (s : eqb x d ≡ true). subst (λ z. p z ≡ true) (eqb-true x d s) t) (λ s. among-filter p xs d s) (or_cases (eqb x d) _ e)
  | false ↦ λ t e. among-filter p xs d e
] refl e

pub filter-among : (p : ℕ → Bool) (xs : List ℕ) (d : ℕ) → among d xs ≡ true → p d ≡ true → among d (filter p xs) ≡ true
unfolding among
filter-among p [] d e h = e
filter-among p (x ∷ xs) d e h = elim (p x) as (λ b. p x ≡ b → among d (cond b (x ∷ filter p xs) (filter p xs)) ≡ true) [
  | true ↦ λ t. ⊎_elim (λ (s : eqb x d ≡ true). or_left (eqb x d) _ s) (λ s. or_right (eqb x d) _ (filter-among p xs d s h)) (or_cases (eqb x d) _ e)
  | false ↦ λ t. ⊎_elim (λ (s : eqb x d ≡ true). let clash : p x ≡ true = subst (λ z. p z ≡ true) (sym (eqb-true x d s)) h in absurd (cc)) (λ s. filter-among p xs d s h) (or_cases (eqb x d) _ e)
] refl

pub among-range : (k a n : ℕ) → a ≤ k → k < a + n → among k (range_with_len a n) ≡ true
unfolding among
among-range k a zero low high = absurd (omega arith)
among-range k a (suc n) low high = ⊎_elim (λ (e : a ≡ k). or_left (eqb a k) _ (eq-eqb a k e)) (λ (ne : a ≢ k). or_right (eqb a k) _ (among-range k (a + 1) n (omega arith) (omega arith))) (cases_eq a k)

-- two filters of one list, the second of which keeps more
more_kept : (p q : ℕ → Bool) (xs : List ℕ) → ((x : ℕ) → among x xs ≡ true → p x ≡ true → q x ≡ true) → (length (filter p xs) ≤ length (filter q xs)) × ((length (filter q xs) ≤ length (filter p xs)) → filter q xs ≡ filter p xs)
unfolding among
more_kept p q [] more = (omega arith, λ h. refl)
more_kept p q (x ∷ xs) more = by_tests (p x) (q x) (more x (or_left (eqb x x) _ (eq-eqb x x refl))) (more_kept p q xs (λ y in'. more y (or_right (eqb x y) _ in')))
  where
    by_tests : (a b : Bool) → (a ≡ true → b ≡ true) → (length (filter p xs) ≤ length (filter q xs)) × ((length (filter q xs) ≤ length (filter p xs)) → filter q xs ≡ filter p xs)
        → (length (cond a (x ∷ filter p xs) (filter p xs)) ≤ length (cond b (x ∷ filter q xs) (filter q xs))) × ((length (cond b (x ∷ filter q xs) (filter q xs)) ≤ length (cond a (x ∷ filter p xs) (filter p xs))) → cond b (x ∷ filter q xs) (filter q xs) ≡ cond a (x ∷ filter p xs) (filter p xs))
    by_tests true true h r = let le = r.0 in (omega arith, λ g. ap (λ l. x ∷ l) (r.1 (omega arith)))
    by_tests true false h r = let no : false ≡ true = h refl in absurd (cc)
    by_tests false true h r = let le = r.0 in (omega arith, λ g. absurd (omega arith))
    by_tests false false h r = r

length-filter-range : (p : ℕ → Bool) (a n : ℕ) → length (filter p (range_with_len a n)) ≤ n
length-filter-range p a zero = omega arith
length-filter-range p a (suc n) = elim (p a) as (λ b. length (cond b (a ∷ filter p (range_with_len (a + 1) n)) (filter p (range_with_len (a + 1) n))) ≤ suc n) [ true ↦ let r = length-filter-range p (a + 1) n in omega arith | false ↦ let r = length-filter-range p (a + 1) n in omega arith ]

module _ (f : Tree) where
  -- the test by which round n keeps numbers
  kept : ℕ → ℕ → Bool
  kept zero i = (i == 2) && f.is_dir i
  kept (suc n) i = f.is_dir i && (list_any (λ d. d == i) (found_in f n) || list_any (λ d. has_slot_of f d i) (found_in f n))

  found_is : (n : ℕ) → found_in f n ≡ filter (kept n) (range_with_len 1 (f.inodes))
  unfolding kept
  found_is zero = refl
  found_is (suc n) = refl

  -- a number that was found stays found
  stays : (n i : ℕ) → among i (found_in f n) ≡ true → among i (range_with_len 1 (f.inodes)) ≡ true → kept (suc n) i ≡ true
  unfolding kept among
  stays zero i in' within = let k = among-filter (kept zero) (range_with_len 1 (f.inodes)) i in' in and_both (f.is_dir i) _ (and_right (i == 2) _ k) (or_left _ _ in')
  stays (suc n) i in' within = let k = among-filter (kept (suc n)) (range_with_len 1 (f.inodes)) i in' in and_both (f.is_dir i) _ (and_left (f.is_dir i) _ k) (or_left _ _ in')

  found_in_range : (n i : ℕ) → among i (range_with_len 1 (f.inodes)) ≡ true → kept n i ≡ true → among i (found_in f n) ≡ true
  found_in_range n i within k = subst (λ l. among i l ≡ true) (sym (found_is n)) (filter-among (kept n) (range_with_len 1 (f.inodes)) i within k)

  round : (n : ℕ) → (length (found_in f n) ≤ length (found_in f (suc n))) × ((length (found_in f (suc n)) ≤ length (found_in f n)) → found_in f (suc n) ≡ found_in f n)
  round n = let r = more_kept (kept n) (kept (suc n)) (range_with_len 1 (f.inodes)) (λ x within k. stays n x (found_in_range n x within k) within) in
      subst (λ l. (length l ≤ length (found_in f (suc n))) × ((length (found_in f (suc n)) ≤ length l) → found_in f (suc n) ≡ l)) (sym (found_is n))
      (subst (λ l. (length (filter (kept n) (range_with_len 1 (f.inodes))) ≤ length l) × ((length l ≤ length (filter (kept n) (range_with_len 1 (f.inodes)))) → l ≡ filter (kept n) (range_with_len 1 (f.inodes)))) (sym (found_is (suc n))) r)

  -- either a round adds nothing, or there are many
  many : (n : ℕ) → (found_in f (suc n) ≡ found_in f n) ⊎ (suc n ≤ length (found_in f (suc n)))
  many zero = ⊎_elim (λ (le : length (found_in f 1) ≤ length (found_in f 0)). inl ((round 0).1 le)) (λ h. inr h) (by_length (length (found_in f 1)) (length (found_in f 0)))
    where
      by_length : (a b : ℕ) → (a ≤ b) ⊎ (1 ≤ a)
      by_length a b = ⊎_elim (λ (lt : b < a). inr (omega arith)) (λ (le : a ≤ b). inl le) (cases_lt b a)
  many (suc n) = ⊎_elim
      (λ (e : found_in f (suc n) ≡ found_in f n). inl (ap (grown f) e))
      (λ (h : suc n ≤ length (found_in f (suc n))). ⊎_elim
      (λ (lt : length (found_in f (suc n)) < length (found_in f (suc (suc n)))). inr (omega arith))
      (λ (le : length (found_in f (suc (suc n))) ≤ length (found_in f (suc n))). inl ((round (suc n)).1 le))
      (cases_lt (length (found_in f (suc n))) (length (found_in f (suc (suc n))))))
      (many n)

  -- one more round adds nothing
  closed : grown f (walked f) ≡ walked f
  unfolding walked
  closed = ⊎_elim (λ (e : found_in f (suc (f.inodes)) ≡ found_in f (f.inodes)). e)
      (λ (h : suc (f.inodes) ≤ length (found_in f (suc (f.inodes)))).
      let le : length (found_in f (suc (f.inodes))) ≤ f.inodes = subst (λ l. length l ≤ f.inodes) (sym (found_is (suc (f.inodes)))) (length-filter-range (kept (suc (f.inodes))) 1 (f.inodes)) in absurd (omega arith))
      (many (f.inodes))

  -- each walked directory is reached
  reached : (n i : ℕ) → among i (found_in f n) ≡ true → Walked f i
  unfolding kept among
  reached zero i in' = let k = among-filter (kept zero) (range_with_len 1 (f.inodes)) i in' in
      let e : i ≡ 2 = eqb-true i 2 (and_left (i == 2) _ k) in
      subst (λ z. Walked f z) (sym e) (root (subst (λ z. f.is_dir z ≡ true) e (and_right (i == 2) _ k)))
  reached (suc n) i in' = let k = among-filter (kept (suc n)) (range_with_len 1 (f.inodes)) i in' in
      ⊎_elim (λ (again : among i (found_in f n) ≡ true). reached n i again)
      (λ (by : list_any (λ d. has_slot_of f d i) (found_in f n) ≡ true). let r = any_found (λ d. has_slot_of f d i) (found_in f n) by in named (reached n r.0 r.1) r.2 (and_left (f.is_dir i) _ k))
      (or_cases _ _ (and_right (f.is_dir i) _ k))

  pub walked_reached : (i : ℕ) → is_walked f i ≡ true → Walked f i
  unfolding walked among
  walked_reached i in' = reached (f.inodes) i in'

  module _ (numbers : (i : ℕ) → f.is_dir i ≡ true → (1 ≤ i) × (i < 1 + f.inodes)) where
    within : (i : ℕ) → f.is_dir i ≡ true → among i (range_with_len 1 (f.inodes)) ≡ true
    within i d = let r = numbers i d in among-range i 1 (f.inodes) r.0 r.1

    root_stays : (n : ℕ) → f.is_dir 2 ≡ true → among 2 (found_in f n) ≡ true
    unfolding kept among
    root_stays zero d = found_in_range zero 2 (within 2 d) d
    root_stays (suc n) d = found_in_range (suc n) 2 (within 2 d) (stays n 2 (root_stays n d) (within 2 d))

    -- each directory that is reached is walked
    pub reached_walked : {i : ℕ} → Walked f i → is_walked f i ≡ true
    unfolding walked among kept
    reached_walked (root d) = root_stays (f.inodes) d
    reached_walked (named {d = e} {i = j} w by d) =
        subst (λ l. among j l ≡ true) closed
        (filter-among (λ i. f.is_dir i && (list_any (λ d. d == i) (walked f) || list_any (λ d. has_slot_of f d i) (walked f))) (range_with_len 1 (f.inodes)) j (within j d)
        (and_both (f.is_dir j) _ d (or_right _ _ (any_at (λ c. has_slot_of f c j) (walked f) e (reached_walked w) by))))
