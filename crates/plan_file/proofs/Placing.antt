-- One sector more has its block.
use Rattle.std.proofs.Common.{length-set, ◌≡◌, ◌≢◌, ℕ, zero, suc, ◌+◌, ◌-◌, ◌<◌, ◌≤◌, min, Bool, true, false, cond, List, [], ◌∷◌, length, get_or, set, refl, sym, ap, ◌∙◌, arith, ⊎_elim, get_or-set_same, get_or-set_other, ◌&&◌, ◌==◌, eq-eqb, subst, Some, None}
use Rattle.std.proofs.lemmas.Bool.{cases_eq, cases_lt, cases_Bool}
use Rattle.std.specs.List.{range_with_len, count_by}
use Rattle.files_model.specs.Batch.{one_if}
use Rattle.v7_space.proofs.Counting.{one, count-cons, count_parts}
use Rattle.plan_file.specs.Draft.{holds}
use Rattle.plan_file.specs.Free.{count_from, AreSpare}
use Rattle.index_sets.specs.Free.{is_free, IsLowestFrom}
use Rattle.plan_file.specs.Places.{AreWithin}
use Rattle.plan_file.specs.declared.places.Places.{Places}
use Rattle.plan_file.specs.Layout.{is_new, new_from, ArePlaced, AreLaidOut}
use Rattle.plan_file.specs.Started.{AreTaken, AreAllTaken}

new_next : (body : List ℕ) (held : List Bool) (i : ℕ) → i < length held → new_from body held i ≡ one (is_new body held i) + new_from body held (i + 1)
unfolding new_from
new_next body held i lt =
    let m : length held - i ≡ (length held - (i + 1)) + 1 = omega arith in
    by_length (length held - i) (length held - (i + 1)) m
  where
    by_length : (n m : ℕ) → n ≡ m + 1 → count_by (is_new body held) (range_with_len i n) ≡ one (is_new body held i) + count_by (is_new body held) (range_with_len (i + 1) m)
    by_length zero m e = absurd (omega arith)
    by_length (suc n) m e = let same : n ≡ m = omega arith in count-cons (is_new body held) i (range_with_len (i + 1) n) ∙ ap (λ q. one (is_new body held i) + count_by (is_new body held) (range_with_len (i + 1) q)) same

module _ (set' : List Bool) (body : List ℕ) (held : List Bool) (target : List ℕ) (i from : ℕ) (p : ArePlaced set' body held target i from) (inside : i < length held) where
  pub placed-same : is_new body held i ≡ false → ArePlaced set' body held target (i + 1) from
  unfolding one
  placed-same none = record {
    old = p.old;
    rest = λ k le. p.rest k (omega arith);
    there = λ k lt new. p.there k (before k lt new) new;
    low = λ k lt new. p.low k (before k lt new) new;
    rise = λ k l kl lt nk nl. p.rise k l kl (before l lt nl) nk nl;
    room = let r = p.room in let n = new_next body held i inside in let z : ◌≡◌ {A = ℕ} (cond (is_new body held i) 1 0) 0 = ap (λ t. cond t 1 0) none in omega arith;
  }
    where
      before : (k : ℕ) → k < i + 1 → is_new body held k ≡ true → k < i
      before k lt new = ⊎_elim (λ (e : k ≡ i). let no' : is_new body held k ≡ false = ap (is_new body held) e ∙ none in absurd (cc)) (λ (ne : k ≢ i). omega arith) (cases_eq k i)

  pub placed-new : i < length target → is_new body held i ≡ true → (a : ℕ) → from ≤ a → is_free set' a ≡ true → count_from set' from ≡ count_from set' (a + 1) + 1
      → ArePlaced set' body held (set target i a) (i + 1) (a + 1)
  unfolding one
  placed-new within new a le there next = record {
    old = λ k none. ⊎_elim (λ (e : k ≡ i). let no' : is_new body held i ≡ false = ap (is_new body held) (sym e) ∙ none in absurd (cc)) (λ (ne : k ≢ i). get_or-set_other target i k a 0 ne ∙ p.old k none) (cases_eq k i);
    rest = λ k ge. get_or-set_other target i k a 0 (λ e. omega arith) ∙ p.rest k (omega arith);
    there = λ k lt nk. ⊎_elim
        (λ (e : k ≡ i). ap (is_free set') (here k e) ∙ there)
        (λ (ne : k ≢ i). ap (is_free set') (other k ne) ∙ p.there k (omega arith) nk)
        (cases_eq k i);
    low = λ k lt nk. ⊎_elim
        (λ (e : k ≡ i). let h = here k e in omega arith)
        (λ (ne : k ≢ i). let h = other k ne in let l = p.low k (omega arith) nk in omega arith)
        (cases_eq k i);
    rise = λ k l kl lt nk nl. ⊎_elim
        (λ (e : l ≡ i). let h = here l e in let o = other k (λ q. omega arith) in let x = p.low k (omega arith) nk in omega arith)
        (λ (ne : l ≢ i). let h = other l ne in let o = other k (λ q. omega arith) in let x = p.rise k l kl (omega arith) nk nl in omega arith)
        (cases_eq l i);
    room = let r = p.room in let n = new_next body held i inside in let z : ◌≡◌ {A = ℕ} (cond (is_new body held i) 1 0) 1 = ap (λ t. cond t 1 0) new in omega arith;
  }
    where
      here : (k : ℕ) → k ≡ i → get_or (set target i a) k 0 ≡ a
      here k e = ap (λ q. get_or (set target i a) q 0) e ∙ get_or-set_same target i a 0 within

      other : (k : ℕ) → k ≢ i → get_or (set target i a) k 0 ≡ get_or target k 0
      other k ne = get_or-set_other target i k a 0 ne

  -- a free block is there for it
  pub room-new : is_new body held i ≡ true → new_from body held 0 ≤ count_from set' 0 → 0 < count_from set' from
  unfolding one
  room-new new enough = let r = p.room in let n = new_next body held i inside in let z : ◌≡◌ {A = ℕ} (cond (is_new body held i) 1 0) 1 = ap (λ t. cond t 1 0) new in omega arith

pub placed-none : (set' : List Bool) (body : List ℕ) (held : List Bool) → ArePlaced set' body held body 0 0
placed-none set' body held = record {
  old = λ k e. refl;
  rest = λ k e. refl;
  there = λ k lt. absurd (omega arith);
  low = λ k lt. absurd (omega arith);
  rise = λ k l kl lt. absurd (omega arith);
  room = omega arith;
}

pub get_or-past : {X : Type 0} (xs : List X) (k : ℕ) (d : X) → length xs ≤ k → get_or xs k d ≡ d
get_or-past [] k d le = refl
get_or-past (x ∷ xs) zero d le = absurd (omega arith)
get_or-past (x ∷ xs) (suc k) d le = get_or-past xs k d (omega arith)

-- ---- a set loses the new blocks

has_less : (bits : List Bool) (b a : ℕ) → a ≢ b → is_free (set bits b false) a ≡ is_free bits a
has_less bits b a ne = get_or-set_other bits b a false false ne

has_none : (bits : List Bool) (b : ℕ) → is_free (set bits b false) b ≡ false
has_none [] b = refl
has_none (x ∷ xs) zero = refl
has_none (x ∷ xs) (suc b) = has_none xs b

module _ (set' : List Bool) (body : List ℕ) (held : List Bool) (target : List ℕ) where
  pub taken-none : AreTaken set' body held target 0 set'
  taken-none = record { long = refl; lost = λ a h. (h, λ k lt. absurd (omega arith)); kept = λ a h out. h }

  module _ (i : ℕ) (left : List Bool) (t : AreTaken set' body held target i left) where
    pub taken-same : is_new body held i ≡ false → AreTaken set' body held target (i + 1) left
    taken-same none = record {
      long = t.long;
      lost = λ a h. let l = t.lost a h in (l.0, λ k lt nk. l.1 k (before k lt nk) nk);
      kept = λ a h out. t.kept a h (λ k lt nk. out k (omega arith) nk);
    }
      where
        before : (k : ℕ) → k < i + 1 → is_new body held k ≡ true → k < i
        before k lt nk = ⊎_elim (λ (e : k ≡ i). let no' : is_new body held k ≡ false = ap (is_new body held) e ∙ none in absurd (cc)) (λ (ne : k ≢ i). omega arith) (cases_eq k i)

    pub taken-more : is_new body held i ≡ true → AreTaken set' body held target (i + 1) (set left (get_or target i 0) false)
    taken-more new = record {
      long = length-set left (get_or target i 0) false ∙ t.long;
      lost = λ a h. ⊎_elim
          (λ (e : a ≡ get_or target i 0). let gone : is_free (set left (get_or target i 0) false) a ≡ false = ap (is_free (set left (get_or target i 0) false)) e ∙ has_none left (get_or target i 0) in absurd (cc))
          (λ (ne : a ≢ get_or target i 0). let l = t.lost a (sym (has_less left (get_or target i 0) a ne) ∙ h) in (l.0, λ k lt nk. ⊎_elim (λ (e : k ≡ i) q. ne (sym q ∙ ap (λ j. get_or target j 0) e)) (λ (ki : k ≢ i). l.1 k (omega arith) nk) (cases_eq k i)))
          (cases_eq a (get_or target i 0));
      kept = λ a h out.
          let ne : a ≢ get_or target i 0 = λ e. out i (omega arith) new (sym e) in
          has_less left (get_or target i 0) a ne ∙ t.kept a h (λ k lt nk. out k (omega arith) nk);
    }

module _ (set' : List Bool) (old : Places) (held : List Bool) (mapped : Bool) (new : Places) (left : List Bool) (t : AreTaken set' old.body held new.body 138 left) where
  -- no block of addresses is new
  pub all-taken : (old.single ≡ 0 → mapped ≡ true → ⊥) → AreAllTaken set' old held mapped new left
  all-taken out = record {
    long = t.long;
    lost = λ a h. let l = t.lost a h in (l.0, l.1, λ z m. absurd (out z m));
    kept = λ a h k s. t.kept a h k;
  }

  pub all-taken_single : old.single ≡ 0 → mapped ≡ true → AreAllTaken set' old held mapped new (set left new.single false)
  all-taken_single z m = record {
    long = length-set left new.single false ∙ t.long;
    lost = λ a h. ⊎_elim
        (λ (e : a ≡ new.single). let gone : is_free (set left new.single false) a ≡ false = ap (is_free (set left new.single false)) e ∙ has_none left new.single in absurd (cc))
        (λ (ne : a ≢ new.single). let l = t.lost a (sym (has_less left new.single a ne) ∙ h) in (l.0, l.1, λ _ _ q. ne (sym q)))
        (cases_eq a new.single);
    kept = λ a h k s. has_less left new.single a (λ e. s z m (sym e)) ∙ t.kept a h k;
  }

-- a sector whose block is another than before is held
pub changed-held : (set' : List Bool) (old : Places) (held : List Bool) (mapped : Bool) (new : Places) → AreLaidOut set' old held mapped new → (k : ℕ) → get_or new.body k 0 ≢ get_or old.body k 0 → holds held k ≡ true
changed-held set' old held mapped new laid k differs = by_test (holds held k) (get_or old.body k 0 == 0) (λ e. differs (laid.body.old k e))
  where
    by_test : (s t : Bool) → ((s && t) ≡ false → ⊥) → s ≡ true
    by_test true t h = refl
    by_test false t h = absurd (h refl)

-- ---- where the new places are, whatever the image

-- where a sector takes a block, there is one to take
pub new_some : (body : List ℕ) (held : List Bool) (i : ℕ) → i < length held → is_new body held i ≡ true → 0 < new_from body held 0
unfolding new_from one
new_some body held i lt new =
    let n : ℕ = length held in
    let parts = count_parts (is_new body held) 0 i (n - i) n (omega arith) in
    let rest = count_parts (is_new body held) (0 + i) 1 (n - i - 1) (n - i) (omega arith) in
    let here = count-cons (is_new body held) (0 + i) [] in
    let start : 0 + i ≡ i = omega arith in
    let is : ◌≡◌ {A = ℕ} (cond (is_new body held (0 + i)) 1 0) 1 = ap (λ t. cond t 1 0) (ap (is_new body held) start ∙ new) in
    let all : n - 0 ≡ n = omega arith in
    let whole : count_by (is_new body held) (range_with_len 0 (n - 0)) ≡ count_by (is_new body held) (range_with_len 0 n) = ap (λ m. count_by (is_new body held) (range_with_len 0 m)) all in
    omega arith

-- the blocks that a layout takes
abbrev pub taken_by : Places → List Bool → Bool → ℕ
taken_by old held mapped = new_from old.body held 0 + one_if (mapped && (old.single == 0))

module _ (sectors : ℕ) (blocks : List Bool) (old : Places) (held : List Bool) (mapped : Bool) (new : Places) (laid : AreLaidOut blocks old held mapped new) (long : length held ≡ 138)
    (spare : 0 < taken_by old held mapped → AreSpare sectors blocks) where
  body_spare : (k : ℕ) → k < 138 → is_new old.body held k ≡ true → (2 ≤ get_or new.body k 0) × (get_or new.body k 0 < min sectors 1048576)
  body_spare k lt n = let some = new_some old.body held k (omega arith) n in spare (omega arith) (get_or new.body k 0) (laid.body.there k lt n)

  single_spare : old.single ≡ 0 → mapped ≡ true → (2 ≤ new.single) × (new.single < min sectors 1048576)
  single_spare z m = let some : one_if (mapped && (old.single == 0)) ≡ 1 = (λ q. one_if (m q && (eq-eqb old.single 0 z) q)) in spare (omega arith) new.single (laid.single_new z m).0

  old_body : AreWithin (min sectors 1048576) old → (k : ℕ) → get_or new.body k 0 ≢ 0 → get_or new.body k 0 ≡ get_or old.body k 0 → (2 ≤ get_or new.body k 0) × (get_or new.body k 0 < min sectors 1048576)
  old_body within k nz e = subst (λ a. (2 ≤ a) × (a < min sectors 1048576)) (sym e) (within.body k (λ z. nz (e ∙ z)))

  -- each is one of the old places or of the free blocks
  pub laid-within : AreWithin (min sectors 1048576) old → AreWithin (min sectors 1048576) new
  laid-within within = record {
    body = λ k nz. ⊎_elim
        (λ (n : is_new old.body held k ≡ true). ⊎_elim
        (λ (lt : k < 138). body_spare k lt n)
        (λ (ge : 138 ≤ k). old_body within k nz (laid.body.rest k ge))
        (cases_lt k 138))
        (λ (n : is_new old.body held k ≡ false). old_body within k nz (laid.body.old k n))
        (cases_Bool (is_new old.body held k));
    single = λ nz. ⊎_elim
        (λ (z : old.single ≡ 0). ⊎_elim
        (λ (m : mapped ≡ true). single_spare z m)
        (λ (m : mapped ≡ false). absurd (nz (laid.single_none m ∙ z)))
        (cases_Bool mapped))
        (λ (some : old.single ≢ 0). subst (λ a. (2 ≤ a) × (a < min sectors 1048576)) (sym (laid.single_old some)) (within.single some))
        (cases_eq old.single 0);
  }

  -- what is to be held has a block, and so has the block of addresses
  pub laid-held : (k : ℕ) → k < 138 → holds held k ≡ true → get_or new.body k 0 ≢ 0
  laid-held k lt h = ⊎_elim
      (λ (n : is_new old.body held k ≡ true) z. let low = (body_spare k lt n).0 in absurd (omega arith))
      (λ (n : is_new old.body held k ≡ false) z. absurd (clash (holds held k) (get_or old.body k 0 == 0) h n (eq-eqb (get_or old.body k 0) 0 (sym (laid.body.old k n) ∙ z))))
      (cases_Bool (is_new old.body held k))
    where
      clash : (s t : Bool) → s ≡ true → (s && t) ≡ false → t ≡ true → ⊥
      clash true true a b c = cc
      clash true false a b c = cc
      clash false t a b c = cc

  pub laid-mapped : mapped ≡ true → new.single ≢ 0
  laid-mapped m = ⊎_elim
      (λ (z : old.single ≡ 0) e. let low = (single_spare z m).0 in absurd (omega arith))
      (λ (some : old.single ≢ 0) e. some (sym (laid.single_old some) ∙ e))
      (cases_eq old.single 0)

-- ---- the lowest free number from one on

none_from : (bits : List Bool) (from : ℕ) → ((i : ℕ) → from ≤ i → is_free bits i ≡ false) → count_from bits from ≡ 0
unfolding one
none_from [] zero h = refl
none_from [] (suc from) h = refl
none_from (b ∷ bs) zero h =
    let c = count-cons (λ (x : Bool). x) b bs in let r = none_from bs 0 (λ i le. h (suc i) (omega arith)) in
    let e : ◌≡◌ {A = ℕ} (cond b 1 0) 0 = ap (λ t. cond t 1 0) (h 0 (omega arith)) in omega arith
none_from (b ∷ bs) (suc from) h = none_from bs from (λ i le. h (suc i) (omega arith))

next_from : (bits : List Bool) (from k : ℕ) → from ≤ k → is_free bits k ≡ true → ((i : ℕ) → from ≤ i → i < k → is_free bits i ≡ false) → count_from bits from ≡ count_from bits (suc k) + 1
unfolding one
next_from [] from k le there h = absurd (cc)
next_from (b ∷ bs) zero zero le there h = let c = count-cons (λ (x : Bool). x) b bs in let e : ◌≡◌ {A = ℕ} (cond b 1 0) 1 = ap (λ t. cond t 1 0) there in omega arith
next_from (b ∷ bs) zero (suc k) le there h =
    let c = count-cons (λ (x : Bool). x) b bs in let r = next_from bs 0 k (omega arith) there (λ i l u. h (suc i) (omega arith) (omega arith)) in
    let e : ◌≡◌ {A = ℕ} (cond b 1 0) 0 = ap (λ t. cond t 1 0) (h 0 (omega arith) (omega arith)) in omega arith
next_from (b ∷ bs) (suc from) zero le there h = absurd (omega arith)
next_from (b ∷ bs) (suc from) (suc k) le there h = next_from bs from k (omega arith) there (λ i l u. h (suc i) (omega arith) (omega arith))

pub lowest-there : (bits : List Bool) (from : ℕ) → 0 < count_from bits from → IsLowestFrom bits from None → ⊥
lowest-there bits from some none = let z = none_from bits from none in omega arith

pub lowest-next : (bits : List Bool) (from k : ℕ) → IsLowestFrom bits from (Some k) → count_from bits from ≡ count_from bits (k + 1) + 1
lowest-next bits from k is = let e : suc k ≡ k + 1 = omega arith in next_from bits from k is.0 is.1 is.2 ∙ ap (λ n. count_from bits n + 1) e
