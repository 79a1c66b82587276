-- The lowest numbers of a set, one after the other.
use Rattle.std.proofs.Common.{◌≡◌, ◌≢◌, ◌⊎◌, inl, inr, ℕ, zero, suc, ◌+◌, ◌-◌, ◌<◌, ◌≤◌, min, Bool, true, false, cond, List, [], ◌∷◌, ◌++◌, length, get_or, set, replicate, sym, ap, subst, ◌∙◌, arith, ⊎_elim, append-nil, length-append, get_or-set_same, get_or-set_other}
use Rattle.std.proofs.lemmas.Bool.{cases_eq, cases_lt, cases_Bool}
use Rattle.std.proofs.lemmas.List.{get_or_append_left, get_or-append-add, get_or-replicate, get_or_past, length-replicate}
use Rattle.std.proofs.lemmas.List.Elements.{filter-append}
use Rattle.std.specs.List.{range_with_len, filter}
use Rattle.index_sets.specs.Free.{is_free, count_free}
use Rattle.v7_make.specs.Sets.{rising}
use Rattle.v7_make.proofs.Counts.{count-rising}
use Rattle.v7_make.specs.Stops.{ListsLowest, ListedTo}

range_more : (a n : ℕ) → range_with_len a (suc n) ≡ range_with_len a n ++ (a + n) ∷ []
range_more a zero = let e : a ≡ a + 0 = omega arith in λ z. e z ∷ []
range_more a (suc n) = let e : (a + 1) + n ≡ a + suc n = omega arith in ap (λ l. a ∷ l) (range_more (a + 1) n ∙ ap (λ m. range_with_len (a + 1) n ++ m ∷ []) e)

abbrev before : List Bool → ℕ → List ℕ
before items n = filter (is_free items) (range_with_len 0 n)

before_more : (items : List Bool) (n : ℕ) → before items (n + 1) ≡ before items n ++ cond (is_free items n) (n ∷ []) []
before_more items n = (let e : n + 1 ≡ suc n = omega arith in ap (before items) e) ∙ ap (filter (is_free items)) (range_more 0 n) ∙ filter-append (is_free items) (range_with_len 0 n) ((0 + n) ∷ [])
    ∙ (let e : 0 + n ≡ n = omega arith in ap (λ m. before items n ++ cond (is_free items m) (m ∷ []) []) e)

before_yes : (items : List Bool) (n : ℕ) → is_free items n ≡ true → before items (n + 1) ≡ before items n ++ n ∷ []
before_yes items n some = before_more items n ∙ ap (λ b. before items n ++ cond b (n ∷ []) []) some

before_no : (items : List Bool) (n : ℕ) → is_free items n ≡ false → before items (n + 1) ≡ before items n
before_no items n none = before_more items n ∙ ap (λ b. before items n ++ cond b (n ∷ []) []) none ∙ append-nil (before items n)

before_front : (items : List Bool) (n k : ℕ) → k < length (before items n) → get_or (before items (n + 1)) k 0 ≡ get_or (before items n) k 0
before_front items n k lt = ⊎_elim
    (λ (some : is_free items n ≡ true). ap (λ l. get_or l k 0) (before_yes items n some) ∙ get_or_append_left (before items n) (n ∷ []) 0 k lt)
    (λ (none : is_free items n ≡ false). ap (λ l. get_or l k 0) (before_no items n none))
    (cases_Bool (is_free items n))

before_longer : (items : List Bool) (n : ℕ) → length (before items n) ≤ length (before items (n + 1))
before_longer items n = ⊎_elim
    (λ (some : is_free items n ≡ true). let a = ap length (before_yes items n some) ∙ length-append (before items n) (n ∷ []) in omega (arith, a))
    (λ (none : is_free items n ≡ false). let a = ap length (before_no items n none) in omega (arith, a))
    (cases_Bool (is_free items n))

pub listed_start : (items : List Bool) (numbers : List ℕ) (count : ℕ) → ((k : ℕ) → get_or numbers k 0 ≡ 0) → ListedTo items numbers count count 0
listed_start items numbers count none = record { places = omega arith; listed = λ k low high. absurd (omega (arith, low, high)); low = λ k lt. none k; rest = λ k le. none k }

-- a number that is none of the set
pub listed_no : (items : List Bool) (numbers : List ℕ) (count left n : ℕ) → is_free items n ≡ false → ListedTo items numbers count left n → ListedTo items numbers count left (n + 1)
listed_no items numbers count left n none l = record {
  places = ap (λ b. left + min count (length b)) (before_no items n none) ∙ l.places;
  listed = λ k low high. l.listed k low high ∙ ap (λ b. get_or b (count - 1 - k) 0) (sym (before_no items n none));
  low = l.low;
  rest = l.rest;
}

-- no place is left
pub listed_full : (items : List Bool) (numbers : List ℕ) (count n : ℕ) → ListedTo items numbers count 0 n → ListedTo items numbers count 0 (n + 1)
listed_full items numbers count n l =
    let p = l.places in let longer = before_longer items n in
    record {
      places = omega (arith, p, longer);
      listed = λ k low high. l.listed k low high ∙ sym (before_front items n (count - 1 - k) (omega (arith, p, high)));
      low = l.low;
      rest = l.rest;
    }

-- a number more
pub listed_yes : (items : List Bool) (numbers : List ℕ) (count left less n : ℕ) → is_free items n ≡ true → less + 1 ≡ left → left ≤ length numbers → ListedTo items numbers count left n → ListedTo items (set numbers less n) count less (n + 1)
listed_yes items numbers count left less n some one room l =
    let p = l.places in
    let longer = ap length (before_yes items n some) ∙ length-append (before items n) (n ∷ []) in
    let size : length (before items n) ≡ count - left = omega (arith, p, one) in
    record {
      places = omega (arith, p, longer, one);
      listed = λ k low high. ⊎_elim
          (λ (e : k ≡ less). ap (λ q. get_or (set numbers less n) q 0) e ∙ get_or-set_same numbers less n 0 (omega (arith, one, room))
          ∙ sym ((let at : count - 1 - k ≡ length (before items n) + 0 = omega (arith, e, one, size, p) in ap (λ q. get_or (before items (n + 1)) q 0) at)
          ∙ ap (λ b. get_or b (length (before items n) + 0) 0) (before_yes items n some) ∙ get_or-append-add (before items n) (n ∷ []) 0 0))
          (λ (ne : k ≢ less). get_or-set_other numbers less k n 0 ne ∙ l.listed k (omega (arith, low, ne, one)) high
          ∙ sym (before_front items n (count - 1 - k) (omega (arith, size, low, ne, one, high, p))))
          (cases_eq k less);
      low = λ k lt. get_or-set_other numbers less k n 0 (λ e. omega (arith, e, lt)) ∙ l.low k (omega (arith, lt, one));
      rest = λ k le. get_or-set_other numbers less k n 0 (λ e. omega (arith, e, le, one, p)) ∙ l.rest k le;
    }

-- all were tried
pub listed_end : (items : List Bool) (numbers : List ℕ) (count left : ℕ) → count ≡ min 100 (count_free items) → ListedTo items numbers count left (length items) → ListsLowest items numbers count
unfolding rising
listed_end items numbers count left most l =
    let p = l.places in
    let all : length (before items (length items)) ≡ count_free items = count-rising items in
    let none : left ≡ 0 = omega (arith, p, all, most) in
    record { most = most; listed = λ k lt. l.listed k (omega (arith, none)) lt; rest = l.rest }

pub zeros_everywhere : (n k : ℕ) → ◌≡◌ {A = ℕ} (get_or (replicate n 0) k 0) 0
zeros_everywhere n k = ⊎_elim (λ (lt : k < n). get_or-replicate n k 0 0 lt) (λ (ge : n ≤ k). get_or_past (replicate n 0) k 0 (subst (λ m. m ≤ k) (sym (length-replicate n 0)) ge)) (cases_lt k n)

-- what is known of the next listing
pub listed_next : (items : List Bool) (old new : List ℕ) (count left less n : ℕ) (wanted : Bool) → wanted ≡ is_free items n → left ≤ length old
    → (wanted ≡ false → (new ≡ old) × (less ≡ left)) → (left ≡ 0 → (new ≡ old) × (less ≡ left)) → (wanted ≡ true → left ≢ 0 → (less + 1 ≡ left) × (new ≡ set old less n))
    → ListedTo items old count left n → ListedTo items new count less (n + 1)
listed_next items old new count left less n wanted is room kept full added l = ⊎_elim
    (λ (none : wanted ≡ false). let k = kept none in at_both k.0 k.1 (listed_no items old count left n (sym is ∙ none) l))
    (λ (some : wanted ≡ true). ⊎_elim
    (λ (z : left ≡ 0). let k = full z in at_both k.0 k.1 (subst (λ m. ListedTo items old count m (n + 1)) (sym z) (listed_full items old count n (subst (λ m. ListedTo items old count m n) z l))))
    (λ (nz : left ≢ 0). let k = added some nz in subst (λ m. ListedTo items m count less (n + 1)) (sym k.1) (listed_yes items old count left less n (sym is ∙ some) k.0 room l))
    (cases_eq left 0))
    (swap (cases_Bool wanted))
  where
    at_both : new ≡ old → less ≡ left → ListedTo items old count left (n + 1) → ListedTo items new count less (n + 1)
    at_both e f l = subst (λ m. ListedTo items m count less (n + 1)) (sym e) (subst (λ m. ListedTo items old count m (n + 1)) (sym f) l)

    swap : {A B : Type 0} → A ⊎ B → B ⊎ A
    swap (inl a) = inr a
    swap (inr b) = inl b

pub zeros_after : (b n k : ℕ) → 1 ≤ k → ◌≡◌ {A = ℕ} (get_or (b ∷ replicate n 0) k 0) 0
zeros_after b n zero le = absurd (omega arith)
zeros_after b n (suc k) le = zeros_everywhere n k
