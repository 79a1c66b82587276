-- Steps of the loops that decide a batch.
use Rattle.std.proofs.Common.{◌≡◌, ℕ, zero, suc, ◌+◌, ◌-◌, ◌/◌, ◌<◌, ◌≤◌, ◌≢◌, Bool, true, false, cond, ◌||◌, List, [], ◌∷◌, ◌++◌, length, take, get_or, set, refl, sym, ap, subst, ◌∙◌, arith, ⊎_elim, eq-eqb, eqb, get_or-set_same, get_or-set_other}
use Rattle.std.specs.List.{range_with_len, count_by}
use Rattle.std.proofs.lemmas.Bool.{cases_eq, ne_eqb}
use Rattle.std.proofs.lemmas.List.{take_more}
use Rattle.std.proofs.lemmas.List.FromFn.{fill_by_all}
use Rattle.files_model.specs.declared.call.WriteItem.{WriteItem}
use Rattle.files_model.specs.Among.{is_among}
use Rattle.files_model.specs.Files.{sectors_of}
use Rattle.files_model.specs.Step.{touched}
use Rattle.plan_file.specs.declared.draft.Draft.{Draft}
use Rattle.plan_file.specs.Draft.{holds, marked, draft_after, draft_reply, drafts_after, draft_replies}
use Rattle.v7_space.proofs.Counting.{one, count-cons, count_parts}

-- one number more of a range
pub count_next : (p : ℕ → Bool) (a i : ℕ) → a ≤ i → count_by p (range_with_len a (i + 1 - a)) ≡ count_by p (range_with_len a (i - a)) + cond (p i) 1 0
unfolding one
count_next p a i le =
    let parts = count_parts p a (i - a) 1 (i + 1 - a) (omega arith) in
    let last = count-cons p (a + (i - a)) [] in
    let same : a + (i - a) ≡ i = omega arith in
    let here : one (p (a + (i - a))) ≡ one (p i) = ap (λ x. one (p x)) same in
    omega arith

-- ---- marks

assoc : (a b c : Bool) → (a || (b || c)) ≡ ((a || b) || c)
assoc true b c = refl
assoc false b c = refl

or_false : (b : Bool) → (b || false) ≡ b
or_false true = refl
or_false false = refl

among_last : (k a n : ℕ) → is_among k (range_with_len a (suc n)) ≡ (is_among k (range_with_len a n) || eqb (a + n) k)
among_last k a zero = or_false (eqb a k) ∙ (let e : a ≡ a + 0 = omega arith in ap (λ x. eqb x k) e)
among_last k a (suc n) =
    let e : (a + 1) + n ≡ a + suc n = omega arith in
    ap (λ b. eqb a k || b) (among_last k (a + 1) n ∙ ap (λ x. is_among k (range_with_len (a + 1) n) || eqb x k) e)
    ∙ assoc (eqb a k) (is_among k (range_with_len (a + 1) n)) (eqb (a + suc n) k)

among_next : (k a i : ℕ) → a ≤ i → is_among k (range_with_len a (i + 1 - a)) ≡ (is_among k (range_with_len a (i - a)) || eqb i k)
among_next k a i le =
    let m : i + 1 - a ≡ suc (i - a) = omega arith in
    let e : a + (i - a) ≡ i = omega arith in
    ap (λ n. is_among k (range_with_len a n)) m ∙ among_last k a (i - a) ∙ ap (λ x. is_among k (range_with_len a (i - a)) || eqb x k) e

-- one sector more is marked
pub mark_next : (old now : List Bool) (a i : ℕ) → a ≤ i → i < length now
    → ((k : ℕ) → get_or now k false ≡ (holds old k || is_among k (range_with_len a (i - a))))
    → (k : ℕ) → get_or (set now i true) k false ≡ (holds old k || is_among k (range_with_len a (i + 1 - a)))
mark_next old now a i le lt h k = ⊎_elim
    (λ (e : i ≡ k). subst (λ q. get_or (set now i true) q false ≡ (holds old q || is_among q (range_with_len a (i + 1 - a)))) e
    (get_or-set_same now i true false lt
    ∙ sym (ap (λ b. holds old i || b) (among_next i a i le ∙ ap (λ b. is_among i (range_with_len a (i - a)) || b) (eq-eqb i i refl) ∙ or_true (is_among i (range_with_len a (i - a)))) ∙ or_true (holds old i))))
    (λ (ne : i ≢ k). get_or-set_other now i k true false (λ e. ne (sym e)) ∙ h k
    ∙ ap (λ b. holds old k || b) (sym (among_next k a i le ∙ ap (λ b. is_among k (range_with_len a (i - a)) || b) (ne_eqb i k ne) ∙ or_false (is_among k (range_with_len a (i - a))))))
    (cases_eq i k)
  where
    or_true : (b : Bool) → (b || true) ≡ true
    or_true true = refl
    or_true false = refl

pub marked-is : (old now : List Bool) (offset count : ℕ) → length now ≡ length old → ((k : ℕ) → get_or now k false ≡ (holds old k || is_among k (touched offset count))) → now ≡ marked old offset count
unfolding marked
marked-is old now offset count long h = fill_by_all (λ k. holds old k || is_among k (touched offset count)) now (length old) false long (λ k lt. h k)

pub marked-none : (old now : List Bool) (offset count : ℕ) → count ≡ 0 → now ≡ old → now ≡ marked old offset count
unfolding touched
marked-none old now offset count none same = marked-is old now offset count (ap length same) (λ k. ap (λ l. get_or l k false) same ∙ sym (or_false (holds old k))
    ∙ ap (λ b. holds old k || is_among k (cond b [] (range_with_len (offset / 512) (sectors_of (offset + count) - offset / 512)))) (sym (eq-eqb count 0 none)))

pub marked-some : (old now : List Bool) (offset count : ℕ) → count ≢ 0 → length now ≡ length old
    → ((k : ℕ) → get_or now k false ≡ (holds old k || is_among k (range_with_len (offset / 512) (sectors_of (offset + count) - offset / 512)))) → now ≡ marked old offset count
unfolding touched
marked-some old now offset count some long h = marked-is old now offset count long (λ k. h k
    ∙ ap (λ b. holds old k || is_among k (cond b [] (range_with_len (offset / 512) (sectors_of (offset + count) - offset / 512)))) (sym (ne_eqb count 0 some)))

-- ---- one write more

drafts-push : (read_only : Bool) (d : Draft) (ws : List WriteItem) (w : WriteItem) (now : ℕ)
    → (drafts_after read_only d (ws ++ w ∷ []) now ≡ draft_after read_only (drafts_after read_only d ws now) w now)
    × (draft_replies read_only d (ws ++ w ∷ []) now ≡ draft_replies read_only d ws now ++ draft_reply read_only (drafts_after read_only d ws now) w now ∷ [])
drafts-push read_only d [] w now = (refl, refl)
drafts-push read_only d (v ∷ ws) w now = let r = drafts-push read_only (draft_after read_only d v now) ws w now in (r.0, ap (λ l. draft_reply read_only d v now ∷ l) r.1)

pub drafts-next : (read_only : Bool) (d : Draft) (ws : List WriteItem) (i : ℕ) (w : WriteItem) (now : ℕ) → i < length ws → w ≡ get_or ws i w
    → (drafts_after read_only d (take (i + 1) ws) now ≡ draft_after read_only (drafts_after read_only d (take i ws) now) w now)
    × (draft_replies read_only d (take (i + 1) ws) now ≡ draft_replies read_only d (take i ws) now ++ draft_reply read_only (drafts_after read_only d (take i ws) now) w now ∷ [])
drafts-next read_only d ws i w now lt is =
    let e : take (i + 1) ws ≡ take i ws ++ w ∷ [] = take_more ws i w lt ∙ ap (λ x. take i ws ++ x ∷ []) (sym is) in
    let r = drafts-push read_only d (take i ws) w now in (
      ap (λ l. drafts_after read_only d l now) e ∙ r.0,
      ap (λ l. draft_replies read_only d l now) e ∙ r.1,
    )
