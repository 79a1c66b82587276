-- The accepted writes of a batch, one after the other.
use Rattle.std.proofs.Common.{◌≡◌, ◌≢◌, ℕ, zero, suc, ◌+◌, ◌-◌, ◌*◌, ◌/◌, ◌<◌, ◌≤◌, Bool, true, false, cond, ◌||◌, ◌==◌, List, [], ◌∷◌, ◌++◌, length, take, drop, get_or, refl, sym, ap, ◌∙◌, arith, ⊎_elim, eq-eqb, ltb, drop-cons, length-take, take-append-drop}
use Rattle.std.proofs.lemmas.Bool.{cases_eq, cases_lt, ne_eqb, lt-ltb, le-ltb}
use Rattle.std.proofs.lemmas.List.{take_more}
use Rattle.std.proofs.lemmas.List.Folds.{list_any-append}
use Rattle.std.specs.List.{list_any, range_with_len, count_by}
use Rattle.files_model.specs.declared.call.WriteItem.{WriteItem}
use Rattle.files_model.specs.declared.reply.Reply.{Reply}
use Rattle.files_model.specs.Among.{is_among}
use Rattle.files_model.specs.Files.{sectors_of}
use Rattle.files_model.specs.Step.{touched, spliced, is_refused}
use Rattle.v7_space.proofs.Counting.{one, count-cons}
use Rattle.plan_file.specs.Accepted.{kept_of, spliced_by}
use Rattle.plan_file.specs.Free.{count_from}
use Rattle.index_sets.specs.Free.{is_free}
use Rattle.plan_file.proofs.Usage.{among-in, among_not}

-- ---- which sectors a write touches

touched_is : (offset n : ℕ) (t : Bool) → (n == 0) ≡ t → touched offset n ≡ cond t [] (range_with_len (offset / 512) (sectors_of (offset + n) - offset / 512))
unfolding touched
touched_is offset n t e = ap (λ c. cond c [] (range_with_len (offset / 512) (sectors_of (offset + n) - offset / 512))) e

pub touched-nothing : (k offset n : ℕ) → n ≡ 0 → is_among k (touched offset n) ≡ false
touched-nothing k offset n z = ap (is_among k) (touched_is offset n true (eq-eqb n 0 z))

pub touched-before : (k offset n : ℕ) → k * 512 + 512 ≤ offset → is_among k (touched offset n) ≡ false
touched-before k offset n le = ⊎_elim
    (λ (z : n ≡ 0). touched-nothing k offset n z)
    (λ (nz : n ≢ 0). ap (is_among k) (touched_is offset n false (ne_eqb n 0 nz)) ∙ among_not k (offset / 512) (sectors_of (offset + n) - offset / 512) (λ h. let a : offset / 512 ≤ k = h.0 in omega arith))
    (cases_eq n 0)

pub touched-within : (k offset n : ℕ) → n ≢ 0 → offset < k * 512 + 512 → ltb (k * 512) (offset + n) ≡ is_among k (touched offset n)
touched-within k offset n nz low = ⊎_elim
    (λ (lt : k * 512 < offset + n). lt-ltb (k * 512) (offset + n) lt ∙ sym (ap (is_among k) (touched_is offset n false (ne_eqb n 0 nz)) ∙ among-in k (offset / 512) (sectors_of (offset + n) - offset / 512) (omega arith) (omega arith)))
    (λ (ge : offset + n ≤ k * 512). le-ltb (k * 512) (offset + n) ge ∙ sym (ap (is_among k) (touched_is offset n false (ne_eqb n 0 nz)) ∙ among_not k (offset / 512) (sectors_of (offset + n) - offset / 512) (λ h. let b : k < offset / 512 + (sectors_of (offset + n) - offset / 512) = h.1 in omega arith)))
    (cases_lt (k * 512) (offset + n))

-- ---- one write more

kept-append : (ws vs : List WriteItem) (rs ss : List Reply) → length ws ≡ length rs → kept_of (ws ++ vs) (rs ++ ss) ≡ kept_of ws rs ++ kept_of vs ss
kept-append [] vs [] ss e = refl
kept-append [] vs (r ∷ rs) ss e = absurd (omega arith)
kept-append (w ∷ ws) vs [] ss e = absurd (omega arith)
kept-append (w ∷ ws) vs (r ∷ rs) ss e = by_test (is_refused r) (kept-append ws vs rs ss (omega arith))
  where
    by_test : (t : Bool) → kept_of (ws ++ vs) (rs ++ ss) ≡ kept_of ws rs ++ kept_of vs ss → cond t (kept_of (ws ++ vs) (rs ++ ss)) (w ∷ kept_of (ws ++ vs) (rs ++ ss)) ≡ cond t (kept_of ws rs) (w ∷ kept_of ws rs) ++ kept_of vs ss
    by_test true e = e
    by_test false e = ap (λ l. w ∷ l) e

pub kept-next : (ws : List WriteItem) (rs : List Reply) (i : ℕ) (w : WriteItem) (r : Reply) → i < length ws → i < length rs → w ≡ get_or ws i w → r ≡ get_or rs i r
    → kept_of (take (i + 1) ws) (take (i + 1) rs) ≡ kept_of (take i ws) (take i rs) ++ kept_of (w ∷ []) (r ∷ [])
kept-next ws rs i w r lw lr ew er =
    (λ z. kept_of ((take_more ws i w lw ∙ ap (λ x. take i ws ++ x ∷ []) (sym ew)) z) ((take_more rs i r lr ∙ ap (λ x. take i rs ++ x ∷ []) (sym er)) z))
    ∙ kept-append (take i ws) (w ∷ []) (take i rs) (r ∷ []) (length-take i ws ∙ omega arith ∙ sym (length-take i rs))

pub spliced_by-append : (ws vs : List WriteItem) (k : ℕ) (old : List ℕ) → spliced_by (ws ++ vs) k old ≡ spliced_by vs k (spliced_by ws k old)
spliced_by-append [] vs k old = refl
spliced_by-append (w ∷ ws) vs k old = spliced_by-append ws vs k (spliced w.offset w.bytes k old)

-- ---- sets

drop_next : (bits : List Bool) (a : ℕ) → a < length bits → count_from bits a ≡ one (is_free bits a) + count_from bits (a + 1)
drop_next bits a lt =
    ap (count_by (λ (b : Bool). b)) (drop-cons bits a false lt) ∙ count-cons (λ (b : Bool). b) (get_or bits a false) (drop (suc a) bits)
    ∙ (let e : suc a ≡ a + 1 = omega arith in ap (λ x. one (get_or bits a false) + count_by (λ (b : Bool). b) (drop x bits)) e)

pub count_from-yes : (bits : List Bool) (a : ℕ) → a < length bits → is_free bits a ≡ true → count_from bits a ≡ count_from bits (a + 1) + 1
unfolding one
count_from-yes bits a lt there = let d = drop_next bits a lt in let e : ◌≡◌ {A = ℕ} (cond (is_free bits a) 1 0) 1 = ap (λ t. cond t 1 0) there in omega arith

pub count_from-no : (bits : List Bool) (a : ℕ) → a < length bits → is_free bits a ≡ false → count_from bits a ≡ count_from bits (a + 1)
unfolding one
count_from-no bits a lt none = let d = drop_next bits a lt in let e : ◌≡◌ {A = ℕ} (cond (is_free bits a) 1 0) 0 = ap (λ t. cond t 1 0) none in omega arith

-- ---- loops over a batch

module _ (p : WriteItem → Bool) where
  pub any-next : (ws : List WriteItem) (rs : List Reply) (i : ℕ) (w : WriteItem) (r : Reply) → i < length ws → i < length rs → w ≡ get_or ws i w → r ≡ get_or rs i r
      → list_any p (kept_of (take (i + 1) ws) (take (i + 1) rs)) ≡ (list_any p (kept_of (take i ws) (take i rs)) || list_any p (kept_of (w ∷ []) (r ∷ [])))
  any-next ws rs i w r lw lr ew er = ap (list_any p) (kept-next ws rs i w r lw lr ew er) ∙ list_any-append p (kept_of (take i ws) (take i rs)) (kept_of (w ∷ []) (r ∷ []))

  -- one that is found early is there
  pub any-early : (ws : List WriteItem) (rs : List Reply) (i : ℕ) → length rs ≡ length ws → i ≤ length ws → list_any p (kept_of (take i ws) (take i rs)) ≡ true → list_any p (kept_of ws rs) ≡ true
  any-early ws rs i same le e =
      (ap (list_any p) ((λ z. kept_of (sym (take-append-drop i ws) z) (sym (take-append-drop i rs) z)) ∙ kept-append (take i ws) (drop i ws) (take i rs) (drop i rs) (length-take i ws ∙ omega arith ∙ sym (length-take i rs)))
      ∙ list_any-append p (kept_of (take i ws) (take i rs)) (kept_of (drop i ws) (drop i rs))
      ∙ ap (λ t. t || list_any p (kept_of (drop i ws) (drop i rs))) e)

pub take-all : {X : Type 0} (xs : List X) (i : ℕ) → length xs ≤ i → take i xs ≡ xs
take-all [] zero le = refl
take-all [] (suc i) le = refl
take-all (x ∷ xs) zero le = absurd (omega arith)
take-all (x ∷ xs) (suc i) le = ap (λ l. x ∷ l) (take-all xs i (omega arith))
