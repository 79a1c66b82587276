-- What stays true from one write of a batch to the next, whatever the files are.
use Rattle.std.proofs.Common.{◌≡◌, ◌≢◌, ℕ, zero, suc, ◌+◌, ◌-◌, ◌/◌, ◌<◌, ◌≤◌, max, Bool, true, false, cond, not, ◌&&◌, ◌||◌, ◌==◌, List, [], ◌∷◌, length, get_or, refl, sym, ap, subst, ◌∙◌, arith, ⊎_elim, eq-eqb, ltb, Option, Some, None}
use Rattle.std.proofs.lemmas.Bool.{cases_eq, cases_lt, ne_eqb, lt-ltb}
use Rattle.std.proofs.lemmas.List.FromFn.{get_or-map-range_with_len, length-map-range_with_len}
use Rattle.std.specs.List.{list_any, range_with_len, count_by}
use Rattle.files_model.specs.declared.call.WriteItem.{WriteItem}
use Rattle.files_model.specs.declared.reply.Stat.{Stat}
use Rattle.files_model.specs.declared.permission.Want.TheVariants as want
use Rattle.files_model.specs.Among.{is_among}
use Rattle.files_model.specs.Batch.{one_if, touches}
use Rattle.v7_space.proofs.Space.{among-within}
use Rattle.v7_map.proofs.Walks.{or_cases, and_both}
use Rattle.plan_file.specs.Accepted.{kept_of}
use Rattle.files_model.specs.Files.{sectors_of}
use Rattle.files_model.specs.Permission.{allows}
use Rattle.files_model.specs.Space.{size_limit}
use Rattle.files_model.specs.Step.{touched}
use Rattle.v7_space.proofs.Counting.{one, count-cons, count_same, count_none, count_parts, count_others}
use Rattle.v7_layout.specs.declared.inode.Inode.{Inode}
use Rattle.plan_file.specs.declared.draft.Draft.{Draft}
use Rattle.plan_file.specs.declared.places.Places.{Places}
use Rattle.plan_file.specs.Draft.{holds, needs_map, blocks_added, marked, attr_refusal, or_full, draft_written, draft_after, drafts_after, draft_replies, after_refusal, reply_of, attr_written, draft_refusal}
use Rattle.plan_file.specs.Layout.{is_new, new_from}
use Rattle.plan_file.specs.Started.{IsFirst}
use Rattle.plan_file.proofs.Usage.{among-in, among_not, unrefused}

touched_is : (offset n : ℕ) (t : Bool) → (n == 0) ≡ t → touched offset n ≡ cond t [] (range_with_len (offset / 512) (sectors_of (offset + n) - offset / 512))
unfolding touched
touched_is offset n t e = ap (λ c. cond c [] (range_with_len (offset / 512) (sectors_of (offset + n) - offset / 512))) e

or_false : (t : Bool) → (t || false) ≡ t
or_false true = refl
or_false false = refl

or_true : (t : Bool) → (t || true) ≡ true
or_true true = refl
or_true false = refl

-- those that pass once the touched ones do
count_touched : (b : ℕ) → b ≡ 138 → (h more g : ℕ → Bool) (offset n : ℕ) → offset + n ≤ size_limit → ((k : ℕ) → k < b → more k ≡ (h k || is_among k (touched offset n))) → ((k : ℕ) → k < b → g k ≡ not (h k))
    → count_by more (range_with_len 0 b) ≡ count_by h (range_with_len 0 b) + count_by g (touched offset n)
count_touched b is_b h more g offset n within is others' = ⊎_elim
    (λ (z : n ≡ 0).
    let none : touched offset n ≡ [] = touched_is offset n true (eq-eqb n 0 z) in
    let a = count_same more h 0 b (λ k l u. is k (omega arith) ∙ ap (λ q. h k || is_among k q) none ∙ or_false (h k)) in
    let c : count_by g (touched offset n) ≡ 0 = ap (count_by g) none in omega arith)
    (λ (nz : n ≢ 0).
    let f : ℕ = offset / 512 in
    let m : ℕ = sectors_of (offset + n) - offset / 512 in
    let some : touched offset n ≡ range_with_len f m = touched_is offset n false (ne_eqb n 0 nz) in
    let room : f + m ≤ b = omega arith in
    let p1 = count_parts more 0 f (b - f) b (omega arith) in
    let p2 = count_parts more (0 + f) m (b - f - m) (b - f) (omega arith) in
    let q1 = count_parts h 0 f (b - f) b (omega arith) in
    let q2 = count_parts h (0 + f) m (b - f - m) (b - f) (omega arith) in
    let low' = count_same more h 0 f (λ k l u. outside k f m (omega arith) some (λ w. let a : f ≤ k = w.0 in omega arith)) in
    let high' = count_same more h ((0 + f) + m) (b - f - m) (λ k l u. outside k f m (omega arith) some (λ w. let a : k < f + m = w.1 in omega arith)) in
    let all = count_others more (λ k. false) (0 + f) m (λ k l u. is k (omega arith) ∙ ap (λ t. h k || t) (ap (is_among k) some ∙ among-in k f m (omega arith) (omega arith)) ∙ or_true (h k)) in
    let nothing = count_none (λ k. false) (0 + f) m (λ k l u. refl) in
    let others = count_others g h (0 + f) m (λ k l u. others' k (omega arith)) in
    let start : 0 + f ≡ f = omega arith in
    let here : count_by g (touched offset n) ≡ count_by g (range_with_len (0 + f) m) = ap (count_by g) some ∙ (λ z. count_by g (range_with_len (sym start z) m)) in
    omega arith)
    (cases_eq n 0)
  where
    outside : (k f m : ℕ) → k < b → touched offset n ≡ range_with_len f m → ((f ≤ k) × (k < f + m) → ⊥) → more k ≡ h k
    outside k f m lt some out = is k lt ∙ ap (λ q. h k || is_among k q) some ∙ ap (λ t. h k || t) (among_not k f m out) ∙ or_false (h k)

-- counts that add up
sums : (p q r : ℕ → Bool) (a n : ℕ) → ((k : ℕ) → a ≤ k → k < a + n → one (p k) + one (q k) ≡ one (r k)) → count_by p (range_with_len a n) + count_by q (range_with_len a n) ≡ count_by r (range_with_len a n)
sums p q r a zero h = refl
sums p q r a (suc n) h =
    let x = count-cons p a (range_with_len (a + 1) n) in let y = count-cons q a (range_with_len (a + 1) n) in let z = count-cons r a (range_with_len (a + 1) n) in
    let here = h a (omega arith) (omega arith) in let rest = sums p q r (a + 1) n (λ k l u. h k (omega arith) (omega arith)) in omega arith

apart : (z h d' : Bool) → d' ≡ not z → (d' ≡ true → h ≡ true) → one (h && z) + one d' ≡ one h
unfolding one
apart true true d' e m = ap (λ t. 1 + cond t 1 0) e
apart true false d' e m = ap (λ t. 0 + cond t 1 0) e
apart false true d' e m = ap (λ t. 0 + cond t 1 0) e
apart false false d' e m = let bad : false ≡ true = m e in absurd (cc)

-- how many sectors are held
unfoldable pub held_count : ℕ → List Bool → ℕ
held_count b held = count_by (holds held) (range_with_len 0 b)

pub record IsLater (b : ℕ) (d e : Draft) : Type 0 where
  pub long : length e.held ≡ b
  pub held : (k : ℕ) → k < b → holds d.held k ≡ true → holds e.held k ≡ true
  pub mapped : d.mapped ≡ true → e.mapped ≡ true
  pub size : d.attr.size ≤ size_limit → e.attr.size ≤ size_limit
  pub room : held_count b e.held + one_if e.mapped + e.free ≡ held_count b d.held + one_if d.mapped + d.free

module _ (b : ℕ) (is_b : b ≡ 138) where
  later-same : (d : Draft) → length d.held ≡ b → IsLater b d d
  later-same d long = record { long = long; held = λ k lt h. h; mapped = λ h. h; size = λ h. h; room = refl }

  later-later : (d e f : Draft) → IsLater b d e → IsLater b e f → IsLater b d f
  later-later d e f x y = record { long = y.long; held = λ k lt h. y.held k lt (x.held k lt h); mapped = λ h. y.mapped (x.mapped h); size = λ h. y.size (x.size h); room = y.room ∙ x.room }

  later-written : (d : Draft) (offset n now : ℕ) → length d.held ≡ b → offset + n ≤ size_limit → blocks_added d offset n ≤ d.free → IsLater b d (draft_written d offset n now)
  unfolding marked blocks_added held_count
  later-written d offset n now long within enough = record {
    long = length-map-range_with_len (λ k. holds d.held k || is_among k (touched offset n)) 0 (length d.held) ∙ long;
    held = λ k lt h. marks k lt ∙ ap (λ t. t || is_among k (touched offset n)) h;
    mapped = λ h. ap (λ t. t || needs_map offset n) h;
    size = λ h. size_fits (n == 0) h;
    room =
        let c = count_touched b is_b (holds d.held) (holds (marked d.held offset n)) (λ k. not (holds d.held k)) offset n within marks (λ k lt. refl) in
        let m = maps d.mapped (needs_map offset n) in omega arith;
  }
    where
      marks : (k : ℕ) → k < b → holds (marked d.held offset n) k ≡ (holds d.held k || is_among k (touched offset n))
      marks k lt = get_or-map-range_with_len (λ q. holds d.held q || is_among q (touched offset n)) 0 (length d.held) k k false (omega arith) (omega arith)

      maps : (s t : Bool) → one_if (s || t) ≡ one_if s + one_if (t && not s)
      maps true true = refl
      maps true false = refl
      maps false true = refl
      maps false false = refl

      size_fits : (t : Bool) → d.attr.size ≤ size_limit → cond t d.attr.size (max d.attr.size (offset + n)) ≤ size_limit
      size_fits true h = h
      size_fits false h = omega arith

  later-one : (read_only : Bool) (d : Draft) (w : WriteItem) (now : ℕ) → length d.held ≡ b → IsLater b d (draft_after read_only d w now)
  later-one read_only d w now long = by_first (attr_refusal read_only d.attr w.cred w.offset (length w.bytes)) refl
    where
      full : Bool
      full = ltb d.free (blocks_added d w.offset (length w.bytes))

      written : Draft
      written = draft_written d w.offset (length w.bytes) now

      by_full : (t : Bool) → full ≡ t → w.offset + length w.bytes ≤ size_limit → IsLater b d (after_refusal (or_full None t) written d)
      by_full true e within = later-same d long
      by_full false e within = later-written d w.offset (length w.bytes) now long within (⊎_elim (λ (lt : d.free < blocks_added d w.offset (length w.bytes)). let yes' : full ≡ true = lt-ltb d.free _ lt in absurd (cc)) (λ (ge : blocks_added d w.offset (length w.bytes) ≤ d.free). ge) (cases_lt d.free (blocks_added d w.offset (length w.bytes))))

      by_first : (o : Option Stat) → attr_refusal read_only d.attr w.cred w.offset (length w.bytes) ≡ o → IsLater b d (draft_after read_only d w now)
      by_first None e = subst (λ (q : Option Stat). IsLater b d (after_refusal (or_full q full) written d)) (sym e) (by_full full refl (unrefused read_only d.attr.kind (allows w.cred d.attr want.Write) (w.offset + length w.bytes) e).1)
      by_first (Some status) e = subst (λ (q : Option Stat). IsLater b d (after_refusal (or_full q full) written d)) (sym e) (later-same d long)

  pub later : (read_only : Bool) (d : Draft) (ws : List WriteItem) (now : ℕ) → length d.held ≡ b → IsLater b d (drafts_after read_only d ws now)
  later read_only d [] now long = later-same d long
  later read_only d (w ∷ ws) now long = let one' = later-one read_only d w now long in later-later d (draft_after read_only d w now) (drafts_after read_only (draft_after read_only d w now) ws now) one' (later read_only (draft_after read_only d w now) ws now one'.long)

  -- there are free blocks enough for all that is held and has none
  pub enough : (i : ℕ) (n : Inode) (places : Places) (free : ℕ) (d e : Draft) → IsFirst i n places free d → IsLater b d e → new_from places.body e.held 0 + one_if (e.mapped && (places.single == 0)) ≤ free
  unfolding new_from held_count
  enough i n places free d e first late =
      let room = late.room in
      let same = first.room in
      let new : count_by (is_new places.body e.held) (range_with_len 0 b) + count_by (holds d.held) (range_with_len 0 b) ≡ count_by (holds e.held) (range_with_len 0 b) = split b (λ k lt. lt) in
      let len : length e.held - 0 ≡ b = let l = late.long in omega arith in
      let from : count_by (is_new places.body e.held) (range_with_len 0 (length e.held - 0)) ≡ count_by (is_new places.body e.held) (range_with_len 0 b) = ap (λ q. count_by (is_new places.body e.held) (range_with_len 0 q)) len in
      let map' = maps (places.single == 0) d.mapped e.mapped first.mapped late.mapped in
      omega arith
    where
      split : (m : ℕ) → ((k : ℕ) → k < m → k < b) → count_by (is_new places.body e.held) (range_with_len 0 m) + count_by (holds d.held) (range_with_len 0 m) ≡ count_by (holds e.held) (range_with_len 0 m)
      split m within = sums (is_new places.body e.held) (holds d.held) (holds e.held) 0 m (λ k l u. apart (get_or places.body k 0 == 0) (holds e.held k) (holds d.held k) (first.held.is k) (late.held k (within k (omega arith))))

      maps : (z d' e' : Bool) → d' ≡ not z → (d' ≡ true → e' ≡ true) → one_if (e' && z) + one_if d' ≡ one_if e'
      maps true d' true e m = ap (λ t. 1 + one_if t) e
      maps true d' false e m = ap (λ t. 0 + one_if t) e
      maps false d' true e m = ap (λ t. 0 + one_if t) e
      maps false d' false e m = let bad : false ≡ true = m e in absurd (cc)

pub length-draft_replies : (read_only : Bool) (d : Draft) (ws : List WriteItem) (now : ℕ) → length (draft_replies read_only d ws now) ≡ length ws
length-draft_replies read_only d [] now = refl
length-draft_replies read_only d (w ∷ ws) now = ap suc (length-draft_replies read_only (draft_after read_only d w now) ws now)

-- ---- what an accepted write touches is held afterwards

abbrev held_in : Draft → List Bool
held_in d = d.held

touched-marked : (d : Draft) (w : WriteItem) (now k : ℕ) → k < length d.held → is_among k (touched w.offset (length w.bytes)) ≡ true → holds (draft_written d w.offset (length w.bytes) now).held k ≡ true
unfolding marked
touched-marked d w now k lt in' =
    get_or-map-range_with_len (λ q. holds d.held q || is_among q (touched w.offset (length w.bytes))) 0 (length d.held) k k false lt (omega arith)
    ∙ ap (λ t. holds d.held k || t) in' ∙ or_true (holds d.held k)

module _ (b : ℕ) (is_b : b ≡ 138) where
  pub touched-held : (read_only : Bool) (d : Draft) (ws : List WriteItem) (now : ℕ) → length d.held ≡ b → (k : ℕ) → k < b → list_any (touches k) (kept_of ws (draft_replies read_only d ws now)) ≡ true → holds (drafts_after read_only d ws now).held k ≡ true
  touched-held read_only d [] now long k lt e = absurd (cc)
  touched-held read_only d (w ∷ ws) now long k lt given =
      let one' = later-one b is_b read_only d w now long in
      elim (draft_refusal read_only d w) as (λ r. draft_refusal read_only d w ≡ r
      → list_any (touches k) (kept_of (w ∷ ws) (reply_of r (attr_written d.attr w.offset (length w.bytes) now) ∷ draft_replies read_only (after_refusal r (draft_written d w.offset (length w.bytes) now) d) ws now)) ≡ true
      → length (held_in (after_refusal r (draft_written d w.offset (length w.bytes) now) d)) ≡ b
      → holds (held_in (drafts_after read_only (after_refusal r (draft_written d w.offset (length w.bytes) now) d) ws now)) k ≡ true) [
        | None ↦ λ _ e l. ⊎_elim
            (λ (h : touches k w ≡ true). (later b is_b read_only (draft_written d w.offset (length w.bytes) now) ws now l).held k lt (touched-marked d w now k (omega arith) h))
            (λ (h : list_any (touches k) (kept_of ws (draft_replies read_only (draft_written d w.offset (length w.bytes) now) ws now)) ≡ true). touched-held read_only (draft_written d w.offset (length w.bytes) now) ws now l k lt h)
            (or_cases (touches k w) _ e)
        | Some status ↦ λ _ e l. touched-held read_only d ws now l k lt e
      ] refl given one'.long

  -- a sector past the tenth is held only beside a block of addresses
  abbrev IsMappedHigh : Draft → Type 0
  IsMappedHigh d = (k : ℕ) → 10 ≤ k → k < b → holds d.held k ≡ true → d.mapped ≡ true

  mapped-written : (d : Draft) (w : WriteItem) (now : ℕ) → length d.held ≡ b → IsMappedHigh d → IsMappedHigh (draft_written d w.offset (length w.bytes) now)
  unfolding marked
  mapped-written d w now long high k ge lt h = ⊎_elim
      (λ (x : holds d.held k ≡ true). ap (λ t. t || needs_map w.offset (length w.bytes)) (high k ge lt x))
      (λ (x : is_among k (touched w.offset (length w.bytes)) ≡ true). ap (λ t. d.mapped || t) (needs k ge x) ∙ or_true d.mapped)
      (or_cases (holds d.held k) (is_among k (touched w.offset (length w.bytes))) (sym (get_or-map-range_with_len (λ q. holds d.held q || is_among q (touched w.offset (length w.bytes))) 0 (length d.held) k k false (omega arith) (omega arith)) ∙ h))
    where
      needs : (k : ℕ) → 10 ≤ k → is_among k (touched w.offset (length w.bytes)) ≡ true → needs_map w.offset (length w.bytes) ≡ true
      needs k ge in' = ⊎_elim
          (λ (z : length w.bytes ≡ 0). let none' : false ≡ true = ap (is_among k) (sym (touched_is w.offset (length w.bytes) true (eq-eqb (length w.bytes) 0 z))) ∙ in' in absurd (cc))
          (λ (nz : length w.bytes ≢ 0).
          let r = among-within k (w.offset / 512) (sectors_of (w.offset + length w.bytes) - w.offset / 512) (ap (is_among k) (sym (touched_is w.offset (length w.bytes) false (ne_eqb (length w.bytes) 0 nz))) ∙ in') in
          let high' : k < w.offset / 512 + (sectors_of (w.offset + length w.bytes) - w.offset / 512) = r.1 in
          and_both (not (length w.bytes == 0)) _ (ap not (ne_eqb (length w.bytes) 0 nz)) (lt-ltb 10 (sectors_of (w.offset + length w.bytes)) (omega arith)))
          (cases_eq (length w.bytes) 0)

  pub mapped-high : (read_only : Bool) (d : Draft) (ws : List WriteItem) (now : ℕ) → length d.held ≡ b → IsMappedHigh d → IsMappedHigh (drafts_after read_only d ws now)
  mapped-high read_only d [] now long high = high
  mapped-high read_only d (w ∷ ws) now long high =
      let one' = later-one b is_b read_only d w now long in
      mapped-high read_only (draft_after read_only d w now) ws now one'.long (by_refusal (draft_refusal read_only d w))
    where
      by_refusal : (r : Option Stat) → IsMappedHigh (after_refusal r (draft_written d w.offset (length w.bytes) now) d)
      by_refusal None = mapped-written d w now long high
      by_refusal (Some status) = high

-- before the batch
pub first-high : (i : ℕ) (n : Inode) (places : Places) (free : ℕ) (d : Draft) → IsFirst i n places free d → ((k : ℕ) → 10 ≤ k → get_or places.body k 0 ≢ 0 → places.single ≢ 0)
    → (k : ℕ) → 10 ≤ k → k < 138 → holds d.held k ≡ true → d.mapped ≡ true
first-high i n places free d first through k ge lt h = first.mapped ∙ ap not (ne_eqb places.single 0 (through k ge (λ z. clash (get_or places.body k 0 == 0) (eq-eqb (get_or places.body k 0) 0 z) (sym (first.held.is k) ∙ h))))
  where
    clash : (t : Bool) → t ≡ true → not t ≡ true → ⊥
    clash true x y = cc
    clash false x y = cc
