-- What is kept of slots, slot by slot, in whatever order they are read.
use Rattle.std.proofs.Common.{◌≡◌, ◌≢◌, ℕ, zero, suc, ◌+◌, ◌<◌, ◌≤◌, Bool, true, false, cond, not, ◌&&◌, List, [], ◌∷◌, ◌++◌, length, get_or, take, drop, append_assoc, refl, sym, ap, subst, ◌∙◌, arith, ⊎_elim, eqb, eq-eqb, Some, None}
use Rattle.std.specs.Prelude.{set, count_by}
use Rattle.std.specs.List.{range_with_len, flat_map}
use Rattle.std.proofs.lemmas.Bool.{cases_eq, cases_lt, ne_eqb, lt-ltb, le-ltb}
use Rattle.std.proofs.lemmas.List.{take_more, length-take-le, get_or-set_same, get_or-set_other, drop-append-le, drop_all}
use Rattle.std.proofs.lemmas.List.Sums.{sum_by-append}
use Rattle.v7_layout.specs.declared.slot.Slot.{Slot as Stored}
use Rattle.files_model.specs.Files.{Slot}
use Rattle.v7_map.specs.Frame.{Frame}
use Rattle.v7_map.specs.Tree.{Tree, is_slot_of}
use Rattle.v7_damage.specs.Marks.{mark_at}
use Rattle.v7_damage.specs.Slots.{seen_slot}
use Rattle.v7_damage.specs.Walk.{is_dir_in}
use Rattle.v7_damage.specs.Names.{AreTypes}
use Rattle.v7_damage.specs.Tallied.{AreOnce, AreTallied, is_good, past_more, slots_read}
use Rattle.v7_damage.proofs.Naming.{count_more, counts_empty, counts_more, seen-some, seen-none, has_name, used-by}

pub past_low : (k : ℕ) (past : List Slot) (s : Slot) → k < 2 → past_more k past s ≡ past
past_low k past s low = ap (λ b. cond b past (past ++ s ∷ [])) (lt-ltb k 2 low)

pub past_high : (k : ℕ) (past : List Slot) (s : Slot) → 2 ≤ k → past_more k past s ≡ past ++ s ∷ []
past_high k past s high = ap (λ b. cond b past (past ++ s ∷ [])) (le-ltb k 2 high)

-- ---- directories that are named once

-- a slot that doesn't name i adds nothing to its count
count_other : (i ino : ℕ) (name : List ℕ) (slots : List Slot) → ino ≢ i → count_by (is_slot_of i) (slots ++ Some (ino, name) ∷ []) ≡ count_by (is_slot_of i) slots
count_other i ino name slots ne =
    let none : ◌≡◌ {A = ℕ} (cond (eqb ino i) 1 0) 0 = ap (λ b. cond b 1 0) (ne_eqb ino i ne) in
    let e = count_more i slots (Some (ino, name)) in
    omega arith

count_same : (i ino : ℕ) (name : List ℕ) (slots : List Slot) → ino ≡ i → count_by (is_slot_of i) (slots ++ Some (ino, name) ∷ []) ≡ count_by (is_slot_of i) slots + 1
count_same i ino name slots is =
    let one : ◌≡◌ {A = ℕ} (cond (eqb ino i) 1 0) 1 = ap (λ b. cond b 1 0) (eq-eqb ino i is) in
    let e = count_more i slots (Some (ino, name)) in
    omega arith

count_empty : (i : ℕ) (slots : List Slot) → count_by (is_slot_of i) (slots ++ None ∷ []) ≡ count_by (is_slot_of i) slots
count_empty i slots = let e = count_more i slots None in omega arith

pub once_low : (types : List ℕ) (named : List Bool) (past : List Slot) (k : ℕ) (s : Slot) → k < 2 → AreOnce types named past → AreOnce types named (past_more k past s)
once_low types named past k s low was = subst (AreOnce types named) (sym (past_low k past s low)) was

pub once_other : (types : List ℕ) (named : List Bool) (past : List Slot) (k ino : ℕ) (name : List ℕ) → 2 ≤ k → is_dir_in types ino ≡ false → AreOnce types named past → AreOnce types named (past_more k past (Some (ino, name)))
once_other types named past k ino name high other was = subst (AreOnce types named) (sym (past_high k past (Some (ino, name)) high)) (record {
  once = λ i dir. count_other i ino name past (λ e. let no : is_dir_in types i ≡ false = subst (λ j. is_dir_in types j ≡ false) e other in let clash : true ≡ false = sym dir ∙ no in absurd (cc)) ∙ was.once i dir;
  root = was.root;
})

pub once_more : (types : List ℕ) (named : List Bool) (past : List Slot) (k ino : ℕ) (name : List ℕ) → 2 ≤ k → ino < length named → mark_at named ino ≡ false → ino ≢ 2 → AreOnce types named past → AreOnce types (set named ino true) (past_more k past (Some (ino, name)))
once_more types named past k ino name high lt new other was = subst (AreOnce types (set named ino true)) (sym (past_high k past (Some (ino, name)) high)) (record {
  once = λ i dir. ⊎_elim
      (λ (e : i ≡ ino).
      let had : count_by (is_slot_of i) past ≡ cond (mark_at named i) 1 0 = was.once i dir in
      let zero' : ◌≡◌ {A = ℕ} (cond (mark_at named i) 1 0) 0 = ap (λ b. cond b 1 0) (ap (mark_at named) e ∙ new) in
      let one : ◌≡◌ {A = ℕ} (cond (mark_at (set named ino true) i) 1 0) 1 = ap (λ b. cond b 1 0) (ap (mark_at (set named ino true)) e ∙ get_or-set_same named ino true false lt) in
      let c = count_same i ino name past (sym e) in
      omega arith)
      (λ (ne : i ≢ ino). count_other i ino name past (λ e. ne (sym e)) ∙ was.once i dir ∙ ap (λ b. cond b 1 0) (sym (get_or-set_other named ino i true false ne)))
      (cases_eq i ino);
  root = λ dir. get_or-set_other named ino 2 true false (λ e. other (sym e)) ∙ was.root dir;
})

-- ---- one slot more

pub tallied_empty : (types counts : List ℕ) (named : List Bool) (all past : List Slot) (k : ℕ) (s : Slot) → s ≡ None → AreTallied types counts named all past → AreTallied types counts named (all ++ s ∷ []) (past_more k past s)
tallied_empty types counts named all past k s is was = subst (λ (x : Slot). AreTallied types counts named (all ++ x ∷ []) (past_more k past x)) (sym is) (record {
  counts_are = counts_empty counts all was.counts_are;
  few = λ i. let e = count_empty i all in let f = was.few i in omega arith;
  once = ⊎_elim
      (λ (low : k < 2). once_low types named past k None low was.once)
      (λ (high : 2 ≤ k). subst (AreOnce types named) (sym (past_high k past None high)) (record { once = λ i dir. count_empty i past ∙ was.once.once i dir; root = was.once.root }))
      (cases_lt k 2);
})

pub tallied_more : (types counts : List ℕ) (named more : List Bool) (all past : List Slot) (k ino count : ℕ) (name : List ℕ) (s : Slot) → s ≡ Some (ino, name) → 1 ≤ ino → ino < length counts → count ≡ get_or counts ino 0 → count < 65535
    → AreTallied types counts named all past → AreOnce types more (past_more k past (Some (ino, name))) → AreTallied types (set counts ino (count + 1)) more (all ++ s ∷ []) (past_more k past s)
tallied_more types counts named more all past k ino count name s at some lt is few was once = subst (λ (x : Slot). AreTallied types (set counts ino (count + 1)) more (all ++ x ∷ []) (past_more k past x)) (sym at) (record {
  counts_are = counts_more counts all ino count name lt is was.counts_are;
  few = λ i. ⊎_elim
      (λ (e : i ≡ ino). let had = was.counts_are.each i (omega arith) (omega arith) in let same : get_or counts i 0 ≡ get_or counts ino 0 = ap (λ j. get_or counts j 0) e in let c = count_same i ino name all (sym e) in omega arith)
      (λ (ne : i ≢ ino). let c = count_other i ino name all (λ e. ne (sym e)) in let f = was.few i in omega arith)
      (cases_eq i ino);
  once = once;
})

pub good_empty : (f : Frame) (s : Stored) → s.ino ≡ 0 → is_good f (seen_slot s) ≡ true
good_empty f s none = ap (is_good f) (seen-none s none)

pub good_slot : (f : Frame) (types : List ℕ) (s : Stored) → AreTypes f types → s.ino ≢ 0 → get_or types s.ino 0 ≢ 0 → get_or s.name 0 0 ≢ 0 → is_good f (seen_slot s) ≡ true
good_slot f types s are some used named =
    ap (is_good f) (seen-some s some)
    ∙ (λ z. used-by f types s.ino are used z && not (has_name s.ino s.name named z))

-- ---- the slots of one directory

module _ (all past S : List Slot) (k : ℕ) (lt : k < length S) where
  pub all_step : (all ++ take k S) ++ get_or S k None ∷ [] ≡ all ++ take (k + 1) S
  all_step = append_assoc all (take k S) (get_or S k None ∷ []) ∙ ap (λ l. all ++ l) (sym (take_more S k None lt))

  pub past_step : past_more k (past ++ drop 2 (take k S)) (get_or S k None) ≡ past ++ drop 2 (take (k + 1) S)
  past_step =
      let one : length (take k S) ≡ k = length-take-le k S (omega arith) in
      let two : length (take (k + 1) S) ≡ k + 1 = length-take-le (k + 1) S (omega arith) in
      ⊎_elim
      (λ (low : k < 2). past_low k (past ++ drop 2 (take k S)) (get_or S k None) low ∙ ap (λ l. past ++ l) (drop_all 2 (take k S) (omega arith) ∙ sym (drop_all 2 (take (k + 1) S) (omega arith))))
      (λ (high : 2 ≤ k). past_high k (past ++ drop 2 (take k S)) (get_or S k None) high
      ∙ append_assoc past (drop 2 (take k S)) (get_or S k None ∷ [])
      ∙ ap (λ l. past ++ l) (sym (ap (drop 2) (take_more S k None lt) ∙ drop-append-le 2 (take k S) (get_or S k None ∷ []) (omega arith))))
      (cases_lt k 2)

-- ---- one directory more

-- a directory that isn't there
module _ (p : Slot → Bool) (t : Tree) (n : ℕ) (read : List Bool) (d : ℕ) where
  abbrev part_of : List Bool → ℕ → List Slot
  part_of marks e = cond (mark_at marks e) (drop n (t.slots e)) []

  past_it : (a m : ℕ) → d < a → count_by p (flat_map (part_of (set read d true)) (range_with_len a m)) ≡ count_by p (flat_map (part_of read) (range_with_len a m))
  past_it a zero lt = refl
  past_it a (suc m) lt =
      let same : part_of (set read d true) a ≡ part_of read a = ap (λ b. cond b (drop n (t.slots a)) []) (get_or-set_other read d a true false (λ e. omega arith)) in
      let x = sum_by-append (λ y. cond (p y) 1 0) (part_of (set read d true) a) (flat_map (part_of (set read d true)) (range_with_len (a + 1) m)) in
      let y = sum_by-append (λ y. cond (p y) 1 0) (part_of read a) (flat_map (part_of read) (range_with_len (a + 1) m)) in
      let r = past_it (a + 1) m (omega arith) in
      let s : count_by p (part_of (set read d true) a) ≡ count_by p (part_of read a) = ap (count_by p) same in
      omega arith

  with_it : (a m : ℕ) → a ≤ d → d < a + m → d < length read → mark_at read d ≡ false → count_by p (flat_map (part_of (set read d true)) (range_with_len a m)) ≡ count_by p (flat_map (part_of read) (range_with_len a m)) + count_by p (drop n (t.slots d))
  with_it a zero low high within new = absurd (omega arith)
  with_it a (suc m) low high within new =
      let x = sum_by-append (λ y. cond (p y) 1 0) (part_of (set read d true) a) (flat_map (part_of (set read d true)) (range_with_len (a + 1) m)) in
      let y = sum_by-append (λ y. cond (p y) 1 0) (part_of read a) (flat_map (part_of read) (range_with_len (a + 1) m)) in
      ⊎_elim
      (λ (e : a ≡ d).
      let now : part_of (set read d true) a ≡ drop n (t.slots d) = ap (part_of (set read d true)) e ∙ ap (λ b. cond b (drop n (t.slots d)) []) (get_or-set_same read d true false within) in
      let was : part_of read a ≡ [] = ap (part_of read) e ∙ ap (λ b. cond b (drop n (t.slots d)) []) new in
      let s : count_by p (part_of (set read d true) a) ≡ count_by p (drop n (t.slots d)) = ap (count_by p) now in
      let z : count_by p (part_of read a) ≡ 0 = ap (count_by p) was in
      let r = past_it (a + 1) m (omega arith) in
      omega arith)
      (λ (ne : a ≢ d).
      let same : part_of (set read d true) a ≡ part_of read a = ap (λ b. cond b (drop n (t.slots a)) []) (get_or-set_other read d a true false ne) in
      let s : count_by p (part_of (set read d true) a) ≡ count_by p (part_of read a) = ap (count_by p) same in
      let r = with_it (a + 1) m (omega arith) (omega arith) within new in
      omega arith)
      (cases_eq a d)

  pub read_more : (m : ℕ) → 1 ≤ d → d < 1 + m → d < length read → mark_at read d ≡ false → count_by p (slots_read t n read m ++ drop n (t.slots d)) ≡ count_by p (slots_read t n (set read d true) m)
  unfolding slots_read
  read_more m low high within new = sum_by-append (λ y. cond (p y) 1 0) (flat_map (part_of read) (range_with_len 1 m)) (drop n (t.slots d)) ∙ sym (with_it 1 m low high within new)

-- no directory was read
pub read_none : (t : Tree) (n : ℕ) (read : List Bool) (m : ℕ) → ((i : ℕ) → mark_at read i ≡ false) → slots_read t n read m ≡ []
unfolding slots_read
read_none t n read m none = go 1 m
  where
    go : (a m : ℕ) → flat_map (λ d. cond (mark_at read d) (drop n (t.slots d)) []) (range_with_len a m) ≡ []
    go a zero = refl
    go a (suc m) = ap (λ b. cond b (drop n (t.slots a)) [] ++ flat_map (λ d. cond (mark_at read d) (drop n (t.slots d)) []) (range_with_len (a + 1) m)) (none a) ∙ go (a + 1) m

-- only the counts matter
pub tallied_same : (types counts : List ℕ) (named : List Bool) (all past all' past' : List Slot) → ((i : ℕ) → count_by (is_slot_of i) all ≡ count_by (is_slot_of i) all') → ((i : ℕ) → count_by (is_slot_of i) past ≡ count_by (is_slot_of i) past')
    → AreTallied types counts named all past → AreTallied types counts named all' past'
tallied_same types counts named all past all' past' same other was = record {
  counts_are = record { each = λ i low lt. was.counts_are.each i low lt ∙ same i };
  few = λ i. subst (λ c. c ≤ 65535) (same i) (was.few i);
  once = record { once = λ i dir. sym (other i) ∙ was.once.once i dir; root = was.once.root };
}
