-- From the entries of a cache to the words of the board.
use Rattle.std.proofs.Common.{◌≡◌, ◌≢◌, ◌⊎◌, inl, inr, ⊎_elim, ℕ, IfSome, ◌+◌, ◌-◌, ◌^◌, ◌<◌, ◌≤◌, Bool, true, false, ◌||◌, ◌&&◌, nat_eq, Option, Some, None, List, length, get_or, set, refl, sym, ◌∙◌, ap, subst, arith, length-drop}
use Rattle.std.proofs.lemmas.Bool.{eqb-true, eqb-false, eq-eqb, ltb-true, ltb-false, true≢false}
use Rattle.std.proofs.Math.Dec.{ltb, eqb}
use Rattle.std.proofs.lemmas.List.{set-get_or, get_or-set_same, get_or-set_other, length-set, get_or_past}
use Rattle.rig.specs.Devices.{Devices, Sizes, with_word}
use Rattle.nvram_map.specs.Overlay.{entries, is_entry, entry_sector, entry_buffer, IsFree, IsFor}
use Rattle.nvram_map.proofs.Overlaid.{made_entry, made_sector, made_buffer, drop-set-two}
use Rattle.nvram_map.specs.Words.{word_of, AreEntries}
use Rattle.presto_cache.specs.Slots.{is_dirty, in_doubt, sector_of, is_some_of, uses, spelled, may_hold, settled, at, AreSlots, IsUnused, AllBelowSectors, fits_word}
use Rattle.presto_cache.specs.Board.{IsOf}
use Rattle.presto_cache.specs.declared.slot.Slot.{Slot}
use Rattle.presto_cache.specs.declared.slot.Slot.TheVariants.{Free, Set, Doubt}

pub or_cases : (a b : Bool) → (a || b) ≡ true → (a ≡ true) ⊎ (b ≡ true)
or_cases true b h = inl refl
or_cases false b h = inr h

pub or_left : (a b : Bool) → a ≡ true → (a || b) ≡ true
or_left true b h = refl
or_left false b h = absurd (true≢false (sym h))

pub or_right : (a b : Bool) → b ≡ true → (a || b) ≡ true
or_right true b h = refl
or_right false b h = h

and_right : (a b : Bool) → (a && b) ≡ true → b ≡ true
and_right true b h = h
and_right false b h = absurd (true≢false (sym h))

-- what a word says of the entry that may hold it
abbrev pub Says : Slot → ℕ → Type 0
Says slot w = (w ≡ 0) ⊎ ((b : ℕ) × (uses slot b ≡ true) × (is_dirty slot ≡ true) × (w ≡ word_of (sector_of slot) b))

option_says : (s : ℕ) (o : Option ℕ) (w : ℕ) → nat_eq w (spelled s o) ≡ true → (w ≡ 0) ⊎ ((b : ℕ) × (is_some_of o b ≡ true) × (w ≡ word_of s b))
option_says s None w h = inl (eqb-true w 0 h)
option_says s (Some b) w h = inr (b, eq-eqb b b refl, eqb-true w (word_of s b) h)

pub says : (slot : Slot) (w : ℕ) → may_hold slot w ≡ true → Says slot w
says Free w h = inl (eqb-true w 0 h)
says (Set s b) w h = inr (b, eq-eqb b b refl, refl, eqb-true w (word_of s b) h)
says (Doubt s o n c) w h = ⊎_elim
    (λ some. ⊎_elim
    (λ older. ⊎_elim (λ z. inl z) (λ x. inr (x.0, or_left (is_some_of o x.0) (is_some_of n x.0) x.1, refl, x.2)) (option_says s o w older))
    (λ newer. ⊎_elim (λ z. inl z) (λ x. inr (x.0, or_right (is_some_of o x.0) (is_some_of n x.0) x.1, refl, x.2)) (option_says s n w newer))
    (or_cases (nat_eq w (spelled s o)) (nat_eq w (spelled s n)) some))
    (λ none. inl (eqb-true w 0 (and_right c (nat_eq w 0) none)))
    (or_cases (nat_eq w (spelled s o) || nat_eq w (spelled s n)) (c && nat_eq w 0) h)

nonzero : (w : ℕ) → is_entry w ≡ true → w ≢ 0
nonzero w is e = true≢false (sym is ∙ ap is_entry e)

-- what a set word says of its entry
pub record Names (slots : List Slot) (i w : ℕ) : Type 0 where
  pub lt : i < length slots
  pub dirty : is_dirty (at slots i) ≡ true
  pub sector : entry_sector w ≡ sector_of (at slots i)
  pub buffer : uses (at slots i) (entry_buffer w) ≡ true
  pub is : w ≡ word_of (sector_of (at slots i)) (entry_buffer w)
  pub entry : is_entry w ≡ true

module _ {buffers : ℕ} {slots : List Slot} {d : Devices} (are : AreSlots buffers slots) (of : IsOf slots d) where
  pub below : (i : ℕ) → get_or (entries d) i 0 ≢ 0 → i < length slots
  below i ne = case (ltb i (length slots)) refl
    where
      case : (b : Bool) → ltb i (length slots) ≡ b → i < length slots
      case true lt = ltb-true i (length slots) lt
      case false ge =
          let past : length slots ≤ i = ltb-false i (length slots) ge in
          absurd (ne (get_or_past (entries d) i 0 (omega (arith, past, of.size, length-drop 2 d.words))))

  pub names : (i : ℕ) → get_or (entries d) i 0 ≢ 0 → Names slots i (get_or (entries d) i 0)
  names i ne = ⊎_elim
      (λ z. absurd (ne z))
      (λ x. let s = sector_of (at slots i) in
      let fits : s < 2 ^ 32 = are.sectors_fit i x.2 in
      let small : x.0 < 2 ^ 16 = omega (arith, are.buffers_fit i x.0 x.1, are.few) in
      let buffer : entry_buffer (get_or (entries d) i 0) ≡ x.0 = ap entry_buffer x.3 ∙ made_buffer x.0 s fits small in
      record {
        lt = below i ne;
        dirty = x.2;
        sector = ap entry_sector x.3 ∙ made_sector x.0 s fits;
        buffer = subst (λ (b : ℕ). uses (at slots i) b ≡ true) (sym buffer) x.1;
        is = x.3 ∙ ap (word_of s) (sym buffer);
        entry = ap is_entry x.3 ∙ made_entry x.0 s;
      })
      (says (at slots i) (get_or (entries d) i 0) (of.each i (below i ne)))

  pub entry_names : (i : ℕ) → is_entry (get_or (entries d) i 0) ≡ true → Names slots i (get_or (entries d) i 0)
  entry_names i is = names i (nonzero (get_or (entries d) i 0) is)

  -- the words are those of a good board
  pub are_entries : (sizes : Sizes) → sizes.buffers ≡ buffers → AllBelowSectors sizes.sectors slots → AreEntries sizes (entries d)
  are_entries sizes same low = record {
    each = λ i ne. let n = names i ne in
        (sector_of (at slots i), entry_buffer (get_or (entries d) i 0), low i n.dirty, omega (arith, same, are.buffers_fit i (entry_buffer (get_or (entries d) i 0)) n.buffer), n.is);
    sectors = λ i j apart ni nj e. let a = names i ni in let b = names j nj in
        are.sectors i j apart a.dirty b.dirty (sym a.sector ∙ e ∙ b.sector);
    buffers = λ i j apart ni nj e. let a = names i ni in let b = names j nj in
        are.buffers_apart i j (entry_buffer (get_or (entries d) i 0)) apart a.buffer (subst (λ (x : ℕ). uses (at slots j) x ≡ true) (sym e) b.buffer);
  }

  pub is_free : (b : ℕ) → IsUnused slots b → IsFree b d
  is_free b unused i is e = true≢false (sym (subst (λ (x : ℕ). uses (at slots i) x ≡ true) e (entry_names i is).buffer) ∙ unused i)

  pub is_for : (i s : ℕ) → ((j : ℕ) → j ≢ i → is_dirty (at slots j) ≡ true → sector_of (at slots j) ≢ s) → (is_dirty (at slots i) ≡ true → sector_of (at slots i) ≡ s) → IsFor i s d
  is_for i s others this = record {
    others = λ j ne is e. others j ne (entry_names j is).dirty (sym (entry_names j is).sector ∙ e);
    this = λ is. (entry_names i is).sector ∙ this (entry_names i is).dirty;
  }

-- the entry that was replaced, and each other
pub at_set : (slots : List Slot) (i j : ℕ) (new : Slot) → i < length slots → ((j ≡ i) × (at (set slots i new) j ≡ new)) ⊎ ((j ≢ i) × (at (set slots i new) j ≡ at slots j))
at_set slots i j new lt = case (eqb j i) refl
  where
    case : (b : Bool) → eqb j i ≡ b → ((j ≡ i) × (at (set slots i new) j ≡ new)) ⊎ ((j ≢ i) × (at (set slots i new) j ≡ at slots j))
    case true is = let e : j ≡ i = eqb-true j i is in inl (e, ap (at (set slots i new)) e ∙ get_or-set_same slots i new Free lt)
    case false differs = inr (eqb-false j i differs, get_or-set_other slots i j new Free (eqb-false j i differs))

module _ (buffers : ℕ) (slots : List Slot) (are : AreSlots buffers slots) (i s : ℕ) (new : Slot) (lt : i < length slots)
    (others : (j : ℕ) → j ≢ i → is_dirty (at slots j) ≡ true → sector_of (at slots j) ≢ s) (of_s : is_dirty new ≡ true → sector_of new ≡ s) (fits : s < 2 ^ 32)
    (taken : (b : ℕ) → uses new b ≡ true → (b < buffers) × ((j : ℕ) → j ≢ i → uses (at slots j) b ≡ true → ⊥)) where
  same_dirty : {x y : Slot} → x ≡ y → is_dirty x ≡ true → is_dirty y ≡ true
  same_dirty e h = sym (ap is_dirty e) ∙ h

  same_uses : {x y : Slot} (b : ℕ) → x ≡ y → uses x b ≡ true → uses y b ≡ true
  same_uses b e h = sym (ap (λ z. uses z b) e) ∙ h

  pub replaced : AreSlots buffers (set slots i new)
  replaced = record {
    count = length-set slots i new ∙ are.count;
    few = are.few;
    sectors = λ j k ne dj dk e. ⊎_elim
        (λ a. ⊎_elim
        (λ b. ne (a.0 ∙ sym b.0))
        (λ b. others k b.0 (same_dirty b.1 dk) (sym (ap sector_of b.1) ∙ sym e ∙ ap sector_of a.1 ∙ of_s (same_dirty a.1 dj)))
        (at_set slots i k new lt))
        (λ a. ⊎_elim
        (λ b. others j a.0 (same_dirty a.1 dj) (sym (ap sector_of a.1) ∙ e ∙ ap sector_of b.1 ∙ of_s (same_dirty b.1 dk)))
        (λ b. are.sectors j k ne (same_dirty a.1 dj) (same_dirty b.1 dk) (sym (ap sector_of a.1) ∙ e ∙ ap sector_of b.1))
        (at_set slots i k new lt))
        (at_set slots i j new lt);
    buffers_apart = λ j k b ne uj uk. ⊎_elim
        (λ a. ⊎_elim
        (λ c. ne (a.0 ∙ sym c.0))
        (λ c. (taken b (same_uses b a.1 uj)).1 k c.0 (same_uses b c.1 uk))
        (at_set slots i k new lt))
        (λ a. ⊎_elim
        (λ c. (taken b (same_uses b c.1 uk)).1 j a.0 (same_uses b a.1 uj))
        (λ c. are.buffers_apart j k b ne (same_uses b a.1 uj) (same_uses b c.1 uk))
        (at_set slots i k new lt))
        (at_set slots i j new lt);
    buffers_fit = λ j b u. ⊎_elim (λ a. (taken b (same_uses b a.1 u)).0) (λ a. are.buffers_fit j b (same_uses b a.1 u)) (at_set slots i j new lt);
    sectors_fit = λ j dj. ⊎_elim
        (λ a. subst (λ (n : ℕ). n < 2 ^ 32) (sym (ap sector_of a.1 ∙ of_s (same_dirty a.1 dj))) fits)
        (λ a. subst (λ (n : ℕ). n < 2 ^ 32) (sym (ap sector_of a.1)) (are.sectors_fit j (same_dirty a.1 dj)))
        (at_set slots i j new lt);
  }

  pub replaced_below : (sectors : ℕ) → s < sectors → AllBelowSectors sectors slots → AllBelowSectors sectors (set slots i new)
  replaced_below sectors small low j dj = ⊎_elim
      (λ a. subst (λ (n : ℕ). n < sectors) (sym (ap sector_of a.1 ∙ of_s (same_dirty a.1 dj))) small)
      (λ a. subst (λ (n : ℕ). n < sectors) (sym (ap sector_of a.1)) (low j (same_dirty a.1 dj)))
      (at_set slots i j new lt)

module _ (slots : List Slot) (i : ℕ) (new : Slot) (lt : i < length slots) (d : Devices) (of : IsOf slots d) where
  -- the words are the same, and the entry's word is one that it may hold
  pub of_same : may_hold new (get_or (entries d) i 0) ≡ true → IsOf (set slots i new) d
  of_same holds = record {
    size = length-set slots i new ∙ of.size;
    each = λ j below. ⊎_elim
        (λ a. ap (λ x. may_hold x (get_or (entries d) j 0)) a.1 ∙ ap (λ k. may_hold new (get_or (entries d) k 0)) a.0 ∙ holds)
        (λ a. ap (λ x. may_hold x (get_or (entries d) j 0)) a.1 ∙ of.each j (omega (arith, below, length-set slots i new)))
        (at_set slots i j new lt);
  }

  pub of_word : (w : ℕ) → may_hold new w ≡ true → IsOf (set slots i new) (with_word d (i + 2) w)
  of_word w holds = record {
    size = length-set slots i new ∙ of.size ∙ sym (ap (λ n. n - 2) (length-set d.words (i + 2) w));
    each = λ j below.
        let es : entries (with_word d (i + 2) w) ≡ set (entries d) i w = drop-set-two d.words i w in
        ⊎_elim
        (λ a. ap (λ x. may_hold x (get_or (entries (with_word d (i + 2) w)) j 0)) a.1 ∙ ap (λ l. may_hold new (get_or l j 0)) es
        ∙ ap (λ k. may_hold new (get_or (set (entries d) i w) k 0)) a.0
        ∙ ap (may_hold new) (get_or-set_same (entries d) i w 0 (omega (arith, lt, of.size, length-drop 2 d.words))) ∙ holds)
        (λ a. ap (λ x. may_hold x (get_or (entries (with_word d (i + 2) w)) j 0)) a.1 ∙ ap (λ l. may_hold (at slots j) (get_or l j 0)) es
        ∙ ap (may_hold (at slots j)) (get_or-set_other (entries d) i j w 0 a.0) ∙ of.each j (omega (arith, below, length-set slots i new)))
        (at_set slots i j new lt);
  }

-- an entry that was looked up in a slice of the entries
pub seen_at : {slots slice : List Slot} (i : ℕ) {slot is : Slot} → slice ≡ slots → slot ≡ at slice i → slot ≡ is → at slots i ≡ is
seen_at i same looked_up is = ap (λ l. at l i) (sym same) ∙ sym looked_up ∙ is

pub taken_at : {slots slice : List Slot} (i : ℕ) {slot : Slot} {taken : Bool} → slice ≡ slots → slot ≡ at slice i → taken ≡ is_dirty slot → taken ≡ is_dirty (at slots i)
taken_at i same looked_up is = is ∙ ap is_dirty (looked_up ∙ ap (λ l. at l i) same)

-- an entry that is sure keeps its word in doubt
pub doubted : (slot : Slot) (s w : ℕ) (n : Option ℕ) (c : Bool) → in_doubt slot ≡ false → (is_dirty slot ≡ true → sector_of slot ≡ s) → may_hold slot w ≡ true → may_hold (Doubt s (settled slot) n c) w ≡ true
doubted Free s w n c sure this h = or_left (nat_eq w 0 || nat_eq w (spelled s n)) (c && nat_eq w 0) (or_left (nat_eq w 0) (nat_eq w (spelled s n)) h)
doubted (Set t b) s w n c sure this h =
    or_left (nat_eq w (word_of s b) || nat_eq w (spelled s n)) (c && nat_eq w 0)
    (or_left (nat_eq w (word_of s b)) (nat_eq w (spelled s n)) (ap (λ x. nat_eq w (word_of x b)) (sym (this refl)) ∙ h))
doubted (Doubt t o m k) s w n c sure this h = absurd (true≢false sure)

pub settled_uses : (slot : Slot) (b : ℕ) → is_some_of (settled slot) b ≡ true → uses slot b ≡ true
settled_uses Free b h = h
settled_uses (Set t a) b h = h
settled_uses (Doubt t o m k) b h = absurd (true≢false (sym h))

-- the words that an entry in doubt may have
pub doubt_words : (s : ℕ) (o n : Option ℕ) (c : Bool) (w : ℕ) → may_hold (Doubt s o n c) w ≡ true → (w ≡ spelled s o) ⊎ (w ≡ spelled s n) ⊎ (w ≡ 0)
doubt_words s o n c w h = ⊎_elim
    (λ some. ⊎_elim (λ older. inl (eqb-true w (spelled s o) older)) (λ newer. inr (inl (eqb-true w (spelled s n) newer))) (or_cases (nat_eq w (spelled s o)) (nat_eq w (spelled s n)) some))
    (λ none. inr (inr (eqb-true w 0 (and_right c (nat_eq w 0) none))))
    (or_cases (nat_eq w (spelled s o) || nat_eq w (spelled s n)) (c && nat_eq w 0) h)

some_below : (n : ℕ) (o : Option ℕ) → ((b : ℕ) → is_some_of o b ≡ true → b < n) → IfSome o (λ b. b < n)
some_below n None low = tt
some_below n (Some b) low = low b (eq-eqb b b refl)

pub fits_few : (n : ℕ) (o : Option ℕ) → n ≤ 2048 → IfSome o (λ b. b < n) → fits_word o
fits_few n None few below = tt
fits_few n (Some b) few below = omega arith

module _ (buffers : ℕ) (slots : List Slot) (are : AreSlots buffers slots) (i s : ℕ) (o n : Option ℕ) (c : Bool) (is : at slots i ≡ Doubt s o n c) where
  pub older_below : IfSome o (λ b. b < buffers)
  older_below = some_below buffers o (λ b h. are.buffers_fit i b (ap (λ x. uses x b) is ∙ or_left (is_some_of o b) (is_some_of n b) h))

  pub newer_below : IfSome n (λ b. b < buffers)
  newer_below = some_below buffers n (λ b h. are.buffers_fit i b (ap (λ x. uses x b) is ∙ or_right (is_some_of o b) (is_some_of n b) h))

pub one_below : (n : ℕ) (r o m : Option ℕ) → (r ≡ o) ⊎ (r ≡ m) ⊎ (r ≡ None) → IfSome o (λ b. b < n) → IfSome m (λ b. b < n) → IfSome r (λ b. b < n)
one_below n r o m (inl e) x y = subst (λ (z : Option ℕ). IfSome z (λ b. b < n)) (sym e) x
one_below n r o m (inr (inl e)) x y = subst (λ (z : Option ℕ). IfSome z (λ b. b < n)) (sym e) y
one_below n r o m (inr (inr e)) x y = subst (λ (z : Option ℕ). IfSome z (λ b. b < n)) (sym e) tt

-- what is known already
pub same_slot : (slots : List Slot) (i : ℕ) → set slots i (at slots i) ≡ slots
same_slot slots i = set-get_or slots i Free
