-- The slots that a board's entries make.
use Rattle.std.proofs.Common.{◌≡◌, ◌≢◌, ⊎_elim, ℕ, zero, suc, ◌+◌, ◌-◌, ◌^◌, ◌<◌, ◌≤◌, Bool, true, false, if◌then◌else◌, nat_eq, List, [], ◌∷◌, ◌++◌, length, get_or, set, replicate, refl, sym, ◌∙◌, ap, subst, arith}
use Rattle.std.proofs.lemmas.Bool.{eqb-true, eq-eqb, ltb-true, ltb-false, true≢false}
use Rattle.std.proofs.Math.Dec.{ltb}
use Rattle.nvram_map.specs.Boards.{FitBuffers, no_entry, entry_at, entries_from}
use Rattle.nvram_map.specs.Overlay.{is_entry, entry_sector, entry_buffer, entries}
use Rattle.nvram_map.specs.Words.{word_of, IsEntryWord}
use Rattle.nvram_map.proofs.Overlaid.{made_entry, made_sector, made_buffer}
use Rattle.rig.specs.Devices.{Devices, Sizes}
use Rattle.presto_cache.specs.Board.{IsOf}
use Rattle.nvram_map.specs.declared.board.BoardEntry.{BoardEntry}
use Rattle.presto_cache.specs.Slots.{at, is_dirty, in_doubt, NoDoubt, sector_of, uses, may_hold, AreSlots, AllBelowSectors}
use Rattle.presto_cache.specs.Made.{slot_from, IsMadeOf, AreReadFrom}
use Rattle.presto_cache.specs.declared.slot.Slot.{Slot}
use Rattle.presto_cache.specs.declared.slot.Slot.TheVariants.{Free, Set, Doubt}
use Rattle.presto_cache.proofs.Slots.{at_set}
use Rattle.presto_cache.proofs.Listing.{by_head, nat_eq_same, nat_eq_other}

from_here : (e : BoardEntry) (es : List BoardEntry) (i : ℕ) → e.index ≡ i → slot_from (e ∷ es) i ≡ Set e.sector e.buffer
from_here e es i h = ap (λ b. if b then Set e.sector e.buffer else slot_from es i) (nat_eq_same e.index i h)

from_there : (e : BoardEntry) (es : List BoardEntry) (i : ℕ) → e.index ≢ i → slot_from (e ∷ es) i ≡ slot_from es i
from_there e es i ne = ap (λ b. if b then Set e.sector e.buffer else slot_from es i) (nat_eq_other e.index i ne)

-- an entry more, of another index than those before it
last_same : (es : List BoardEntry) (e : BoardEntry) → ((k : ℕ) → k < length es → (get_or es k no_entry).index ≢ e.index) → slot_from (es ++ e ∷ []) e.index ≡ Set e.sector e.buffer
last_same [] e apart = from_here e [] e.index refl
last_same (x ∷ xs) e apart = from_there x (xs ++ e ∷ []) e.index (apart 0 (omega arith)) ∙ last_same xs e (λ k lt. apart (suc k) (omega (arith, lt)))

last_other : (es : List BoardEntry) (e : BoardEntry) (i : ℕ) → i ≢ e.index → slot_from (es ++ e ∷ []) i ≡ slot_from es i
last_other [] e i ne = from_there e [] i (λ h. ne (sym h))
last_other (x ∷ xs) e i ne = by_head x.index i
    (λ h. from_here x (xs ++ e ∷ []) i h ∙ sym (from_here x xs i h))
    (λ off. from_there x (xs ++ e ∷ []) i off ∙ last_other xs e i ne ∙ sym (from_there x xs i off))

pub made_more : (es : List BoardEntry) (e : BoardEntry) (slots : List Slot) → e.index < length slots → ((k : ℕ) → k < length es → (get_or es k no_entry).index ≢ e.index)
    → IsMadeOf es slots → IsMadeOf (es ++ e ∷ []) (set slots e.index (Set e.sector e.buffer))
made_more es e slots lt apart made i = ⊎_elim
    (λ here. here.1 ∙ sym (last_same es e apart) ∙ ap (slot_from (es ++ e ∷ [])) (sym here.0))
    (λ there. there.1 ∙ made i ∙ sym (last_other es e i there.0))
    (at_set slots e.index i (Set e.sector e.buffer) lt)

pub below_more : (n i s b : ℕ) (slots : List Slot) → i < length slots → s < n → AllBelowSectors n slots → AllBelowSectors n (set slots i (Set s b))
below_more n i s b slots lt fits below j dirty = ⊎_elim
    (λ here. subst (λ (x : Slot). sector_of x < n) (sym here.1) fits)
    (λ there. subst (λ (x : Slot). sector_of x < n) (sym there.1) (below j (sym (ap is_dirty there.1) ∙ dirty)))
    (at_set slots i j (Set s b) lt)

-- all are free at first
at_free : (n i : ℕ) → at (replicate n Free) i ≡ Free
at_free zero i = refl
at_free (suc n) zero = refl
at_free (suc n) (suc i) = at_free n i

pub made_first : (n : ℕ) → IsMadeOf [] (replicate n Free)
made_first n i = at_free n i

pub below_first : (m n : ℕ) → AllBelowSectors m (replicate n Free)
below_first m n i dirty = absurd (true≢false (sym dirty ∙ ap is_dirty (at_free n i)))

-- the entry that makes a slot
record Maker (board : List BoardEntry) (i : ℕ) (slot : Slot) : Type 0 where
  place : ℕ
  lt : place < length board
  index : (get_or board place no_entry).index ≡ i
  is : slot ≡ Set (get_or board place no_entry).sector (get_or board place no_entry).buffer

maker : (board : List BoardEntry) (i : ℕ) → is_dirty (slot_from board i) ≡ true → Maker board i (slot_from board i)
maker [] i dirty = absurd (true≢false (sym dirty))
maker (e ∷ es) i dirty = by_head e.index i
    (λ h. record { place = 0; lt = omega arith; index = h; is = from_here e es i h })
    (λ ne. let m = maker es i (sym (ap is_dirty (from_there e es i ne)) ∙ dirty) in
    record { place = suc m.place; lt = omega (arith, m.lt); index = m.index; is = from_there e es i ne ∙ m.is })

used_dirty : (slot : Slot) (b : ℕ) → uses slot b ≡ true → is_dirty slot ≡ true
used_dirty Free b u = u
used_dirty (Set s c) b u = refl
used_dirty (Doubt s o n c) b u = refl

set_uses : (s c b : ℕ) → uses (Set s c) b ≡ true → c ≡ b
set_uses s c b u = eqb-true c b u

-- of an equal board
pub same_board : {es board : List BoardEntry} (slots : List Slot) → es ≡ board → IsMadeOf es slots → IsMadeOf board slots
same_board slots same made = subst (λ l. IsMadeOf l slots) same made

module _ {buffers : ℕ} {board : List BoardEntry} (fits : FitBuffers buffers board) (slots : List Slot) (made : IsMadeOf board slots) where
  found : (i : ℕ) → is_dirty (at slots i) ≡ true → Maker board i (at slots i)
  found i dirty = subst (λ (x : Slot). Maker board i x) (sym (made i)) (maker board i (sym (ap is_dirty (made i)) ∙ dirty))

  differ : {P : Type 0} (a b : ℕ) → a ≢ b → (a < b → P) → (b < a → P) → P
  differ {P} a b ne less more = case (ltb a b) refl
    where
      case : (t : Bool) → ltb a b ≡ t → P
      case true is = less (ltb-true a b is)
      case false ge = more (omega (arith, ne, ltb-false a b ge))

  pub made_are : length slots ≡ buffers - 1 → buffers ≤ 2048 → AllBelowSectors (2 ^ 32) slots → AreSlots buffers slots
  made_are count few small = record {
    count = count;
    few = few;
    sectors = λ i j ne di dj e.
        let a = found i di in let b = found j dj in
        let same : (get_or board a.place no_entry).sector ≡ (get_or board b.place no_entry).sector = sym (ap sector_of a.is) ∙ e ∙ ap sector_of b.is in
        differ a.place b.place (λ p. ne (sym a.index ∙ ap (λ n. (get_or board n no_entry).index) p ∙ b.index))
        (λ lt. fits.sectors a.place b.place lt b.lt same) (λ lt. fits.sectors b.place a.place lt a.lt (sym same));
    buffers_apart = λ i j c ne ui uj.
        let a = found i (used_dirty (at slots i) c ui) in let b = found j (used_dirty (at slots j) c uj) in
        let ac = set_uses (get_or board a.place no_entry).sector (get_or board a.place no_entry).buffer c (sym (ap (λ (x : Slot). uses x c) a.is) ∙ ui) in
        let bc = set_uses (get_or board b.place no_entry).sector (get_or board b.place no_entry).buffer c (sym (ap (λ (x : Slot). uses x c) b.is) ∙ uj) in
        differ a.place b.place (λ p. ne (sym a.index ∙ ap (λ n. (get_or board n no_entry).index) p ∙ b.index))
        (λ lt. fits.buffers_differ a.place b.place lt b.lt (ac ∙ sym bc)) (λ lt. fits.buffers_differ b.place a.place lt a.lt (bc ∙ sym ac));
    buffers_fit = λ i c u.
        let a = found i (used_dirty (at slots i) c u) in
        let ac = set_uses (get_or board a.place no_entry).sector (get_or board a.place no_entry).buffer c (sym (ap (λ (x : Slot). uses x c) a.is) ∙ u) in
        subst (λ (n : ℕ). n < buffers) ac (fits.buffer_fits a.place a.lt);
    sectors_fit = small;
  }

  pub made_below : (sectors : ℕ) → ((k : ℕ) → k < length board → (get_or board k no_entry).sector < sectors) → AllBelowSectors sectors slots
  made_below sectors low i dirty = let m = found i dirty in subst (λ (n : ℕ). n < sectors) (sym (ap sector_of m.is)) (low m.place m.lt)

sure_from : (board : List BoardEntry) (i : ℕ) → in_doubt (slot_from board i) ≡ false
sure_from [] i = refl
sure_from (e ∷ es) i = by_head e.index i (λ h. ap in_doubt (from_here e es i h)) (λ ne. ap in_doubt (from_there e es i ne) ∙ sure_from es i)

pub made_sure : (board : List BoardEntry) (slots : List Slot) → IsMadeOf board slots → NoDoubt slots
made_sure board slots made i = ap in_doubt (made i) ∙ sure_from board i

-- a word as it is known once it was read
abbrev known_word : ℕ → Slot
known_word w = if is_entry w then Set (entry_sector w) (entry_buffer w) else Free

none_before : (es : List ℕ) (k i : ℕ) → i < k → slot_from (entries_from k es) i ≡ Free
none_before [] k i lt = refl
none_before (w ∷ ws) k i lt = case (is_entry w) (none_before ws (suc k) i (omega (arith, lt)))
  where
    case : (b : Bool) → slot_from (entries_from (suc k) ws) i ≡ Free → slot_from (if b then entry_at k w ∷ entries_from (suc k) ws else entries_from (suc k) ws) i ≡ Free
    case true rest = from_there (entry_at k w) (entries_from (suc k) ws) i (λ e. omega (arith, e, lt)) ∙ rest
    case false rest = rest

from_words : (es : List ℕ) (k i : ℕ) → slot_from (entries_from k es) (k + i) ≡ known_word (get_or es i 0)
from_words [] k i = refl
from_words (w ∷ ws) k zero = case (is_entry w) refl
  where
    case : (b : Bool) → is_entry w ≡ b → slot_from (if b then entry_at k w ∷ entries_from (suc k) ws else entries_from (suc k) ws) (k + 0) ≡ (if b then Set (entry_sector w) (entry_buffer w) else Free)
    case true is = from_here (entry_at k w) (entries_from (suc k) ws) (k + 0) (omega arith)
    case false off = none_before ws (suc k) (k + 0) (omega arith)
from_words (w ∷ ws) k (suc i) = case (is_entry w) (ap (slot_from (entries_from (suc k) ws)) (sym next) ∙ from_words ws (suc k) i)
  where
    next : suc k + i ≡ k + suc i
    next = omega arith

    case : (b : Bool) → slot_from (entries_from (suc k) ws) (k + suc i) ≡ known_word (get_or ws i 0) → slot_from (if b then entry_at k w ∷ entries_from (suc k) ws else entries_from (suc k) ws) (k + suc i) ≡ known_word (get_or ws i 0)
    case true rest = from_there (entry_at k w) (entries_from (suc k) ws) (k + suc i) (λ e. omega (arith, e)) ∙ rest
    case false rest = rest

module _ {sizes : Sizes} (few : sizes.buffers ≤ 2048) {board : List BoardEntry} {d : Devices} (read : AreReadFrom sizes board d) where
  word_known : (w : ℕ) → (w ≢ 0 → IsEntryWord sizes w) → may_hold (known_word w) w ≡ true
  word_known w good = by_head w 0
      (λ zero_word. subst (λ (n : ℕ). may_hold (known_word n) n ≡ true) (sym zero_word) refl)
      (λ ne. let g = good ne in entry_known g.0 g.1 (omega (arith, g.2, read.sectors)) (omega (arith, g.3, few)) g.4)
    where
      entry_known : (s b : ℕ) → s < 2 ^ 32 → b < 2 ^ 16 → w ≡ word_of s b → may_hold (known_word w) w ≡ true
      entry_known s b s_fits b_fits is =
          let entry : is_entry w ≡ true = ap is_entry is ∙ made_entry b s in
          let sector : entry_sector w ≡ s = ap entry_sector is ∙ made_sector b s s_fits in
          let buffer : entry_buffer w ≡ b = ap entry_buffer is ∙ made_buffer b s s_fits b_fits in
          ap (λ t. may_hold (if t then Set (entry_sector w) (entry_buffer w) else Free) w) entry
          ∙ ap (λ n. nat_eq w (word_of n (entry_buffer w))) sector ∙ ap (λ n. nat_eq w (word_of s n)) buffer ∙ eq-eqb w (word_of s b) is

  pub made_of : (slots : List Slot) → IsMadeOf board slots → length slots ≡ sizes.buffers - 1 → IsOf slots d
  made_of slots made count = record {
    size = count ∙ sym read.words;
    each = λ i lt.
        let from : at slots i ≡ known_word (get_or (entries d) i 0) = made i ∙ ap (λ (l : List BoardEntry). slot_from l i) read.read ∙ ap (slot_from (entries_from 0 (entries d))) (plain i) ∙ from_words (entries d) 0 i in
        ap (λ (x : Slot). may_hold x (get_or (entries d) i 0)) from ∙ word_known (get_or (entries d) i 0) (read.entries_are.each i);
  }
    where
      plain : (i : ℕ) → i ≡ 0 + i
      plain i = omega arith
