-- As many entries are dirty in a cache that was made as words are set.
use Rattle.std.proofs.Common.{◌≡◌, ⊎_elim, ℕ, suc, ◌+◌, ◌<◌, Bool, true, false, cond, if◌then◌else◌, List, [], ◌∷◌, length, get_or, refl, sym, ◌∙◌, ap, arith, length-drop}
use Rattle.std.proofs.lemmas.Bool.{true≢false, eqb-true}
use Rattle.std.proofs.lemmas.List.Recursion.{is_count_by}
use Rattle.rig.specs.Devices.{Devices}
use Rattle.nvram_map.specs.Overlay.{entries, is_entry}
use Rattle.nvram_map.specs.Words.{word_of}
use Rattle.nvram_map.specs.Boards.{entries_from}
use Rattle.nvram_map.specs.declared.board.BoardEntry.{BoardEntry}
use Rattle.nvram_map.proofs.Listed.{free_first, set_first, zero_free}
use Rattle.nvram_map.proofs.Overlaid.{made_entry}
use Rattle.presto_cache.specs.Board.{IsOf}
use Rattle.presto_cache.specs.Cache.{slots_of}
use Rattle.presto_cache.specs.Entries.{entries_in}
use Rattle.presto_cache.specs.Order.{listed}
use Rattle.presto_cache.specs.Slots.{at, is_dirty, in_doubt, may_hold, NoDoubt}
use Rattle.presto_cache.specs.declared.slot.Slot.{Slot}
use Rattle.presto_cache.specs.declared.slot.Slot.TheVariants.{Free, Set, Doubt}
use Rattle.presto_cache.specs.declared.cache.Cache.{Cache}
use Rattle.presto_cache.proofs.Counting.{listed_count}
use Rattle.presto_unit.specs.Shown.{dirty_in}
use Rattle.presto_recover.specs.Boards.{found_in, IsLoss}

slot_word : (slot : Slot) (w : ℕ) → in_doubt slot ≡ false → may_hold slot w ≡ true → is_dirty slot ≡ is_entry w
slot_word Free w sure holds = sym (ap is_entry (eqb-true w 0 holds) ∙ zero_free)
slot_word (Set s b) w sure holds = sym (ap is_entry (eqb-true w (word_of s b) holds) ∙ made_entry b s)
slot_word (Doubt s o n c) w sure holds = absurd (true≢false sure)

abbrev dirty_slots : List Slot → ℕ
dirty_slots [] = 0
dirty_slots (s ∷ ss) = cond (is_dirty s) (1 + dirty_slots ss) (dirty_slots ss)

dirty_words : (slots : List Slot) (words : List ℕ) (a : ℕ) → length slots ≡ length words → ((i : ℕ) → i < length slots → is_dirty (at slots i) ≡ is_entry (get_or words i 0)) → dirty_slots slots ≡ length (entries_from a words)
dirty_words [] [] a same each = refl
dirty_words [] (w ∷ words) a same each = absurd (omega (arith, same))
dirty_words (s ∷ slots) [] a same each = absurd (omega (arith, same))
dirty_words (s ∷ slots) (w ∷ words) a same each = case (dirty_words slots words (suc a) (omega (arith, same)) (λ i lt. each (suc i) (omega (arith, lt)))) (is_entry w) refl
  where
    case : (rest : dirty_slots slots ≡ length (entries_from (suc a) words)) → (b : Bool) → is_entry w ≡ b → cond (is_dirty s) (1 + dirty_slots slots) (dirty_slots slots) ≡ length (entries_from a (w ∷ words))
    case rest true on =
        let e = ap length (set_first a w words on) in
        ap (λ c. cond c (1 + dirty_slots slots) (dirty_slots slots)) (each 0 (omega arith) ∙ on) ∙ omega (arith, e, rest)
    case rest false off =
        let e = ap length (free_first a w words off) in
        ap (λ c. cond c (1 + dirty_slots slots) (dirty_slots slots)) (each 0 (omega arith) ∙ off) ∙ omega (arith, e, rest)

length_entries : (slots : List Slot) (order : List ℕ) → length (entries_in slots order) ≡ length order
length_entries slots [] = refl
length_entries slots (x ∷ xs) = ap suc (length_entries slots xs)

pub cache_counts : (cache : Cache) (d : Devices) → IsOf (slots_of cache) d → NoDoubt (slots_of cache) → dirty_in cache ≡ length (entries_from 0 (entries d))
cache_counts cache d of sure =
    let slots = slots_of cache in
    length_entries slots (listed cache.order) ∙ listed_count slots (listed cache.order) cache.ordered ∙ sym (is_count_by dirty_slots is_dirty refl (λ s ss. refl) slots)
    ∙ dirty_words slots (entries d) 0 (omega (arith, of.size, length-drop 2 d.words)) (λ i lt. slot_word (at slots i) (get_or (entries d) i 0) (sure i) (of.each i lt))

-- the entries of the board that was found
pub found_entries : (old mid : Devices) (board : List BoardEntry) (lost kept accepted : Bool) → board ≡ entries_from 0 (entries mid)
    → IsLoss lost kept accepted → old.kept ≡ kept → (lost ≡ true → board ≡ []) → (lost ≡ false → mid ≡ old) → board ≡ found_in old
found_entries old mid board lost kept accepted read loss kept_is empty same = ⊎_elim
    (λ gone. empty gone.0 ∙ sym (ap (λ (b : Bool). if b then entries_from 0 (entries old) else []) (kept_is ∙ gone.1)))
    (λ here. read ∙ ap (λ (e : Devices). entries_from 0 (entries e)) (same here.0) ∙ sym (ap (λ (b : Bool). if b then entries_from 0 (entries old) else []) (kept_is ∙ here.1)))
    loss
