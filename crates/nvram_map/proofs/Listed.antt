-- The entries of a list of words, and what a loop over the words knows of them.
use Rattle.std.proofs.Common.{◌≡◌, ◌≢◌, ◌⊎◌, inl, inr, ⊎_elim, ℕ, zero, suc, ◌+◌, ◌^◌, ◌<◌, ◌≤◌, Bool, true, false, if◌then◌else◌, List, [], ◌∷◌, ◌++◌, length, get_or, take, refl, sym, ◌∙◌, ap, subst, arith, Ok, Err}
use Rattle.std.proofs.lemmas.List.{get_or-take, get_or_default, get_or_past, take_more, take_all, length-take, append-nil}
use Rattle.std.proofs.lemmas.Bool.{cases_lt, cases_eq, cases_order}
use borrow.Author.Count.{below_more}
use Rattle.rig.specs.Devices.{Devices, Sizes}
use Rattle.nvram_map.specs.Overlay.{is_entry, entries, entry_sector, entry_buffer}
use Rattle.nvram_map.specs.Words.{word_of, mark, name_word, IsEntryWord, AreEntries, IsGood, IsFirstBad}
use Rattle.nvram_map.specs.Boards.{entry_at, entries_from, no_entry, IsTold}
use Rattle.nvram_map.specs.Judged.{AreUnused, IsAdded, IsRefused, AreTold}
use Rattle.nvram_map.specs.declared.board.BoardEntry.{BoardEntry}
use Rattle.nvram_map.specs.declared.fault.BoardFault.{BoardFault}
use Rattle.nvram_map.specs.declared.fault.BoardFault.TheVariants.{Lost, NotFormatted, WrongVolume, BadEntry, Failed, NoMemory}
use Rattle.nvram_map.proofs.Overlaid.{made_entry, made_sector, made_buffer}

module _ (a w : ℕ) (ws : List ℕ) where
  pub set_first : is_entry w ≡ true → entries_from a (w ∷ ws) ≡ entry_at a w ∷ entries_from (suc a) ws
  set_first is = ap (λ b. if b then entry_at a w ∷ entries_from (suc a) ws else entries_from (suc a) ws) is

  pub free_first : is_entry w ≡ false → entries_from a (w ∷ ws) ≡ entries_from (suc a) ws
  free_first is = ap (λ b. if b then entry_at a w ∷ entries_from (suc a) ws else entries_from (suc a) ws) is

pub entries_append : (a : ℕ) (xs ys : List ℕ) → entries_from a (xs ++ ys) ≡ entries_from a xs ++ entries_from (a + length xs) ys
entries_append a [] ys = ap (λ n. entries_from n ys) plain
  where
    plain : a ≡ a + 0
    plain = omega arith
entries_append a (x ∷ xs) ys = at (entries_append (suc a) xs ys) (is_entry x) refl
  where
    along : suc a + length xs ≡ a + suc (length xs)
    along = omega arith

    moved : entries_from (suc a) (xs ++ ys) ≡ entries_from (suc a) xs ++ entries_from (suc a + length xs) ys → entries_from (suc a) (xs ++ ys) ≡ entries_from (suc a) xs ++ entries_from (a + suc (length xs)) ys
    moved rest = rest ∙ ap (λ n. entries_from (suc a) xs ++ entries_from n ys) along

    at : entries_from (suc a) (xs ++ ys) ≡ entries_from (suc a) xs ++ entries_from (suc a + length xs) ys → (b : Bool) → is_entry x ≡ b → entries_from a (x ∷ (xs ++ ys)) ≡ entries_from a (x ∷ xs) ++ entries_from (a + suc (length xs)) ys
    at rest true is = set_first a x (xs ++ ys) is ∙ ap (λ l. entry_at a x ∷ l) (moved rest) ∙ ap (λ l. l ++ entries_from (a + suc (length xs)) ys) (sym (set_first a x xs is))
    at rest false is = free_first a x (xs ++ ys) is ∙ moved rest ∙ ap (λ l. l ++ entries_from (a + suc (length xs)) ys) (sym (free_first a x xs is))

-- 0 is no entry
pub zero_free : is_entry 0 ≡ false
zero_free = refl

-- each set word has its entry
abbrev pub HasItsEntry : ℕ → ℕ → List BoardEntry → Type 0
HasItsEntry index word board = (k : ℕ) × (k < length board) × (get_or board k no_entry ≡ entry_at index word)

pub entry_of_word : (a : ℕ) (ws : List ℕ) (j : ℕ) → is_entry (get_or ws j 0) ≡ true → HasItsEntry (a + j) (get_or ws j 0) (entries_from a ws)
entry_of_word a [] j is = absurd (cc (is, zero_free))
entry_of_word a (w ∷ ws) zero is = subst (HasItsEntry (a + 0) w) (sym (set_first a w ws is)) (0, omega arith, ap (λ n. entry_at n w) plain)
  where
    plain : a ≡ a + 0
    plain = omega arith
entry_of_word a (w ∷ ws) (suc j) is = at (subst (λ n. HasItsEntry n (get_or ws j 0) (entries_from (suc a) ws)) along (entry_of_word (suc a) ws j is)) (is_entry w) refl
  where
    along : suc a + j ≡ a + suc j
    along = omega arith

    at : HasItsEntry (a + suc j) (get_or ws j 0) (entries_from (suc a) ws) → (b : Bool) → is_entry w ≡ b → HasItsEntry (a + suc j) (get_or ws j 0) (entries_from a (w ∷ ws))
    at rest true set = subst (HasItsEntry (a + suc j) (get_or ws j 0)) (sym (set_first a w ws set)) (suc rest.0, omega (arith, rest.1), rest.2)
    at rest false free = subst (HasItsEntry (a + suc j) (get_or ws j 0)) (sym (free_first a w ws free)) rest

-- each entry is that of a set word
abbrev pub IsOfAWord : ℕ → List ℕ → BoardEntry → Type 0
IsOfAWord a ws entry = (j : ℕ) × (j < length ws) × (is_entry (get_or ws j 0) ≡ true) × (entry ≡ entry_at (a + j) (get_or ws j 0))

pub word_of_entry : (a : ℕ) (ws : List ℕ) (k : ℕ) → k < length (entries_from a ws) → IsOfAWord a ws (get_or (entries_from a ws) k no_entry)
word_of_entry a [] k lt = absurd (omega arith)
word_of_entry a (w ∷ ws) k lt = at (λ m within. word_of_entry (suc a) ws m within) (is_entry w) refl
  where
    one_on : (entry : BoardEntry) → IsOfAWord (suc a) ws entry → IsOfAWord a (w ∷ ws) entry
    one_on entry of = (suc of.0, omega (arith, of.1), of.2, of.3 ∙ ap (λ n. entry_at n (get_or ws of.0 0)) along)
      where
        along : suc a + of.0 ≡ a + suc of.0
        along = omega arith

    among : ((m : ℕ) → m < length (entries_from (suc a) ws) → IsOfAWord (suc a) ws (get_or (entries_from (suc a) ws) m no_entry)) → (k : ℕ) → is_entry w ≡ true → k < length (entry_at a w ∷ entries_from (suc a) ws) → IsOfAWord a (w ∷ ws) (get_or (entry_at a w ∷ entries_from (suc a) ws) k no_entry)
    among rest zero set within = (0, omega arith, set, ap (λ n. entry_at n w) plain)
      where
        plain : a ≡ a + 0
        plain = omega arith
    among rest (suc m) set within = one_on (get_or (entries_from (suc a) ws) m no_entry) (rest m (omega (arith, within)))

    at : ((m : ℕ) → m < length (entries_from (suc a) ws) → IsOfAWord (suc a) ws (get_or (entries_from (suc a) ws) m no_entry)) → (b : Bool) → is_entry w ≡ b → IsOfAWord a (w ∷ ws) (get_or (entries_from a (w ∷ ws)) k no_entry)
    at rest true set =
        let P : List BoardEntry → Type 0 = λ l. k < length l → IsOfAWord a (w ∷ ws) (get_or l k no_entry) in
        subst P (sym (set_first a w ws set)) (among rest k set) lt
    at rest false free =
        let P : List BoardEntry → Type 0 = λ l. k < length l → IsOfAWord a (w ∷ ws) (get_or l k no_entry) in
        subst P (sym (free_first a w ws free)) (λ within. one_on (get_or (entries_from (suc a) ws) k no_entry) (rest k within)) lt

-- the words below i are good, and these are their entries
pub record IsListed (sizes : Sizes) (words : List ℕ) (i : ℕ) (board : List BoardEntry) : Type 0 where
  pub list : board ≡ entries_from 0 (take i words)
  pub good : (j : ℕ) → j < i → IsGood sizes words j

pub listed_none : (sizes : Sizes) (words : List ℕ) → IsListed sizes words 0 []
listed_none sizes words = record { list = refl; good = λ j lt. absurd (omega arith) }

-- a set word of a board is an entry
pub entry_word_is : (sizes : Sizes) (word : ℕ) → IsEntryWord sizes word → is_entry word ≡ true
entry_word_is sizes word is = ap is_entry is.4 ∙ made_entry is.1 is.0

module _ (sizes : Sizes) (words : List ℕ) (i : ℕ) (board : List BoardEntry) (within : i < length words) (listed : IsListed sizes words i board) where
  -- of the entries so far none has what a set word below has
  below_differ : (sector buffer : ℕ) → AreUnused sector buffer board → (j : ℕ) → j < i → get_or words j 0 ≢ 0 → (entry_sector (get_or words j 0) ≢ sector) × (entry_buffer (get_or words j 0) ≢ buffer)
  below_differ sector buffer unused j lt some =
      let same : get_or (take i words) j 0 ≡ get_or words j 0 = get_or-take i words j 0 lt in
      let is : is_entry (get_or (take i words) j 0) ≡ true = ap is_entry same ∙ entry_word_is sizes (get_or words j 0) ((listed.good j lt).entry some) in
      let its : HasItsEntry (0 + j) (get_or (take i words) j 0) (entries_from 0 (take i words)) = entry_of_word 0 (take i words) j is in
      let there : AreUnused sector buffer (entries_from 0 (take i words)) = subst (AreUnused sector buffer) listed.list unused in
      let differs = there its.0 no_entry its.1 in
      let entry : get_or (entries_from 0 (take i words)) its.0 no_entry ≡ entry_at (0 + j) (get_or words j 0) = its.2 ∙ ap (entry_at (0 + j)) same in
      (λ e. differs.0 (ap (λ (b : BoardEntry). b.sector) entry ∙ e), λ e. differs.1 (ap (λ (b : BoardEntry). b.buffer) entry ∙ e))

  -- and the other way round
  below_unused : (sector buffer : ℕ) → ((j : ℕ) → j < i → get_or words j 0 ≢ 0 → (entry_sector (get_or words j 0) ≢ sector) × (entry_buffer (get_or words j 0) ≢ buffer)) → AreUnused sector buffer board
  below_unused sector buffer differ = subst (AreUnused sector buffer) (sym listed.list) all
    where
      all : AreUnused sector buffer (entries_from 0 (take i words))
      all k d lt =
          let of : IsOfAWord 0 (take i words) (get_or (entries_from 0 (take i words)) k no_entry) = word_of_entry 0 (take i words) k lt in
          let low : of.0 < i = omega (arith, of.1, length-take i words) in
          let same : get_or (take i words) of.0 0 ≡ get_or words of.0 0 = get_or-take i words of.0 0 low in
          let some : get_or words of.0 0 ≢ 0 = λ none. cc (of.2, ap is_entry (same ∙ none), zero_free) in
          let entry : get_or (entries_from 0 (take i words)) k d ≡ entry_at (0 + of.0) (get_or words of.0 0) =
          get_or_default (entries_from 0 (take i words)) k d no_entry lt ∙ of.3 ∙ ap (entry_at (0 + of.0)) same in
          let differs = differ of.0 low some in
          (λ e. differs.0 (sym (ap (λ (b : BoardEntry). b.sector) entry) ∙ e), λ e. differs.1 (sym (ap (λ (b : BoardEntry). b.buffer) entry) ∙ e))

  one_more_word : take (i + 1) words ≡ take i words ++ get_or words i 0 ∷ []
  one_more_word = take_more words i 0 within

  so_many : 0 + length (take i words) ≡ i
  so_many = omega (arith, length-take i words)

  more_list : entries_from 0 (take (i + 1) words) ≡ board ++ entries_from i (get_or words i 0 ∷ [])
  more_list =
      ap (entries_from 0) one_more_word ∙ entries_append 0 (take i words) (get_or words i 0 ∷ [])
      ∙ ap (λ n. entries_from 0 (take i words) ++ entries_from n (get_or words i 0 ∷ [])) so_many
      ∙ ap (λ l. l ++ entries_from i (get_or words i 0 ∷ [])) (sym listed.list)

  more_good : IsGood sizes words i → (j : ℕ) → j < i + 1 → IsGood sizes words j
  more_good here = below_more (IsGood sizes words) i listed.good here

  module _ (word : ℕ) (is : word ≡ get_or words i 0) where
    pub listed_more : (new : List BoardEntry) → IsAdded sizes board i word new → IsListed sizes words (i + 1) new
    listed_more new (inl free) =
        let none : get_or words i 0 ≡ 0 = sym is ∙ free.0 in
        record {
          list = free.1 ∙ sym (append-nil board) ∙ ap (λ l. board ++ l) (sym (free_first i (get_or words i 0) [] (ap is_entry none ∙ zero_free))) ∙ sym more_list;
          good = more_good record { entry = λ some. absurd (some none); sector = λ j lt some other e. some none; buffer = λ j lt some other e. some none };
        }
    listed_more new (inr set) =
        let entry : IsEntryWord sizes word = (entry_sector word, entry_buffer word, set.0.on_disk, set.0.on_board, set.0.word_is) in
        let is_set : is_entry (get_or words i 0) ≡ true = ap is_entry (sym is) ∙ entry_word_is sizes word entry in
        record {
          list = set.2 ∙ ap (λ w. board ++ entry_at i w ∷ []) is ∙ ap (λ l. board ++ l) (sym (set_first i (get_or words i 0) [] is_set)) ∙ sym more_list;
          good = more_good record {
            entry = λ some. subst (IsEntryWord sizes) is entry;
            sector = λ j lt some other e. (below_differ (entry_sector word) (entry_buffer word) set.1 j lt other).0 (sym e ∙ ap entry_sector (sym is));
            buffer = λ j lt some other e. (below_differ (entry_sector word) (entry_buffer word) set.1 j lt other).1 (sym e ∙ ap entry_buffer (sym is));
          };
        }

    first_bad : (word ≢ 0) → (IsEntryWord sizes word → AreUnused (entry_sector word) (entry_buffer word) board → ⊥) → IsFirstBad sizes words i
    first_bad some refused = record {
      bad = λ good.
          let here : get_or words i 0 ≢ 0 = λ none. some (is ∙ none) in
          refused (subst (IsEntryWord sizes) (sym is) (good.entry here)) (below_unused (entry_sector word) (entry_buffer word) (λ j lt other.
          (λ e. good.sector j lt here other (ap entry_sector (sym is) ∙ sym e), λ e. good.buffer j lt here other (ap entry_buffer (sym is) ∙ sym e))));
      lower = listed.good;
    }

    pub listed_bad : (fault : BoardFault) → IsRefused sizes board i word fault → AreTold sizes words (Err fault)
    listed_bad (BadEntry j bad) refused = (
      refused.1 ∙ is ∙ ap (λ n. get_or words n 0) (sym refused.0),
      subst (IsFirstBad sizes words) (sym refused.0) (first_bad refused.2 refused.3),
    )
    listed_bad NoMemory refused = tt
    listed_bad Lost refused = refused
    listed_bad (NotFormatted first) refused = refused
    listed_bad (WrongVolume other volume) refused = refused
    listed_bad Failed refused = absurd refused

-- a word past the end is good
pub all_good : (sizes : Sizes) (words : List ℕ) → ((j : ℕ) → j < length words → IsGood sizes words j) → (j : ℕ) → IsGood sizes words j
all_good sizes words good j = ⊎_elim (λ low. good j low) past (cases_lt j (length words))
  where
    past : length words ≤ j → IsGood sizes words j
    past le =
        let none : get_or words j 0 ≡ 0 = get_or_past words j 0 le in
        record { entry = λ some. absurd (some none); sector = λ k lt some other e. some none; buffer = λ k lt some other e. some none }

-- good words are entries of a board
pub good_entries : (sizes : Sizes) (words : List ℕ) → ((j : ℕ) → IsGood sizes words j) → AreEntries sizes words
good_entries sizes words good = record {
  each = λ i. (good i).entry;
  sectors = λ i j differ some other e. ⊎_elim (λ lt. (good j).sector i lt other some (sym e)) (λ lt. (good i).sector j lt some other e) (cases i j differ);
  buffers = λ i j differ some other e. ⊎_elim (λ lt. (good j).buffer i lt other some (sym e)) (λ lt. (good i).buffer j lt some other e) (cases i j differ);
}
  where
    cases : (i j : ℕ) → i ≢ j → (i < j) ⊎ (j < i)
    cases i j differ = ⊎_elim (λ same. absurd (differ same)) (λ order. order) (cases_order i j)

pub listed_all : (sizes : Sizes) (words : List ℕ) (i : ℕ) (board : List BoardEntry) → length words ≤ i → IsListed sizes words i board → AreTold sizes words (Ok board)
listed_all sizes words i board all listed = (
  good_entries sizes words (all_good sizes words (λ j lt. listed.good j (omega arith))),
  listed.list ∙ ap (entries_from 0) (take_all i words all),
)

-- a fault of the entries is one of the board, whose head is right
pub told_fault : (sizes : Sizes) (volume : List ℕ) (d : Devices) (fault : BoardFault) → d.kept ≡ true → get_or d.words 0 0 ≡ mark → get_or d.words 1 0 ≡ name_word volume → AreTold sizes (entries d) (Err fault) → IsTold sizes volume d (Err fault)
told_fault sizes volume d (BadEntry i bad) kept marked is_named told = (kept, marked, is_named, told.0, told.1)
told_fault sizes volume d NoMemory kept marked is_named told = tt
told_fault sizes volume d Failed kept marked is_named told = tt
told_fault sizes volume d Lost kept marked is_named told = absurd told
told_fault sizes volume d (NotFormatted first) kept marked is_named told = absurd told
told_fault sizes volume d (WrongVolume other name) kept marked is_named told = absurd told

module _ (sizes : Sizes) (words : List ℕ) (sectors_fit : sizes.sectors ≤ 2 ^ 32) (buffers_fit : sizes.buffers ≤ 2 ^ 16) (entries_are : AreEntries sizes words) where
  entry_word_of : (word : ℕ) → IsEntryWord sizes word → word ≡ word_of (entry_sector word) (entry_buffer word)
  entry_word_of word is =
      let sector : entry_sector word ≡ is.0 = ap entry_sector is.4 ∙ made_sector is.1 is.0 (omega (arith, is.2)) in
      let buffer : entry_buffer word ≡ is.1 = ap entry_buffer is.4 ∙ made_buffer is.1 is.0 (omega (arith, is.2)) (omega (arith, is.3)) in
      is.4 ∙ ap (λ s. word_of s is.1) (sym sector) ∙ ap (λ b. word_of (entry_sector word) b) (sym buffer)

  -- at an entry's index stands its word
  pub set_word : (k : ℕ) → k < length (entries_from 0 words) → let entry = get_or (entries_from 0 words) k no_entry in get_or words entry.index 0 ≡ word_of entry.sector entry.buffer
  set_word k lt =
      let of = word_of_entry 0 words k lt in
      let some : get_or words of.0 0 ≢ 0 = λ none. cc (of.2, ap is_entry none, zero_free) in
      let plain : 0 + of.0 ≡ of.0 = omega arith in
      ap (λ (e : BoardEntry). get_or words e.index 0) of.3 ∙ ap (λ i. get_or words i 0) plain ∙ entry_word_of (get_or words of.0 0) (entries_are.each of.0 some) ∙ ap (λ (e : BoardEntry). word_of e.sector e.buffer) (sym of.3)

  -- and where no entry has the index stands 0
  pub free_word : (i : ℕ) → ((k : ℕ) → k < length (entries_from 0 words) → (get_or (entries_from 0 words) k no_entry).index ≢ i) → get_or words i 0 ≡ 0
  free_word i none = ⊎_elim (λ is. is) (λ some. absurd (taken some)) (cases_eq (get_or words i 0) 0)
    where
      taken : get_or words i 0 ≢ 0 → ⊥
      taken some =
          let its = entry_of_word 0 words i (entry_word_is sizes (get_or words i 0) (entries_are.each i some)) in
          let plain : 0 + i ≡ i = omega arith in
          none its.0 its.1 (ap (λ (e : BoardEntry). e.index) its.2 ∙ plain)
