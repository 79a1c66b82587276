-- What a reading of all walked directories tells of their tests.
use Rattle.std.proofs.Common.{◌≡◌, ◌≢◌, ℕ, ◌-◌, ◌<◌, ◌≤◌, Bool, true, false, cond, ◌&&◌, ◌==◌, List, [], ◌++◌, length, get_or, drop, map, append-nil, refl, sym, ap, subst, ◌∙◌, arith, ⊎_elim, eq-eqb, None}
use Rattle.std.specs.Prelude.{set, count_by, replicate}
use Rattle.std.specs.List.{range_with_len, flat_map}
use Rattle.std.proofs.lemmas.Bool.{cases_eq, cases_lt, ne_eqb}
use Rattle.std.proofs.lemmas.List.{get_or_past, get_or-set_same, get_or-set_other, get_or-replicate, length-replicate}
use Rattle.stable.specs.Store.{Image}
use Rattle.v7_layout.specs.declared.slot.Slot.{Slot as Stored}
use Rattle.files_model.specs.Files.{Slot}
use Rattle.v7_map.specs.Frame.{Frame, frame}
use Rattle.v7_map.specs.Weak.{parent, slot_at}
use Rattle.v7_map.specs.Tree.{Tree, tree, is_slot_of, is_walked, is_child, seen_in}
use Rattle.v7_damage.specs.Marks.{mark_at}
use Rattle.v7_damage.specs.Slots.{seen_slot, names}
use Rattle.v7_damage.specs.Walk.{AreWalked, is_dir_in}
use Rattle.v7_damage.specs.Names.{AreTypes, AreCounts, begins_with_dots, is_held, slots_until, tests_of_directories}
use Rattle.v7_damage.specs.Tallied.{AreTallied, HasRead, HasTallyRoom, IsCovered, IsNoTally, is_good, slots_read}
use Rattle.v7_damage.specs.Tests.{first_failing}
use Rattle.v7_damage.specs.declared.tally.Tally.{Tally}
use Rattle.v7_damage.specs.declared.walk.Walks.{Walks}
use Rattle.v7_damage.proofs.HeldSteps.{child-seen, walked-number}
use Rattle.v7_damage.proofs.TallyTests.{all_hold}
use Rattle.v7_damage.proofs.Tallying.{read_none, read_more, tallied_same}
use Rattle.v7_damage.proofs.WalkSteps.{no-marks}

-- ---- before the first directory

zero-at : (n i : ℕ) → ◌≡◌ {A = ℕ} (get_or (replicate n 0) i 0) 0
zero-at n i = ⊎_elim (λ (lt : i < n). get_or-replicate n i 0 0 lt) (λ (ge : n ≤ i). get_or_past (replicate n 0) i 0 (let l : length (replicate {A = ℕ} n 0) ≡ n = length-replicate n 0 in omega arith)) (cases_lt i n)

pub nothing_read : (f : Frame) (types : List ℕ) (tally : Tally) (n : ℕ) → IsNoTally n tally → HasRead f types tally
nothing_read f types tally n is =
    let none : (i : ℕ) → mark_at tally.read i ≡ false = (λ i. ap (λ m. mark_at m i) is.read ∙ no-marks n i) in
    let unnamed : (i : ℕ) → mark_at tally.kept.named i ≡ false = (λ i. ap (λ m. mark_at m i) is.named ∙ no-marks n i) in
    let start : AreTallied types tally.kept.counts.items tally.kept.named [] [] = record {
      counts_are = record { each = λ i low lt. ap (λ l. get_or l i 0) is.counts ∙ zero-at n i };
      few = λ i. omega arith;
      once = record { once = λ i dir. sym (ap (λ b. cond b 1 0) (unnamed i)); root = λ dir. unnamed 2 };
    } in
    let m : ℕ = length types - 1 in
    record {
      kept = subst (λ (l : List Slot). AreTallied types tally.kept.counts.items tally.kept.named l (slots_read (tree f) 2 tally.read m)) (sym (read_none (tree f) 0 tally.read m none))
          (subst (λ (l : List Slot). AreTallied types tally.kept.counts.items tally.kept.named [] l) (sym (read_none (tree f) 2 tally.read m none)) start);
      good = λ d k read. let clash : false ≡ true = sym (none d) ∙ read in absurd (cc);
      dotted = λ d read. let clash : false ≡ true = sym (none d) ∙ read in absurd (cc);
      read = λ i some held. absurd (held (ap (λ l. get_or l i 0) is.holders ∙ zero-at n i));
      holds = λ i some held. absurd (held (ap (λ l. get_or l i 0) is.holders ∙ zero-at n i));
    }

pub nothing_room : (tally : Tally) (n : ℕ) → IsNoTally n tally → HasTallyRoom n tally
nothing_room tally n is = record {
  read = ap length is.read ∙ length-replicate n false;
  counts = ap length is.counts ∙ length-replicate {A = ℕ} n 0;
  named = ap length is.named ∙ length-replicate n false;
  holders = ap length is.holders ∙ length-replicate {A = ℕ} n 0;
}

-- ---- one directory more

module _ (f : Frame) (types : List ℕ) (old new : Tally) (d : ℕ) (slots past : List Stored) (seen : map seen_slot slots ≡ f.slots d) (is : past ≡ drop 2 slots) (low : 1 ≤ d) (within : d < length types)
    (long : length old.read ≡ length types) (fresh : mark_at old.read d ≡ false) (marks : new.read ≡ set old.read d true) (was : HasRead f types old) where
  abbrev t : Tree
  t = tree f

  here_read : mark_at new.read d ≡ true
  here_read = ap (λ m. mark_at m d) marks ∙ get_or-set_same old.read d true false (omega arith)

  still_read : (e : ℕ) → mark_at old.read e ≡ true → mark_at new.read e ≡ true
  still_read e had = ap (λ m. mark_at m e) marks ∙ ⊎_elim
      (λ (same : e ≡ d). ap (mark_at (set old.read d true)) same ∙ get_or-set_same old.read d true false (omega arith))
      (λ (other : e ≢ d). get_or-set_other old.read d e true false other ∙ had)
      (cases_eq e d)

  before_read : (e : ℕ) → e ≢ d → mark_at new.read e ≡ true → mark_at old.read e ≡ true
  before_read e other had = sym (get_or-set_other old.read d e true false other) ∙ ap (λ m. mark_at m e) (sym marks) ∙ had

  more : (n i : ℕ) → count_by (is_slot_of i) (slots_read t n old.read (length types - 1) ++ drop n (map seen_slot slots)) ≡ count_by (is_slot_of i) (slots_read t n new.read (length types - 1))
  more n i = ap (λ l. count_by (is_slot_of i) (slots_read t n old.read (length types - 1) ++ drop n l)) seen
      ∙ read_more (is_slot_of i) t n old.read d (length types - 1) low (omega arith) (omega arith) fresh
      ∙ ap (λ m. count_by (is_slot_of i) (slots_read t n m (length types - 1))) (sym marks)

  pub read_on : AreTallied types new.kept.counts.items new.kept.named (slots_read t 0 old.read (length types - 1) ++ map seen_slot slots) (slots_read t 2 old.read (length types - 1) ++ drop 2 (map seen_slot slots))
      → ((k : ℕ) → k < length slots → is_good f (get_or (map seen_slot slots) k None) ≡ true) → begins_with_dots t d ≡ true
      → ((i : ℕ) → i ≢ 0 → i < length old.holders.items → get_or new.holders.items i 0 ≡ cond (names past i) d (get_or old.holders.items i 0))
      → length new.holders.items ≡ length old.holders.items → length slots ≡ length (f.slots d) → HasRead f types new
  read_on kept good dots holders holders_long slots_long = record {
    kept = tallied_same types new.kept.counts.items new.kept.named _ _ _ _ (more 0) (more 2) kept;
    good = λ e k read lt. ⊎_elim
        (λ (same : e ≡ d). subst (λ j. is_good f (slot_at t j k) ≡ true) (sym same) (ap (λ (l : List Slot). is_good f (get_or l k None)) (sym seen) ∙ good k (let here = ap (λ j. length (f.slots j)) same in omega arith)))
        (λ (other : e ≢ d). was.good e k (before_read e other read) lt)
        (cases_eq e d);
    dotted = λ e read. ⊎_elim
        (λ (same : e ≡ d). subst (λ j. begins_with_dots t j ≡ true) (sym same) dots)
        (λ (other : e ≢ d). was.dotted e (before_read e other read))
        (cases_eq e d);
    read = λ i some held. by_names i some held (names past i) refl;
    holds = λ i some held. by_holds i some held (names past i) refl;
  }
    where
      inside : (i : ℕ) → get_or new.holders.items i 0 ≢ 0 → i < length old.holders.items
      inside i held = ⊎_elim (λ (lt : i < length old.holders.items). lt) (λ (ge : length old.holders.items ≤ i). absurd (held (get_or_past new.holders.items i 0 (omega arith)))) (cases_lt i (length old.holders.items))

      by_names : (i : ℕ) → i ≢ 0 → get_or new.holders.items i 0 ≢ 0 → (b : Bool) → names past i ≡ b → mark_at new.read (get_or new.holders.items i 0) ≡ true
      by_names i some held true e =
          let now : get_or new.holders.items i 0 ≡ d = holders i some (inside i held) ∙ ap (λ b. cond b d (get_or old.holders.items i 0)) e in
          subst (λ j. mark_at new.read j ≡ true) (sym now) here_read
      by_names i some held false e =
          let now : get_or new.holders.items i 0 ≡ get_or old.holders.items i 0 = holders i some (inside i held) ∙ ap (λ b. cond b d (get_or old.holders.items i 0)) e in
          subst (λ j. mark_at new.read j ≡ true) (sym now) (still_read (get_or old.holders.items i 0) (was.read i some (λ z. held (now ∙ z))))

      by_holds : (i : ℕ) → i ≢ 0 → get_or new.holders.items i 0 ≢ 0 → (b : Bool) → names past i ≡ b → is_child t (get_or new.holders.items i 0) i ≡ true
      by_holds i some held true e =
          let now : get_or new.holders.items i 0 ≡ d = holders i some (inside i held) ∙ ap (λ b. cond b d (get_or old.holders.items i 0)) e in
          subst (λ j. is_child t j i ≡ true) (sym now) (sym (child-seen t d slots past seen is i) ∙ e)
      by_holds i some held false e =
          let now : get_or new.holders.items i 0 ≡ get_or old.holders.items i 0 = holders i some (inside i held) ∙ ap (λ b. cond b d (get_or old.holders.items i 0)) e in
          subst (λ j. is_child t j i ≡ true) (sym now) (was.holds i some (λ z. held (now ∙ z)))

-- ---- after the last

module _ (image : Image) (types : List ℕ) (walks : Walks) (tally : Tally) (walks_are : AreWalked (tree (frame image)) walks.found walks.ups.items) (has : HasRead (frame image) types tally)
    (room : length tally.read ≡ length walks.found) (covered : (i : ℕ) → i < length walks.found → IsCovered walks tally i) where
  abbrev whole : Tree
  whole = tree (frame image)

  same : (i : ℕ) → mark_at tally.read i ≡ is_walked whole i
  same i = ⊎_elim
      (λ (lt : i < length walks.found). sym (covered i lt).same ∙ walks_are.marks i)
      (λ (ge : length walks.found ≤ i). get_or_past tally.read i false (omega arith) ∙ sym (get_or_past walks.found i false ge) ∙ walks_are.marks i)
      (cases_lt i (length walks.found))

  marked : (i : ℕ) → is_walked whole i ≡ true → mark_at walks.found i ≡ true
  marked i w = walks_are.marks i ∙ w

  inside_found : (i : ℕ) → is_walked whole i ≡ true → i < length walks.found
  inside_found i w = ⊎_elim (λ (lt : i < length walks.found). lt) (λ (ge : length walks.found ≤ i). let no : false ≡ true = sym (get_or_past walks.found i false ge) ∙ marked i w in absurd (cc)) (cases_lt i (length walks.found))

  read_all : (n : ℕ) → slots_read whole n tally.read (length types - 1) ≡ flat_map (seen_in whole n) (range_with_len 1 (length types - 1))
  unfolding slots_read
  read_all n = λ z. flat_map (λ d. cond (same d z) (drop n (whole.slots d)) []) (range_with_len 1 (length types - 1))

  pub all_counted : AreCounts tally.kept.counts.items (slots_until whole 0 (length types) 0)
  unfolding slots_until
  all_counted = subst (AreCounts tally.kept.counts.items) (read_all 0 ∙ sym (append-nil (flat_map (seen_in whole 0) (range_with_len 1 (length types - 1))))) has.kept.counts_are

  held_by : (d : ℕ) → is_walked whole d ≡ true → is_held whole d ≡ true
  held_by d w = ⊎_elim
      (λ (two : d ≡ 2).
      let c = covered d (inside_found d w) in
      let up : parent whole d ≡ 2 = sym (walks_are.up d w) ∙ c.root (marked d w) two in
      (λ z. is_walked whole ((up ∙ sym two) z) && cond (eq-eqb d 2 two z) (up z == 2) (is_child whole (parent whole d) d)) ∙ ap (λ b. b && (2 == 2)) w)
      (λ (other : d ≢ 2).
      let c = covered d (inside_found d w) in
      let up : get_or tally.holders.items d 0 ≡ parent whole d = c.held (marked d w) other ∙ walks_are.up d w in
      let some : get_or tally.holders.items d 0 ≢ 0 = (λ z. c.some (marked d w) other (sym (c.held (marked d w) other) ∙ z)) in
      let number : d ≢ 0 = walked-number image d w in
      let walks : is_walked whole (parent whole d) ≡ true = sym (same (parent whole d)) ∙ subst (λ j. mark_at tally.read j ≡ true) up (has.read d number some) in
      let child : is_child whole (parent whole d) d ≡ true = subst (λ j. is_child whole j d ≡ true) up (has.holds d number some) in
      (λ z. walks z && cond (ne_eqb d 2 other z) (parent whole d == 2) (child z)))
      (cases_eq d 2)

  module _ (are : AreTypes (frame image) types) where
    dir_is : (i : ℕ) → is_dir_in types i ≡ whole.is_dir i
    dir_is i = ap (λ t. t == 4) (are.each i)

    at_most_one : (b : Bool) → ◌≤◌ (cond b 1 0) 1
    at_most_one true = omega arith
    at_most_one false = omega arith

    once : (i : ℕ) → whole.is_dir i ≡ true → count_by (is_slot_of i) (flat_map (seen_in whole 2) (range_with_len 1 (length types - 1))) ≤ 1
    once i dir = subst (λ c. c ≤ 1) (sym (has.kept.once.once i (dir_is i ∙ dir)) ∙ ap (count_by (is_slot_of i)) (read_all 2)) (at_most_one (mark_at tally.kept.named i))

    root : whole.is_dir 2 ≡ true → count_by (is_slot_of 2) (flat_map (seen_in whole 2) (range_with_len 1 (length types - 1))) ≡ 0
    root dir = sym (ap (count_by (is_slot_of 2)) (read_all 2)) ∙ has.kept.once.once 2 (dir_is 2 ∙ dir) ∙ ap (λ b. cond b 1 0) (has.kept.once.root (dir_is 2 ∙ dir))

    pub all_passed : first_failing (frame image) (tests_of_directories whole 1 (length types - 1)) ≡ None
    all_passed = all_hold (frame image) (length types - 1)
        (λ d k w lt. has.good d k (same d ∙ w) lt)
        (λ d w. has.dotted d (same d ∙ w))
        held_by
        (λ i. subst (λ l. count_by (is_slot_of i) l ≤ 65535) (read_all 0) (has.kept.few i))
        once root
