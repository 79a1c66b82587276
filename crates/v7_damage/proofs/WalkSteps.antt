-- The walk, step by step.
use Rattle.std.proofs.Common.{◌≡◌, ◌≢◌, ℕ, zero, suc, ◌+◌, ◌<◌, ◌≤◌, Bool, true, false, ◌||◌, ◌&&◌, ◌==◌, List, [], ◌∷◌, length, get_or, take, map, refl, sym, ap, subst, ◌∙◌, arith, ⊎_elim, eq-eqb}
use Rattle.std.specs.Prelude.{replicate, count_by, set}
use Rattle.std.proofs.lemmas.Bool.{cases_eq, cases_lt, eqb-true}
use Rattle.std.proofs.lemmas.List.{get_or-take, get_or_past, get_or-replicate, length-replicate, get_or-set_same, get_or-set_other}
use Rattle.std.specs.List.{list_any}
use Rattle.stable.specs.Store.{Image}
use Rattle.v7_map.specs.Frame.{frame}
use Rattle.v7_map.specs.Tree.{Tree, tree, Walked, root, named, is_walked, has_slot_of, is_slot_of}
use Rattle.v7_map.specs.Weak.{parent}
use Rattle.v7_map.proofs.AnyFrame.{frame-IsFrame}
use Rattle.v7_map.proofs.Walks.{walked_reached, reached_walked, or_cases, or_left, or_right, and_both}
use Rattle.v7_map.proofs.Frames.{and_left, and_right}
use Rattle.v7_layout.specs.declared.slot.Slot.{Slot as Stored}
use Rattle.v7_damage.specs.Marks.{mark_at, is_among}
use Rattle.v7_damage.specs.Slots.{seen_slot, names}
use Rattle.v7_damage.specs.Walk.{AreListed, is_dir_in}

-- the number at a place of a list is in it
pub among-at : (xs : List ℕ) (k : ℕ) → k < length xs → is_among xs (get_or xs k 0) ≡ true
unfolding is_among
among-at [] k lt = absurd (omega arith)
among-at (x ∷ xs) zero lt = or_left (x == x) _ (eq-eqb x x refl)
among-at (x ∷ xs) (suc k) lt = or_right (x == get_or xs k 0) _ (among-at xs k (omega arith))

-- a number in a list stands at a place
pub among-found : (xs : List ℕ) (i : ℕ) → is_among xs i ≡ true → (k : ℕ) × (k < length xs) × (get_or xs k 0 ≡ i)
unfolding is_among
among-found [] i e = absurd (cc)
among-found (x ∷ xs) i e = ⊎_elim
    (λ (s : (x == i) ≡ true). (0, omega arith, eqb-true x i s))
    (λ (s : list_any (λ y. y == i) xs ≡ true). let r = among-found xs i s in let lt = r.1 in (suc r.0, omega arith, r.2))
    (or_cases (x == i) _ e)

-- what has a mark is in range
pub marked-within : (marks : List Bool) (i : ℕ) → mark_at marks i ≡ true → i < length marks
marked-within marks i e = ⊎_elim (λ (lt : i < length marks). lt) (λ (ge : length marks ≤ i). let no : false ≡ true = sym (get_or_past marks i false ge) ∙ e in absurd (cc)) (cases_lt i (length marks))

-- the number at a place of a list with marks is in range
pub listed-within : (marks : List Bool) (xs : List ℕ) (k : ℕ) → AreListed marks xs → k < length xs → get_or xs k 0 < length marks
listed-within marks xs k are lt = marked-within marks (get_or xs k 0) (are.each (get_or xs k 0) ∙ among-at xs k lt)

pub no-marks : (n i : ℕ) → mark_at (replicate n false) i ≡ false
no-marks n i = ⊎_elim (λ (lt : i < n). get_or-replicate n i false false lt) (λ (ge : n ≤ i). get_or_past (replicate n false) i false (let l = length-replicate n false in omega arith)) (cases_lt i n)

count-none : (n : ℕ) → count_by (λ (b : Bool). b) (replicate n false) ≡ 0
count-none zero = refl
count-none (suc n) = let r = count-none n in omega arith

pub listed_none : (marks : List Bool) (xs : List ℕ) (n : ℕ) → marks ≡ replicate n false → xs ≡ [] → AreListed marks xs
unfolding is_among
listed_none marks xs n are none = record {
  each = λ i. ap (λ m. mark_at m i) are ∙ no-marks n i ∙ sym (ap (λ l. list_any (λ x. x == i) l) none);
  once = ap length none ∙ sym (ap (count_by (λ (b : Bool). b)) are ∙ count-none n);
}

-- a front that stays has its numbers
pub front-at : (a b : List ℕ) (k : ℕ) → take (length a) b ≡ a → k < length a → get_or b k 0 ≡ get_or a k 0
front-at a b k front lt = sym (get_or-take (length a) b k 0 lt) ∙ ap (λ l. get_or l k 0) front

module _ (t : Tree) (numbers : (i : ℕ) → t.is_dir i ≡ true → (1 ≤ i) × (i < 1 + t.inodes)) where
  pub walks_root : t.is_dir 2 ≡ true → is_walked t 2 ≡ true
  walks_root dir = reached_walked t numbers (root dir)

  pub walks_on : (d i : ℕ) → is_walked t d ≡ true → has_slot_of t d i ≡ true → t.is_dir i ≡ true → is_walked t i ≡ true
  walks_on d i walks slot dir = reached_walked t numbers (named (walked_reached t d walks) slot dir)

  -- marks that are closed have each walked directory
  module _ (marks : List Bool) (first : t.is_dir 2 ≡ true → mark_at marks 2 ≡ true) (closed : (d i : ℕ) → mark_at marks d ≡ true → has_slot_of t d i ≡ true → t.is_dir i ≡ true → mark_at marks i ≡ true) where
    all_marked : {i : ℕ} → Walked t i → mark_at marks i ≡ true
    all_marked (root dir) = first dir
    all_marked (named {d = d} {i = i} w slot dir) = closed d i (all_marked w) slot dir

    pub marks_walked : ((i : ℕ) → mark_at marks i ≡ true → is_walked t i ≡ true) → (i : ℕ) → mark_at marks i ≡ is_walked t i
    marks_walked reached i = same (mark_at marks i) (is_walked t i) (reached i) (λ walks. all_marked (walked_reached t i walks))
      where
        same : (a b : Bool) → (a ≡ true → b ≡ true) → (b ≡ true → a ≡ true) → a ≡ b
        same true true f g = refl
        same true false f g = sym (f refl)
        same false true f g = g refl
        same false false f g = refl

-- the slots that are read name what a slot of the directory names
pub names-seen : (t : Tree) (d : ℕ) (slots : List Stored) → map seen_slot slots ≡ t.slots d → (i : ℕ) → names slots i ≡ has_slot_of t d i
unfolding names
names-seen t d slots are i = ap (list_any (is_slot_of i)) are

-- one directory more is looked through
module _ (t : Tree) (numbers : (i : ℕ) → t.is_dir i ≡ true → (1 ≤ i) × (i < 1 + t.inodes)) (types : List ℕ) (types_are : (i : ℕ) → is_dir_in types i ≡ t.is_dir i)
    (found more : List Bool) (list longer : List ℕ) (next d : ℕ) (slots : List Stored)
    (marks : (i : ℕ) → mark_at more i ≡ (mark_at found i || (is_dir_in types i && names slots i))) where
  pub kept_more : (i : ℕ) → mark_at found i ≡ true → mark_at more i ≡ true
  kept_more i e = marks i ∙ or_left (mark_at found i) _ e

  pub reached_more : map seen_slot slots ≡ t.slots d → is_walked t d ≡ true → ((i : ℕ) → mark_at found i ≡ true → is_walked t i ≡ true) → (i : ℕ) → mark_at more i ≡ true → is_walked t i ≡ true
  reached_more are walks was i e = ⊎_elim
      (λ (old : mark_at found i ≡ true). was i old)
      (λ (new : (is_dir_in types i && names slots i) ≡ true).
      walks_on t numbers d i walks (sym (names-seen t d slots are i) ∙ and_right (is_dir_in types i) _ new) (sym (types_are i) ∙ and_left (is_dir_in types i) _ new))
      (or_cases (mark_at found i) _ (sym (marks i) ∙ e))

  pub closed_more : map seen_slot slots ≡ t.slots d → d ≡ get_or list next 0 → next < length list → take (length list) longer ≡ list
      → ((k i : ℕ) → k < next → has_slot_of t (get_or list k 0) i ≡ true → t.is_dir i ≡ true → mark_at found i ≡ true)
      → (k i : ℕ) → k < next + 1 → has_slot_of t (get_or longer k 0) i ≡ true → t.is_dir i ≡ true → mark_at more i ≡ true
  closed_more are is within front was k i lt slot dir =
      let at : get_or longer k 0 ≡ get_or list k 0 = front-at list longer k front (omega arith) in
      let slot' : has_slot_of t (get_or list k 0) i ≡ true = subst (λ e. has_slot_of t e i ≡ true) at slot in
      ⊎_elim
      (λ (before : k < next). kept_more i (was k i before slot' dir))
      (λ (here : next ≤ k).
      let same : k ≡ next = omega arith in
      let by : names slots i ≡ true = names-seen t d slots are i ∙ subst (λ e. has_slot_of t e i ≡ true) (ap (λ m. get_or list m 0) same ∙ sym is) slot' in
      marks i ∙ or_right (mark_at found i) _ (and_both (is_dir_in types i) _ (types_are i ∙ dir) by))
      (cases_lt k next)

-- before the first step
module _ (t : Tree) (numbers : (i : ℕ) → t.is_dir i ≡ true → (1 ≤ i) × (i < 1 + t.inodes)) (types : List ℕ) (types_are : (i : ℕ) → is_dir_in types i ≡ t.is_dir i)
    (found more : List Bool) (n : ℕ) (none : found ≡ replicate n false) (marks : (i : ℕ) → mark_at more i ≡ (mark_at found i || (is_dir_in types i && (2 == i)))) where
  pub first_marked : t.is_dir 2 ≡ true → mark_at more 2 ≡ true
  first_marked dir = marks 2 ∙ or_right (mark_at found 2) _ (and_both (is_dir_in types 2) _ (types_are 2 ∙ dir) refl)

  pub first_reached : (i : ℕ) → mark_at more i ≡ true → is_walked t i ≡ true
  first_reached i e = ⊎_elim
      (λ (old : mark_at found i ≡ true). let no : false ≡ true = sym (ap (λ m. mark_at m i) none ∙ no-marks n i) ∙ old in absurd (cc))
      (λ (new : (is_dir_in types i && (2 == i)) ≡ true).
      let two : 2 ≡ i = eqb-true 2 i (and_right (is_dir_in types i) _ new) in
      subst (λ j. is_walked t j ≡ true) two (walks_root t numbers (subst (λ j. t.is_dir j ≡ true) (sym two) (sym (types_are i) ∙ and_left (is_dir_in types i) _ new))))
      (or_cases (mark_at found i) _ (sym (marks i) ∙ e))

-- at the end the marks are those of the walked directories
module _ (t : Tree) (numbers : (i : ℕ) → t.is_dir i ≡ true → (1 ≤ i) × (i < 1 + t.inodes)) (found : List Bool) (list : List ℕ) (listed : AreListed found list) where
  pub end_walked : (next : ℕ) → length list ≤ next → (t.is_dir 2 ≡ true → mark_at found 2 ≡ true) → ((i : ℕ) → mark_at found i ≡ true → is_walked t i ≡ true)
      → ((k i : ℕ) → k < next → has_slot_of t (get_or list k 0) i ≡ true → t.is_dir i ≡ true → mark_at found i ≡ true)
      → (i : ℕ) → mark_at found i ≡ is_walked t i
  end_walked next end first reached closed = marks_walked t numbers found first
      (λ d i marked slot dir. let at = among-found list d (sym (listed.each d) ∙ marked) in let lt = at.1 in
      closed at.0 i (omega arith) (subst (λ e. has_slot_of t e i ≡ true) (sym at.2) slot) dir)
      reached

-- the numbers of directories
pub dir-numbers : (image : Image) (i : ℕ) → (tree (frame image)).is_dir i ≡ true → (1 ≤ i) × (i < 1 + (tree (frame image)).inodes)
dir-numbers image i dir = let is = frame-IsFrame image in let r = is.numbers i (is.directories i dir) in let high = r.1 in (r.0, omega arith)

-- where `..` of one directory more leads
pub ups_more : (t : Tree) (ups list longer : List ℕ) (next d up : ℕ) → d < length ups → d ≡ get_or list next 0 → next < length list → take (length list) longer ≡ list → up ≡ parent t d
    → ((k : ℕ) → k < next → get_or ups (get_or list k 0) 0 ≡ parent t (get_or list k 0))
    → (k : ℕ) → k < next + 1 → get_or (set ups d up) (get_or longer k 0) 0 ≡ parent t (get_or longer k 0)
ups_more t ups list longer next d up within is lt front leads was k below =
    let at : get_or longer k 0 ≡ get_or list k 0 = front-at list longer k front (omega arith) in
    let e : ℕ = get_or list k 0 in
    subst (λ m. get_or (set ups d up) m 0 ≡ parent t m) (sym at)
    (⊎_elim
    (λ (same : e ≡ d). subst (λ m. get_or (set ups d up) m 0 ≡ parent t m) (sym same) (get_or-set_same ups d up 0 within ∙ leads))
    (λ (other : e ≢ d). ⊎_elim
    (λ (before : k < next). get_or-set_other ups d e up 0 other ∙ was k before)
    (λ (here : next ≤ k). absurd (other (let s : k ≡ next = omega arith in ap (λ m. get_or list m 0) s ∙ sym is)))
    (cases_lt k next))
    (cases_eq e d))

pub ups_walked : (t : Tree) (found : List Bool) (list ups : List ℕ) (next : ℕ) → length list ≤ next → AreListed found list
    → ((k : ℕ) → k < next → get_or ups (get_or list k 0) 0 ≡ parent t (get_or list k 0)) → ((i : ℕ) → mark_at found i ≡ is_walked t i) → (i : ℕ) → is_walked t i ≡ true → get_or ups i 0 ≡ parent t i
ups_walked t found list ups next end listed was marks i walks =
    let at = among-found list i (sym (listed.each i) ∙ marks i ∙ walks) in
    let lt = at.1 in
    subst (λ j. get_or ups j 0 ≡ parent t j) at.2 (was at.0 (omega arith))
