-- The blocks that a directory takes, and those that it takes besides when it gets longer.
use Rattle.std.proofs.Common.{◌≡◌, ◌≢◌, ℕ, zero, suc, ◌+◌, ◌-◌, ◌/◌, ◌%◌, ◌<◌, ◌≤◌, Bool, true, false, cond, ◌&&◌, ◌||◌, ◌==◌, [], ◌∷◌, ◌++◌, length, set, refl, sym, ap, subst, ◌∙◌, arith, ⊎_elim, ltb, leb, is_some}
use Rattle.std.proofs.lemmas.Bool.{cases_eq, cases_lt, le-ltb, ne_eqb}
use Rattle.std.specs.List.{range_with_len, count_by, list_any}
use Rattle.std.specs.FinMap.{get}
use Rattle.files_model.specs.Files.{Node, Slot, sectors_of}
use Rattle.files_model.specs.Names.{place_for, with_entry}
use Rattle.files_model.specs.Permission.{is_directory}
use Rattle.files_model.specs.Space.{is_held, map_blocks, node_usage}
use Rattle.v7_space.proofs.Counting.{one, count-cons}
use Rattle.plan_name.specs.Growth.{added_blocks}

lt_ltb : (a b : ℕ) → a < b → ltb a b ≡ true
lt_ltb a b lt = grind arith

pub count_true : (p : ℕ → Bool) (a n : ℕ) → ((b : ℕ) → a ≤ b → b < a + n → p b ≡ true) → count_by p (range_with_len a n) ≡ n
unfolding one
count_true p a zero h = refl
count_true p a (suc n) h =
    let c = count-cons p a (range_with_len (a + 1) n) in
    let t : ◌≡◌ {A = ℕ} (one (p a)) 1 = ap one (h a (omega arith) (omega arith)) in
    let r = count_true p (a + 1) n (λ b le lt. h b (omega arith) (omega arith)) in omega arith

any_range : (p : ℕ → Bool) (a n k : ℕ) → a ≤ k → k < a + n → p k ≡ true → list_any p (range_with_len a n) ≡ true
any_range p a zero k le lt passes = absurd (omega arith)
any_range p a (suc n) k le lt passes = ⊎_elim
    (λ (e : k ≡ a). ap (λ b. b || list_any p (range_with_len (a + 1) n)) (subst (λ z. p z ≡ true) e passes))
    (λ (ne : k ≢ a). ap (λ b. p a || b) (any_range p (a + 1) n k (omega arith) (omega arith) passes) ∙ or_yes (p a))
    (cases_eq k a)
  where
    or_yes : (b : Bool) → (b || true) ≡ true
    or_yes true = refl
    or_yes false = refl

pub none_range : (p : ℕ → Bool) (a n : ℕ) → ((b : ℕ) → a ≤ b → b < a + n → p b ≡ false) → list_any p (range_with_len a n) ≡ false
none_range p a zero h = refl
none_range p a (suc n) h = (λ z. h a (omega arith) (omega arith) z || list_any p (range_with_len (a + 1) n)) ∙ none_range p (a + 1) n (λ b le lt. h b (omega arith) (omega arith))

-- how many blocks of addresses so many sectors need
maps_for : ℕ → ℕ
maps_for s = cond (ltb 10 s) 1 0

module _ (n : Node) (dir : is_directory n.kind ≡ true) where
  held-is : (k : ℕ) → is_held n k ≡ ltb k (sectors_of n.size)
  held-is k = ap (λ b. cond b (ltb k (sectors_of n.size)) (is_some (get n.sectors k))) dir

  maps : map_blocks n ≡ maps_for (sectors_of n.size)
  unfolding maps_for
  maps = ap (λ b. cond b 1 0) (⊎_elim
      (λ (lt : 10 < sectors_of n.size). any_range (λ k. leb 10 k && is_held n k) 0 (sectors_of n.size) 10 (omega arith) (omega arith) (held-is 10 ∙ lt_ltb 10 (sectors_of n.size) lt) ∙ sym (lt_ltb 10 (sectors_of n.size) lt))
      (λ (ge : sectors_of n.size ≤ 10). none_range (λ k. leb 10 k && is_held n k) 0 (sectors_of n.size) (λ b le lt. ap (λ t. t && is_held n b) (above b (omega arith))) ∙ sym (le-ltb 10 (sectors_of n.size) ge))
      (cases_lt 10 (sectors_of n.size)))
    where
      above : (b : ℕ) → b < 10 → leb 10 b ≡ false
      above b lt = grind arith

  usage-is : node_usage n ≡ sectors_of n.size + maps_for (sectors_of n.size)
  usage-is = (λ z. count_true (is_held n) 0 (sectors_of n.size) (λ b le lt. held-is b ∙ lt_ltb b (sectors_of n.size) (omega arith)) z + maps z)

added : (size : ℕ) → size % 16 ≡ 0 → (sectors_of (size + 16) + maps_for (sectors_of (size + 16))) - (sectors_of size + maps_for (sectors_of size)) ≡ added_blocks size
unfolding added_blocks maps_for
added size even = ⊎_elim
    (λ (z : size % 512 ≡ 0). let old : sectors_of size ≡ size / 512 = omega arith in let new : sectors_of (size + 16) ≡ size / 512 + 1 = omega arith in
    (λ t. (new t + cond (ltb 10 (new t)) 1 0) - (old t + cond (ltb 10 (old t)) 1 0)) ∙ step (size / 512)
    ∙ ap (λ b. cond b (cond (size / 512 == 10) 2 1) 0) (sym (eq (size % 512) z)))
    (λ (nz : size % 512 ≢ 0). let same : sectors_of (size + 16) ≡ sectors_of size = omega arith in
    (λ t. (same t + cond (ltb 10 (same t)) 1 0) - (sectors_of size + cond (ltb 10 (sectors_of size)) 1 0)) ∙ none (sectors_of size + cond (ltb 10 (sectors_of size)) 1 0)
    ∙ ap (λ b. cond b (cond (size / 512 == 10) 2 1) 0) (sym (ne_eqb (size % 512) 0 nz)))
    (cases_eq (size % 512) 0)
  where
    none : (a : ℕ) → a - a ≡ 0
    none a = omega arith

    eq : (a : ℕ) → a ≡ 0 → (a == 0) ≡ true
    eq a e = ap (λ z. z == 0) e

    step : (q : ℕ) → (q + 1 + cond (ltb 10 (q + 1)) 1 0) - (q + cond (ltb 10 q) 1 0) ≡ cond (q == 10) 2 1
    step q = ⊎_elim
        (λ (e : q ≡ 10). subst (λ z. (z + 1 + cond (ltb 10 (z + 1)) 1 0) - (z + cond (ltb 10 z) 1 0) ≡ cond (z == 10) 2 1) (sym e) refl)
        (λ (ne : q ≢ 10). ⊎_elim
        (λ (lt : q < 10). (λ z. (q + 1 + cond (le-ltb 10 (q + 1) (omega arith) z) 1 0) - (q + cond (le-ltb 10 q (omega arith) z) 1 0)) ∙ (let e : (q + 1 + 0) - (q + 0) ≡ 1 = omega arith in e) ∙ ap (λ b. cond b 2 1) (sym (ne_eqb q 10 ne)))
        (λ (ge : 10 ≤ q). (λ z. (q + 1 + cond (lt_ltb 10 (q + 1) (omega arith) z) 1 0) - (q + cond (lt_ltb 10 q (omega arith) z) 1 0)) ∙ (let e : (q + 1 + 1) - (q + 1) ≡ 1 = omega arith in e) ∙ ap (λ b. cond b 2 1) (sym (ne_eqb q 10 ne)))
        (cases_lt q 10))
        (cases_eq q 10)

-- a directory with one entry more takes so many blocks more
pub entry-added : (d : Node) (s : Slot) (now : ℕ) → is_directory d.kind ≡ true → d.size % 16 ≡ 0
    → node_usage (with_entry d s now) - node_usage d ≡ cond (ltb (place_for d.slots) (length d.slots)) 0 (added_blocks d.size)
unfolding with_entry
entry-added d s now dir even = by_place (ltb (place_for d.slots) (length d.slots))
  where
    none : (a : ℕ) → a - a ≡ 0
    none a = omega arith

    inside : Node
    inside = record d { slots = set d.slots (place_for d.slots) s; mtime = now; ctime = now }

    outside : Node
    outside = record d { slots = d.slots ++ s ∷ []; size = d.size + 16; mtime = now; ctime = now }

    by_place : (b : Bool) → node_usage (cond b (record d { slots = set d.slots (place_for d.slots) s; mtime = now; ctime = now }) (record d { slots = d.slots ++ s ∷ []; size = d.size + 16; mtime = now; ctime = now })) - node_usage d ≡ cond b 0 (added_blocks d.size)
    by_place true = (λ z. usage-is (record d { slots = set d.slots (place_for d.slots) s; mtime = now; ctime = now }) dir z - usage-is d dir z) ∙ none (sectors_of d.size + maps_for (sectors_of d.size))
    by_place false = (λ z. usage-is (record d { slots = d.slots ++ s ∷ []; size = d.size + 16; mtime = now; ctime = now }) dir z - usage-is d dir z) ∙ added d.size even

-- and is so long then
pub entry-size : (d : Node) (s : Slot) (now : ℕ) → (with_entry d s now).size ≡ cond (ltb (place_for d.slots) (length d.slots)) d.size (d.size + 16)
unfolding with_entry
entry-size d s now = by_place (ltb (place_for d.slots) (length d.slots))
  where
    by_place : (b : Bool) → (cond b (record d { slots = set d.slots (place_for d.slots) s; mtime = now; ctime = now }) (record d { slots = d.slots ++ s ∷ []; size = d.size + 16; mtime = now; ctime = now })).size ≡ cond b d.size (d.size + 16)
    by_place true = refl
    by_place false = refl
