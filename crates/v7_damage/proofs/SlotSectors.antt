-- The slots of a directory, sector by sector.
use Rattle.std.proofs.Common.{◌≡◌, ℕ, zero, suc, ◌+◌, ◌-◌, ◌*◌, ◌/◌, ◌%◌, ◌<◌, ◌≤◌, min, List, [], ◌∷◌, ◌++◌, map, append_assoc, refl, sym, ap, ◌∙◌, arith}
use Rattle.std.proofs.lemmas.List.FromFn.{map-range_with_len_more}
use Rattle.std.specs.List.{range_with_len}
use Rattle.stable.specs.Store.{Image}
use Rattle.v7_layout.specs.declared.slot.Slot.{Slot}
use Rattle.v7_map.specs.Image.{sector_at}
use Rattle.v7_damage.specs.Stored.{slot_in_sector, slot_in_body, body_slots}

pub map_shift : {X : Type 0} (g h : ℕ → X) (a b n : ℕ) → ((j : ℕ) → j < n → g (a + j) ≡ h (b + j)) → map g (range_with_len a n) ≡ map h (range_with_len b n)
map_shift g h a b zero same = refl
map_shift g h a b (suc n) same =
    let here : g a ≡ h b = (let e : a ≡ a + 0 = omega arith in ap g e) ∙ same 0 (omega arith) ∙ (let e : b + 0 ≡ b = omega arith in ap h e) in
    let rest = map_shift g h (a + 1) (b + 1) n (λ j lt. (let e : (a + 1) + j ≡ a + (j + 1) = omega arith in ap g e) ∙ same (j + 1) (omega arith) ∙ (let e : b + (j + 1) ≡ (b + 1) + j = omega arith in ap h e)) in
    (λ z. here z ∷ rest z)

pub map_append : {X : Type 0} (g : ℕ → X) (b a n : ℕ) → map g (range_with_len b (a + n)) ≡ map g (range_with_len b a) ++ map g (range_with_len (b + a) n)
map_append g b zero n = (let z : zero + n ≡ n = omega arith in ap (λ m. map g (range_with_len b m)) z) ∙ (let e : b ≡ b + 0 = omega arith in ap (λ c. map g (range_with_len c n)) e)
map_append g b (suc a) n =
    (let e : suc a + n ≡ suc (a + n) = omega arith in ap (λ m. map g (range_with_len b m)) e)
    ∙ ap (λ l. g b ∷ l) (map_append g (b + 1) a n)
    ∙ (let e : (b + 1) + a ≡ b + suc a = omega arith in ap (λ c. (g b ∷ map g (range_with_len (b + 1) a)) ++ map g (range_with_len c n)) e)

-- one sector more
pub body_more : (image : Image) (at : ℕ → ℕ) (bytes : List ℕ) (s count more : ℕ) → bytes ≡ sector_at image (at s) → 32 * s ≤ count → more ≡ min (count - 32 * s) 32
    → body_slots image at (min (32 * (s + 1)) count) ≡ body_slots image at (min (32 * s) count) ++ map (slot_in_sector bytes) (range_with_len 0 more)
unfolding body_slots
body_more image at bytes s count more are le is =
    let g : ℕ → Slot = slot_in_body image at in
    let whole : min (32 * (s + 1)) count ≡ 32 * s + more = omega arith in
    let front : 32 * s ≡ min (32 * s) count = omega arith in
    let each : (j : ℕ) → j < more → g ((0 + 32 * s) + j) ≡ slot_in_sector bytes (0 + j) = (λ j lt.
    let place : ((0 + 32 * s) + j) / 32 ≡ s = omega arith in
    let in' : ((0 + 32 * s) + j) % 32 ≡ 0 + j = omega arith in
    (λ z. slot_in_sector (sector_at image (at (place z))) (in' z)) ∙ ap (λ b. slot_in_sector b (0 + j)) (sym are)) in
    ap (λ n. map g (range_with_len 0 n)) whole ∙ map_append g 0 (32 * s) more
    ∙ (λ z. map g (range_with_len 0 (front z)) ++ map_shift g (slot_in_sector bytes) (0 + 32 * s) 0 more each z)

pub body_none : (image : Image) (at : ℕ → ℕ) (n : ℕ) → n ≡ 0 → [] ≡ body_slots image at n
unfolding body_slots
body_none image at n none = ap (λ m. map (slot_in_body image at) (range_with_len 0 m)) (sym none)

-- one element more at the end
pub pushed : {X : Type 0} (h : ℕ → X) (new xs base : List X) (x : X) (n : ℕ) → new ≡ xs ++ x ∷ [] → xs ≡ base ++ map h (range_with_len 0 n) → x ≡ h n → new ≡ base ++ map h (range_with_len 0 (n + 1))
pushed h new xs base x n push was is =
    push ∙ (λ z. was z ++ is z ∷ []) ∙ append_assoc base (map h (range_with_len 0 n)) (h n ∷ [])
    ∙ ap (λ l. base ++ l) (sym (map-range_with_len_more h 0 n n (omega arith)))
