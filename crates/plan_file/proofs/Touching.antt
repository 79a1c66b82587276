-- How many sectors writes touch.
use Rattle.std.proofs.Common.{◌≡◌, ℕ, ◌+◌, ◌-◌, ◌≤◌, ◌<◌, Bool, true, false, cond, not, List, refl, ap, ◌∙◌, arith}
use Rattle.std.specs.List.{range_with_len, list_any, count_by}
use Rattle.files_model.specs.declared.call.WriteItem.{WriteItem}
use Rattle.files_model.specs.Batch.{touches}
use Rattle.plan_file.specs.Contents.{touched_below}
use Rattle.plan_file.proofs.Deciding.{count_next}
use Rattle.v7_space.proofs.Counting.{count_parts, count_others}

pub touched_none : (ws : List WriteItem) → touched_below ws 0 ≡ 0
unfolding touched_below
touched_none ws = refl

-- one sector more
pub touched_next : (ws : List WriteItem) (i : ℕ) → touched_below ws (i + 1) ≡ touched_below ws i + cond (list_any (touches i) ws) 1 0
unfolding touched_below
touched_next ws i =
    let last : i + 1 ≡ i + 1 - 0 = omega arith in
    let here : i - 0 ≡ i = omega arith in
    ap (λ n. count_by (λ k. list_any (touches k) ws) (range_with_len 0 n)) last
    ∙ count_next (λ k. list_any (touches k) ws) 0 i (omega arith)
    ∙ ap (λ n. count_by (λ k. list_any (touches k) ws) (range_with_len 0 n) + cond (list_any (touches i) ws) 1 0) here

-- no fewer below a higher one
pub touched-rise : (ws : List WriteItem) (i n : ℕ) → i ≤ n → touched_below ws i ≤ touched_below ws n
unfolding touched_below
touched-rise ws i n le =
    let parts = count_parts (λ k. list_any (touches k) ws) 0 i (n - i) n (omega arith) in omega (arith, parts)

not_not : (b : Bool) → b ≡ not (not b)
not_not true = refl
not_not false = refl

-- no more than there are
pub touched-few : (ws : List WriteItem) (i : ℕ) → touched_below ws i ≤ i
unfolding touched_below
touched-few ws i = let both = count_others (λ k. list_any (touches k) ws) (λ k. not (list_any (touches k) ws)) 0 i (λ k low high. not_not (list_any (touches k) ws)) in omega (arith, both)

-- a sector that is touched leaves room for its put
pub touched-room : (ws : List WriteItem) (i : ℕ) → i < 138 → list_any (touches i) ws ≡ true → touched_below ws i + 1 ≤ touched_below ws 138
touched-room ws i lt e =
    let next : touched_below ws (i + 1) ≡ touched_below ws i + 1 = touched_next ws i ∙ ap (λ b. touched_below ws i + cond b 1 0) e in
    let rise = touched-rise ws (i + 1) 138 (omega arith) in omega (arith, next, rise)

pub touched-more : (ws : List WriteItem) (i : ℕ) → list_any (touches i) ws ≡ true → touched_below ws (i + 1) ≡ touched_below ws i + 1
touched-more ws i e = touched_next ws i ∙ ap (λ b. touched_below ws i + cond b 1 0) e

pub touched-skip : (ws : List WriteItem) (i : ℕ) → list_any (touches i) ws ≡ false → touched_below ws (i + 1) ≡ touched_below ws i
touched-skip ws i e = touched_next ws i ∙ ap (λ b. touched_below ws i + cond b 1 0) e ∙ omega arith
