-- A sector whose bytes are all given doesn't depend on what stood there.
use Rattle.std.proofs.Common.{◌≡◌, ◌≢◌, ℕ, ◌+◌, ◌-◌, ◌*◌, ◌<◌, ◌≤◌, Bool, true, false, cond, List, [], ◌∷◌, ◌++◌, length, take, drop, get_or, refl, sym, ap, ◌∙◌, arith, ⊎_elim, leb, length-take, length-drop, drop_of_length-le}
use Rattle.std.proofs.lemmas.Bool.{cases_eq, leb-true, ne_eqb, eq-eqb}
use Rattle.std.proofs.lemmas.List.{length-replicate}
use Rattle.std.specs.List.{list_any}
use Rattle.files_model.specs.declared.call.WriteItem.{WriteItem}
use Rattle.files_model.specs.Step.{spliced, zeros}
use Rattle.files_model.proofs.Batches.{length-spliced}
use Rattle.files_model.proofs.Clips.{length-clipped}
use Rattle.stable.specs.Store.{Image}
use Rattle.v7_map.specs.Image.{IsImage}
use Rattle.v7_map.proofs.Frames.{and_left, and_right}
use Rattle.v7_map.proofs.Walks.{or_cases}
use Rattle.plan_file.specs.Accepted.{spliced_by, covers}
use Rattle.plan_file.specs.Contents.{old_content, sector_or_zeros}

-- one write that gives them all
spliced-covered : (w : WriteItem) (k : ℕ) (a : List ℕ) → length a ≡ 512 → covers k w ≡ true → spliced w.offset w.bytes k a ≡ take 512 (drop (512 * k - w.offset) w.bytes)
unfolding spliced
spliced-covered w k a long c =
    let low : w.offset ≤ 512 * k = leb-true w.offset (512 * k) (and_left (leb w.offset (512 * k)) _ c) in
    let high : 512 * k + 512 ≤ w.offset + length w.bytes = leb-true (512 * k + 512) (w.offset + length w.bytes) (and_right (leb w.offset (512 * k)) _ c) in
    let none : w.offset - 512 * k ≡ 0 = omega arith in
    let here : List ℕ = take 512 (drop (512 * k - w.offset) w.bytes) in
    let many : length here ≡ 512 = length-take 512 (drop (512 * k - w.offset) w.bytes) ∙ (let d = length-drop (512 * k - w.offset) w.bytes in omega arith) in
    (λ z. take (none z) a ++ take (512 - none z) (drop (512 * k - w.offset) w.bytes) ++ drop (none z + length (take (512 - none z) (drop (512 * k - w.offset) w.bytes))) a)
    ∙ ap (λ t. here ++ t) (drop_of_length-le a (omega arith))
    ∙ nil here
  where
    nil : (xs : List ℕ) → xs ++ [] ≡ xs
    nil [] = refl
    nil (x ∷ xs) = ap (λ l. x ∷ l) (nil xs)

-- several, of which one does
pub covered-same : (ws : List WriteItem) (k : ℕ) (a b : List ℕ) → length a ≡ 512 → length b ≡ 512 → list_any (covers k) ws ≡ true → spliced_by ws k a ≡ spliced_by ws k b
covered-same [] k a b la lb c = absurd (cc)
covered-same (w ∷ ws) k a b la lb c = ⊎_elim
    (λ (here : covers k w ≡ true). ap (spliced_by ws k) (spliced-covered w k a la here ∙ sym (spliced-covered w k b lb here)))
    (λ (later : list_any (covers k) ws ≡ true). covered-same ws k (spliced w.offset w.bytes k a) (spliced w.offset w.bytes k b) (length-spliced w.offset w.bytes k a la) (length-spliced w.offset w.bytes k b lb) later)
    (or_cases (covers k w) (list_any (covers k) ws) c)

length-old : (image : Image) (size k a : ℕ) → IsImage image → (a ≢ 0 → a < length image) → length (old_content image size k a) ≡ 512
length-old image size k a whole inside = length-clipped size k (sector_or_zeros image a) (⊎_elim
    (λ (z : a ≡ 0). ap (λ t. length (cond t zeros (get_or image a []))) (eq-eqb a 0 z) ∙ length-replicate {A = ℕ} 512 0)
    (λ (nz : a ≢ 0). ap (λ t. length (cond t zeros (get_or image a []))) (ne_eqb a 0 nz) ∙ whole a [] (inside nz))
    (cases_eq a 0))

-- so it needn't be read
pub covered-content : (image : Image) (size k a : ℕ) (ws : List WriteItem) → IsImage image → (a ≢ 0 → a < length image) → spliced_by ws k (old_content image size k (cond (list_any (covers k) ws) 0 a)) ≡ spliced_by ws k (old_content image size k a)
covered-content image size k a ws whole inside = by_test (list_any (covers k) ws) refl
  where
    by_test : (t : Bool) → list_any (covers k) ws ≡ t → spliced_by ws k (old_content image size k (cond t 0 a)) ≡ spliced_by ws k (old_content image size k a)
    by_test true c = covered-same ws k (old_content image size k 0) (old_content image size k a) (length-old image size k 0 whole (λ nz. absurd (nz refl))) (length-old image size k a whole inside) c
    by_test false c = refl
