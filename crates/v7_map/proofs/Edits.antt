-- A sector clipped and spliced, as slices do it.
use Rattle.std.proofs.Common.{◌≡◌, ℕ, ◌+◌, ◌-◌, ◌*◌, ◌<◌, ◌≤◌, min, List, [], ◌++◌, length, take, drop, replicate, sym, ap, ◌∙◌, arith, ⊎_elim, append-nil, append_assoc, take_all, drop-drop, drop_of_length-le, length-take, length-drop}
use Rattle.std.proofs.Math.Nat.{add-sub_cancel_left}
use Rattle.std.proofs.lemmas.Bool.{cases_lt}
use Rattle.std.proofs.lemmas.List.{drop-replicate, length-replicate}
use Rattle.files_model.specs.Files.{clipped}
use Rattle.files_model.specs.Step.{spliced}

-- as many as there are
take_within : (m n : ℕ) (xs : List ℕ) → m ≡ min n (length xs) → take m xs ≡ take n xs
take_within m n xs e = ⊎_elim
    (λ (lt : n < length xs). let same : m ≡ n = omega arith in ap (λ k. take k xs) same)
    (λ (ge : length xs ≤ n). take_all m xs (omega arith) ∙ sym (take_all n xs ge))
    (cases_lt n (length xs))

drop_within : (m n : ℕ) (xs : List ℕ) → m ≡ min n (length xs) → drop m xs ≡ drop n xs
drop_within m n xs e = ⊎_elim
    (λ (lt : n < length xs). let same : m ≡ n = omega arith in ap (λ k. drop k xs) same)
    (λ (ge : length xs ≤ n). drop_of_length-le xs (omega arith) ∙ sym (drop_of_length-le xs ge))
    (cases_lt n (length xs))

-- the end of a sector of zeros
zero_tail : (kept : ℕ) → take {A = ℕ} (512 - kept) (drop kept (replicate 512 0)) ≡ replicate (512 - kept) 0
zero_tail kept = ap (take (512 - kept)) (drop-replicate kept 512 0) ∙ take_all (512 - kept) (replicate (512 - kept) 0) (simp (length-replicate) (omega arith))

nothing_past : (kept : ℕ) (old : List ℕ) → length old ≡ 512 → drop (512 - kept) (drop kept old) ≡ []
nothing_past kept old long = drop-drop (512 - kept) kept old ∙ drop_of_length-le old (omega arith)

-- what is left of a sector
room : (start before : ℕ) → before ≡ min start 512 → 512 - before ≡ 512 - start
room start before b = omega arith

-- zeros from the size on
pub clip-is : (size index kept : ℕ) (old : List ℕ) → length old ≡ 512 → kept ≡ min (size - 512 * index) 512
    → take kept old ++ (take (512 - kept) (drop kept (replicate 512 0)) ++ drop (512 - kept) (drop kept old)) ≡ clipped size index old
unfolding clipped
clip-is size index kept old long is =
    (λ z. take_within kept (size - 512 * index) old (is ∙ ap (min (size - 512 * index)) (sym long)) z ++ (zero_tail kept z ++ nothing_past kept old long z))
    ∙ ap (λ xs. take (size - 512 * index) old ++ xs) (append-nil (replicate (512 - kept) 0))
    ∙ ap (λ m. take (size - 512 * index) old ++ replicate m 0) rest
  where
    rest : 512 - kept ≡ 512 - (size - 512 * index)
    rest = room (size - 512 * index) kept is

-- how many bytes fall into the sector, where it takes `room` and `rest` are left
counted : (skipped count room rest : ℕ) → count ≡ min rest room → skipped + count - skipped ≡ min room rest
counted skipped count room rest c = omega arith

-- where they end
ended : (start before count : ℕ) → before ≡ min start 512 → count ≤ 512 - before → before + (before + count - before) ≡ min (start + count) 512
ended start before count b le = omega arith

left_over : (from skipped size : ℕ) → skipped ≡ min from size → size - skipped ≡ size - from
left_over from skipped size s = omega arith

fits : (count a b : ℕ) → count ≡ min a b → count ≤ b
fits count a b c = omega arith

-- the bytes that fall into the sector
pub splice-is : (offset : ℕ) (bytes : List ℕ) (index before skipped count : ℕ) (old : List ℕ) → length old ≡ 512
    → before ≡ min (offset - 512 * index) 512 → skipped ≡ min (512 * index - offset) (length bytes) → count ≡ min (length bytes - skipped) (512 - before)
    → take before old ++ (take (skipped + count - skipped) (drop skipped bytes) ++ drop (before + count - before) (drop before old)) ≡ spliced offset bytes index old
unfolding spliced
splice-is offset bytes index before skipped count old long b s c =
    let start : ℕ = offset - 512 * index in
    let from : ℕ = 512 * index - offset in
    let rest : List ℕ = drop from bytes in
    let here : List ℕ = take (512 - start) rest in
    let size : length bytes - skipped ≡ length rest = left_over from skipped (length bytes) s ∙ sym (length-drop from bytes) in
    let many : count ≡ min (length rest) (512 - start) = c ∙ (λ z. min (size z) (room start before b z)) in
    let taken : skipped + count - skipped ≡ min (512 - start) (length rest) = counted skipped count (512 - start) (length rest) many in
    let size' : count ≡ length here = sym (add-sub_cancel_left skipped count) ∙ taken ∙ sym (length-take (512 - start) rest) in
    let front : take before old ≡ take start old = take_within before start old (b ∙ ap (min start) (sym long)) in
    let same : drop skipped bytes ≡ rest = drop_within skipped from bytes s in
    let middle : take (skipped + count - skipped) (drop skipped bytes) ≡ here = ap (take (skipped + count - skipped)) same ∙ take_within (skipped + count - skipped) (512 - start) rest taken in
    let end : before + (before + count - before) ≡ min (start + length here) (length old) = ended start before count b (fits count (length bytes - skipped) (512 - before) c) ∙ (λ z. min (start + size' z) (sym long z)) in
    let back : drop (before + count - before) (drop before old) ≡ drop (start + length here) old = drop-drop (before + count - before) before old ∙ drop_within (before + (before + count - before)) (start + length here) old end in
    (λ z. front z ++ (middle z ++ back z)) ∙ sym (append_assoc (take start old) here (drop (start + length here) old))
