-- A write below the size leaves the zeros past it.
use Rattle.std.proofs.Common.{◌≡◌, ◌≢◌, ℕ, ◌+◌, ◌-◌, ◌*◌, ◌<◌, ◌≤◌, min, List, [], ◌∷◌, ◌++◌, length, take, drop, replicate, refl, sym, ap, ◌∙◌, arith, ⊎_elim, length-take, length-append, length-drop, take-append-drop, drop-drop, drop_at, drop_of_length-le, append_assoc}
use Rattle.std.proofs.lemmas.Bool.{cases_eq, cases_lt}
use Rattle.std.proofs.lemmas.List.{length-replicate}
use Rattle.files_model.specs.Files.{clipped}
use Rattle.files_model.specs.Step.{spliced}

-- a sector is as clipped if what stands past the size is zeros
pub clipped_fixed : (size k : ℕ) (b : List ℕ) → drop (size - 512 * k) b ≡ replicate (512 - (size - 512 * k)) 0 → clipped size k b ≡ b
unfolding clipped
clipped_fixed size k b e = ap (λ z. take (size - 512 * k) b ++ z) (sym e) ∙ take-append-drop (size - 512 * k) b

pub clipped_tail : (size k : ℕ) (b : List ℕ) → length b ≡ 512 → clipped size k b ≡ b → drop (size - 512 * k) b ≡ replicate (512 - (size - 512 * k)) 0
unfolding clipped
clipped_tail size k b long e =
    let r : ℕ = size - 512 * k in
    ⊎_elim
    (λ (in' : r < 512). let n : length (take r b) ≡ r = omega (arith, length-take r b) in
    ap (drop r) (sym e) ∙ drop_at (take r b) (replicate (512 - r) 0) r n)
    (λ (out : 512 ≤ r). drop_of_length-le b (omega arith) ∙ (let none : 0 ≡ 512 - r = omega arith in ap (λ z. replicate z 0) none))
    (cases_lt r 512)

tail_of_clipped : (size k : ℕ) (b : List ℕ) → length b ≡ 512 → drop (size - 512 * k) (clipped size k b) ≡ replicate (512 - (size - 512 * k)) 0
unfolding clipped
tail_of_clipped size k b long =
    let r : ℕ = size - 512 * k in
    ⊎_elim
    (λ (in' : r < 512). let n : length (take r b) ≡ r = omega (arith, length-take r b) in drop_at (take r b) (replicate (512 - r) 0) r n)
    (λ (out : 512 ≤ r). let none : 512 - r ≡ 0 = omega arith in
    let len : length (take r b ++ replicate (512 - r) 0) ≤ r = simp (length-append, length-take, length-replicate) (omega arith) in
    drop_of_length-le (take r b ++ replicate (512 - r) 0) len ∙ ap (λ z. replicate z 0) (sym none))
    (cases_lt r 512)

pub clipped_twice : (size k : ℕ) (b : List ℕ) → length b ≡ 512 → clipped size k (clipped size k b) ≡ clipped size k b
clipped_twice size k b long = clipped_fixed size k (clipped size k b) (tail_of_clipped size k b long)

pub length-clipped : (size k : ℕ) (b : List ℕ) → length b ≡ 512 → length (clipped size k b) ≡ 512
unfolding clipped
length-clipped size k b long = simp (length-append, length-take, length-replicate) (omega arith)

pub drop_past : (at r : ℕ) (h d : List ℕ) → at ≤ length d → at + length h ≤ r → drop r (take at d ++ h ++ drop (at + length h) d) ≡ drop r d
drop_past at r h d in' far =
    let e : ℕ = at + length h in
    let n : length (take at d ++ h) ≡ e = simp (length-append, length-take) (omega arith) in
    let split : e + (r - e) ≡ r = omega arith in
    ap (λ z. drop z (take at d ++ h ++ drop e d)) (sym split) ∙ sym (drop-drop (r - e) e (take at d ++ h ++ drop e d))
    ∙ ap (drop (r - e)) (drop_at (take at d ++ h) (drop e d) e n) ∙ drop-drop (r - e) e d ∙ ap (λ z. drop z d) split

-- bytes that end at or before the size leave the zeros past it
pub clipped-spliced : (size k offset : ℕ) (bytes old : List ℕ) → length old ≡ 512 → clipped size k old ≡ old → offset + length bytes ≤ size → clipped size k (spliced offset bytes k old) ≡ spliced offset bytes k old
unfolding spliced
clipped-spliced size k offset bytes old long zeros inside =
    let r : ℕ = size - 512 * k in
    let before : ℕ = offset - 512 * k in
    let here : List ℕ = take (512 - before) (drop (512 * k - offset) bytes) in
    let n : length here ≡ min (512 - before) (length bytes - (512 * k - offset)) = simp (length-take, length-drop) refl in
    ⊎_elim
    (λ (none : length here ≡ 0).
    let empty : here ≡ [] = no_bytes here none in
    let same : take before old ++ here ++ drop (before + length here) old ≡ old =
    ap (λ h. take before old ++ h ++ drop (before + length h) old) empty ∙ no_change before old in
    ap (clipped size k) same ∙ zeros ∙ sym same)
    (λ (some : length here ≢ 0).
    clipped_fixed size k (take before old ++ here ++ drop (before + length here) old)
    (drop_past before r here old (omega arith) (omega arith) ∙ clipped_tail size k old long zeros))
    (cases_eq (length here) 0)
  where
    no_bytes : (h : List ℕ) → length h ≡ 0 → h ≡ []
    no_bytes [] e = refl
    no_bytes (x ∷ xs) e = absurd (omega arith)

    no_change : (n : ℕ) (old : List ℕ) → take n old ++ [] ++ drop (n + 0) old ≡ old
    no_change n old = simp (append_assoc) (let z : n + 0 ≡ n = omega arith in ap (λ m. take n old ++ drop m old) z ∙ take-append-drop n old)
