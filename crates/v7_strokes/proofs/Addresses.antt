-- A block of addresses with another address.
use Rattle.std.proofs.Common.{◌≡◌, ℕ, ◌+◌, ◌*◌, ◌^◌, ◌<◌, ◌≤◌, List, take, drop, ◌++◌, length, sym, ap, ◌∙◌, arith, ⊎_elim}
use Rattle.std.proofs.lemmas.Bool.{cases_lt}
use Rattle.byteorder.specs.Endian.{little_bytes}
use Rattle.v7_layout.specs.Numbers.{field, little}
use Rattle.v7_layout.proofs.Little.{little-little_bytes}
use Rattle.v7_layout.proofs.Parts.{length-splice, field-splice, field-splice_before, field-splice_after}
use Rattle.v7_strokes.specs.Over.{PutsAddress}

pub puts-address : (block bytes result : List ℕ) (n address : ℕ) → length block ≡ 512 → n < 128 → length bytes ≡ 4 → bytes ≡ little_bytes 4 address → address < 256 ^ 4
    → result ≡ take (4 * n) block ++ bytes ++ drop (4 * n + length bytes) block → PutsAddress block n address result
puts-address block bytes result n address whole low four is fits made = record {
  long = ap length made ∙ length-splice block bytes (4 * n) (omega arith) ∙ whole;
  here = (λ z. field (made z) (4 * n) 4) ∙ ap (λ m. field (take (4 * n) block ++ bytes ++ drop (4 * n + length bytes) block) (4 * n) m) (sym four)
      ∙ field-splice block bytes (4 * n) (omega arith) ∙ ap little is ∙ little-little_bytes 4 address fits;
  others = λ m ne lt. (λ z. field (made z) (4 * m) 4) ∙ ⊎_elim
      (λ (before : m < n). field-splice_before block bytes (4 * n) (4 * m) 4 (omega arith) (omega arith))
      (λ (ge : n ≤ m). field-splice_after block bytes (4 * n) (4 * m) 4 (omega arith) (omega arith))
      (cases_lt m n);
}
