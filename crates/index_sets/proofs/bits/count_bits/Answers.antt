use Rattle.std.proofs.Common.{arith, ◌≡◌, ◌<◌, ◌==◌, ◌^◌, ℕ, zero, suc, false, cond, map, sym, ap, subst, ◌∙◌, count_by, count_ones, refl}
use Rattle.std.proofs.lemmas.Nat.Bits.{same_from_bits_below, bit_at-lt}
use Rattle.std.proofs.lemmas.Simd.{mask_l-lt, bit_mask_l, ones-mask_l}
use Rattle.std.proofs.lemmas.List.FromFn.{length-map-range_with_len, get_or-map-range_with_len}
use Rattle.std.specs.Int.{bit_at}
use Rattle.std.specs.List.{range_with_len}
use lib.Lanes.{mask_l}
use Rattle.index_sets.specs.Bits.{bits_of}
use Rattle.index_sets.proofs.bits.count_bits.Goals as goal

-- a digit by its test
digit : (d : ℕ) → d < 2 → d ≡ cond (d == 1) 1 0
digit zero lt = refl
digit (suc zero) lt = refl
digit (suc (suc d)) lt = absurd (omega arith)

-- a number of n bits is the mask of its bits
mask_is : (n word : ℕ) → word < 2 ^ n → word ≡ mask_l (map (λ k. bit_at word k == 1) (range_with_len 0 n))
mask_is n word lt = same_from_bits_below n word (mask_l (map (λ k. bit_at word k == 1) (range_with_len 0 n))) lt
    (subst (λ m. mask_l (map (λ k. bit_at word k == 1) (range_with_len 0 n)) < 2 ^ m) (length-map-range_with_len (λ k. bit_at word k == 1) 0 n) (mask_l-lt (map (λ k. bit_at word k == 1) (range_with_len 0 n))))
    (λ i below. digit (bit_at word i) (bit_at-lt word i)
    ∙ ap (λ b. cond b 1 0) (sym (get_or-map-range_with_len (λ k. bit_at word k == 1) 0 n i i false below (omega arith)))
    ∙ sym (bit_mask_l (map (λ k. bit_at word k == 1) (range_with_len 0 n)) i))

ones_are : (n word : ℕ) → word < 2 ^ n → count_ones word ≡ count_by (λ k. bit_at word k == 1) (range_with_len 0 n)
ones_are n word lt = ap count_ones (mask_is n word lt) ∙ ones-mask_l (λ k. bit_at word k == 1) (range_with_len 0 n)

pub returns : goal.returns
unfolding bits_of
returns c = ones_are 64 c.args.word c.ranges.word.fits
