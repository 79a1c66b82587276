use Rattle.std.proofs.Common.{arith, ◌≡◌, ◌≤◌, ◌-◌, ◌*◌, ◌%◌, ◌^◌, ℕ, min, ap, ◌∙◌, bit_and}
use Rattle.std.proofs.lemmas.Nat.Bits.{bit_at_and, ones_shl, bit_at_mask_inside, bit_at_mask_below, bit_at-lt}
use Rattle.std.specs.Int.{bit_at}
use Rattle.index_sets.proofs.bits.without_bits_below.Goals as goal

masked : (word bit k : ℕ) → bit ≤ 64 → bit_at (bit_and word ((2 ^ 64 - 1) * 2 ^ bit % 2 ^ 64)) k ≡ min (bit_at word k) (bit_at (2 ^ 64 - 2 ^ bit) k)
masked word bit k le = bit_at_and word ((2 ^ 64 - 1) * 2 ^ bit % 2 ^ 64) k ∙ ap (λ mask. min (bit_at word k) (bit_at mask k)) (ones_shl 64 bit le)

pub returns-clause-from : goal.returns-clause-from
returns-clause-from c = λ k low lt. masked c.args.word c.args.bit k (omega arith) ∙ ap (min (bit_at c.args.word k)) (bit_at_mask_inside c.args.bit 64 k low lt) ∙ (let few = bit_at-lt c.args.word k in omega arith)

pub returns-clause-below : goal.returns-clause-below
returns-clause-below c = λ k lt. masked c.args.word c.args.bit k (omega arith) ∙ ap (min (bit_at c.args.word k)) (bit_at_mask_below c.args.bit 64 k lt) ∙ omega arith
