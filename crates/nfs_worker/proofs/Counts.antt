-- Counts of faults that rose.
use Rattle.std.proofs.Common.{arith, ℕ, ◌≤◌}
use Rattle.stable.specs.Counts.{RoseBy}

-- a count that was lower still has risen
pub rose_earlier : (n a b c : ℕ) → a ≤ b → RoseBy n b c → RoseBy n a c
rose_earlier n a b c le rose = omega (arith, le, rose)
