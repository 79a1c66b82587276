use Rattle.std.proofs.Common.{◌≡◌, ℕ, ◌+◌, ◌*◌, ◌<◌, get_or, length}
use Rattle.v7_layout.specs.Numbers.{field}
use Rattle.v7_layout.proofs.fields.addresses_at.Given as goal

abbrev pub invariant-loop-k : goal.invariant-loop-k
invariant-loop-k l =
    (length l.addresses ≡ 10)
    × ((k : ℕ) → k < l.k → get_or l.addresses k 0 ≡ field l.bytes (l.at + 3 * k) 3)
