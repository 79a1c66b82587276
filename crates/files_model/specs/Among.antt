-- Numbers in lists.
use Rattle.std.specs.Prelude.{ℕ, Bool, List, ◌==◌}
use Rattle.std.specs.List.{list_any}

-- k is one of these
abbrev pub is_among : ℕ → List ℕ → Bool
is_among k ks = list_any (λ q. q == k) ks
