-- Where the blocks of a directory are to stand that takes one sector more.
use Rattle.std.specs.Prelude.{◌≡◌, ◌≢◌, ℕ, true, not, ◌==◌}
use Rattle.std.specs.List.{range_with_len, list_any}
use Rattle.v7_map.specs.Frame.{Frame, Place, Body, Single, Double}
use Rattle.v7_sets.specs.Sets.{IsFreeBlock}

-- Each block that directory d has stays, sector q is new, and each new block stood nowhere.
pub record IsTarget (f : Frame) (d q : ℕ) (target : Place → ℕ) : Type 0 where
  pub kept : (p : Place) → f.address d p ≢ 0 → target p ≡ f.address d p
  pub fresh : (p : Place) → f.address d p ≡ 0 → target p ≢ 0 → IsFreeBlock f (target p)
  pub apart : (p r : Place) → target p ≢ 0 → target p ≡ target r → p ≡ r
  pub held : target (Body q) ≢ 0
  pub added : (l : ℕ) → f.address d (Body l) ≡ 0 → target (Body l) ≢ 0 → l ≡ q
  pub map_needed : target Single ≢ 0 → list_any (λ l. not (target (Body l) == 0)) (range_with_len 10 128) ≡ true
  pub double : target Double ≡ 0
