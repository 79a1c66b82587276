use Rattle.std.proofs.Common.{◌≡◌, ◌≢◌, ℕ, ◌<◌, ◌≤◌, get_or, length}
use Rattle.plan_file.specs.Places.{place_within, stored_place}
use Rattle.plan_file.proofs.places.body_places.Given as goal

abbrev pub invariant-loop-index : goal.invariant-loop-index
invariant-loop-index l = record {
  long : length l.body ≡ 138;
  within : (k : ℕ) → get_or l.body k 0 ≢ 0 → (2 ≤ get_or l.body k 0) × (get_or l.body k 0 < l.sectors);
  places : (k : ℕ) → k < l.index → get_or l.body k 0 ≡ place_within l.sectors (stored_place l.places l.single k);
}
