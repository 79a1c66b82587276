use Rattle.std.proofs.Common.{arith, rules, ℕ, ◌∙◌, ap, get_or, set, length-set, ◌≤◌, ◌<◌}
use Rattle.std.proofs.lemmas.List.Edits.{fill_by_more}
use Rattle.plan_file.specs.Places.{place_within, stored_place}
use Rattle.plan_file.proofs.Listed.{set_within, within_low, zeros_within}
use Rattle.plan_file.proofs.places.body_places.Goals as goal

pub loop-index-preserved : goal.loop-index-preserved
loop-index-preserved c =
    let place : ℕ → ℕ = λ (k : ℕ). place_within c.args.sectors (stored_place c.args.places.now c.args.single k) in
    let i = c.loop-index.invariant in
    let long = i.long in
    let below = c.loop-index-test.true in
    record {
      long = length-set c.loop-index.body c.loop-index.index c.within.result ∙ long;
      within = set_within (λ a. (2 ≤ a) × (a < c.args.sectors)) c.loop-index.body c.loop-index.index c.within.result i.within (λ nz. within_low c.args.sectors c.stored_place.result (λ z. nz (c.within.ensures ∙ z)) c.within.result c.within.ensures);
      places = λ k lt. ap (λ (x : ℕ). get_or (set c.loop-index.body c.loop-index.index x) k 0) (c.within.ensures ∙ ap (place_within c.args.sectors) c.stored_place.ensures)
          ∙ fill_by_more place c.loop-index.body c.loop-index.index 0 (omega (arith, long, below)) i.places k lt;
    }

pub loop-index-init : goal.loop-index-init
loop-index-init c = record { long = search rules; within = zeros_within (λ a. (2 ≤ a) × (a < c.args.sectors)) 138; places = λ k lt. absurd (omega arith) }
