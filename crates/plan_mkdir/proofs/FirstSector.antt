-- The first sector of a new directory.
use Rattle.std.proofs.Common.{ℕ, List, [], ◌∷◌, Some, ◌∙◌, arith}
use Rattle.name_plans.specs.MakingDirectory.{AreDots}
use Rattle.v7_strokes.specs.Slots.{PutsSlot}

pub two_slots : (old one two : List ℕ) (i p : ℕ) → PutsSlot old 0 one (Some (i, 46 ∷ [])) → PutsSlot one 1 two (Some (p, 46 ∷ 46 ∷ [])) → AreDots two i p
two_slots old one two i p a b = record {
  long = b.long;
  self = b.others 0 (λ e. omega arith) (omega arith) ∙ a.here;
  up = b.here;
}
