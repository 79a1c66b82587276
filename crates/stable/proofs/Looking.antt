-- Looks at a store, one after the other.
use Rattle.std.proofs.Common.{◌≡◌, refl, ◌∙◌, arith}
use Rattle.stable.specs.Looked.{Looked}
use Rattle.stable.specs.Moments.{IsClocked}
use Rattle.stable.specs.declared.store.Stable.{Ghosts}
use Rattle.stable.proofs.Clocked.{started, idles}

module _ {S : Type 0} (s : Ghosts S) (clocked : IsClocked s.tells s.image s.moment s.left_since) where
  -- a look of nothing
  pub no_look : (store : S) → Looked s store store
  no_look store = record {
    image = refl;
    crash = started clocked store (λ i. i ≡ s.image store) (λ tells. refl);
    opens = λ t le opens. opens;
    later = omega arith;
    sectors = refl;
    snapshot = refl;
  }

  -- a look and a look
  pub looks_again : {old mid new : S} → Looked s old mid → Looked s mid new → Looked s old new
  looks_again first then_on = record {
    image = then_on.image ∙ first.image;
    crash = idles clocked first.crash then_on.crash;
    opens = λ t le opens. then_on.opens t (omega (arith, le, first.crash.later)) (first.opens t le opens);
    later = omega (arith, first.later, then_on.later);
    sectors = then_on.sectors ∙ first.sectors;
    snapshot = then_on.snapshot ∙ first.snapshot;
  }
