-- A call that leaves the files is planned by no puts.
use Rattle.std.proofs.Common.{◌≡◌, ℕ, [], ◌∷◌, refl, sym, inl}
use Rattle.files_model.specs.Step.{step}
use Rattle.files_model.specs.Torn.{Asked}
use Rattle.stable.specs.Store.{Image}
use Rattle.v7_map.specs.Frame.{frame}
use Rattle.v7_map.specs.Plans.{IsPlanOf}
use Rattle.v7_map.specs.View.{view}
use Rattle.v7_map.specs.Weak.{IsStrong}

pub nothing-put : (image : Image) (asked : Asked) (now : ℕ) → IsStrong (frame image) → (step (view image) asked.0 asked.1 now).1 ≡ view image → IsPlanOf image (asked ∷ []) now []
nothing-put image asked now strong e = record {
  past = tt;
  inside = tt;
  whole = tt;
  prefixes = record { weak = strong.weak; torn = inl refl };
  strong = strong;
  after = sym e;
}
