-- Calls of a repair, one after the other.
use Rattle.std.proofs.Common.{◌≡◌, inl, inr, ℕ, List, set, ap, ◌∙◌}
use Rattle.stable.specs.Store.{Image, SectorPut}
use Rattle.v7_mend.specs.Settles.{SettledBytes, MaySettle}
use Rattle.v7_mend.specs.Trims.{Either}

-- a put leaves one of two images
pub either_put : (old mid new d : Image) (sector : ℕ) (bytes : List ℕ) → mid ≡ old → set mid sector bytes ≡ new → SectorPut sector bytes mid d → Either old new d
either_put old mid new d sector bytes same put (inl e) = inl (e ∙ same)
either_put old mid new d sector bytes same put (inr e) = inr (e ∙ put)

-- of images that are others by equations
pub either_same : (old mid next new d : Image) → mid ≡ old → next ≡ new → Either mid next d → Either old new d
either_same old mid next new d same so (inl e) = inl (e ∙ same)
either_same old mid next new d same so (inr e) = inr (e ∙ so)

-- a put of a sector of inodes
pub may_settle : (old mid d : Image) (sector : ℕ) (links bytes : List ℕ) → mid ≡ old → SettledBytes old sector links bytes → SectorPut sector bytes mid d → MaySettle old sector links d
may_settle old mid d sector links bytes same settled (inl e) = inl (e ∙ same)
may_settle old mid d sector links bytes same settled (inr e) = inr (record { bytes = bytes; settled = settled; is = e ∙ ap (λ x. set x sector bytes) same })
