-- Before the second reading.
use Rattle.std.specs.Prelude.{◌≡◌, ℕ, false, None, replicate}
use Rattle.v7_damage.specs.declared.noted.Noted.{Noted}

-- nothing was noted in tables of this size
pub record IsNothing (size : ℕ) (noted : Noted) : Type 0 where
  pub held : noted.parents.held ≡ replicate size false
  pub dotted : noted.parents.dotted ≡ replicate size false
  pub counts : noted.kept.counts.items ≡ replicate size 0
  pub named : noted.kept.named ≡ replicate size false
  pub wrong : noted.kept.wrong ≡ None
