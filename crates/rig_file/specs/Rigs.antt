-- What a rig tells that was opened or made now.
use Rattle.std.specs.Prelude.{◌≡◌, None}
use Rattle.rig.specs.declared.rig.Rig.{Ghosts}

-- nothing is counted yet
pub record IsNew {R : Type 0} (r : Ghosts R) (rig : R) : Type 0 where
  pub faults : r.faults rig ≡ 0
  pub disk_writes : r.disk_writes rig ≡ 0
  pub readings : r.readings rig ≡ record { count = 0; last = None }
