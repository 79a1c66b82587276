-- How calls and turns leave a volume.
use Rattle.std.specs.Prelude.{◌≡◌, true, false}
use Rattle.stable.specs.Counts.{Rose}
use Rattle.stable.specs.declared.store.Stable.{Ghosts}
use Rattle.volume.specs.Mounted.{store_of, is_hurt}
use Rattle.volume.specs.Rests.{Rests}
use Rattle.volume.specs.declared.mounted.Volume.{Volume}

-- A volume is at rest again. It was hurt only where a device failed.
pub record StaysAtRest {S : Type 0} (s : Ghosts S) (old new : Volume S) : Type 0 where
  pub rest : Rests s new
  pub hurt : is_hurt new ≡ true → is_hurt old ≡ false → Rose (s.faults (store_of old)) (s.faults (store_of new))
