-- What a call leaves alone on a rig. `r` is what the rig's type tells, as `R.Rig` in a clause.
use Rattle.std.specs.Prelude.{◌≡◌, ◌≤◌}
use Rattle.stable.specs.Moments.{LeavesOnly}
use Rattle.rig.specs.Devices.{Unchanged}
use Rattle.rig.specs.declared.rig.Rig.{Ghosts}

-- A call that only looks: nothing that the rig tells of itself has changed, at any moment, but for faults that were counted.
pub record Looked {R : Type 0} (r : Ghosts R) (old new : R) : Type 0 where
  pub contents : r.contents new ≡ r.contents old
  pub crash : LeavesOnly r.moment r.left_since old new (Unchanged (r.contents old))
  pub later : r.faults old ≤ r.faults new
  pub sizes : r.sizes new ≡ r.sizes old
  pub is_kept : r.is_kept new ≡ r.is_kept old
  pub disk_writes : r.disk_writes new ≡ r.disk_writes old
  pub readings : r.readings new ≡ r.readings old

-- A call that marks nothing and reads no battery.
pub record Stays {R : Type 0} (r : Ghosts R) (old new : R) : Type 0 where
  pub later : r.faults old ≤ r.faults new
  pub sizes : r.sizes new ≡ r.sizes old
  pub is_kept : r.is_kept new ≡ r.is_kept old
  pub readings : r.readings new ≡ r.readings old

-- A call that writes no sector of the disk either.
pub record StaysOffDisk {R : Type 0} (r : Ghosts R) (old new : R) : Type 0 where
  pub later : r.faults old ≤ r.faults new
  pub sizes : r.sizes new ≡ r.sizes old
  pub is_kept : r.is_kept new ≡ r.is_kept old
  pub disk_writes : r.disk_writes new ≡ r.disk_writes old
  pub readings : r.readings new ≡ r.readings old

-- Nothing that a rig tells of itself has changed, nor has time gone on.
pub record Untouched {R : Type 0} (r : Ghosts R) (old new : R) : Type 0 where
  pub contents : r.contents new ≡ r.contents old
  pub crash : LeavesOnly r.moment r.left_since old new (Unchanged (r.contents old))
  pub moment : r.moment new ≡ r.moment old
  pub faults : r.faults new ≡ r.faults old
  pub sizes : r.sizes new ≡ r.sizes old
  pub is_kept : r.is_kept new ≡ r.is_kept old
  pub disk_writes : r.disk_writes new ≡ r.disk_writes old
  pub readings : r.readings new ≡ r.readings old
