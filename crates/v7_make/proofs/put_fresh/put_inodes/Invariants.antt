use Rattle.std.proofs.Common.{◌≡◌, ◌≤◌, ◌-◌}
use Rattle.stable.specs.Moments.{LeavesOnly}
use Rattle.stable.specs.States.{SomePuts}
use Rattle.stable.specs.Store.{StaysOpenable}
use Rattle.v7_make.specs.Made.{FreshTo, KeepsButInodes}
use Rattle.v7_make.proofs.put_fresh.put_inodes.Given as goal

abbrev pub invariant-loop-sector : goal.invariant-loop-sector
invariant-loop-sector g l =
    let S = g.S.Stable in
    record {
      done : S.tells → FreshTo l.isize l.now l.sector (S.image l.store);
      crash : LeavesOnly S.moment S.left_since l.fn.store l.store (KeepsButInodes l.isize (S.image l.fn.store));
      opens : StaysOpenable S.opens_since S.moment l.fn.store l.store;
      faults : S.faults l.fn.store ≤ S.faults l.store;
      sectors : S.sector_count l.store ≡ S.sector_count l.fn.store;
      snapshot : SomePuts (l.sector - 2) (S.faults l.fn.store) (S.faults l.store) (S.snapshot_of l.fn.store) (S.snapshot_of l.store);
    }
