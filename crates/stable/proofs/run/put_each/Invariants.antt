use Rattle.std.proofs.Common.{◌≡◌, ◌≤◌, take}
use Rattle.stable.specs.Moments.{LeavesOnly}
use Rattle.stable.specs.Puts.{put_all, AfterSome, AllPastSuperBlock}
use Rattle.stable.specs.States.{ArePuts}
use Rattle.stable.specs.Store.{StaysOpenable}
use Rattle.stable.proofs.run.put_each.Given as goal

abbrev pub invariant-loop-put : goal.invariant-loop-put
invariant-loop-put g l =
    let S = g.S.Stable in
    record {
      done : S.tells → S.image l.store ≡ put_all (take l.put-index l.puts) (S.image l.fn.store);
      crash : LeavesOnly S.moment S.left_since l.fn.store l.store (AfterSome l.puts (S.image l.fn.store));
      opens : AllPastSuperBlock l.puts → StaysOpenable S.opens_since S.moment l.fn.store l.store;
      faults : S.faults l.fn.store ≤ S.faults l.store;
      sectors : S.sector_count l.store ≡ S.sector_count l.fn.store;
      snapshot : ArePuts l.put-index (S.faults l.fn.store) (S.faults l.store) (S.snapshot_of l.fn.store) (S.snapshot_of l.store);
    }
