use Rattle.std.proofs.Common.{◌≡◌, ◌≤◌, ◌-◌, ◌/◌}
use Rattle.stable.specs.Moments.{LeavesOnly}
use Rattle.stable.specs.States.{SomePuts}
use Rattle.stable.specs.Store.{StaysOpenable}
use Rattle.v7_make.specs.Chains.{ChainedFrom, IsFilled, KeepsVolume}
use Rattle.v7_make.specs.Sets.{free_among}
use Rattle.v7_make.proofs.chain.write_records.Given as goal

abbrev pub invariant-loop-count : goal.invariant-loop-count
invariant-loop-count g l =
    let S = g.S.Stable in
    record {
      done : S.tells → ChainedFrom (S.image l.fn.store) (S.image l.store) l.blocks l.chain (l.size - l.count) l.count;
      filled : IsFilled l.chain (free_among l.blocks (l.size - l.count) l.count);
      crash : LeavesOnly S.moment S.left_since l.fn.store l.store (KeepsVolume l.blocks (S.image l.fn.store));
      opens : S.tells → StaysOpenable S.opens_since S.moment l.fn.store l.store;
      faults : S.faults l.fn.store ≤ S.faults l.store;
      sectors : S.sector_count l.store ≡ S.sector_count l.fn.store;
      snapshot : SomePuts (free_among l.blocks (l.size - l.count) l.count / 50) (S.faults l.fn.store) (S.faults l.store) (S.snapshot_of l.fn.store) (S.snapshot_of l.store);
    }
