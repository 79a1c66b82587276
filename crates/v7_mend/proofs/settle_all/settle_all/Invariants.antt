use Rattle.std.proofs.Common.{◌-◌, ◌≤◌}
use Rattle.v7_mend.specs.Changes.{Differ, HasInodes}
use Rattle.v7_mend.specs.Keeps.{KeepsFiles}
use Rattle.v7_mend.specs.Repairs.{SettledTo}
use Rattle.v7_mend.specs.Runs.{HasPut}
use Rattle.v7_mend.proofs.settle_all.settle_all.Given as goal

abbrev pub invariant-loop-sector : goal.invariant-loop-sector
invariant-loop-sector g l =
    let S = g.S.Stable in
    record {
      done : S.tells → SettledTo (S.image l.fn.store) (S.image l.store) l.links l.sector;
      exact : S.tells → Differ (HasInodes l.sector) (S.image l.fn.store) (S.image l.store) l.changed;
      puts : HasPut S (KeepsFiles (S.image l.fn.store)) l.changed l.fn.store l.store;
      few : l.changed ≤ l.sector - 2;
    }
