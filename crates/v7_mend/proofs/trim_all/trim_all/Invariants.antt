use Rattle.std.proofs.Common.{◌*◌, ◌-◌, ◌≤◌}
use Rattle.v7_mend.specs.Changes.{Differ, IsMapIn}
use Rattle.v7_mend.specs.Keeps.{KeepsFiles}
use Rattle.v7_mend.specs.Runs.{HasPut}
use Rattle.v7_mend.specs.Trims.{AreTrimmed, first_in}
use Rattle.v7_mend.proofs.trim_all.trim_all.Given as goal

abbrev pub invariant-loop-sector : goal.invariant-loop-sector
invariant-loop-sector g l =
    let S = g.S.Stable in
    record {
      done : S.tells → AreTrimmed (S.image l.fn.store) (S.image l.store) l.links 1 (first_in l.sector);
      exact : S.tells → Differ (IsMapIn (S.image l.fn.store) 1 (first_in l.sector)) (S.image l.fn.store) (S.image l.store) l.changed;
      puts : HasPut S (KeepsFiles (S.image l.fn.store)) l.changed l.fn.store l.store;
      few : l.changed ≤ 8 * (l.sector - 2);
    }
