use Rattle.std.proofs.Common.{◌+◌, ◌≤◌}
use Rattle.v7_mend.specs.Changes.{Differ, IsMapIn}
use Rattle.v7_mend.specs.Keeps.{KeepsFiles}
use Rattle.v7_mend.specs.Runs.{HasPut}
use Rattle.v7_mend.specs.Trims.{AreTrimmed, first_in}
use Rattle.v7_mend.proofs.trim_all.trim_eight.Given as goal

abbrev pub invariant-loop-ino : goal.invariant-loop-ino
invariant-loop-ino g l =
    let S = g.S.Stable in
    record {
      done : S.tells → AreTrimmed (S.image l.fn.store) (S.image l.store) l.links (first_in l.sector) l.ino;
      exact : S.tells → Differ (IsMapIn (S.image l.fn.store) (first_in l.sector) l.ino) (S.image l.fn.store) (S.image l.store) l.changed;
      puts : HasPut S (KeepsFiles (S.image l.fn.store)) l.changed l.fn.store l.store;
      few : l.changed + first_in l.sector ≤ l.ino;
    }
