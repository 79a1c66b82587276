use Rattle.std.proofs.Common.{◌≡◌, ◌≤◌, ℕ, length}
use Rattle.stable.specs.Looked.{Looked}
use Rattle.v7_map.specs.Image.{inode_sector}
use Rattle.v7_mend.specs.Settles.{inode_here, AreSettledHere, SettledBelow}
use Rattle.v7_mend.proofs.settle.settle_eight.Given as goal

abbrev pub invariant-loop-ino : goal.invariant-loop-ino
invariant-loop-ino g l =
    let S = g.S.Stable in
    record {
      done : S.tells → SettledBelow (S.image l.fn.store) l.held l.sector l.links l.bytes l.ino;
      same : S.tells → AreSettledHere (S.image l.fn.store) l.held l.sector l.links → l.bytes ≡ l.held;
      rest : (i : ℕ) → 1 ≤ i → inode_sector i ≡ l.sector → l.ino ≤ i → inode_here l.bytes i ≡ inode_here l.held i;
      long : length l.bytes ≡ 512;
      looked : Looked S l.fn.store l.store;
    }
