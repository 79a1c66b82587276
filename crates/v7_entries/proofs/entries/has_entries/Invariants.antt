use Rattle.std.proofs.Common.{◌≡◌, ℕ, ◌*◌, ◌/◌, ◌<◌, ◌≤◌, false}
use Rattle.std.specs.Option.{is_some}
use Rattle.stable.specs.Looked.{Looked}
use Rattle.v7_map.specs.Frame.{head_of, slot_in}
use Rattle.v7_entries.specs.Bodies.{HasBody}
use Rattle.v7_entries.proofs.entries.has_entries.Given as goal

abbrev pub invariant-loop-index : goal.invariant-loop-index
invariant-loop-index g l =
    let S = g.S.Stable in
    record {
      none : S.tells → HasBody (S.image l.fn.store) l.inode → (k : ℕ) → 2 ≤ k → k < 32 * l.index → k < l.inode.size / 16 → is_some (slot_in (S.image l.fn.store) (head_of l.inode) k) ≡ false;
      looked : Looked S l.fn.store l.store;
    }
