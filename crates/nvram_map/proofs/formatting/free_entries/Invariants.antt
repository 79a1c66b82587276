use Rattle.std.proofs.Common.{◌≡◌}
use Rattle.stable.specs.Moments.{LeavesOnly}
use Rattle.rig.specs.Looked.{StaysOffDisk}
use Rattle.nvram_map.specs.Formats.{PartlyFreed, with_words, freed}
use Rattle.nvram_map.proofs.formatting.free_entries.Given as goal

abbrev pub invariant-loop-index : goal.invariant-loop-index
invariant-loop-index g l =
    let R = g.R.Rig in
    record {
      done : R.tells → R.contents l.rig ≡ with_words (R.contents l.fn.rig) (freed l.index (R.contents l.fn.rig).words);
      crash : LeavesOnly R.moment R.left_since l.fn.rig l.rig (PartlyFreed (R.contents l.fn.rig));
      stays : StaysOffDisk R l.fn.rig l.rig;
    }
