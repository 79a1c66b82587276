use Rattle.rig.specs.Looked.{Looked}
use Rattle.nvram_map.specs.Overlay.{entries}
use Rattle.nvram_map.proofs.Listed.{IsListed}
use Rattle.nvram_map.proofs.Fitting.{FitBelow}
use Rattle.nvram_map.proofs.reading.read_entries.Given as goal

abbrev pub invariant-loop-index : goal.invariant-loop-index
invariant-loop-index g l =
    let R = g.R.Rig in
    record {
      told : R.tells → IsListed (R.sizes l.fn.rig) (entries (R.contents l.fn.rig)) l.index l.found.items;
      fit : FitBelow (R.sizes l.fn.rig) l.index l.found.items;
      looked : Looked R l.fn.rig l.rig;
    }
