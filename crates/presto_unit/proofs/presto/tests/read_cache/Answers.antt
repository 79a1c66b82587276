use Rattle.std.proofs.Common.{rules, arith, ◌<◌, sym, subst}
use Rattle.nvram_map.proofs.Shapes.{shape_now}
use Rattle.presto_cache.specs.Board.{IsOf}
use Rattle.presto_cache.specs.Cache.{slots_of}
use Rattle.presto_unit.proofs.presto.tests.read_cache.Goals as goal

pub returns : goal.returns
returns g c =
    let law = g.met.R.Rig in
    let old = c.args.rig.now in
    let sizes = g.R.Rig.sizes old in
    let some : 0 < sizes.buffers = search rules in
    record {
      suits = search rules;
      is = λ tells.
          let told = c.in-Ok.ensures.told tells in
          let shape = shape_now law.clocked law.shape old tells in
          subst (λ d. IsOf (slots_of c.in-Ok-new.cache) d) (sym c.read_board.ensures.looked.contents)
          (c.in-Ok-new.ensures.is sizes (g.R.Rig.contents old) (search rules) (record { words = omega (arith, shape.words, (law.board old).some_words some); sectors = omega arith; entries_are = told.1.entries_are; read = told.2 }));
      kept = search rules;
    }
