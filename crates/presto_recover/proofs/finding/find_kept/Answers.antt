use Rattle.std.proofs.Common.{◌∙◌, ℕ, inr, refl, sym, ap, subst, arith}
use Rattle.std.proofs.lemmas.Bool.{true≢false}
use Rattle.rig.specs.Devices.{Devices}
use Rattle.nvram_map.specs.Words.{name_word, IsBoardOf}
use Rattle.nvram_map.proofs.Shapes.{shape_now}
use Rattle.presto_cache.specs.Made.{AreReadFrom}
use Rattle.presto_unit.specs.Opening.{title_of}
use Rattle.presto_recover.proofs.finding.find_kept.Goals as goal

pub returns-clause-found : goal.returns-clause-found
returns-clause-found g c accepted =
    let law = g.met.R.Rig in
    let rig = c.args.rig.now in
    let sizes = g.R.Rig.sizes rig in
    let read = c.in_ok-board.ensures in
    record {
      loss = inr (refl, c.requires.kept);
      same = λ _. read.looked.contents;
      empty = λ lost. absurd (true≢false (sym lost));
      fits = read.safe.1;
      read = λ tells.
          let told = read.told tells in
          let shape = shape_now law.clocked law.shape rig tells in
          subst (λ (d : Devices). AreReadFrom sizes c.in_ok-board.board.entries d) (sym read.looked.contents) record {
            words = let w = (law.board rig).some_words c.requires.board in omega (arith, w, shape.words);
            sectors = omega (arith, c.sectors-sectors.ensures);
            entries_are = told.1.entries_are;
            read = told.2;
          };
      board_is = λ tells. inr (subst (λ (d : Devices). IsBoardOf sizes (title_of (g.R.Rig.contents rig).disk) d) (sym read.looked.contents) (subst (λ (m : ℕ). IsBoardOf sizes m (g.R.Rig.contents rig)) (ap name_word (c.requires.name tells)) (read.told tells).1));
      kept = read.looked.is_kept ∙ c.requires.kept;
    }
