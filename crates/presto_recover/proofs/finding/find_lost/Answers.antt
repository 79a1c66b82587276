use Rattle.std.proofs.Common.{ℕ, List, [], inl, inr, refl, sym, ap, subst, arith}
use Rattle.std.proofs.lemmas.Bool.{true≢false}
use Rattle.rig.specs.Devices.{Devices, Sizes, HasShape}
use Rattle.nvram_map.specs.Boards.{FitBoard}
use Rattle.nvram_map.specs.Words.{name_word, IsBoardOf}
use Rattle.nvram_map.specs.declared.board.BoardEntry.{BoardEntry}
use Rattle.nvram_map.proofs.Shapes.{shape_now}
use Rattle.presto_cache.specs.Made.{AreReadFrom}
use Rattle.presto_recover.proofs.Emptied.{fit_none, formatted_board, formatted_read}
use Rattle.presto_recover.proofs.finding.find_lost.Goals as goal

pub returns-clause-found : goal.returns-clause-found
returns-clause-found g c =
    let law = g.met.R.Rig in
    let rig = c.args.rig.now in
    let new = c.format_lost.new.rig in
    let old = g.R.Rig.contents rig in
    let sizes = g.R.Rig.sizes rig in
    let none = sym c.empty.ensures.entries in
    let n = name_word c.args.name in
    record {
      loss = inl (refl, c.requires.lost, c.if-not-accept_loss.false);
      same = λ kept. absurd (true≢false kept);
      empty = λ _. c.empty.ensures.entries;
      fits = subst (λ (es : List BoardEntry). FitBoard sizes es) none (fit_none sizes);
      read = λ tells.
          let done = c.in_ok-format_lost.ensures.done tells in
          let shape = subst (λ (d : Devices). HasShape sizes d) done (subst (λ (z : Sizes). HasShape z (g.R.Rig.contents new)) c.format_lost.ensures.formats.sizes (shape_now law.clocked law.shape new tells)) in
          subst (λ (es : List BoardEntry). AreReadFrom sizes es (g.R.Rig.contents new)) none
          (subst (λ (d : Devices). AreReadFrom sizes [] d) (sym done) (formatted_read n old sizes (g.R.Rig.is_kept rig) shape (law.board rig) c.requires.board (omega (arith, c.sectors-sectors.ensures))));
      board_is = λ tells. inr (subst (λ (m : ℕ). IsBoardOf sizes m (g.R.Rig.contents new)) (ap name_word (c.requires.name tells)) (subst (λ (d : Devices). IsBoardOf sizes n d) (sym (c.in_ok-format_lost.ensures.done tells)) (formatted_board n old sizes)));
      kept = c.in_ok-format_lost.ensures.kept;
    }
