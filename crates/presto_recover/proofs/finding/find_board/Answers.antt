use Rattle.std.proofs.Common.{◌≡◌, List, Result, Ok, Err, IfOk, inl, inr, refl, sym, subst, arith}
use Rattle.std.proofs.lemmas.Bool.{true≢false}
use Rattle.nvram_map.specs.Boards.{FitBoard}
use Rattle.nvram_map.specs.declared.board.BoardEntry.{BoardEntry}
use Rattle.nvram_map.proofs.Shapes.{shape_now}
use Rattle.presto_cache.specs.Made.{AreReadFrom}
use Rattle.presto_recover.specs.Boards.{IsFound}
use Rattle.presto_recover.proofs.Emptied.{fit_none, bare_read}
use Rattle.presto_recover.proofs.finding.find_board.Goals as goal

pub returns-then-buffers-eq0-clause-found : goal.returns-then-buffers-eq0-clause-found
returns-then-buffers-eq0-clause-found g c =
    let law = g.met.R.Rig in
    let rig = c.args.rig.now in
    let sizes = g.R.Rig.sizes rig in
    let none = sym c.empty.ensures.entries in
    let bare : sizes.buffers ≡ 0 = omega (arith, c.buffers.ensures, c.if-buffers-eq0.true) in
    let kept = (law.board rig).no_loss bare in
    record {
      loss = inr (refl, kept);
      same = λ _. refl;
      empty = λ lost. absurd (true≢false (sym lost));
      fits = subst (λ (es : List BoardEntry). FitBoard sizes es) none (fit_none sizes);
      read = λ tells. subst (λ (es : List BoardEntry). AreReadFrom sizes es (g.R.Rig.contents rig)) none
          (bare_read sizes (g.R.Rig.is_kept rig) (g.R.Rig.contents rig) (shape_now law.clocked law.shape rig tells) (law.board rig) bare (omega (arith, c.sectors-sectors.ensures)));
      board_is = λ tells. inl bare;
      kept = kept;
    }

of_each : {T E I : Type 0} (P : I → T → Type 0) (i : I) (result : Result T E) → IfOk result (λ x. (j : I) → P j x) → IfOk result (P i)
of_each P i (Ok x) each = each i
of_each P i (Err e) each = tt

pub returns-clause-found : goal.returns-clause-found
returns-clause-found g c = of_each (λ a. IsFound g.R.Rig a c.args.rig.now c.find_kept.new.rig) c.args.accept_loss c.find_kept.result c.find_kept.ensures.found
