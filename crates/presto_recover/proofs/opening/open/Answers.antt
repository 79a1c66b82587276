use Rattle.std.proofs.Common.{◌≡◌, ◌∙◌, inl, inr, Bool, true, false, if◌then◌else◌, [], length, ap, sym, subst, arith}
use Rattle.std.proofs.lemmas.Bool.{true≢false}
use Rattle.stable.proofs.Clocked.{ends}
use Rattle.nvram_map.specs.Boards.{entries_from}
use Rattle.nvram_map.specs.Overlay.{entries}
use Rattle.presto_cache.proofs.Known.{known_at}
use Rattle.presto_unit.proofs.Whole.{none_set}
use Rattle.presto_recover.specs.Boards.{IsAccepted, IsLoss}
use Rattle.presto_recover.proofs.Reasons.{starts_earlier}
use Rattle.presto_recover.proofs.Recovering.{formats_recover, flushes_recover, begun_anew}
use Rattle.presto_recover.proofs.opening.open.Goals as goal

pub returns-in-Err-clause-refused : goal.returns-in-Err-clause-refused
returns-in-Err-clause-refused g c = record {
  reason = c.in-Err.ensures.refused;
  only_formats = c.prepare.ensures.formats;
  crash = formats_recover g.R.Rig c.args.accept_loss c.prepare.ensures.formats;
}

was_lost : {lost kept accepted : Bool} → IsLoss lost kept accepted → lost ≡ true → kept ≡ false
was_lost (inl gone) is = gone.1
was_lost (inr here) is = absurd (true≢false (sym is ∙ here.0))

pub returns-in-Ok-clause-opened : goal.returns-in-Ok-clause-opened
returns-in-Ok-clause-opened g c =
    let law = g.met.R.Rig in
    let r = g.R.Rig in
    let found = c.args.rig in
    let mid = c.prepare.new.rig in
    let prepared = c.in-Ok.ensures.prepared in
    let formats = c.prepare.ensures.formats in
    let lost = sym c.recover.ensures.lost in
    let presto = c.recover.result.presto in
    let crash = flushes_recover r law.clocked law.kept_told c.args.accept_loss formats prepared.knows.kept c.recover.ensures.crash in
    record {
      sectors = prepared.sectors;
      accepted_as = λ tells. subst (λ (b : Bool). IsAccepted (r.sizes found) c.args.accept_loss (r.contents found) b) lost (prepared.accepted_as tells);
      loss = subst (λ (b : Bool). IsLoss b (r.is_kept found) c.args.accept_loss) lost prepared.loss;
      begun_anew = λ tells is.
          let gone = was_lost prepared.loss (lost ∙ is) in
          let none = ap length (ap (λ (b : Bool). if b then entries_from 0 (entries (r.contents found)) else []) (law.kept_told found tells ∙ gone)) in
          let number = prepared.has_found.number tells in
          let known = known_at r law.clocked law.shape law.kept_told law.board presto.knows tells in
          begun_anew (r.sizes found) (r.contents found) (r.contents presto.rig) (λ bare. law.kept_told found tells ∙ (law.board found).no_loss bare) (law.kept_told found tells ∙ gone) known.kept
          (none_set (r.sizes presto.rig) presto.cache (r.contents presto.rig) known (omega (arith, c.recover.ensures.starts.recovered, number, none)))
          (ends law.clocked crash tells);
      read = c.in-Ok.made.cache;
      has_found = prepared.has_found;
      starts = starts_earlier (r.faults found) (r.faults mid) c.in-Ok.made.cache c.recover.result formats.later c.recover.ensures.starts;
      crash = crash;
      sizes = c.recover.ensures.stays.sizes ∙ formats.sizes;
      readings = c.recover.ensures.stays.readings ∙ formats.readings;
    }
