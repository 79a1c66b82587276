use Rattle.std.proofs.Common.{◌≡◌, ◌∙◌, ap, set, rules}
use Rattle.nvram_map.specs.Overlay.{overlay}
use Rattle.presto_cache.specs.declared.cache.Keep.TheVariants.{Kept, Full}
use Rattle.presto_cache.proofs.Runs.{on_ok}
use Rattle.presto_unit.proofs.Room.{put_now, same_put, becomes_few, failed_few}
use Rattle.presto_unit.proofs.up.keep_up.Goals as goal

not_full : Kept ≡ Full → ⊥
not_full e = cc

pub returns-in-Kept-clause-kept : goal.returns-in-Kept-clause-kept
returns-in-Kept-clause-kept g c =
    let kept = c.in-Kept.ensures.answers.says in
    record {
      knows = c.keep.ensures.knows;
      done = put_now g.R.Rig c.args.cache.now c.keep.new.self c.args.sector c.args.bytes.now c.requires.sure (λ none. not_full (c.in-Kept.ensures.answers.full.1 none)) kept;
      few = becomes_few c.args.cache.now c.keep.new.self kept.cache.index _ kept.cache.is;
      device = search rules;
    }

pub returns-in-Failed-clause-kept : goal.returns-in-Failed-clause-kept
returns-in-Failed-clause-kept g c = record {
  knows = c.keep.ensures.knows;
  done = search rules;
  few = failed_few c.args.cache.now c.keep.new.self c.args.sector c.in-Failed.ensures.answers.says.cache;
  device = search rules;
}

pub returns-in-Full-clause-kept : goal.returns-in-Full-clause-kept
returns-in-Full-clause-kept g c =
    let says = c.in-Full.ensures.answers.says in
    let kept = c.keep_in_full.ensures.kept in
    record {
      knows = kept.knows;
      done = on_ok (λ done. record {
        put = same_put c.args.cache.now c.keep.new.self c.keep_in_full.new.cache c.args.sector says.same done.put;
        stands = done.stands;
        sure = done.sure;
        image = λ tells. done.image tells ∙ ap (λ rig. set (overlay (g.R.Rig.contents rig)) c.args.sector c.args.bytes.now) says.rig;
      }) c.keep_in_full.result kept.done;
      few = search rules;
      device = search rules;
    }
