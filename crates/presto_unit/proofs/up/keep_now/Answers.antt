use Rattle.std.proofs.Common.{rules}
use Rattle.presto_unit.proofs.Room.{put_now, becomes_few, failed_few}
use Rattle.presto_unit.proofs.up.keep_now.Goals as goal

pub returns-in-Kept-clause-kept : goal.returns-in-Kept-clause-kept
returns-in-Kept-clause-kept g c =
    let kept = c.in-Kept.ensures.answers.says in
    record {
      knows = c.keep.ensures.knows;
      done = put_now g.R.Rig c.args.cache.now c.keep.new.self c.args.sector c.args.bytes.now c.requires.sure c.requires.room kept;
      few = becomes_few c.args.cache.now c.keep.new.self kept.cache.index _ kept.cache.is;
      device = search rules;
    }

pub returns-in-Failed-clause-kept : goal.returns-in-Failed-clause-kept
returns-in-Failed-clause-kept g c = record {
  knows = c.keep.ensures.knows;
  done = search rules;
  few = failed_few c.args.cache.now c.keep.new.self c.args.sector c.in-Failed.ensures.answers.says.cache;
  device = search rules;
}
