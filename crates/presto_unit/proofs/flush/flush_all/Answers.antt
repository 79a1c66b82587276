use Rattle.std.proofs.Common.{◌<◌, subst, rules, ℕ, length}
use Rattle.stable.proofs.Clocked.{started}
use Rattle.rig.proofs.Looking.{stays_again}
use Rattle.presto_cache.specs.Board.{Keeps}
use Rattle.presto_cache.specs.Cache.{entries_of}
use Rattle.presto_cache.proofs.Known.{known_at}
use Rattle.presto_cache.proofs.Puts.{stay_keeps}
use Rattle.presto_unit.proofs.Entries.{adds_same, adds_more}
use Rattle.presto_unit.proofs.Runs.{flushes_all_on}
use Rattle.presto_unit.proofs.Tried.{tried_none, tried_more}
use Rattle.presto_unit.proofs.flush.flush_all.Goals as goal

pub loop-done-init : goal.loop-done-init
loop-done-init g c =
    let law = g.met.R.Rig in
    let rig = c.args.rig.now in
    record {
      knows = c.requires;
      tried = tried_none (entries_of c.args.cache.now) (g.R.Rig.faults rig);
      adds = adds_same c.args.cache.now;
      crash = started law.clocked rig (Keeps (g.R.Rig.sizes rig) (g.R.Rig.contents rig)) (λ tells. (stay_keeps (known_at g.R.Rig law.clocked law.shape law.kept_told law.board c.requires tells)).keeps);
      stays = search rules;
    }

pub loop-done-preserved : goal.loop-done-preserved
loop-done-preserved g c =
    let law = g.met.R.Rig in
    let so_far = c.loop-done.invariant in
    let one = c.flush_next-first.ensures in
    let lt : c.loop-done._done < length (entries_of c.args.cache.now) = subst (λ (n : ℕ). c.loop-done._done < n) c.dirty-done-end.ensures.listed c.loop-done-test.true in
    record {
      knows = one.knows;
      tried = tried_more (entries_of c.args.cache.now) c.loop-done._done c.loop-done.first _ _ _ _ _ _ lt so_far.tried one.tried;
      adds = adds_more c.args.cache.now c.loop-done.cache c.flush_next-first.new.cache so_far.adds one.adds;
      crash = flushes_all_on g.R.Rig law.clocked so_far.stays.sizes so_far.crash one.crash;
      stays = stays_again g.R.Rig so_far.stays one.stays;
    }
