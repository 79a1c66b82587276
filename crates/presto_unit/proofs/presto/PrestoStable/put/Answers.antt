use Rattle.std.proofs.Common.{◌∙◌, sym, ap, subst, refl, inl, arith}
use Rattle.stable.proofs.Clocked.{through, weaker}
use Rattle.stable.specs.States.{StaysOrFails}
use Rattle.stable.specs.declared.state.State.{State}
use Rattle.rig.specs.Devices.{Sizes}
use Rattle.presto_cache.proofs.Runs.{on_ok}
use Rattle.presto_unit.proofs.Disk.{room_unused}
use Rattle.presto_unit.proofs.Opening.{put_shown, opens_put}
use Rattle.presto_unit.proofs.presto.PrestoStable.put.Goals as goal

pub returns-in-Up-clause-put : goal.returns-in-Up-clause-put
returns-in-Up-clause-put g c =
    let law = g.met.R.Rig in
    let r = g.R.Rig in
    let self = c.args.self.now in
    let put = c.put_up.ensures in
    let run = weaker put.goes.crash (λ d left p. p.puts) in
    record {
      done = put.done;
      crash = through (λ s. s.rig) self _ (put_shown r law.clocked put.stays.sizes c.args.sector c.args.bytes.now run);
      opens = opens_put r law.clocked put.stays.sizes c.args.sector c.args.bytes.now (λ tells. law.kept_told self.rig tells ∙ self.knows.kept) run;
      cause = put.cause;
      sectors = ap (λ (z : Sizes). z.sectors) put.stays.sizes;
      snapshot = record {
        puts = refl;
        state = subst (λ (s : State). StaysOrFails s c.put_up.new.track.state (r.faults self.rig) (r.faults c.put_up.new.rig)) (sym c.in-Up.is) put.state;
        few = put.few;
        dirty = λ ne. absurd (ne c.in-Up.is);
        battery = refl;
        polls = refl;
        ups = refl;
        tries = refl;
      };
    }

pub returns-in_default-clause-put : goal.returns-in_default-clause-put
returns-in_default-clause-put g c =
    let law = g.met.R.Rig in
    let r = g.R.Rig in
    let self = c.args.self.now in
    let put = c.put_through.ensures in
    let run = weaker put.crash (λ d left p. p.puts) in
    record {
      done = λ tells. on_ok (λ stands. stands.image tells) c.put_through.result put.done;
      crash = through (λ s. s.rig) self _ (put_shown r law.clocked put.stays.sizes c.args.sector c.args.bytes.now run);
      opens = opens_put r law.clocked put.stays.sizes c.args.sector c.args.bytes.now (λ tells. law.kept_told self.rig tells ∙ self.knows.kept) run;
      cause = put.cause;
      sectors = ap (λ (z : Sizes). z.sectors) put.stays.sizes;
      snapshot = record {
        puts = refl;
        state = inl refl;
        few = omega (arith, put.adds.count);
        dirty = λ ne. put.adds.count;
        battery = refl;
        polls = refl;
        ups = refl;
        tries = refl;
      };
    }

pub returns-in_default-clause-by_state : goal.returns-in_default-clause-by_state
returns-in_default-clause-by_state g c =
    let put = c.put_through.ensures in
    record {
      up = λ from to. absurd (c.in_default.not-Up from);
      quiet = λ from to room. absurd (c.in_default.not-Up from);
      stays = λ from none. absurd (c.in_default.not-Up from);
      past = λ not. put.done;
      adds = λ not. put.adds;
      crash = weaker put.crash (λ d left p. room_unused _ p);
      only = λ not. put.crash;
    }
