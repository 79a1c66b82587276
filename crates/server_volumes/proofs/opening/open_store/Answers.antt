use Rattle.std.proofs.Common.{arith, ◌∙◌, [], List, ℕ, refl}
use Rattle.stable.proofs.Clocked.{ends}
use Rattle.volume.specs.Mounted.{store_of}
use Rattle.run_lines.proofs.Sayings.{told_after, told_none}
use Rattle.nfs_worker.proofs.Accounts.{grew_opened, grew_before}
use Rattle.server_volumes.proofs.Openings.{name_stays, refused_as, root_stays, state_stays}
use Rattle.server_volumes.proofs.opening.open_store.Goals as goal

pub returns-in-Err : goal.returns-in-Err
returns-in-Err g c =
    let s = g.S.Stable in
    let asked = c.now-second.ensures in
    let opening = c.in-Err.ensures in
    record {
      opened = tt;
      refused = (
        refused_as s c.args.store c.in-Err.store c.in-Err.fault opening.opened opening.cause.failed (grew_opened s g.met.S.Stable.clocked opening.cause.later opening.crash opening.opens),
        told_after g.H.Host g.H.Say asked.rigs asked.posts asked.faults asked.lines (told_none g.H.Host g.H.Say),
      );
    }

pub returns-in-Ok : goal.returns-in-Ok
returns-in-Ok g c =
    let s = g.S.Stable in
    let law = g.met.S.Stable.clocked in
    let asked = c.now-second.ensures in
    let opening = c.in-Ok.ensures in
    let volume = c.in-Ok.volume in
    let begun = c.begin.ensures.begun in
    let later = opening.cause.later in
    record {
      opened = record {
        start = begun.start;
        told = told_after g.H.Host g.H.Say asked.rigs asked.posts asked.faults asked.lines begun.told;
        on = record {
          rest = begun.rest;
          sound = begun.sound ∙ opening.sound;
          grows = grew_before s law [] (grew_opened s law later opening.crash opening.opens) begun.grows;
          weak = λ told. (opening.opened told).repaired.weak;
          named = λ told. begun.named ∙ (opening.opened told).titled.name_is ∙ name_stays (s.image c.args.store) (s.image (store_of volume)) (ends law opening.crash told);
          rooted = λ told. begun.root ∙ (opening.opened told).titled.root_is ∙ root_stays (s.image c.args.store) (s.image (store_of volume)) (opening.opened told).repaired.weak (ends law opening.crash told);
          recovered = begun.recovered;
          lost = begun.lost;
          opened = state_stays (s.snapshot_of c.args.store).state (s.snapshot_of (store_of volume)).state begun.start.opened (s.faults c.args.store) (s.faults (store_of volume)) opening.snapshot.made.state begun.opened;
          started = begun.started;
          polls = begun.polls ∙ opening.snapshot.made.polls;
        };
      };
      refused = tt;
    }
