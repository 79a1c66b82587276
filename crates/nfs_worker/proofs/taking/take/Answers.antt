use Rattle.std.proofs.Common.{List, ℕ, length, refl, ap, ◌∙◌, subst, arith}
use Rattle.datagrams.specs.Meaning.{meaning}
use Rattle.volume.specs.Mounted.{store_of}
use Rattle.volume.specs.Rests.{Rests}
use Rattle.nfs_worker.specs.Answers.{Answers, halted_by}
use Rattle.nfs_worker.specs.Turns.{place_of}
use Rattle.nfs_worker.specs.Volumes.{OneAlone}
use Rattle.nfs_worker.proofs.Accounts.{grew_none}
use Rattle.nfs_worker.proofs.Places.{alone_still, all_at}
use Rattle.nfs_worker.proofs.Reactions.{turned_replied}
use Rattle.nfs_worker.proofs.Turns.{turned_quiet}
use Rattle.nfs_worker.proofs.taking.take.Goals as goal

pub returns-in_default : goal.returns-in_default
returns-in_default g c =
    let s = g.S.Stable in
    let heard = c.recv-event.ensures in
    let volumes = c.args.cells.now.volumes.items in
    record {
      took = record {
        volume = 0;
        alone = alone_still volumes 0 (let some = c.requires.desk.some in omega (arith, some)) (λ volume found.
            turned_quiet s g.L.Link (length volumes) volume (all_at (Rests s) volumes 0 volume c.requires.rest found) c.args.cells.now.desk c.args.link.now c.recv-event.new.self c.args.pass.now _ c.recv-event.result c.recv-event.new.into c.quiet.result c.in_default.not-Datagram refl refl
            (grew_none s g.met.S.Stable.clocked (store_of volume))
            (record { takes = heard.takes; sent = heard.sent; later = heard.later; cause = heard.cause }) c.quiet.ensures);
      };
      second = refl;
    }

pub returns-clause-took : goal.returns-clause-took
returns-clause-took g c =
    let s = g.S.Stable in
    let heard = c.recv-event.ensures in
    let volumes = c.args.cells.now.volumes.items in
    let from = c.in-Datagram.from in
    let bytes = c.recv-event.new.into in
    let alone = subst (λ (bytes : List ℕ). let means = meaning bytes (length volumes) in OneAlone (λ old new. Answers s (place_of means) old new c.args.cells.now.desk c.answer-reaction.new.cells.desk c.args.pass.now.number c.args.pass.now.second from means c.answer-reaction.result) (place_of means) volumes c.answer-reaction.new.cells.volumes.items) c.bytes.ensures.bytes c.answer-reaction.ensures in
    record {
      volume = place_of (meaning bytes (length volumes));
      alone = record {
        old = alone.old;
        new = alone.new;
        found = alone.found;
        put = alone.put;
        went = turned_replied s g.L.Link (length volumes) (place_of (meaning bytes (length volumes))) from bytes
            (record { takes = c.in-Datagram.ensures.takes; sent = heard.sent; later = heard.later; cause = λ e. cc })
            c.args.pass.now _ c.answer-reaction.result alone.went refl c.counted-pass.ensures.received _ c.reply-turn.result c.halted_by.result c.reply-turn.ensures c.counted-pass.ensures.answered
            (c.halted_by.ensures ∙ ap (λ halts. halted_by halts c.reply-turn.result) c.is_halting-halts.ensures);
      };
    }
