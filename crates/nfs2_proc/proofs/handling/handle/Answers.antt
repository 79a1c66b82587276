use Rattle.std.proofs.Common.{◌≡◌, refl, arith}
use Rattle.volume.specs.declared.outcome.Outcome.TheVariants as outcome
use Rattle.nfs2_proc.proofs.Fitting.{reply_fits, refusal_fits}
use Rattle.nfs2_proc.proofs.handling.handle.Goals as goal

pub write_reply-requires : goal.write_reply-requires
write_reply-requires g c =
    let room = c.requires.room in
    let fits = reply_fits c.args.xid c.args.call.now c.in-Reply.reply c.args.number c.in-Reply.ensures.applied.form in omega (arith, room, fits)

pub write_reply-requires-in-Io : goal.write_reply-requires-in-Io
write_reply-requires-in-Io g c =
    let room = c.requires.room in
    let fits = refusal_fits c.args.xid c.args.call.now c.args.number in omega (arith, room, fits)

pub returns-in-Reply-clause-handled : goal.returns-in-Reply-clause-handled
returns-in-Reply-clause-handled g c = record { came = outcome.Reply c.in-Reply.reply; applied = c.in-Reply.ensures.applied; answered = c.write_reply.ensures }

pub returns-in-Io-clause-handled : goal.returns-in-Io-clause-handled
returns-in-Io-clause-handled g c = record { came = outcome.Io; applied = c.in-Io.ensures.applied; answered = c.write_reply-in-Io.ensures }

pub returns-in-NoMemory-clause-handled : goal.returns-in-NoMemory-clause-handled
returns-in-NoMemory-clause-handled g c = record { came = outcome.NoMemory; applied = c.in-NoMemory.ensures.applied; answered = refl }
