use Rattle.mount1.proofs.Rooms.{dump_fits}
use Rattle.mount1.proofs.replies.dump_reply.Goals as goal

pub put_dump-requires-clause-room : goal.put_dump-requires-clause-room
put_dump-requires-clause-room c = rw c.in_ok-sheet.ensures (dump_fits c.args.xid c.args.rows.now c.requires)
