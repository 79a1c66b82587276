use Rattle.mount1.proofs.Rooms.{root_fits}
use Rattle.mount1.proofs.replies.root_reply.Goals as goal

pub put_root-requires : goal.put_root-requires
put_root-requires c = rw c.in_ok-sheet.ensures (root_fits c.args.xid c.args.volume c.args.root)
