use Rattle.mount1.proofs.Rooms.{exports_fit}
use Rattle.mount1.proofs.replies.export_reply.Goals as goal

pub put_export_list-requires-clause-room : goal.put_export_list-requires-clause-room
put_export_list-requires-clause-room c = rw c.in_ok-sheet.ensures (exports_fit c.args.xid c.args.volumes c.requires)
