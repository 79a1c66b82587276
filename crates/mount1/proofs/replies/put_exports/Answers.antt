use Rattle.mount1.proofs.Rooms.{export_fits}
use Rattle.mount1.proofs.replies.put_exports.Goals as goal

pub put_export-requires-clause-room : goal.put_export-requires-clause-room
put_export-requires-clause-room c = export_fits c.args.sheet.now c.loop-volume.sheet c.loop-volume.volume c.args.volumes c.loop-volume.invariant c.loop-volume-test.true c.requires.room
