use Rattle.std.proofs.Common.{arith}
use Rattle.v7_make.proofs.Fitting.{fitting-room}
use Rattle.volume_tool.proofs.making.make_volume.Goals as goal

pub prepare-requires : goal.prepare-requires
prepare-requires g c =
    let room = fitting-room c.args.plan.now.size c.args.plan.now.inodes c.requires.fits in
    record { sectors = omega (arith, room.2, c.requires.size) }
