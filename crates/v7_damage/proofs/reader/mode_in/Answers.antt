use Rattle.std.proofs.Common.{arith, refl}
use Rattle.v7_map.specs.Image.{inode_offset}
use Rattle.v7_damage.proofs.Modes.{mode-read}
use Rattle.v7_damage.proofs.reader.mode_in.Goals as goal

pub returns : goal.returns
returns c =
    let at = c.inode_offset_of-at.ensures in
    mode-read c.args.sector.now c.inode_offset_of-at.result (inode_offset c.args.ino) _ _ (omega arith) at refl refl
