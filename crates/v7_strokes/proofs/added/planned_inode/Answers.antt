use Rattle.std.proofs.Common.{◌≡◌, subst}
use Rattle.stable.specs.Puts.{put_all}
use Rattle.v7_map.specs.Image.{sector_at, inode_sector}
use Rattle.v7_strokes.proofs.Replacing.{inode-stands}
use Rattle.v7_strokes.proofs.added.planned_inode.Goals as goal

pub returns-clause-inode : goal.returns-clause-inode
returns-clause-inode g c = λ tells inside.
    let image = put_all c.args.plan.now.puts (g.S.Stable.image c.args.store.now) in
    let at : c.in_ok-sector.sector ≡ sector_at image (inode_sector c.args.ino) = subst (λ s. c.in_ok-sector.sector ≡ sector_at image s) c.inode_sector_of.ensures (c.in_ok-sector.ensures.done tells) in
    inode-stands image c.args.ino c.in_ok-sector.sector c.inode_in.result inside at c.inode_in.ensures.inode
