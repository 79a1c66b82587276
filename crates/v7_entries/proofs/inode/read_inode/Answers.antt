use Rattle.std.proofs.Common.{rules, arith, ◌≡◌, ◌<◌, length, get_or, [], Some, ap, sym, subst, ◌∙◌}
use Rattle.stable.specs.Store.{Image}
use Rattle.v7_map.specs.Image.{sector_at, inode_sector}
use Rattle.v7_read.proofs.Finding.{inode-read}
use Rattle.v7_map.proofs.Ranges.{inode_sector-inside}
use Rattle.v7_map.proofs.Whole.{as_long}
use Rattle.v7_entries.proofs.inode.read_inode.Goals as goal

pub returns-then-place-sectors-clause-inode : goal.returns-then-place-sectors-clause-inode
returns-then-place-sectors-clause-inode g c = λ tells weak is.
    let size = (as_long g.S.Stable.sector_count g.met.S.Stable.clocked g.met.S.Stable.shape c.args.store.now tells).size in
    let within : inode_sector c.args.ino < length (g.S.Stable.image c.args.store.now) = (inode_sector-inside (g.S.Stable.image c.args.store.now) weak c.args.ino is).2 in
    absurd (omega (arith, size, within, c.if-place-sectors.true, c.inode_sector_of-place.ensures, c.sectors.ensures))

pub returns-clause-inode : goal.returns-clause-inode
returns-clause-inode g c = λ tells weak is.
    let image : Image = g.S.Stable.image c.args.store.now in
    ap Some (inode-read image c.args.ino c.in_ok-sector.sector c.inode_in-inode.result is
    (c.in_ok-sector.ensures.done tells ∙ ap (sector_at image) c.inode_sector_of-place.ensures) c.inode_in-inode.ensures.inode)
