use Rattle.std.proofs.Common.{◌≢◌, ◌∙◌, ap, arith}
use Rattle.stable.specs.Store.{Image}
use Rattle.v7_map.specs.Image.{sector_at}
use Rattle.v7_damage.proofs.FrameInodes.{inode-read}
use Rattle.v7_damage.proofs.reader.InodeReader.read.Goals as goal

pub returns-clause-inode : goal.returns-clause-inode
returns-clause-inode g c = λ tells keeps is.
    let image : Image = g.S.Stable.image c.args.store.now in
    let there = c.in_ok-go_to.ensures.there in
    let some : c.go_to.new.self.sector ≢ 0 = (λ none. omega (arith, none, there)) in
    inode-read image c.args.ino c.go_to.new.self.bytes c.inode_in.result is ((c.in_ok-go_to.ensures.keeps tells keeps).kept some ∙ ap (sector_at image) there) c.inode_in.ensures.inode
