use Rattle.std.proofs.Common.{◌≢◌, ◌∙◌, ap, arith, refl}
use Rattle.stable.specs.Store.{Image}
use Rattle.v7_layout.specs.declared.inode.Inode.{Inode}
use Rattle.v7_layout.specs.Numbers.{part}
use Rattle.v7_layout.specs.Records.{inode_of}
use Rattle.v7_map.specs.Image.{sector_at, inode_offset}
use Rattle.v7_damage.proofs.FrameInodes.{inode-read}
use Rattle.v7_damage.proofs.reader.InodeReader.mode.Goals as goal

pub returns-clause-mode : goal.returns-clause-mode
returns-clause-mode g c = λ tells keeps is.
    let image : Image = g.S.Stable.image c.args.store.now in
    let there = c.in_ok-go_to.ensures.there in
    let some : c.go_to.new.self.sector ≢ 0 = (λ none. omega (arith, none, there)) in
    c.mode_in.ensures ∙ ap (λ (n : Inode). n.mode)
    (inode-read image c.args.ino c.go_to.new.self.bytes (inode_of (part c.go_to.new.self.bytes (inode_offset c.args.ino) 64)) is ((c.in_ok-go_to.ensures.keeps tells keeps).kept some ∙ ap (sector_at image) there) refl)
