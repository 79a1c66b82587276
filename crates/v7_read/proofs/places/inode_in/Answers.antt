use Rattle.std.proofs.Common.{◌≡◌, ℕ, ◌+◌, ◌-◌, List, take, drop, ◌∙◌, ap}
use Rattle.v7_layout.proofs.Parts.{part-cut}
use Rattle.v7_layout.specs.Numbers.{part}
use Rattle.v7_layout.specs.Records.{inode_of}
use Rattle.v7_map.specs.Image.{inode_offset}
use Rattle.v7_read.proofs.places.inode_in.Goals as goal

cut_at : (bytes : List ℕ) (at from : ℕ) → at ≡ from → take (at + 64 - at) (drop at bytes) ≡ part bytes from 64
cut_at bytes at from is = part-cut bytes at 64 ∙ ap (λ a. part bytes a 64) is

pub returns-clause-inode : goal.returns-clause-inode
returns-clause-inode c = c.read.ensures.record_of ∙ ap inode_of (cut_at c.args.sector.now c.inode_offset_of-at.result (inode_offset c.args.ino) c.inode_offset_of-at.ensures)
