-- How many bytes each record is written as.
use Rattle.std.proofs.Common.{◌≡◌, length, length-append}
use Rattle.v7_layout.specs.Written.{inode_bytes, slot_bytes}
use Rattle.v7_layout.specs.declared.inode.Inode.{Inode}
use Rattle.v7_layout.specs.declared.slot.Slot.{Slot}
use Rattle.v7_layout.proofs.Back.{length-numbers}

-- an inode, whose ten addresses are as many as its type says
pub length-inode_bytes : (i : Inode) → length i.direct ≡ 10 → length (inode_bytes i) ≡ 64
unfolding inode_bytes
length-inode_bytes i ten = simp (length-append, length-numbers 3 i.direct, ten)

-- a directory slot
pub length-slot_bytes : (s : Slot) → length s.name ≡ 14 → length (slot_bytes s) ≡ 16
unfolding slot_bytes
length-slot_bytes s l = simp l
