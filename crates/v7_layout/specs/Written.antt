-- The bytes that each record of a volume is written as (docs/FORMATS.md).
use Rattle.std.specs.Prelude.{ℕ, ◌<◌, ◌^◌, List, [], ◌∷◌, ◌++◌, All}
use Rattle.std.specs.List.{flat_map}
use Rattle.byteorder.specs.Endian.{little_bytes}
use Rattle.v7_layout.specs.Numbers.{zeros}
use Rattle.v7_layout.specs.declared.chain.Chain.{Chain}
use Rattle.v7_layout.specs.declared.inode.Inode.{Inode}
use Rattle.v7_layout.specs.declared.slot.Slot.{Slot}
use Rattle.v7_layout.specs.declared.super_block.Super.{Super}

-- the 64 bytes of an inode
unfoldable pub inode_bytes : Inode → List ℕ
inode_bytes i =
    little_bytes 2 i.mode
    ++ little_bytes 2 i.nlink
    ++ little_bytes 2 i.uid
    ++ little_bytes 2 i.gid
    ++ little_bytes 4 i.size
    ++ flat_map (little_bytes 3) i.direct
    ++ little_bytes 3 i.single
    ++ little_bytes 3 i.double
    ++ little_bytes 4 i.generation
    ++ little_bytes 4 i.atime
    ++ little_bytes 4 i.mtime
    ++ little_bytes 4 i.ctime

-- each of an inode's twelve addresses fits its three bytes
pub record AddressesFit (i : Inode) : Type 0 where
  pub direct : All (λ address. address < 2 ^ 24) i.direct
  pub single : i.single < 2 ^ 24
  pub double : i.double < 2 ^ 24

-- the 512 bytes of a super-block
unfoldable pub super_bytes : Super → List ℕ
super_bytes s =
    little_bytes 2 s.s_isize
    ++ little_bytes 4 s.s_fsize
    ++ little_bytes 2 s.s_nfree
    ++ flat_map (little_bytes 4) s.s_free
    ++ little_bytes 2 s.s_ninode
    ++ flat_map (little_bytes 2) s.s_inode
    ++ (s.s_flock ∷ s.s_ilock ∷ s.s_fmod ∷ s.s_ronly ∷ [])
    ++ little_bytes 4 s.s_time
    ++ little_bytes 4 s.s_tfree
    ++ little_bytes 2 s.s_tinode
    ++ little_bytes 2 s.s_m
    ++ little_bytes 2 s.s_n
    ++ s.s_fname
    ++ s.s_fpack
    ++ little_bytes 4 s.mark
    ++ zeros 68

-- the 512 bytes of a chain record
unfoldable pub chain_bytes : Chain → List ℕ
chain_bytes c = little_bytes 2 c.s_nfree ++ flat_map (little_bytes 4) c.s_free ++ zeros 310

-- the 16 bytes of a directory slot
unfoldable pub slot_bytes : Slot → List ℕ
slot_bytes s = little_bytes 2 s.ino ++ s.name
