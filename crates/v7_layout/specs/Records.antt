-- How bytes are read as the records of a volume (docs/FORMATS.md).
use Rattle.std.specs.Prelude.{ℕ, ◌+◌, ◌*◌, List, map}
use Rattle.std.specs.List.{range_with_len}
use Rattle.v7_layout.specs.Numbers.{part, field, fields}
use Rattle.v7_layout.specs.declared.chain.Chain.{Chain}
use Rattle.v7_layout.specs.declared.inode.Inode.{Inode}
use Rattle.v7_layout.specs.declared.slot.Slot.{Slot}
use Rattle.v7_layout.specs.declared.super_block.Super.{Super}

-- the inode of 64 bytes
unfoldable pub inode_of : List ℕ → Inode
inode_of bytes = record {
  mode = field bytes 0 2;
  nlink = field bytes 2 2;
  uid = field bytes 4 2;
  gid = field bytes 6 2;
  size = field bytes 8 4;
  direct = map (λ k. field bytes (12 + 3 * k) 3) (range_with_len 0 10);
  single = field bytes 42 3;
  double = field bytes 45 3;
  generation = field bytes 48 4;
  atime = field bytes 52 4;
  mtime = field bytes 56 4;
  ctime = field bytes 60 4;
}

-- the super-block of 512 bytes, of which the last 68 are passed over
unfoldable pub super_of : List ℕ → Super
super_of bytes = record {
  s_isize = field bytes 0 2;
  s_fsize = field bytes 2 4;
  s_nfree = field bytes 6 2;
  s_free = fields bytes 8 4 50;
  s_ninode = field bytes 208 2;
  s_inode = fields bytes 210 2 100;
  s_flock = field bytes 410 1;
  s_ilock = field bytes 411 1;
  s_fmod = field bytes 412 1;
  s_ronly = field bytes 413 1;
  s_time = field bytes 414 4;
  s_tfree = field bytes 418 4;
  s_tinode = field bytes 422 2;
  s_m = field bytes 424 2;
  s_n = field bytes 426 2;
  s_fname = part bytes 428 6;
  s_fpack = part bytes 434 6;
  mark = field bytes 440 4;
}

-- the chain record of 512 bytes, of which the last 310 are passed over
unfoldable pub chain_of : List ℕ → Chain
chain_of bytes = record {
  s_nfree = field bytes 0 2;
  s_free = fields bytes 2 4 50;
}

-- the directory slot of 16 bytes
unfoldable pub slot_of_bytes : List ℕ → Slot
slot_of_bytes bytes = record { ino = field bytes 0 2; name = part bytes 2 14 }
