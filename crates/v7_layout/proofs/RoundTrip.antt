-- The bytes that a record is written as read as that record.
use Rattle.std.proofs.Common.{◌≡◌, ℕ, ◌*◌, ◌^◌, ◌<◌, All, List, [], ◌∷◌, ◌++◌, length, drop, refl, sym, ap, ◌∙◌}
use Rattle.std.proofs.lemmas.List.{append-nil, append_assoc}
use Rattle.std.specs.List.{flat_map}
use Rattle.byteorder.specs.Endian.{little_bytes}
use Rattle.v7_layout.specs.Numbers.{fields, zeros}
use Rattle.v7_layout.specs.Records.{chain_of, inode_of, slot_of_bytes, super_of}
use Rattle.v7_layout.specs.Written.{AddressesFit, chain_bytes, inode_bytes, slot_bytes, super_bytes}
use Rattle.v7_layout.specs.declared.chain.Chain.{Chain}
use Rattle.v7_layout.specs.declared.inode.Inode.{Inode}
use Rattle.v7_layout.specs.declared.slot.Slot.{Slot}
use Rattle.v7_layout.specs.declared.super_block.Super.{Super}
use Rattle.v7_layout.proofs.Back.{byte_from, drop_next, fields_from, length-numbers, number_from, part_from}

-- a chain record
pub chain-reads_back : (bytes : List ℕ) (r : Chain) → bytes ≡ chain_bytes r
    → r.s_nfree < 2 ^ 16 → length r.s_free ≡ 50 → All (λ block. block < 2 ^ 32) r.s_free → chain_of bytes ≡ r
unfolding chain_of chain_bytes
chain-reads_back bytes r e count l fits =
    let past : drop 2 bytes ≡ flat_map (little_bytes 4) r.s_free ++ zeros 310 = ap (drop 2) e in
    λ z. record {
      s_nfree = number_from bytes (chain_bytes r) 0 0 2 r.s_nfree e refl count z;
      s_free = fields_from bytes r.s_free (zeros 310) 2 4 50 past l fits z;
    }

-- a directory slot
pub slot-reads_back : (bytes : List ℕ) (s : Slot) → bytes ≡ slot_bytes s → s.ino < 2 ^ 16 → length s.name ≡ 14 → slot_of_bytes bytes ≡ s
unfolding slot_of_bytes slot_bytes
slot-reads_back bytes s e number l =
    let past : drop 2 bytes ≡ s.name ++ [] = ap (drop 2) e ∙ sym (append-nil s.name) in
    λ z. record {
      ino = number_from bytes (slot_bytes s) 0 0 2 s.ino e refl number z;
      name = part_from bytes s.name [] 2 14 past l z;
    }

-- what the types of an inode's fields say
pub record InodeFits (i : Inode) : Type 0 where
  pub mode : i.mode < 2 ^ 16
  pub nlink : i.nlink < 2 ^ 16
  pub uid : i.uid < 2 ^ 16
  pub gid : i.gid < 2 ^ 16
  pub size : i.size < 2 ^ 32
  pub direct : length i.direct ≡ 10
  pub generation : i.generation < 2 ^ 32
  pub atime : i.atime < 2 ^ 32
  pub mtime : i.mtime < 2 ^ 32
  pub ctime : i.ctime < 2 ^ 32

after_addresses : (addresses a b c d e f : List ℕ) → addresses ++ a ++ b ++ c ++ d ++ e ++ f ≡ addresses ++ (a ++ b ++ c ++ d ++ e ++ f)
after_addresses addresses a b c d e f = simp append_assoc

-- an inode
pub inode-reads_back : (bytes : List ℕ) (i : Inode) → bytes ≡ inode_bytes i → InodeFits i → AddressesFit i → inode_of bytes ≡ i
unfolding inode_of inode_bytes fields
inode-reads_back bytes i e types addresses =
    let rest : List ℕ =
    little_bytes 3 i.single ++ little_bytes 3 i.double ++ little_bytes 4 i.generation ++ little_bytes 4 i.atime ++ little_bytes 4 i.mtime ++ little_bytes 4 i.ctime in
    let at_direct : drop 12 bytes ≡ flat_map (little_bytes 3) i.direct ++ rest =
    ap (drop 12) e
    ∙ after_addresses (flat_map (little_bytes 3) i.direct) (little_bytes 3 i.single) (little_bytes 3 i.double)
    (little_bytes 4 i.generation) (little_bytes 4 i.atime) (little_bytes 4 i.mtime) (little_bytes 4 i.ctime) in
    let ten : length (flat_map (little_bytes 3) i.direct) ≡ 30 = length-numbers 3 i.direct ∙ ap (λ (n : ℕ). 3 * n) types.direct in
    let at_single : drop 42 bytes ≡ rest = drop_next bytes (flat_map (little_bytes 3) i.direct) rest 12 30 42 at_direct ten refl in
    λ z. record {
      mode = number_from bytes (inode_bytes i) 0 0 2 i.mode e refl types.mode z;
      nlink = number_from bytes (inode_bytes i) 0 2 2 i.nlink e refl types.nlink z;
      uid = number_from bytes (inode_bytes i) 0 4 2 i.uid e refl types.uid z;
      gid = number_from bytes (inode_bytes i) 0 6 2 i.gid e refl types.gid z;
      size = number_from bytes (inode_bytes i) 0 8 4 i.size e refl types.size z;
      direct = fields_from bytes i.direct rest 12 3 10 at_direct types.direct addresses.direct z;
      single = number_from bytes rest 42 0 3 i.single at_single refl addresses.single z;
      double = number_from bytes rest 42 3 3 i.double at_single refl addresses.double z;
      generation = number_from bytes rest 42 6 4 i.generation at_single refl types.generation z;
      atime = number_from bytes rest 42 10 4 i.atime at_single refl types.atime z;
      mtime = number_from bytes rest 42 14 4 i.mtime at_single refl types.mtime z;
      ctime = number_from bytes rest 42 18 4 i.ctime at_single refl types.ctime z;
    }

-- what the types of a super-block's fields say
pub record SuperFits (s : Super) : Type 0 where
  pub s_isize : s.s_isize < 2 ^ 16
  pub s_fsize : s.s_fsize < 2 ^ 32
  pub s_nfree : s.s_nfree < 2 ^ 16
  pub s_free : All (λ block. block < 2 ^ 32) s.s_free
  pub blocks : length s.s_free ≡ 50
  pub s_ninode : s.s_ninode < 2 ^ 16
  pub s_inode : All (λ number. number < 2 ^ 16) s.s_inode
  pub numbers : length s.s_inode ≡ 100
  pub s_time : s.s_time < 2 ^ 32
  pub s_tfree : s.s_tfree < 2 ^ 32
  pub s_tinode : s.s_tinode < 2 ^ 16
  pub s_m : s.s_m < 2 ^ 16
  pub s_n : s.s_n < 2 ^ 16
  pub s_fname : length s.s_fname ≡ 6
  pub s_fpack : length s.s_fpack ≡ 6
  pub mark : s.mark < 2 ^ 32

after_lists : (blocks count numbers a b c d e f name pack mark zero : List ℕ)
    → blocks ++ count ++ numbers ++ a ++ b ++ c ++ d ++ e ++ f ++ name ++ pack ++ mark ++ zero
    ≡ blocks ++ (count ++ (numbers ++ ((a ++ b ++ c ++ d ++ e ++ f) ++ (name ++ (pack ++ (mark ++ zero))))))
after_lists blocks count numbers a b c d e f name pack mark zero = simp append_assoc

-- a super-block
pub super-reads_back : (bytes : List ℕ) (s : Super) → bytes ≡ super_bytes s → SuperFits s → super_of bytes ≡ s
unfolding super_of super_bytes
super-reads_back bytes s e types =
    let blocks : List ℕ = flat_map (little_bytes 4) s.s_free in
    let numbers : List ℕ = flat_map (little_bytes 2) s.s_inode in
    let flags : List ℕ = s.s_flock ∷ s.s_ilock ∷ s.s_fmod ∷ s.s_ronly ∷ [] in
    let middle : List ℕ = flags ++ little_bytes 4 s.s_time ++ little_bytes 4 s.s_tfree ++ little_bytes 2 s.s_tinode ++ little_bytes 2 s.s_m ++ little_bytes 2 s.s_n in
    let last : List ℕ = little_bytes 4 s.mark ++ zeros 68 in
    let names : List ℕ = s.s_fname ++ (s.s_fpack ++ last) in
    let at_free : drop 8 bytes ≡ blocks ++ (little_bytes 2 s.s_ninode ++ (numbers ++ (middle ++ names))) =
    ap (drop 8) e
    ∙ after_lists blocks (little_bytes 2 s.s_ninode) numbers flags (little_bytes 4 s.s_time) (little_bytes 4 s.s_tfree)
    (little_bytes 2 s.s_tinode) (little_bytes 2 s.s_m) (little_bytes 2 s.s_n) s.s_fname s.s_fpack (little_bytes 4 s.mark) (zeros 68) in
    let fifty : length blocks ≡ 200 = length-numbers 4 s.s_free ∙ ap (λ (n : ℕ). 4 * n) types.blocks in
    let hundred : length numbers ≡ 200 = length-numbers 2 s.s_inode ∙ ap (λ (n : ℕ). 2 * n) types.numbers in
    let at_count : drop 208 bytes ≡ little_bytes 2 s.s_ninode ++ (numbers ++ (middle ++ names)) =
    drop_next bytes blocks (little_bytes 2 s.s_ninode ++ (numbers ++ (middle ++ names))) 8 200 208 at_free fifty refl in
    let at_inode : drop 210 bytes ≡ numbers ++ (middle ++ names) =
    drop_next bytes (little_bytes 2 s.s_ninode) (numbers ++ (middle ++ names)) 208 2 210 at_count refl refl in
    let at_middle : drop 410 bytes ≡ middle ++ names = drop_next bytes numbers (middle ++ names) 210 200 410 at_inode hundred refl in
    let at_name : drop 428 bytes ≡ names = drop_next bytes middle names 410 18 428 at_middle refl refl in
    let at_pack : drop 434 bytes ≡ s.s_fpack ++ last = drop_next bytes s.s_fname (s.s_fpack ++ last) 428 6 434 at_name types.s_fname refl in
    let at_mark : drop 440 bytes ≡ last = drop_next bytes s.s_fpack last 434 6 440 at_pack types.s_fpack refl in
    λ z. record {
      s_isize = number_from bytes (super_bytes s) 0 0 2 s.s_isize e refl types.s_isize z;
      s_fsize = number_from bytes (super_bytes s) 0 2 4 s.s_fsize e refl types.s_fsize z;
      s_nfree = number_from bytes (super_bytes s) 0 6 2 s.s_nfree e refl types.s_nfree z;
      s_free = fields_from bytes s.s_free (little_bytes 2 s.s_ninode ++ (numbers ++ (middle ++ names))) 8 4 50 at_free types.blocks types.s_free z;
      s_ninode = number_from bytes (little_bytes 2 s.s_ninode ++ (numbers ++ (middle ++ names))) 208 0 2 s.s_ninode at_count refl types.s_ninode z;
      s_inode = fields_from bytes s.s_inode (middle ++ names) 210 2 100 at_inode types.numbers types.s_inode z;
      s_flock = byte_from bytes (middle ++ names) 410 0 s.s_flock at_middle refl z;
      s_ilock = byte_from bytes (middle ++ names) 410 1 s.s_ilock at_middle refl z;
      s_fmod = byte_from bytes (middle ++ names) 410 2 s.s_fmod at_middle refl z;
      s_ronly = byte_from bytes (middle ++ names) 410 3 s.s_ronly at_middle refl z;
      s_time = number_from bytes (middle ++ names) 410 4 4 s.s_time at_middle refl types.s_time z;
      s_tfree = number_from bytes (middle ++ names) 410 8 4 s.s_tfree at_middle refl types.s_tfree z;
      s_tinode = number_from bytes (middle ++ names) 410 12 2 s.s_tinode at_middle refl types.s_tinode z;
      s_m = number_from bytes (middle ++ names) 410 14 2 s.s_m at_middle refl types.s_m z;
      s_n = number_from bytes (middle ++ names) 410 16 2 s.s_n at_middle refl types.s_n z;
      s_fname = part_from bytes s.s_fname (s.s_fpack ++ last) 428 6 at_name types.s_fname z;
      s_fpack = part_from bytes s.s_fpack last 434 6 at_pack types.s_fpack z;
      mark = number_from bytes last 440 0 4 s.mark at_mark refl types.mark z;
    }
