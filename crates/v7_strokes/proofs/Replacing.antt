-- A record replaced in its sector is a put of that record.
use Rattle.std.proofs.Common.{◌≡◌, ◌≢◌, ℕ, ◌+◌, ◌*◌, ◌%◌, ◌<◌, ◌≤◌, true, cond, List, [], length, refl, sym, ap, subst, ◌∙◌, arith, inl, inr, ⊎_elim, take, drop, ◌++◌, length-take, length-drop, length-append}
use Rattle.std.proofs.lemmas.Bool.{cases_lt}
use Rattle.v7_layout.specs.declared.inode.Inode.{Inode}
use Rattle.v7_layout.specs.declared.slot.Slot.{Slot}
use Rattle.v7_layout.specs.Numbers.{part}
use Rattle.v7_layout.specs.Records.{slot_of_bytes, inode_of}
use Rattle.stable.specs.Store.{Image}
use Rattle.v7_map.specs.Image.{sector_at, is_inode, inode_at, inode_sector, inode_offset}
use Rattle.v7_map.specs.Frame.{slot_of}
use Rattle.v7_map.specs.Plan.{PutsInode}
use Rattle.v7_map.proofs.Splices.{PutsInode-bytes, part_here, part_elsewhere}
use Rattle.v7_strokes.specs.Over.{ReplacesInode, slot_from}
use Rattle.v7_strokes.specs.Slots.{PutsSlot}

pub replaces-inode : (image : Image) (i : ℕ) (n : Inode) (result : List ℕ) → is_inode image i ≡ true → length (sector_at image (inode_sector i)) ≡ 512 → ReplacesInode (sector_at image (inode_sector i)) i n result → PutsInode image i result n
replaces-inode image i n result inside long r = subst (λ b. PutsInode image i b n) (sym r.is) (PutsInode-bytes image i r.bytes n inside long r.long r.reads)

slot_of-from : (bytes : List ℕ) → slot_of bytes ≡ slot_from (slot_of_bytes bytes)
unfolding slot_of
slot_of-from bytes = refl

-- the sector of a directory in which slot k is replaced by these bytes
pub replaces-slot : (sector : List ℕ) (k : ℕ) (s : Slot) (bytes result : List ℕ) → length sector ≡ 512 → length bytes ≡ 16 → slot_of_bytes bytes ≡ s
    → result ≡ take (16 * (k % 32)) sector ++ bytes ++ drop (16 * (k % 32) + length bytes) sector → PutsSlot sector k result (slot_from s)
replaces-slot sector k s bytes result long size reads is = subst (λ b. PutsSlot sector k b (slot_from s)) (sym is) (record {
  long = simp (length-append, length-take, length-drop) (omega arith);
  here = ap slot_of (ap (λ m. part (take (16 * (k % 32)) sector ++ bytes ++ drop (16 * (k % 32) + length bytes) sector) (16 * (k % 32)) m) (sym size)
      ∙ part_here (16 * (k % 32)) bytes sector (omega arith)) ∙ slot_of-from bytes ∙ ap slot_from reads;
  others = λ l ne same. ap slot_of (part_elsewhere (16 * (k % 32)) (16 * (l % 32)) 16 bytes sector (omega arith)
      (⊎_elim (λ (lt : l % 32 < k % 32). inl (omega arith)) (λ (ge : k % 32 ≤ l % 32). let ne' : l % 32 ≢ k % 32 = λ e. ne (omega arith) in inr (omega arith)) (cases_lt (l % 32) (k % 32))));
})

-- an inode that is read from its sector
pub inode-stands : (image : Image) (i : ℕ) (sector : List ℕ) (found : Inode) → is_inode image i ≡ true → sector ≡ sector_at image (inode_sector i) → found ≡ inode_of (part sector (inode_offset i) 64) → found ≡ inode_at image i
unfolding inode_at
inode-stands image i sector found inside at is = is ∙ ap (λ s. inode_of (part s (inode_offset i) 64)) at
    ∙ sym (ap (λ b. cond b (inode_of (part (sector_at image (inode_sector i)) (inode_offset i) 64)) (inode_of [])) inside)
