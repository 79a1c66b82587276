-- Calls on a rig, one after the other, each from what is known of its board.
use Rattle.std.proofs.Common.{◌≡◌, ◌∙◌, ◌<◌, ℕ, List, [], get_or, inl, inr, None, refl, sym, ap, subst, arith}
use Rattle.std.proofs.lemmas.List.{get_or-set_same}
use Rattle.stable.specs.Moments.{IsClocked, LeavesOnly}
use Rattle.stable.proofs.Clocked.{started, idles, weaker, ends}
use Rattle.rig.specs.Devices.{Devices, Sizes, HasShape, IsBoard, Unchanged, SectorOldOrNew, with_sector}
use Rattle.rig.specs.declared.rig.Rig.{Ghosts}
use Rattle.nvram_map.specs.Overlay.{overlay, entries}
use Rattle.presto_cache.specs.Slots.{at, sector_of, spelled}
use Rattle.presto_cache.specs.Board.{IsOf, Keeps, KeepsOnDisk}
use Rattle.presto_cache.specs.Cache.{slots_of, Knows, Suits}
use Rattle.presto_cache.specs.declared.cache.Cache.{Cache}
use Rattle.presto_cache.proofs.Known.{known_at}
use Rattle.presto_cache.proofs.Puts.{keep_again, keep_again_on_disk, keep_off_disk, puts_kept_on_disk, stay_keeps}
use Rattle.presto_cache.proofs.Runs.{runs_on}
use Rattle.presto_cache.proofs.Seen.{read_set, read_unset}
use Rattle.presto_cache.proofs.Writing.{written_of, write_step}
use Rattle.presto_unit.specs.Disk.{FlushesAll, FlushesOne, Holds, IsOnDisk, PutsOneMakingRoom, PutsWithRoom}
use Rattle.presto_unit.specs.Flushing.{IsDirtyAt}
use Rattle.presto_unit.proofs.Disk.{room_again}

-- what is known stays known
pub knows_same : {R : Type 0} (r : Ghosts R) {old new : R} {cache : Cache} → r.contents new ≡ r.contents old → r.sizes new ≡ r.sizes old → r.is_kept new ≡ r.is_kept old → Knows r old cache → Knows r new cache
knows_same r {old} {new} {cache} contents sizes kept knows = record {
  suits = subst (λ (z : Sizes). Suits z cache) (sym sizes) knows.suits;
  is = λ tells. subst (λ (d : Devices). IsOf (slots_of cache) d) (sym contents) (knows.is tells);
  kept = kept ∙ knows.kept;
}

module _ {R : Type 0} (r : Ghosts R) (clocked : IsClocked r.tells r.contents r.moment r.left_since) where
  -- one flush more
  pub flushes_on : {old mid new : R} (sector : ℕ) → r.sizes mid ≡ r.sizes old → FlushesOne r sector old mid → FlushesOne r sector mid new → FlushesOne r sector old new
  flushes_on {old} {mid} {new} sector sizes so_far call =
      runs_on clocked (KeepsOnDisk (r.sizes old) sector) (λ a b c. keep_again_on_disk) so_far call
      (λ tells d kept. subst (λ (z : Sizes). KeepsOnDisk z sector (r.contents mid) d) sizes kept)

  pub flushes_all_on : {old mid new : R} → r.sizes mid ≡ r.sizes old → FlushesAll r old mid → FlushesAll r mid new → FlushesAll r old new
  flushes_all_on {old} {mid} {new} sizes so_far call =
      runs_on clocked (Keeps (r.sizes old)) (λ a b c. keep_again) so_far call
      (λ tells d kept. subst (λ (z : Sizes). Keeps z (r.contents mid) d) sizes kept)

  pub flushes_as_all : {old new : R} (sector : ℕ) → FlushesOne r sector old new → FlushesAll r old new
  flushes_as_all sector run = weaker run (λ d left kept. kept.keeps)

  -- one part of a put more
  pub puts_on : {old mid new : R} (sector other : ℕ) (bytes : List ℕ) → r.sizes mid ≡ r.sizes old → PutsOneMakingRoom r sector other bytes old mid → PutsOneMakingRoom r sector other bytes mid new
      → PutsOneMakingRoom r sector other bytes old new
  puts_on {old} {mid} {new} sector other bytes sizes so_far call =
      runs_on clocked (PutsWithRoom (r.sizes old) sector other bytes) (λ a b c. room_again other) so_far call
      (λ tells d put. subst (λ (z : Sizes). PutsWithRoom z sector other bytes (r.contents mid) d) sizes put)

  module _ (shape : (rig : R) (t : ℕ) (d : Devices) → r.left_since rig t d → HasShape (r.sizes rig) d)
      (told : (rig : R) → r.tells → (r.contents rig).kept ≡ r.is_kept rig) (board : (rig : R) → IsBoard (r.sizes rig) (r.is_kept rig)) where
    -- once a sector of the disk was written
    pub knows_written : {old new : R} {cache : Cache} (sector : ℕ) (bytes : List ℕ) → r.sizes new ≡ r.sizes old → r.is_kept new ≡ r.is_kept old → LeavesOnly r.moment r.left_since old new (SectorOldOrNew sector bytes (r.contents old))
        → Knows r old cache → Knows r new cache
    knows_written {old} {new} {cache} sector bytes sizes kept run knows = record {
      suits = subst (λ (z : Sizes). Suits z cache) (sym sizes) knows.suits;
      is = λ tells. written_of (known_at r clocked shape told board knows tells) sector bytes (r.contents new) (ends clocked run tells);
      kept = kept ∙ knows.kept;
    }

    -- before the first call, and after one that only looks
    pub flushes_none : {rig : R} {cache : Cache} (sector : ℕ) → Knows r rig cache → FlushesOne r sector rig rig
    flushes_none {rig} sector knows = started clocked rig (KeepsOnDisk (r.sizes rig) sector (r.contents rig)) (λ tells. keep_off_disk sector (stay_keeps (known_at r clocked shape told board knows tells)))

    pub flushes_looked : {old new : R} {cache : Cache} (sector : ℕ) → Knows r old cache → LeavesOnly r.moment r.left_since old new (Unchanged (r.contents old)) → FlushesOne r sector old new
    flushes_looked sector knows run = idles clocked (flushes_none sector knows) run

    -- an entry's buffer is written to the disk
    module _ {old : R} {cache : Cache} (index s b : ℕ) (bytes : List ℕ) (knows : Knows r old cache) (entry : IsDirtyAt (slots_of cache) index) (of_s : sector_of (at (slots_of cache) index) ≡ s) (holds : Holds r old index s b)
        (loaded : r.tells → bytes ≡ get_or (r.contents old).buffers b []) where
      shown : r.tells → bytes ≡ get_or (overlay (r.contents old)) s []
      shown tells = loaded tells ∙ sym (read_set (known_at r clocked shape told board knows tells) index s entry.within entry.dirty of_s b holds.on_board (holds.word tells))

      step : (d : Devices) → r.tells → SectorOldOrNew s bytes (r.contents old) d → KeepsOnDisk (r.sizes old) s (r.contents old) d
      step d tells cut = puts_kept_on_disk (shown tells) (write_step (known_at r clocked shape told board knows tells) s bytes d cut)

      pub flushes_written : {new : R} → LeavesOnly r.moment r.left_since old new (SectorOldOrNew s bytes (r.contents old)) → FlushesOne r s old new
      flushes_written run = weaker run (λ d left cut. step d (clocked.told _ _ d left) cut)

      pub stands_written : {new : R} → r.tells → r.contents new ≡ with_sector (r.contents old) s bytes → IsOnDisk s (r.contents new)
      stands_written {new} tells done =
          let known = known_at r clocked shape told board knows tells in
          let low : s < (r.sizes old).sectors = subst (λ (n : ℕ). n < (r.sizes old).sectors) of_s (knows.suits.below index entry.dirty) in
          ap (λ (d : Devices). get_or d.disk s []) done
          ∙ get_or-set_same (r.contents old).disk s bytes [] (omega (arith, low, known.shape.disk))
          ∙ shown tells
          ∙ sym (ap (λ (l : List (List ℕ)). get_or l s []) ((step (r.contents new) tells (inr done)).keeps.image (r.contents new) (inl refl)))

    -- an entry whose word says that it is none stands on the disk
    pub unset_on_disk : {old : R} {cache : Cache} (index : ℕ) → Knows r old cache → IsDirtyAt (slots_of cache) index → r.tells → get_or (entries (r.contents old)) index 0 ≡ spelled (sector_of (at (slots_of cache) index)) None
        → IsOnDisk (sector_of (at (slots_of cache) index)) (r.contents old)
    unset_on_disk {old} {cache} index knows entry tells word = sym (read_unset (known_at r clocked shape told board knows tells) index (sector_of (at (slots_of cache) index)) entry.within entry.dirty refl word)

pub holds_same : {R : Type 0} (r : Ghosts R) {old new : R} (index s b : ℕ) → r.contents new ≡ r.contents old → r.sizes new ≡ r.sizes old → Holds r old index s b → Holds r new index s b
holds_same r {old} {new} index s b contents sizes holds = record {
  on_board = subst (λ (z : Sizes). b < z.buffers) (sym sizes) holds.on_board;
  word = λ tells. ap (λ (d : Devices). get_or (entries d) index 0) contents ∙ holds.word tells;
}
