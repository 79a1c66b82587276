-- The slots of a name that moves, in the form of the laws.
use Rattle.std.proofs.Common.{◌≡◌, ℕ, List, [], ◌∷◌, ◌++◌, Some, None, set, refl, sym, ap, subst, ◌∙◌}
use Rattle.files_model.specs.Torn.{Asked}
use Rattle.stable.specs.Puts.{put_all}
use Rattle.stable.specs.Store.{Image}
use Rattle.v7_map.specs.Image.{sector_at}
use Rattle.v7_strokes.specs.Entries.{entry_sector, put_entry}
use Rattle.v7_strokes.specs.Merged.{merged}
use Rattle.v7_strokes.specs.Over.{slot_from}
use Rattle.v7_strokes.specs.Slots.{PutsSlot}
use Rattle.v7_strokes.proofs.Merging.{merged-all, merged-plan}
use Rattle.v7_sets.specs.Sets.{AreSetsOf}
use Rattle.rename_puts.specs.Renamed.{IsPlannedStaying}
use Rattle.name_plans.specs.Replacement.{MovesSlots, moved_slots}
use Rattle.rename_puts.specs.Slots.{PutsMoved}
use Rattle.rename_puts.specs.declared.slots.Moved.{Moved}

-- a plan stays one once its puts are merged
pub of_merged : (image : Image) (asked : Asked) (now : ℕ) (whole puts : List (ℕ × List ℕ)) → puts ≡ merged whole → IsPlannedStaying image asked now whole → IsPlannedStaying image asked now puts
of_merged image asked now whole puts e x = subst (IsPlannedStaying image asked now) (sym e) (record {
  plan = merged-plan image (asked ∷ []) now whole x.plan;
  sets = λ blocks inodes sets. subst (λ q. AreSetsOf q blocks inodes) (sym (merged-all whole image)) (x.sets blocks inodes sets);
})

-- slot l of directory q gets the new name, and slot k of directory p loses the old one
module _ (image : Image) (moved : Moved) (puts : List (ℕ × List ℕ)) (h : PutsMoved image moved puts) (p q k l i : ℕ) (new_name : List ℕ) (index : moved.old.index ≡ k) (place : moved.new.index ≡ l)
    (old_sector : moved.old.sector ≡ entry_sector image p k) (new_sector : moved.new.sector ≡ entry_sector image q l) (holds : slot_from moved.slot ≡ Some (i, new_name)) where
  abbrev pub raw : List (ℕ × List ℕ)
  raw = (moved.new.sector, h.new_bytes) ∷ (moved.old.sector, h.old_bytes) ∷ []

  pub moved-new : PutsSlot (sector_at image (entry_sector image q l)) l h.new_bytes (Some (i, new_name))
  moved-new = subst (λ a. PutsSlot (sector_at image a) l h.new_bytes (Some (i, new_name))) new_sector
      (subst (λ m. PutsSlot (sector_at image moved.new.sector) m h.new_bytes (Some (i, new_name))) place
      (subst (λ s. PutsSlot (sector_at image moved.new.sector) moved.new.index h.new_bytes s) holds h.new))

  -- where entries stand is as before the first put
  module _ (stays : entry_sector (put_entry image q l h.new_bytes) p k ≡ entry_sector image p k) where
    old_there : moved.old.sector ≡ entry_sector (put_entry image q l h.new_bytes) p k
    old_there = old_sector ∙ sym stays

    pub moved-slots : MovesSlots image p q k l i new_name h.new_bytes h.old_bytes
    moved-slots = record {
      new = moved-new;
      old = subst (λ a. PutsSlot (sector_at (put_entry image q l h.new_bytes) a) k h.old_bytes None) old_there
          (subst (λ a. PutsSlot (sector_at (set image a h.new_bytes) moved.old.sector) k h.old_bytes None) new_sector
          (subst (λ m. PutsSlot (sector_at (set image moved.new.sector h.new_bytes) moved.old.sector) m h.old_bytes None) index h.old));
    }

    pub moved-after : put_all raw image ≡ moved_slots image p q k l h.new_bytes h.old_bytes
    moved-after = (λ z. set (set image (new_sector z) h.new_bytes) (old_there z) h.old_bytes)

    pub moved-raw : (rest : List (ℕ × List ℕ)) → raw ++ rest ≡ (entry_sector image q l, h.new_bytes) ∷ (entry_sector (put_entry image q l h.new_bytes) p k, h.old_bytes) ∷ rest
    moved-raw rest = (λ z. (new_sector z, h.new_bytes) ∷ (old_there z, h.old_bytes) ∷ rest)
