-- The strokes of a new directory whose name takes an empty slot, one after the other, are its plan.
use Rattle.std.proofs.Common.{◌≡◌, ◌≢◌, ℕ, ◌+◌, ◌/◌, ◌^◌, ◌<◌, ◌≤◌, true, cond, List, [], ◌∷◌, ◌++◌, length, set, sym, ap, subst, ◌∙◌, arith, Some}
use Rattle.std.proofs.lemmas.Bool.{ne_eqb}
use Rattle.files_model.specs.declared.attributes.Sattr.{Sattr}
use Rattle.files_model.specs.declared.credential.Cred.{Cred}
use Rattle.files_model.specs.declared.call.Call.TheVariants.{Mkdir}
use Rattle.files_model.specs.Files.{Node}
use Rattle.files_model.specs.Names.{place_for}
use Rattle.files_model.specs.NameRows.{new_directory}
use Rattle.stable.specs.Puts.{put_all, with_put}
use Rattle.stable.specs.Store.{Image}
use Rattle.v7_layout.specs.declared.inode.Inode.{Inode}
use Rattle.v7_layout.specs.declared.slot.Slot.{Slot}
use Rattle.v7_map.specs.Image.{sector_at, is_inode, inode_at, inode_sector}
use Rattle.v7_map.specs.Frame.{Body, frame}
use Rattle.v7_map.specs.Weak.{IsStrong}
use Rattle.v7_map.specs.Plan.{PutsInode}
use Rattle.v7_plans.specs.Setting.{put_inode}
use Rattle.v7_strokes.specs.Entries.{entry_sector, put_entry}
use Rattle.v7_strokes.specs.Inodes.{parent_inode}
use Rattle.v7_strokes.specs.Over.{slot_from}
use Rattle.v7_strokes.specs.Slots.{PutsSlot}
use Rattle.name_plans.specs.CreatingPuts.{in_place_puts}
use Rattle.name_plans.specs.MakingDirectory.{AreDots, EntersInPlace, PutsDots}
use Rattle.name_plans.proofs.MkdirQuiet.{dots-in_place}
use Rattle.name_plans.proofs.MkdirSets.{mkdir-sets}
use Rattle.plan_name.specs.Creating.{IsPlannedMaking}
use Rattle.plan_name.specs.declared.making.Spot.{Spot}
use Rattle.plan_mkdir.specs.Making.{Makes, HasParts, IsInside}
use Rattle.plan_mkdir.specs.declared.directories.NewDirectory.{NewDirectory}
use Rattle.plan_mkdir.proofs.NewInode.{new-parent, new-few, parent-inside, block-past, first-puts, parent-address, later-links, later-inside}

-- the puts so far are of other sectors than the next one
pub apart-two : (p q : ℕ × List ℕ) → p.0 ≢ q.0 → with_put (p ∷ []) q ≡ p ∷ q ∷ []
apart-two p q ne = ap (λ b. cond b (set (p ∷ []) 0 q) (p ∷ q ∷ [])) (ne_eqb p.0 q.0 ne)

apart-four : (p q r s : ℕ × List ℕ) → r.0 ≢ s.0 → with_put (p ∷ q ∷ r ∷ []) s ≡ p ∷ q ∷ r ∷ s ∷ []
apart-four p q r s ne = ap (λ b. cond b (set (p ∷ q ∷ r ∷ []) 2 s) (p ∷ q ∷ r ∷ s ∷ [])) (ne_eqb r.0 s.0 ne)

module _ (image : Image) (spot : Spot) (new : NewDirectory) (name : List ℕ) (wanted : Sattr) (cred : Cred) (now : ℕ) (d : Node) (strong : IsStrong (frame image)) (x : Makes image spot new name wanted cred now d)
    (inode : Inode) (slot : Slot) (y : HasParts image spot new name wanted cred now inode slot) (inside : IsInside image spot d) (b0 b1 b2 b3 : List ℕ) (dots : AreDots b0 new.ino spot.directory.ino)
    (im1 im2 : Image) (e1 : im1 ≡ image) (e2 : im2 ≡ im1) (plan0 plan1 plan2 plan3 : List (ℕ × List ℕ))
    (l0 : plan0 ≡ (new.block, b0) ∷ []) (l1 : plan1 ≡ with_put plan0 (inode_sector new.ino, b1)) (first : is_inode (put_all plan0 image) new.ino ≡ true → PutsInode (put_all plan0 image) new.ino b1 inode)
    (l2 : plan2 ≡ plan1 ++ (spot.sector, b2) ∷ []) (second : PutsSlot (sector_at (put_all plan1 im1) spot.sector) spot.index b2 (slot_from slot))
    (l3 : plan3 ≡ with_put plan2 (inode_sector spot.directory.ino, b3))
    (third : is_inode (put_all plan2 im2) spot.directory.ino ≡ true → (inode_at (put_all plan2 im2) spot.directory.ino).nlink + 1 < 2 ^ 16
    → PutsInode (put_all plan2 im2) spot.directory.ino b3 (parent_inode (inode_at (put_all plan2 im2) spot.directory.ino) now)) where
  first' : is_inode (set image new.block b0) new.ino ≡ true → PutsInode (set image new.block b0) new.ino b1 inode
  first' = subst (λ ps. is_inode (put_all ps image) new.ino ≡ true → PutsInode (put_all ps image) new.ino b1 inode) l0 first

  after_first : Image
  after_first = put_inode (set image new.block b0) new.ino b1

  place_inside : place_for d.slots < length d.slots
  place_inside = subst (λ k. k < length d.slots) x.place inside.inside

  -- the slot's sector is where it was
  same_place : entry_sector after_first spot.directory.ino (place_for d.slots) ≡ spot.sector
  unfolding after_first
  same_place = parent-address image spot new name wanted cred now d strong x inode slot y b0 b1 dots first' (Body (place_for d.slots / 32)) ∙ sym (inside.stands ∙ ap (entry_sector image spot.directory.ino) x.place)

  all1 : plan1 ≡ (new.block, b0) ∷ (inode_sector new.ino, b1) ∷ []
  all1 = l1 ∙ ap (λ ps. with_put ps (inode_sector new.ino, b1)) l0 ∙ apart-two (new.block, b0) (inode_sector new.ino, b1) (λ e. let lt = (block-past image spot new name wanted cred now d strong x).1 in omega arith)

  same1 : put_all plan1 im1 ≡ after_first
  unfolding after_first
  same1 = (λ z. put_all (all1 z) (e1 z))

  slot_there : PutsSlot (sector_at after_first (entry_sector after_first spot.directory.ino (place_for d.slots))) (place_for d.slots) b2 (Some (new.ino, name))
  slot_there = subst (λ a. PutsSlot (sector_at after_first a) (place_for d.slots) b2 (Some (new.ino, name))) (sym same_place)
      (subst (λ i. PutsSlot (sector_at i spot.sector) (place_for d.slots) b2 (Some (new.ino, name))) same1
      (subst (λ k. PutsSlot (sector_at (put_all plan1 im1) spot.sector) k b2 (Some (new.ino, name))) x.place
      (subst (PutsSlot (sector_at (put_all plan1 im1) spot.sector) spot.index b2) y.slot_is second)))

  all2 : plan2 ≡ (new.block, b0) ∷ (inode_sector new.ino, b1) ∷ (entry_sector after_first spot.directory.ino (place_for d.slots), b2) ∷ []
  all2 = l2 ∙ ap (λ ps. ps ++ (spot.sector, b2) ∷ []) all1 ∙ ap (λ a. (new.block, b0) ∷ (inode_sector new.ino, b1) ∷ (a, b2) ∷ []) (sym same_place)

  same2 : put_all plan2 im2 ≡ put_entry after_first spot.directory.ino (place_for d.slots) b2
  unfolding after_first
  same2 = (λ z. put_all (all2 z) ((e2 ∙ e1) z))

  -- it is past the list of inodes
  place_past : (frame image).isize ≤ entry_sector after_first spot.directory.ino (place_for d.slots)
  place_past =
      let s = new-parent image spot new name wanted cred now d strong x in
      let size = s.size in let long = s.long in let lt = place_inside in
      let r = strong.weak.data_block spot.directory.ino (Body (place_for d.slots / 32)) (strong.weak.needed spot.directory.ino (place_for d.slots / 32) s.dir (omega arith)) in
      subst (λ a. (frame image).isize ≤ a) (sym (same_place ∙ inside.stands ∙ ap (entry_sector image spot.directory.ino) x.place)) r.0

  third_there : PutsInode (put_entry after_first spot.directory.ino (place_for d.slots) b2) spot.directory.ino b3 (parent_inode (inode_at (put_entry after_first spot.directory.ino (place_for d.slots) b2) spot.directory.ino) now)
  unfolding after_first
  third_there = subst (λ i. is_inode i spot.directory.ino ≡ true → (inode_at i spot.directory.ino).nlink + 1 < 2 ^ 16 → PutsInode i spot.directory.ino b3 (parent_inode (inode_at i spot.directory.ino) now)) same2 third
      (later-inside image spot new name wanted cred now d strong x inode slot y b0 b1 dots first' ((entry_sector after_first spot.directory.ino (place_for d.slots), b2) ∷ []) (place_past, tt))
      (let l = later-links image spot new name wanted cred now d strong x inode slot y b0 b1 dots first' ((entry_sector after_first spot.directory.ino (place_for d.slots), b2) ∷ []) (place_past, tt) in
      let few = new-few image spot new name wanted cred now d strong x in subst (λ m. m + 1 < 2 ^ 16) (sym l) (omega arith))

  enters : EntersInPlace (set image new.block b0) now spot.directory.ino name d new.ino b1 b2 b3
  unfolding after_first
  enters = record { inside = place_inside; entry = slot_there; parent = third_there }

  puts_dots : PutsDots image spot.directory.ino new.ino (new_directory wanted cred new.ino spot.directory.ino now) new.block b0 b1
  puts_dots = first-puts image spot new name wanted cred now d strong x inode slot y b0 b1 dots first'

  all3 : plan3 ≡ (new.block, b0) ∷ in_place_puts (set image new.block b0) spot.directory.ino d new.ino b1 b2 b3
  unfolding after_first
  all3 = l3 ∙ ap (λ ps. with_put ps (inode_sector spot.directory.ino, b3)) all2
      ∙ apart-four (new.block, b0) (inode_sector new.ino, b1) (entry_sector after_first spot.directory.ino (place_for d.slots), b2) (inode_sector spot.directory.ino, b3)
      (λ e. let p = (parent-inside image spot new name wanted cred now d strong x).1 in let le = place_past in omega arith)

  pub built-in_place : IsPlannedMaking image (Mkdir spot.directory name wanted, cred) now new.ino (new.block ∷ []) plan3
  built-in_place = subst (IsPlannedMaking image (Mkdir spot.directory name wanted, cred) now new.ino (new.block ∷ [])) (sym all3) (record {
    plan = dots-in_place image spot.directory name wanted cred now d new.ino new.block b0 b1 strong x.making puts_dots b2 b3 enters;
    sets = λ blocks inodes sets. mkdir-sets image spot.directory name wanted cred now d new.ino new.block b0 b1 b2 b3 strong x.making puts_dots enters blocks inodes sets;
  })
