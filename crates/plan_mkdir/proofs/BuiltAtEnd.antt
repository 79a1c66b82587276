-- The strokes of a new directory whose name comes at its parent's end, one after the other, are its plan.
use Rattle.std.proofs.Common.{◌≡◌, ◌≢◌, ℕ, ◌+◌, ◌/◌, ◌^◌, ◌<◌, ◌≤◌, ◌==◌, true, cond, List, [], ◌∷◌, ◌++◌, length, get_or, set, sym, ap, subst, ◌∙◌, arith, ⊎_elim, Option, Some, None}
use Rattle.std.proofs.lemmas.Bool.{cases_eq, ne_eqb}
use Rattle.std.specs.List.{AllByRecursion}
use Rattle.files_model.specs.declared.attributes.Sattr.{Sattr}
use Rattle.files_model.specs.declared.credential.Cred.{Cred}
use Rattle.files_model.specs.declared.call.Call.TheVariants.{Mkdir}
use Rattle.files_model.specs.Answers.{zeros}
use Rattle.files_model.specs.Files.{Node}
use Rattle.files_model.specs.NameRows.{new_directory}
use Rattle.stable.specs.Puts.{put_all, with_put}
use Rattle.stable.specs.Store.{Image}
use Rattle.v7_layout.specs.declared.inode.Inode.{Inode}
use Rattle.v7_layout.specs.declared.slot.Slot.{Slot}
use Rattle.v7_map.specs.Image.{sector_at, is_inode, inode_at, inode_sector}
use Rattle.v7_map.specs.Frame.{Place, Body, Single, frame}
use Rattle.v7_map.specs.Weak.{IsStrong}
use Rattle.v7_map.specs.Plan.{PutsInode}
use Rattle.v7_plans.specs.Setting.{put_inode}
use Rattle.v7_strokes.specs.Over.{slot_from}
use Rattle.v7_strokes.specs.Slots.{PutsSlot}
use Rattle.v7_strokes.specs.Targets.{IsTarget}
use Rattle.name_plans.specs.CreatingPuts.{longer_image, longer_puts}
use Rattle.name_plans.specs.Lengthening.{MapPuts, same, changed, PutsLonger}
use Rattle.name_plans.specs.MakingDirectory.{AreDots, PutsDots}
use Rattle.name_plans.specs.Taken.{AreNewBlocks}
use Rattle.longer_plans.specs.LongerParent.{EntersLonger, longer_parent}
use Rattle.longer_plans.proofs.MkdirLongerSets.{mkdir-longer, mkdir-longer_sets}
use Rattle.plan_name.specs.Creating.{IsPlannedMaking, LaysOut, map_puts}
use Rattle.plan_name.specs.declared.creating_puts.Listing.{Listing}
use Rattle.plan_name.specs.declared.creating_puts.Longer.{Longer}
use Rattle.plan_name.specs.declared.making.Spot.{Spot}
use Rattle.plan_mkdir.specs.Making.{Makes, HasParts, IsAtEnd}
use Rattle.plan_mkdir.specs.declared.directories.NewDirectory.{NewDirectory}
use Rattle.plan_mkdir.proofs.BuiltInPlace.{apart-two}
use Rattle.plan_mkdir.proofs.NewInode.{new-few, parent-inside, block-past, first-puts, parent-address, others-free, later-size, later-links, later-inside}

-- a last put of another sector comes after the others
with-map : (z : ℕ) (b : List ℕ) (p q r : ℕ × List ℕ) (o : Option Listing) → AllByRecursion (λ (t : ℕ × List ℕ). t.0 ≢ z) (r ∷ map_puts o) → with_put (p ∷ q ∷ r ∷ map_puts o) (z, b) ≡ p ∷ q ∷ ((r ∷ map_puts o) ++ (z, b) ∷ [])
with-map z b p q r None h = ap (λ t. cond t (set (p ∷ q ∷ r ∷ []) 2 (z, b)) (p ∷ q ∷ r ∷ (z, b) ∷ [])) (ne_eqb r.0 z h.0)
with-map z b p q r (Some l) h = ap (λ t. cond t (set (p ∷ q ∷ r ∷ (l.block, l.bytes) ∷ []) 3 (z, b)) (p ∷ q ∷ r ∷ (l.block, l.bytes) ∷ (z, b) ∷ [])) (ne_eqb l.block z h.1.0)

all-weaker : (P Q : ℕ × List ℕ → Type 0) → ((r : ℕ × List ℕ) → P r → Q r) → (puts : List (ℕ × List ℕ)) → AllByRecursion P puts → AllByRecursion Q puts
all-weaker P Q f [] h = h
all-weaker P Q f (r ∷ puts) h = (f r h.0, all-weaker P Q f puts h.1)

module _ (image : Image) (spot : Spot) (new : NewDirectory) (name : List ℕ) (wanted : Sattr) (cred : Cred) (now : ℕ) (d : Node) (strong : IsStrong (frame image)) (x : Makes image spot new name wanted cred now d)
    (inode : Inode) (slot : Slot) (y : HasParts image spot new name wanted cred now inode slot) (longer : Longer) (target : Place → ℕ) (taken : List ℕ) (at_end : IsAtEnd image spot new.block longer d target taken)
    (b0 b1 b2 b3 : List ℕ) (dots : AreDots b0 new.ino spot.directory.ino) (im1 im2 : Image) (e1 : im1 ≡ image) (e2 : im2 ≡ im1) (plan0 plan1 plan2 plan3 plan4 : List (ℕ × List ℕ))
    (l0 : plan0 ≡ (new.block, b0) ∷ []) (l1 : plan1 ≡ with_put plan0 (inode_sector new.ino, b1)) (first : is_inode (put_all plan0 image) new.ino ≡ true → PutsInode (put_all plan0 image) new.ino b1 inode)
    (l2 : plan2 ≡ plan1 ++ (spot.sector, b2) ∷ []) (second : PutsSlot (cond longer.fresh zeros (get_or (put_all plan1 im1) spot.sector [])) spot.index b2 (slot_from slot))
    (l3 : plan3 ≡ plan2 ++ map_puts longer.map) (l4 : plan4 ≡ with_put plan3 (inode_sector spot.directory.ino, b3))
    (third : is_inode (put_all plan3 im2) spot.directory.ino ≡ true → (inode_at (put_all plan3 im2) spot.directory.ino).nlink + 1 < 2 ^ 16 → (inode_at (put_all plan3 im2) spot.directory.ino).size + 16 < 2 ^ 32
    → PutsInode (put_all plan3 im2) spot.directory.ino b3 (longer_parent (inode_at (put_all plan3 im2) spot.directory.ino) longer.blocks.direct longer.blocks.single now)) where
  first' : is_inode (set image new.block b0) new.ino ≡ true → PutsInode (set image new.block b0) new.ino b1 inode
  first' = subst (λ ps. is_inode (put_all ps image) new.ino ≡ true → PutsInode (put_all ps image) new.ino b1 inode) l0 first

  after_first : Image
  after_first = put_inode (set image new.block b0) new.ino b1

  lay : LaysOut image (record { directory = spot.directory.ino; index = spot.index; sector = spot.sector; slot = slot }) longer target taken
  lay = at_end.lays slot

  -- ---- the layout, where it stands after the new inode

  address_p : (r : Place) → (frame after_first).address spot.directory.ino r ≡ (frame image).address spot.directory.ino r
  unfolding after_first
  address_p = parent-address image spot new name wanted cred now d strong x inode slot y b0 b1 dots first'

  lays_image : IsTarget (frame image) spot.directory.ino (length d.slots / 32) target
  lays_image = subst (λ k. IsTarget (frame image) spot.directory.ino (k / 32) target) at_end.end lay.lays

  lays : IsTarget (frame after_first) spot.directory.ino (length d.slots / 32) target
  unfolding after_first
  lays = record {
    kept = λ r nz. lays_image.kept r (λ z. nz (address_p r ∙ z)) ∙ sym (address_p r);
    fresh = λ r z nz. others-free image spot new name wanted cred now d strong x inode slot y b0 b1 dots first' (target r) (lays_image.fresh r (sym (address_p r) ∙ z) nz) (at_end.apart r);
    apart = lays_image.apart;
    held = lays_image.held;
    added = λ l z nz. lays_image.added l (sym (address_p (Body l)) ∙ z) nz;
    map_needed = lays_image.map_needed;
    double = lays_image.double;
  }

  sector_is : spot.sector ≡ target (Body (length d.slots / 32))
  sector_is = lay.sector ∙ ap (λ k. target (Body (k / 32))) at_end.end

  map_image : MapPuts (frame image) spot.directory.ino (length d.slots / 32) target (map_puts longer.map)
  map_image = subst (λ k. MapPuts (frame image) spot.directory.ino (k / 32) target (map_puts longer.map)) at_end.end lay.map

  map_there : MapPuts (frame image) spot.directory.ino (length d.slots / 32) target (map_puts longer.map) → MapPuts (frame after_first) spot.directory.ino (length d.slots / 32) target (map_puts longer.map)
  map_there (same reached through is) = same (λ z. reached (sym (address_p (Body (length d.slots / 32))) ∙ z)) (through ∙ sym (address_p Single)) is
  map_there (changed bytes ten new_sector some long each is) = changed bytes ten (address_p (Body (length d.slots / 32)) ∙ new_sector) some long each is

  all1 : plan1 ≡ (new.block, b0) ∷ (inode_sector new.ino, b1) ∷ []
  all1 = l1 ∙ ap (λ ps. with_put ps (inode_sector new.ino, b1)) l0 ∙ apart-two (new.block, b0) (inode_sector new.ino, b1) (λ e. let lt = (block-past image spot new name wanted cred now d strong x).1 in omega arith)

  same1 : put_all plan1 im1 ≡ after_first
  unfolding after_first
  same1 = (λ z. put_all (all1 z) (e1 z))

  fresh_is : longer.fresh ≡ ((frame after_first).address spot.directory.ino (Body (length d.slots / 32)) == 0)
  fresh_is = lay.is_fresh ∙ ap (λ k. (frame image).address spot.directory.ino (Body (k / 32)) == 0) at_end.end ∙ ap (λ a. a == 0) (sym (address_p (Body (length d.slots / 32))))

  slot_there : PutsSlot (cond ((frame after_first).address spot.directory.ino (Body (length d.slots / 32)) == 0) zeros (sector_at after_first (target (Body (length d.slots / 32))))) (length d.slots) b2 (Some (new.ino, name))
  slot_there = subst (λ a. PutsSlot (cond ((frame after_first).address spot.directory.ino (Body (length d.slots / 32)) == 0) zeros (sector_at after_first a)) (length d.slots) b2 (Some (new.ino, name))) sector_is
      (subst (λ i. PutsSlot (cond ((frame after_first).address spot.directory.ino (Body (length d.slots / 32)) == 0) zeros (sector_at i spot.sector)) (length d.slots) b2 (Some (new.ino, name))) same1
      (subst (λ t. PutsSlot (cond t zeros (sector_at (put_all plan1 im1) spot.sector)) (length d.slots) b2 (Some (new.ino, name))) fresh_is
      (subst (λ k. PutsSlot (cond longer.fresh zeros (sector_at (put_all plan1 im1) spot.sector)) k b2 (Some (new.ino, name))) at_end.end
      (subst (PutsSlot (cond longer.fresh zeros (sector_at (put_all plan1 im1) spot.sector)) spot.index b2) y.slot_is second))))

  puts_longer : PutsLonger after_first spot.directory.ino (length d.slots) (Some (new.ino, name)) target b2 (map_puts longer.map) longer.blocks.direct longer.blocks.single
  puts_longer = record { lays = lays; slot = slot_there; map = map_there map_image; own = lay.own; through = lay.through }

  new_there : AreNewBlocks (frame after_first) spot.directory.ino target taken
  new_there = record { each = λ r z nz. lay.fresh.each r (sym (address_p r) ∙ z) nz; only = lay.fresh.only }

  -- ---- the parent's inode

  target_low : (r : Place) → target r ≢ 0 → (frame image).isize ≤ target r
  target_low r nz = ⊎_elim
      (λ (z : (frame image).address spot.directory.ino r ≡ 0). (lays_image.fresh r z nz).low)
      (λ (h : (frame image).address spot.directory.ino r ≢ 0). subst (λ a. (frame image).isize ≤ a) (sym (lays_image.kept r h)) (strong.weak.data_block spot.directory.ino r h).0)
      (cases_eq ((frame image).address spot.directory.ino r) 0)

  rest_past : AllByRecursion (λ (r : ℕ × List ℕ). (frame image).isize ≤ r.0) ((target (Body (length d.slots / 32)), b2) ∷ map_puts longer.map)
  rest_past = (target_low (Body (length d.slots / 32)) lays_image.held, by_map map_image)
    where
      by_map : MapPuts (frame image) spot.directory.ino (length d.slots / 32) target (map_puts longer.map) → AllByRecursion (λ (r : ℕ × List ℕ). (frame image).isize ≤ r.0) (map_puts longer.map)
      by_map (same reached through is) = subst (AllByRecursion (λ (r : ℕ × List ℕ). (frame image).isize ≤ r.0)) (sym is) tt
      by_map (changed bytes ten new_sector some long each is) = subst (AllByRecursion (λ (r : ℕ × List ℕ). (frame image).isize ≤ r.0)) (sym is) (target_low Single some, tt)

  mid : Image
  mid = longer_image (set image new.block b0) d new.ino target b1 b2 (map_puts longer.map)

  all3 : plan3 ≡ (new.block, b0) ∷ (inode_sector new.ino, b1) ∷ (target (Body (length d.slots / 32)), b2) ∷ map_puts longer.map
  all3 = l3 ∙ ap (λ z. z ++ map_puts longer.map) (l2 ∙ ap (λ z. z ++ (spot.sector, b2) ∷ []) all1) ∙ ap (λ a. (new.block, b0) ∷ (inode_sector new.ino, b1) ∷ (a, b2) ∷ map_puts longer.map) sector_is

  same3 : put_all plan3 im2 ≡ mid
  unfolding mid
  same3 = (λ z. put_all (all3 z) ((e2 ∙ e1) z))

  links_few : (inode_at mid spot.directory.ino).nlink + 1 < 2 ^ 16
  unfolding mid
  links_few = let l = later-links image spot new name wanted cred now d strong x inode slot y b0 b1 dots first' ((target (Body (length d.slots / 32)), b2) ∷ map_puts longer.map) rest_past in
      let few = new-few image spot new name wanted cred now d strong x in subst (λ m. m + 1 < 2 ^ 16) (sym l) (omega arith)

  size_mid : (inode_at mid spot.directory.ino).size + 16 < 2 ^ 32
  unfolding mid
  size_mid = let s = later-size image spot new name wanted cred now d strong x inode slot y b0 b1 dots first' ((target (Body (length d.slots / 32)), b2) ∷ map_puts longer.map) rest_past in
      let room = at_end.room in subst (λ m. m + 16 < 2 ^ 32) (sym s) (omega arith)

  number_mid : is_inode mid spot.directory.ino ≡ true
  unfolding mid
  number_mid = later-inside image spot new name wanted cred now d strong x inode slot y b0 b1 dots first' ((target (Body (length d.slots / 32)), b2) ∷ map_puts longer.map) rest_past

  parent : PutsInode mid spot.directory.ino b3 (longer_parent (inode_at mid spot.directory.ino) longer.blocks.direct longer.blocks.single now)
  parent = subst (λ i. is_inode i spot.directory.ino ≡ true → (inode_at i spot.directory.ino).nlink + 1 < 2 ^ 16 → (inode_at i spot.directory.ino).size + 16 < 2 ^ 32
      → PutsInode i spot.directory.ino b3 (longer_parent (inode_at i spot.directory.ino) longer.blocks.direct longer.blocks.single now)) same3 third number_mid links_few size_mid

  enters : EntersLonger (set image new.block b0) now spot.directory.ino name d new.ino target b1 b2 (map_puts longer.map) longer.blocks.direct longer.blocks.single b3
  unfolding after_first mid
  enters = record { full = let e = x.place in let f = at_end.end in omega arith; room = at_end.room; longer = puts_longer; parent = parent }

  puts_dots : PutsDots image spot.directory.ino new.ino (new_directory wanted cred new.ino spot.directory.ino now) new.block b0 b1
  puts_dots = first-puts image spot new name wanted cred now d strong x inode slot y b0 b1 dots first'

  new_blocks : AreNewBlocks (frame (put_inode (set image new.block b0) new.ino b1)) spot.directory.ino target taken
  unfolding after_first
  new_blocks = new_there

  all4 : plan4 ≡ (new.block, b0) ∷ longer_puts spot.directory.ino d new.ino target b1 b2 (map_puts longer.map) b3
  all4 = l4 ∙ ap (λ z. with_put z (inode_sector spot.directory.ino, b3)) all3
      ∙ with-map (inode_sector spot.directory.ino) b3 (new.block, b0) (inode_sector new.ino, b1) (target (Body (length d.slots / 32)), b2) longer.map
      (all-weaker (λ (r : ℕ × List ℕ). (frame image).isize ≤ r.0) (λ (r : ℕ × List ℕ). r.0 ≢ inode_sector spot.directory.ino)
      (λ r h e. let lt = (parent-inside image spot new name wanted cred now d strong x).1 in omega arith) ((target (Body (length d.slots / 32)), b2) ∷ map_puts longer.map) rest_past)

  pub built-at_end : IsPlannedMaking image (Mkdir spot.directory name wanted, cred) now new.ino (new.block ∷ taken) plan4
  built-at_end = subst (IsPlannedMaking image (Mkdir spot.directory name wanted, cred) now new.ino (new.block ∷ taken)) (sym all4) (record {
    plan = mkdir-longer image spot.directory name wanted cred now d new.ino new.block target b0 b1 b2 (map_puts longer.map) longer.blocks.direct longer.blocks.single b3 strong x.making puts_dots enters;
    sets = λ blocks inodes sets. mkdir-longer_sets image spot.directory name wanted cred now d new.ino new.block target b0 b1 b2 (map_puts longer.map) longer.blocks.direct longer.blocks.single b3 strong x.making puts_dots enters taken new_blocks blocks inodes sets;
  })
