-- The strokes of a creation into an empty slot, one after the other, are its plan.
use Rattle.std.proofs.Common.{◌≡◌, ◌≢◌, ℕ, ◌+◌, ◌/◌, ◌<◌, ◌≤◌, Bool, true, false, cond, List, [], ◌∷◌, ◌++◌, length, set, sym, ap, subst, ◌∙◌, arith, Some}
use Rattle.std.proofs.lemmas.Bool.{ne_eqb}
use Rattle.v7_layout.specs.declared.inode.Inode.{Inode}
use Rattle.files_model.specs.Files.{Node}
use Rattle.files_model.specs.Names.{place_for}
use Rattle.files_model.specs.Torn.{Asked}
use Rattle.stable.specs.Puts.{put_all, with_put}
use Rattle.stable.specs.Store.{Image}
use Rattle.v7_map.specs.Image.{sector_at, is_inode, inode_at, inode_sector}
use Rattle.v7_map.specs.Frame.{Body, frame}
use Rattle.v7_map.specs.Tree.{tree, is_named}
use Rattle.v7_map.specs.Weak.{IsStrong}
use Rattle.v7_map.specs.Plan.{PutsInode}
use Rattle.v7_map.proofs.AnyFrame.{frame-IsFrame}
use Rattle.v7_strokes.specs.Entries.{entry_sector}
use Rattle.v7_strokes.specs.Inodes.{timed_inode}
use Rattle.v7_strokes.specs.Over.{slot_from}
use Rattle.v7_strokes.specs.Slots.{PutsSlot}
use Rattle.v7_strokes.proofs.Absent.{absent-unnamed}
use Rattle.v7_strokes.proofs.Directories.{StandsDir}
use Rattle.v7_strokes.proofs.Unnamed.{unnamed-addresses}
use Rattle.name_plans.specs.CreatingPuts.{MakesInPlace}
use Rattle.name_plans.proofs.CreatingInPlace.{making-dir, making-within, create-plan}
use Rattle.name_plans.proofs.CreatingSets.{in_place-sets}
use Rattle.plan_name.specs.Creating.{Makes, IsPlannedMaking}
use Rattle.plan_name.specs.declared.creating_puts.Entry.{Entry}
use Rattle.plan_name.proofs.Past.{still, is_number}

clash : {b : Bool} → b ≡ true → b ≡ false → ⊥
clash {b = b} x y = cc

module _ (image : Image) (asked : Asked) (now i : ℕ) (n : Inode) (entry : Entry) (name : List ℕ) (d m : Node) (strong : IsStrong (frame image)) (x : Makes image asked now i n entry name d m) where
  within : i < (tree (frame image)).inodes + 1
  within = making-within image asked now entry.directory name d i m strong x.making

  pub made-directory : StandsDir image entry.directory d
  made-directory = making-dir image asked now entry.directory name d i m strong x.making

  pub made-number : is_inode image i ≡ true
  made-number = let low = x.making.low in let w = within in is_number image i (omega arith) (omega arith)

  pub made-parent : (is_inode image entry.directory ≡ true) × (inode_sector entry.directory < (frame image).isize)
  made-parent = let r = (frame-IsFrame image).numbers entry.directory ((frame-IsFrame image).directories entry.directory made-directory.dir) in
      let low = r.0 in let high = r.1 in (is_number image entry.directory r.0 r.1, omega arith)

  unnamed : is_named (tree (frame image)) i ≡ false
  unnamed = absent-unnamed image i strong x.making.absent within

  pub made-apart : entry.directory ≢ i
  made-apart e = clash (subst (λ z. is_named (tree (frame image)) z ≡ true) e made-directory.stands.named) unnamed

  module _ (inside : entry.index < length d.slots) (stands : entry.sector ≡ entry_sector image entry.directory entry.index) (b1 b2 b3 : List ℕ) (im1 im2 : Image) (e1 : im1 ≡ image) (e2 : im2 ≡ im1)
      (plan1 plan2 plan3 : List (ℕ × List ℕ)) (l1 : plan1 ≡ (inode_sector i, b1) ∷ []) (first : is_inode image i ≡ true → PutsInode image i b1 n)
      (l2 : plan2 ≡ plan1 ++ (entry.sector, b2) ∷ []) (slot : PutsSlot (sector_at (put_all plan1 im1) entry.sector) entry.index b2 (slot_from entry.slot))
      (l3 : plan3 ≡ with_put plan2 (inode_sector entry.directory, b3))
      (times : is_inode (put_all plan2 im2) entry.directory ≡ true → PutsInode (put_all plan2 im2) entry.directory b3 (timed_inode (inode_at (put_all plan2 im2) entry.directory) now)) where
    inside' : place_for d.slots < length d.slots
    inside' = subst (λ j. j < length d.slots) x.place inside

    stands' : entry.sector ≡ entry_sector image entry.directory (place_for d.slots)
    stands' = stands ∙ ap (entry_sector image entry.directory) x.place

    first' : PutsInode image i b1 n
    first' = first made-number

    -- the slot's sector is where it was
    same_place : entry_sector (set image (inode_sector i) b1) entry.directory (place_for d.slots) ≡ entry.sector
    same_place = unnamed-addresses image i b1 n strong.weak first' x.new.placed x.making.low unnamed entry.directory made-apart (Body (place_for d.slots / 32)) ∙ sym stands'

    same1 : put_all plan1 im1 ≡ set image (inode_sector i) b1
    same1 = (λ z. put_all (l1 z) (e1 z))

    slot' : PutsSlot (sector_at (set image (inode_sector i) b1) (entry_sector (set image (inode_sector i) b1) entry.directory (place_for d.slots))) (place_for d.slots) b2 (Some (i, name))
    slot' = subst (λ a. PutsSlot (sector_at (set image (inode_sector i) b1) a) (place_for d.slots) b2 (Some (i, name))) (sym same_place)
        (subst (λ y. PutsSlot (sector_at y entry.sector) (place_for d.slots) b2 (Some (i, name))) same1
        (subst (λ j. PutsSlot (sector_at (put_all plan1 im1) entry.sector) j b2 (Some (i, name))) x.place
        (subst (PutsSlot (sector_at (put_all plan1 im1) entry.sector) entry.index b2) x.slot slot)))

    all2 : plan2 ≡ (inode_sector i, b1) ∷ (entry_sector (set image (inode_sector i) b1) entry.directory (place_for d.slots), b2) ∷ []
    all2 = l2 ∙ ap (λ q. q ++ (entry.sector, b2) ∷ []) l1 ∙ ap (λ a. (inode_sector i, b1) ∷ (a, b2) ∷ []) (sym same_place)

    same2 : put_all plan2 im2 ≡ set (set image (inode_sector i) b1) (entry_sector (set image (inode_sector i) b1) entry.directory (place_for d.slots)) b2
    same2 = (λ z. put_all (all2 z) ((e2 ∙ e1) z))

    -- it is past the list of inodes
    place_past : (2 ≤ entry_sector (set image (inode_sector i) b1) entry.directory (place_for d.slots)) × (entry_sector (set image (inode_sector i) b1) entry.directory (place_for d.slots) ≢ inode_sector entry.directory)
    place_past =
        let size = made-directory.size in let long = made-directory.long in let inside'' = inside' in
        let r = strong.weak.data_block entry.directory (Body (place_for d.slots / 32)) (strong.weak.needed entry.directory (place_for d.slots / 32) made-directory.dir (omega arith)) in
        let low : (frame image).isize ≤ entry_sector image entry.directory (place_for d.slots) = r.0 in let least = strong.weak.sizes.low in let parent = made-parent.1 in
        subst (λ a. (2 ≤ a) × (a ≢ inode_sector entry.directory)) (sym (same_place ∙ stands')) (omega arith, λ e. omega arith)

    times' : PutsInode (set (set image (inode_sector i) b1) (entry_sector (set image (inode_sector i) b1) entry.directory (place_for d.slots)) b2) entry.directory b3
        (timed_inode (inode_at (set (set image (inode_sector i) b1) (entry_sector (set image (inode_sector i) b1) entry.directory (place_for d.slots)) b2) entry.directory) now)
    times' = subst (λ y. is_inode y entry.directory ≡ true → PutsInode y entry.directory b3 (timed_inode (inode_at y entry.directory) now)) same2 times
        (still image ((inode_sector i, b1) ∷ (entry_sector (set image (inode_sector i) b1) entry.directory (place_for d.slots), b2) ∷ []) entry.directory (omega arith, (place_past.0, tt)) made-parent.0)

    all3 : plan3 ≡ (inode_sector i, b1) ∷ (entry_sector (set image (inode_sector i) b1) entry.directory (place_for d.slots), b2) ∷ (inode_sector entry.directory, b3) ∷ []
    all3 = l3 ∙ ap (λ q. with_put q (inode_sector entry.directory, b3)) all2
        ∙ ap (λ b. cond b (set ((inode_sector i, b1) ∷ (entry_sector (set image (inode_sector i) b1) entry.directory (place_for d.slots), b2) ∷ []) 1 (inode_sector entry.directory, b3))
        ((inode_sector i, b1) ∷ (entry_sector (set image (inode_sector i) b1) entry.directory (place_for d.slots), b2) ∷ (inode_sector entry.directory, b3) ∷ []))
        (ne_eqb (entry_sector (set image (inode_sector i) b1) entry.directory (place_for d.slots)) (inode_sector entry.directory) place_past.1)

    makes : MakesInPlace image asked now entry.directory name d i m n b1 b2 b3
    makes = record { making = x.making; new = x.new; raised = x.raised; inside = inside'; inode = first'; entry = slot'; times = times' }

    pub built-in_place : IsPlannedMaking image asked now i [] plan3
    built-in_place = subst (IsPlannedMaking image asked now i []) (sym all3) (record {
      plan = create-plan image asked now entry.directory name d i m strong x.making n x.new x.raised b1 first' inside' b2 b3 slot' times';
      sets = λ blocks inodes sets. in_place-sets image asked now entry.directory name d i m n b1 b2 b3 strong makes x.bare blocks inodes sets;
    })
