-- The puts of a new link, added one after the other, are its plan.
use Rattle.std.proofs.Common.{◌≡◌, ◌≢◌, ℕ, ◌+◌, ◌/◌, ◌^◌, ◌<◌, ◌≤◌, ◌==◌, Bool, true, false, cond, List, [], ◌∷◌, ◌++◌, length, get_or, set, sym, ap, subst, ◌∙◌, arith, ⊎_elim, Option, Some, None}
use Rattle.std.proofs.lemmas.Bool.{cases_eq}
use Rattle.std.proofs.lemmas.List.{append_assoc}
use Rattle.std.specs.List.{AllByRecursion}
use Rattle.files_model.specs.declared.attributes.FileId.{FileId}
use Rattle.files_model.specs.declared.attributes.Sattr.{Sattr}
use Rattle.files_model.specs.declared.call.Call.TheVariants.{Symlink}
use Rattle.files_model.specs.declared.credential.Cred.{Cred}
use Rattle.files_model.specs.Answers.{zeros}
use Rattle.files_model.specs.Files.{Node}
use Rattle.files_model.specs.NameRows.{new_link}
use Rattle.files_model.specs.Names.{place_for}
use Rattle.files_model.specs.Space.{size_limit}
use Rattle.files_model.specs.Torn.{Asked}
use Rattle.stable.specs.Puts.{put_all, with_put}
use Rattle.stable.specs.Store.{Image}
use Rattle.v7_layout.specs.declared.inode.Inode.{Inode}
use Rattle.v7_map.specs.Image.{sector_at, is_inode, inode_at, inode_sector, isize_of}
use Rattle.v7_map.specs.Frame.{Place, Body, Single, frame}
use Rattle.v7_map.specs.Tree.{tree}
use Rattle.v7_map.specs.View.{view}
use Rattle.v7_map.specs.Weak.{IsStrong}
use Rattle.v7_map.specs.Plan.{PutsInode}
use Rattle.v7_map.proofs.AnyFrame.{frame-IsFrame}
use Rattle.v7_map.proofs.Data.{same_inode}
use Rattle.v7_map.proofs.Prefixes.{put_all-append}
use Rattle.v7_map.proofs.Puts.{put_all-below, all_append}
use Rattle.v7_plans.specs.Quiet.{AllQuiet}
use Rattle.v7_plans.specs.Setting.{put_inode}
use Rattle.v7_plans.proofs.Quieting.{quiet-past}
use Rattle.v7_sets.specs.Sets.{AreSetsOf, IsFreeBlock}
use Rattle.v7_strokes.specs.Entries.{entry_sector, put_entry}
use Rattle.v7_strokes.specs.Inodes.{longer_inode, timed_inode}
use Rattle.v7_strokes.specs.Over.{slot_from}
use Rattle.v7_strokes.specs.Slots.{PutsSlot}
use Rattle.v7_strokes.specs.Targets.{IsTarget}
use Rattle.v7_strokes.proofs.Directories.{StandsDir}
use Rattle.name_plans.specs.CreatingPuts.{in_place_puts, longer_image, longer_puts}
use Rattle.name_plans.specs.Lengthening.{MapPuts, same, changed, PutsLonger}
use Rattle.name_plans.specs.Making.{IsMaking}
use Rattle.name_plans.specs.Taken.{taken, AreNewBlocks}
use Rattle.name_plans.proofs.CreatingInPlace.{making-dir, making-within}
use Rattle.longer_plans.specs.SymlinkPuts.{PutsText, TakesSlot, AddsSlot, text_puts}
use Rattle.longer_plans.proofs.FreePuts.{free-all_quiet, text-free, text-away}
use Rattle.longer_plans.proofs.HeldNode.{all-at}
use Rattle.longer_plans.proofs.SymlinkAccepted.{symlink-making}
use Rattle.longer_plans.proofs.SymlinkPlans.{symlink-plan, symlink-growing}
use Rattle.longer_plans.proofs.SymlinkSets.{symlink-sets, symlink-longer_sets}
use Rattle.longer_plans.proofs.SymlinkFirst.{first-apart, first-address, first-sizes, first-inode, first-free}
use Rattle.plan_name.specs.Creating.{LaysOut, IsPlannedMaking, map_puts}
use Rattle.plan_name.specs.declared.creating_puts.Entry.{Entry}
use Rattle.plan_name.specs.declared.creating_puts.Listing.{Listing}
use Rattle.plan_name.specs.declared.creating_puts.Longer.{Longer}
use Rattle.plan_name.proofs.Past.{still, is_number}
use Rattle.plan_symlink.specs.Making.{MakesLink, AreOthers}
use Rattle.plan_symlink.proofs.Appends.{with-after, with-other}
use Rattle.plan_symlink.proofs.Blocks.{taken-both}

all-weaker : (P Q : ℕ × List ℕ → Type 0) → ((r : ℕ × List ℕ) → P r → Q r) → (puts : List (ℕ × List ℕ)) → AllByRecursion P puts → AllByRecursion Q puts
all-weaker P Q f [] h = h
all-weaker P Q f (r ∷ puts) h = (f r h.0, all-weaker P Q f puts h.1)

module _ (image : Image) (dir : FileId) (name text : List ℕ) (wanted : Sattr) (cred : Cred) (now : ℕ) (d : Node) (i : ℕ) (held : List ℕ) (n : Inode) (entry : Entry) (strong : IsStrong (frame image))
    (x : MakesLink image dir name text wanted cred now d i held n entry) (b1 : List ℕ) (plan0 plan1 : List (ℕ × List ℕ)) (im1 : Image) (e1 : im1 ≡ image) (l0 : plan0 ≡ text_puts text 0 held) (l1 : plan1 ≡ with_put plan0 (inode_sector i, b1))
    (first : is_inode (put_all plan0 image) i ≡ true → PutsInode (put_all plan0 image) i b1 n) where
  abbrev zeroth : Image
  zeroth = put_all (text_puts text 0 held) image

  making : IsMaking (view image) (Symlink dir name text wanted, cred) now dir.ino name d i (new_link wanted cred text now)
  making = symlink-making image dir name text wanted cred now d i strong x.may.symlink

  within : i < (tree (frame image)).inodes + 1
  within = making-within image (Symlink dir name text wanted, cred) now dir.ino name d i (new_link wanted cred text now) strong making

  directory : StandsDir image dir.ino d
  directory = making-dir image (Symlink dir name text wanted, cred) now dir.ino name d i (new_link wanted cred text now) strong making

  number : (is_inode image i ≡ true) × (inode_sector i < (frame image).isize)
  number = let low = making.low in let w = within in (is_number image i (omega arith) (omega arith), omega arith)

  parent : (is_inode image dir.ino ≡ true) × (inode_sector dir.ino < (frame image).isize)
  parent = let r = (frame-IsFrame image).numbers dir.ino ((frame-IsFrame image).directories dir.ino directory.dir) in
      let low = r.0 in let high = r.1 in (is_number image dir.ino r.0 r.1, omega arith)

  quiet : AllQuiet (text_puts text 0 held) image
  quiet = free-all_quiet (text_puts text 0 held) image strong.weak (text-free (frame image) text 0 held x.may.blocks_are.free)

  text_past : AllByRecursion (λ (put : ℕ × List ℕ). 2 ≤ put.0) (text_puts text 0 held)
  text_past = quiet-past (text_puts text 0 held) image quiet

  first' : PutsInode zeroth i b1 n
  first' = subst (λ l. is_inode (put_all l image) i ≡ true → PutsInode (put_all l image) i b1 n) l0 first (still image (text_puts text 0 held) i text_past number.0)

  puts_text : PutsText image i (new_link wanted cred text now) text held b1
  puts_text = record { blocks_are = x.may.blocks_are; inode = subst (PutsInode zeroth i b1) x.inode_is first' }

  all1 : plan1 ≡ text_puts text 0 held ++ (inode_sector i, b1) ∷ []
  all1 = l1 ∙ ap (λ l. with_put l (inode_sector i, b1)) l0 ∙ with-other (text_puts text 0 held) (inode_sector i, b1) (text-away (inode_sector i) text 0 held (λ l lt e.
      let f = all-at (λ a. IsFreeBlock (frame image) a) held x.may.blocks_are.free l lt in let low = f.low in let high = number.1 in omega arith))

  same1 : put_all plan1 im1 ≡ put_inode zeroth i b1
  same1 = (λ z. put_all (all1 z) (e1 z)) ∙ put_all-append (text_puts text 0 held) ((inode_sector i, b1) ∷ []) image

  first_past : AllByRecursion (λ (put : ℕ × List ℕ). 2 ≤ put.0) (text_puts text 0 held ++ (inode_sector i, b1) ∷ [])
  first_past = all_append (λ (put : ℕ × List ℕ). 2 ≤ put.0) (text_puts text 0 held) ((inode_sector i, b1) ∷ []) text_past (omega arith, tt)

  address_p : (r : Place) → (frame (put_inode zeroth i b1)).address dir.ino r ≡ (frame image).address dir.ino r
  address_p r = first-address image dir name text wanted cred now d i held b1 strong x.may.symlink puts_text dir.ino (first-apart image dir name text wanted cred now d i held b1 strong x.may.symlink puts_text) r

  -- ---- in an empty slot

  module _ (inside : entry.index < length d.slots) (stands : entry.sector ≡ entry_sector image entry.directory entry.index) (b2 b3 : List ℕ) (im2 : Image) (e2 : im2 ≡ im1) (plan2 plan3 : List (ℕ × List ℕ))
      (l2 : plan2 ≡ plan1 ++ (entry.sector, b2) ∷ []) (slot : PutsSlot (sector_at (put_all plan1 im1) entry.sector) entry.index b2 (slot_from entry.slot))
      (l3 : plan3 ≡ with_put plan2 (inode_sector entry.directory, b3))
      (times : is_inode (put_all plan2 im2) entry.directory ≡ true → PutsInode (put_all plan2 im2) entry.directory b3 (timed_inode (inode_at (put_all plan2 im2) entry.directory) now)) where
    inside' : place_for d.slots < length d.slots
    inside' = subst (λ j. j < length d.slots) x.place inside

    same_place : entry_sector (put_inode zeroth i b1) dir.ino (place_for d.slots) ≡ entry.sector
    same_place = address_p (Body (place_for d.slots / 32)) ∙ sym (stands ∙ (λ z. entry_sector image (x.directory z) (x.place z)))

    slot' : PutsSlot (sector_at (put_inode zeroth i b1) (entry_sector (put_inode zeroth i b1) dir.ino (place_for d.slots))) (place_for d.slots) b2 (Some (i, name))
    slot' = subst (λ a. PutsSlot (sector_at (put_inode zeroth i b1) a) (place_for d.slots) b2 (Some (i, name))) (sym same_place)
        (subst (λ y. PutsSlot (sector_at y entry.sector) (place_for d.slots) b2 (Some (i, name))) same1
        (subst (λ j. PutsSlot (sector_at (put_all plan1 im1) entry.sector) j b2 (Some (i, name))) x.place
        (subst (PutsSlot (sector_at (put_all plan1 im1) entry.sector) entry.index b2) x.slot slot)))

    abbrev entry_put : ℕ × List ℕ
    entry_put = (entry_sector (put_inode zeroth i b1) dir.ino (place_for d.slots), b2)

    all2 : plan2 ≡ (text_puts text 0 held ++ (inode_sector i, b1) ∷ []) ++ entry_put ∷ []
    all2 = l2 ∙ (λ z. all1 z ++ (sym same_place z, b2) ∷ [])

    same2 : put_all plan2 im2 ≡ put_entry (put_inode zeroth i b1) dir.ino (place_for d.slots) b2
    same2 = (λ z. put_all (all2 z) ((e2 ∙ e1) z)) ∙ put_all-append (text_puts text 0 held ++ (inode_sector i, b1) ∷ []) (entry_put ∷ []) image
        ∙ ap (λ y. put_all (entry_put ∷ []) y) (put_all-append (text_puts text 0 held) ((inode_sector i, b1) ∷ []) image)

    -- it is past the list of inodes
    place_past : (2 ≤ entry_sector (put_inode zeroth i b1) dir.ino (place_for d.slots)) × (entry_sector (put_inode zeroth i b1) dir.ino (place_for d.slots) ≢ inode_sector dir.ino)
    place_past =
        let size = directory.size in let long = directory.long in let inside'' = inside' in
        let r = strong.weak.data_block dir.ino (Body (place_for d.slots / 32)) (strong.weak.needed dir.ino (place_for d.slots / 32) directory.dir (omega arith)) in
        let low : (frame image).isize ≤ entry_sector image dir.ino (place_for d.slots) = r.0 in let least = strong.weak.sizes.low in let high = parent.1 in
        subst (λ a. (2 ≤ a) × (a ≢ inode_sector dir.ino)) (sym (address_p (Body (place_for d.slots / 32)))) (omega arith, λ e. omega arith)

    times' : PutsInode (put_entry (put_inode zeroth i b1) dir.ino (place_for d.slots) b2) dir.ino b3 (timed_inode (inode_at (put_entry (put_inode zeroth i b1) dir.ino (place_for d.slots) b2) dir.ino) now)
    times' = subst (λ y. is_inode y dir.ino ≡ true → PutsInode y dir.ino b3 (timed_inode (inode_at y dir.ino) now)) same2
        (subst (λ p. is_inode (put_all plan2 im2) p ≡ true → PutsInode (put_all plan2 im2) p b3 (timed_inode (inode_at (put_all plan2 im2) p) now)) x.directory times)
        (subst (λ y. is_inode y dir.ino ≡ true) ((λ z. put_all (sym all2 z) (sym (e2 ∙ e1) z)) ∙ same2)
        (still image ((text_puts text 0 held ++ (inode_sector i, b1) ∷ []) ++ entry_put ∷ []) dir.ino
        (all_append (λ (put : ℕ × List ℕ). 2 ≤ put.0) (text_puts text 0 held ++ (inode_sector i, b1) ∷ []) (entry_put ∷ []) first_past (place_past.0, tt)) parent.0))

    all3 : plan3 ≡ text_puts text 0 held ++ in_place_puts zeroth dir.ino d i b1 b2 b3
    all3 = l3 ∙ (λ z. with_put (all2 z) (inode_sector (x.directory z), b3)) ∙ with-after (text_puts text 0 held ++ (inode_sector i, b1) ∷ []) entry_put (inode_sector dir.ino, b3) place_past.1
        ∙ append_assoc (text_puts text 0 held ++ (inode_sector i, b1) ∷ []) (entry_put ∷ []) ((inode_sector dir.ino, b3) ∷ [])
        ∙ append_assoc (text_puts text 0 held) ((inode_sector i, b1) ∷ []) (entry_put ∷ (inode_sector dir.ino, b3) ∷ [])

    takes : TakesSlot zeroth now dir.ino name d i b1 b2 b3
    takes = record { inside = inside'; entry = slot'; times = times' }

    pub built-in_place : IsPlannedMaking image (Symlink dir name text wanted, cred) now i held plan3
    built-in_place = subst (IsPlannedMaking image (Symlink dir name text wanted, cred) now i held) (sym all3) (record {
      plan = symlink-plan image dir name text wanted cred now d i held b1 strong x.may.symlink puts_text b2 b3 takes;
      sets = λ blocks inodes sets. symlink-sets image dir name text wanted cred now d i held b1 strong x.may.symlink puts_text blocks inodes sets b2 b3 takes;
    })

  -- ---- at the directory's end

  module _ (end : entry.index ≡ length d.slots) (longer : Longer) (target : Place → ℕ) (new : List ℕ) (lay : LaysOut image entry longer target new) (others : AreOthers new held)
      (b2 b3 : List ℕ) (im2 : Image) (e2 : im2 ≡ im1) (plan2 plan3 plan4 : List (ℕ × List ℕ))
      (l2 : plan2 ≡ plan1 ++ (entry.sector, b2) ∷ []) (slot : PutsSlot (cond longer.fresh zeros (get_or (put_all plan1 im1) entry.sector [])) entry.index b2 (slot_from entry.slot))
      (l3 : plan3 ≡ plan2 ++ map_puts longer.map) (l4 : plan4 ≡ with_put plan3 (inode_sector entry.directory, b3))
      (last : is_inode (put_all plan3 im2) entry.directory ≡ true → (inode_at (put_all plan3 im2) entry.directory).size + 16 < 2 ^ 32
      → PutsInode (put_all plan3 im2) entry.directory b3 (longer_inode (inode_at (put_all plan3 im2) entry.directory) longer.blocks.direct longer.blocks.single now)) where
    abbrev q : ℕ
    q = length d.slots / 32

    sizes : ((frame (put_inode zeroth i b1)).isize ≡ (frame image).isize) × ((frame (put_inode zeroth i b1)).fsize ≡ (frame image).fsize)
    sizes = first-sizes image dir name text wanted cred now d i held b1 strong x.may.symlink puts_text

    lays_image : IsTarget (frame image) dir.ino q target
    lays_image = subst (λ p. IsTarget (frame image) p q target) x.directory (subst (λ k. IsTarget (frame image) entry.directory (k / 32) target) end lay.lays)

    fresh_image : AreNewBlocks (frame image) dir.ino target new
    fresh_image = subst (λ p. AreNewBlocks (frame image) p target new) x.directory lay.fresh

    lays : IsTarget (frame (put_inode zeroth i b1)) dir.ino q target
    lays = record {
      kept = λ r nz. lays_image.kept r (λ z. nz (address_p r ∙ z)) ∙ sym (address_p r);
      fresh = λ r z nz. first-free image dir name text wanted cred now d i held b1 strong x.may.symlink puts_text (target r) (lays_image.fresh r (sym (address_p r) ∙ z) nz)
          (others (target r) (fresh_image.each r (sym (address_p r) ∙ z) nz));
      apart = lays_image.apart;
      held = lays_image.held;
      added = λ l z nz. lays_image.added l (sym (address_p (Body l)) ∙ z) nz;
      map_needed = lays_image.map_needed;
      double = lays_image.double;
    }

    sector_is : entry.sector ≡ target (Body q)
    sector_is = lay.sector ∙ ap (λ k. target (Body (k / 32))) end

    map_image : MapPuts (frame image) dir.ino q target (map_puts longer.map)
    map_image = subst (λ p. MapPuts (frame image) p q target (map_puts longer.map)) x.directory (subst (λ k. MapPuts (frame image) entry.directory (k / 32) target (map_puts longer.map)) end lay.map)

    map_there : MapPuts (frame image) dir.ino q target (map_puts longer.map) → MapPuts (frame (put_inode zeroth i b1)) dir.ino q target (map_puts longer.map)
    map_there (same reached through is) = same (λ z. reached (sym (address_p (Body q)) ∙ z)) (through ∙ sym (address_p Single)) is
    map_there (changed bytes ten new_sector some long each is) = changed bytes ten (address_p (Body q) ∙ new_sector) some long each is

    fresh_is : longer.fresh ≡ ((frame (put_inode zeroth i b1)).address dir.ino (Body q) == 0)
    fresh_is = lay.is_fresh ∙ (λ z. (frame image).address (x.directory z) (Body (end z / 32)) == 0) ∙ ap (λ a. a == 0) (sym (address_p (Body q)))

    slot_there : PutsSlot (cond ((frame (put_inode zeroth i b1)).address dir.ino (Body q) == 0) zeros (sector_at (put_inode zeroth i b1) (target (Body q)))) (length d.slots) b2 (Some (i, name))
    slot_there = subst (λ a. PutsSlot (cond ((frame (put_inode zeroth i b1)).address dir.ino (Body q) == 0) zeros (sector_at (put_inode zeroth i b1) a)) (length d.slots) b2 (Some (i, name))) sector_is
        (subst (λ y. PutsSlot (cond ((frame (put_inode zeroth i b1)).address dir.ino (Body q) == 0) zeros (sector_at y entry.sector)) (length d.slots) b2 (Some (i, name))) same1
        (subst (λ t. PutsSlot (cond t zeros (sector_at (put_all plan1 im1) entry.sector)) (length d.slots) b2 (Some (i, name))) fresh_is
        (subst (λ k. PutsSlot (cond longer.fresh zeros (sector_at (put_all plan1 im1) entry.sector)) k b2 (Some (i, name))) end
        (subst (PutsSlot (cond longer.fresh zeros (sector_at (put_all plan1 im1) entry.sector)) entry.index b2) x.slot slot))))

    puts_longer : PutsLonger (put_inode zeroth i b1) dir.ino (length d.slots) (Some (i, name)) target b2 (map_puts longer.map) longer.blocks.direct longer.blocks.single
    puts_longer = record { lays = lays; slot = slot_there; map = map_there map_image; own = lay.own; through = lay.through }

    new_there : AreNewBlocks (frame (put_inode zeroth i b1)) dir.ino target new
    new_there = record { each = λ r z nz. fresh_image.each r (sym (address_p r) ∙ z) nz; only = fresh_image.only }

    -- ---- the directory's inode

    target_low : (r : Place) → target r ≢ 0 → (frame image).isize ≤ target r
    target_low r nz = ⊎_elim
        (λ (z : (frame image).address dir.ino r ≡ 0). (lays_image.fresh r z nz).low)
        (λ (h : (frame image).address dir.ino r ≢ 0). subst (λ a. (frame image).isize ≤ a) (sym (lays_image.kept r h)) (strong.weak.data_block dir.ino r h).0)
        (cases_eq ((frame image).address dir.ino r) 0)

    abbrev rest : List (ℕ × List ℕ)
    rest = (target (Body q), b2) ∷ map_puts longer.map

    rest_past : AllByRecursion (λ (r : ℕ × List ℕ). (frame image).isize ≤ r.0) rest
    rest_past = (target_low (Body q) lays_image.held, by_map map_image)
      where
        by_map : MapPuts (frame image) dir.ino q target (map_puts longer.map) → AllByRecursion (λ (r : ℕ × List ℕ). (frame image).isize ≤ r.0) (map_puts longer.map)
        by_map (same reached through is) = subst (AllByRecursion (λ (r : ℕ × List ℕ). (frame image).isize ≤ r.0)) (sym is) tt
        by_map (changed bytes ten new_sector some long each is) = subst (AllByRecursion (λ (r : ℕ × List ℕ). (frame image).isize ≤ r.0)) (sym is) (target_low Single some, tt)

    mid : Image
    mid = longer_image zeroth d i target b1 b2 (map_puts longer.map)

    put3 : plan3 ≡ (text_puts text 0 held ++ (inode_sector i, b1) ∷ []) ++ rest
    put3 = l3 ∙ ap (λ z. z ++ map_puts longer.map) (l2 ∙ (λ z. all1 z ++ (sector_is z, b2) ∷ []))
        ∙ append_assoc (text_puts text 0 held ++ (inode_sector i, b1) ∷ []) ((target (Body q), b2) ∷ []) (map_puts longer.map)

    same3 : put_all plan3 im2 ≡ mid
    unfolding mid
    same3 = (λ z. put_all (put3 z) ((e2 ∙ e1) z)) ∙ put_all-append (text_puts text 0 held ++ (inode_sector i, b1) ∷ []) rest image
        ∙ ap (put_all rest) (put_all-append (text_puts text 0 held) ((inode_sector i, b1) ∷ []) image)

    below : (s : ℕ) → s < isize_of (put_inode zeroth i b1) → sector_at mid s ≡ sector_at (put_inode zeroth i b1) s
    unfolding mid frame
    below s lt = put_all-below rest (put_inode zeroth i b1) (frame image).isize s rest_past (subst (λ z. s < z) sizes.0 lt)

    inode_mid : inode_at mid dir.ino ≡ inode_at image dir.ino
    unfolding frame
    inode_mid = same_inode (put_inode zeroth i b1) mid (below 1 (let least = strong.weak.sizes.low in let e = sizes.0 in omega arith)) (λ s _ lt. below s lt) dir.ino
        ∙ first-inode image dir name text wanted cred now d i held b1 strong x.may.symlink puts_text dir.ino (first-apart image dir name text wanted cred now d i held b1 strong x.may.symlink puts_text)

    all_past : AllByRecursion (λ (r : ℕ × List ℕ). 2 ≤ r.0) ((text_puts text 0 held ++ (inode_sector i, b1) ∷ []) ++ rest)
    all_past = all_append (λ (r : ℕ × List ℕ). 2 ≤ r.0) (text_puts text 0 held ++ (inode_sector i, b1) ∷ []) rest first_past
        (all-weaker (λ (r : ℕ × List ℕ). (frame image).isize ≤ r.0) (λ (r : ℕ × List ℕ). 2 ≤ r.0) (λ r h. let least = strong.weak.sizes.low in omega arith) rest rest_past)

    number_mid : is_inode mid dir.ino ≡ true
    number_mid = subst (λ y. is_inode y dir.ino ≡ true) ((λ z. put_all (sym put3 z) (sym (e2 ∙ e1) z)) ∙ same3) (still image ((text_puts text 0 held ++ (inode_sector i, b1) ∷ []) ++ rest) dir.ino all_past parent.0)

    module _ (room : d.size + 16 ≤ size_limit) (full : length d.slots ≤ place_for d.slots) where
      size_mid : (inode_at mid dir.ino).size + 16 < 2 ^ 32
      unfolding frame
      size_mid = let s = directory.size in let e : (inode_at mid dir.ino).size ≡ d.size = ap (λ (v : Inode). v.size) inode_mid ∙ s in omega arith

      directory_put : PutsInode mid dir.ino b3 (longer_inode (inode_at mid dir.ino) longer.blocks.direct longer.blocks.single now)
      directory_put = subst (λ y. is_inode y dir.ino ≡ true → (inode_at y dir.ino).size + 16 < 2 ^ 32 → PutsInode y dir.ino b3 (longer_inode (inode_at y dir.ino) longer.blocks.direct longer.blocks.single now)) same3
          (subst (λ p. is_inode (put_all plan3 im2) p ≡ true → (inode_at (put_all plan3 im2) p).size + 16 < 2 ^ 32 → PutsInode (put_all plan3 im2) p b3 (longer_inode (inode_at (put_all plan3 im2) p) longer.blocks.direct longer.blocks.single now)) x.directory last)
          number_mid size_mid

      adds : AddsSlot zeroth now dir.ino name d i target b1 b2 (map_puts longer.map) longer.blocks.direct longer.blocks.single b3
      unfolding mid
      adds = record { full = full; room = room; longer = puts_longer; directory = directory_put }

      -- the directory's inode comes after the others
      after-map : (before : List (ℕ × List ℕ)) (a z : ℕ × List ℕ) (o : Option Listing) → AllByRecursion (λ (r : ℕ × List ℕ). r.0 ≢ z.0) (a ∷ map_puts o) → with_put (before ++ a ∷ map_puts o) z ≡ before ++ ((a ∷ map_puts o) ++ z ∷ [])
      after-map before a z None h = with-after before a z h.0 ∙ append_assoc before (a ∷ []) (z ∷ [])
      after-map before a z (Some l) h =
          ap (λ w. with_put w z) (sym (append_assoc before (a ∷ []) ((l.block, l.bytes) ∷ [])))
          ∙ with-after (before ++ a ∷ []) (l.block, l.bytes) z h.1.0
          ∙ append_assoc (before ++ a ∷ []) ((l.block, l.bytes) ∷ []) (z ∷ [])
          ∙ append_assoc before (a ∷ []) ((l.block, l.bytes) ∷ z ∷ [])

      all4 : plan4 ≡ text_puts text 0 held ++ longer_puts dir.ino d i target b1 b2 (map_puts longer.map) b3
      all4 = l4 ∙ (λ z. with_put (put3 z) (inode_sector (x.directory z), b3))
          ∙ after-map (text_puts text 0 held ++ (inode_sector i, b1) ∷ []) (target (Body q), b2) (inode_sector dir.ino, b3) longer.map
          (all-weaker (λ (r : ℕ × List ℕ). (frame image).isize ≤ r.0) (λ (r : ℕ × List ℕ). r.0 ≢ inode_sector dir.ino) (λ r h e. let lt = parent.1 in omega arith) rest rest_past)
          ∙ append_assoc (text_puts text 0 held) ((inode_sector i, b1) ∷ []) (rest ++ (inode_sector dir.ino, b3) ∷ [])

      pub built-at_end : IsPlannedMaking image (Symlink dir name text wanted, cred) now i (held ++ new) plan4
      built-at_end = subst (IsPlannedMaking image (Symlink dir name text wanted, cred) now i (held ++ new)) (sym all4) (record {
        plan = symlink-growing image dir name text wanted cred now d i held b1 strong x.may.symlink puts_text target b2 (map_puts longer.map) longer.blocks.direct longer.blocks.single b3 adds;
        sets = λ blocks inodes sets. subst (λ free. AreSetsOf (put_all (text_puts text 0 held ++ longer_puts dir.ino d i target b1 b2 (map_puts longer.map) b3) image) free (set inodes i false)) (sym (taken-both held new blocks))
            (symlink-longer_sets image dir name text wanted cred now d i held b1 strong x.may.symlink puts_text blocks inodes sets target b2 (map_puts longer.map) longer.blocks.direct longer.blocks.single b3 adds new new_there);
      })
