-- The strokes of a creation at the end of its directory, one after the other, are its plan.
use Rattle.std.proofs.Common.{◌≡◌, ◌≢◌, ℕ, ◌+◌, ◌/◌, ◌^◌, ◌<◌, ◌≤◌, ◌==◌, true, false, cond, List, [], ◌∷◌, ◌++◌, length, get_or, set, sym, ap, subst, ◌∙◌, arith, ⊎_elim, Option, Some, None}
use Rattle.std.proofs.lemmas.Bool.{cases_eq, ne_eqb}
use Rattle.std.specs.List.{AllByRecursion}
use Rattle.v7_layout.specs.declared.inode.Inode.{Inode}
use Rattle.files_model.specs.Answers.{zeros}
use Rattle.files_model.specs.Files.{Node}
use Rattle.files_model.specs.Space.{size_limit}
use Rattle.files_model.specs.Torn.{Asked}
use Rattle.stable.specs.Puts.{put_all, with_put}
use Rattle.stable.specs.Store.{Image}
use Rattle.v7_map.specs.Image.{sector_at, is_inode, inode_at, inode_sector, isize_of}
use Rattle.v7_map.specs.Frame.{Place, Body, Single, frame}
use Rattle.v7_map.specs.Tree.{tree, is_named}
use Rattle.v7_map.specs.Weak.{IsStrong}
use Rattle.v7_map.specs.Plan.{PutsInode}
use Rattle.v7_map.proofs.Data.{same_inode}
use Rattle.v7_map.proofs.Puts.{put_all-below}
use Rattle.v7_plans.specs.Setting.{put_inode}
use Rattle.v7_sets.specs.Sets.{IsFreeBlock}
use Rattle.v7_strokes.specs.Inodes.{longer_inode}
use Rattle.v7_strokes.specs.Over.{slot_from}
use Rattle.v7_strokes.specs.Slots.{PutsSlot}
use Rattle.v7_strokes.specs.Targets.{IsTarget}
use Rattle.v7_strokes.proofs.Absent.{absent-unnamed}
use Rattle.v7_strokes.proofs.Unnamed.{unnamed-address, unnamed-addresses, unnamed-inodes, unnamed-sizes}
use Rattle.name_plans.specs.CreatingPuts.{MakesLonger, longer_image, longer_puts}
use Rattle.name_plans.specs.Lengthening.{MapPuts, same, changed, PutsLonger}
use Rattle.name_plans.specs.Taken.{AreNewBlocks}
use Rattle.name_plans.proofs.CreatingInPlace.{making-within}
use Rattle.name_plans.proofs.CreatingLonger.{longer-plan}
use Rattle.name_plans.proofs.CreatingSets.{longer-sets}
use Rattle.plan_name.specs.Creating.{Makes, LaysOut, IsPlannedMaking, map_puts}
use Rattle.plan_name.specs.declared.creating_puts.Entry.{Entry}
use Rattle.plan_name.specs.declared.creating_puts.Listing.{Listing}
use Rattle.plan_name.specs.declared.creating_puts.Longer.{Longer}
use Rattle.plan_name.proofs.CreatingBuilt.{made-directory, made-number, made-parent, made-apart}
use Rattle.plan_name.proofs.Past.{still}

-- a last put of another sector comes after the others
with-map : (z : ℕ) (b : List ℕ) (p q : ℕ × List ℕ) (o : Option Listing) → AllByRecursion (λ (r : ℕ × List ℕ). r.0 ≢ z) (q ∷ map_puts o) → with_put (p ∷ q ∷ map_puts o) (z, b) ≡ p ∷ ((q ∷ map_puts o) ++ (z, b) ∷ [])
with-map z b p q None h = ap (λ t. cond t (set (p ∷ q ∷ []) 1 (z, b)) (p ∷ q ∷ (z, b) ∷ [])) (ne_eqb q.0 z h.0)
with-map z b p q (Some l) h = ap (λ t. cond t (set (p ∷ q ∷ (l.block, l.bytes) ∷ []) 2 (z, b)) (p ∷ q ∷ (l.block, l.bytes) ∷ (z, b) ∷ [])) (ne_eqb l.block z h.1.0)

all-weaker : (P Q : ℕ × List ℕ → Type 0) → ((r : ℕ × List ℕ) → P r → Q r) → (puts : List (ℕ × List ℕ)) → AllByRecursion P puts → AllByRecursion Q puts
all-weaker P Q f [] h = h
all-weaker P Q f (r ∷ puts) h = (f r h.0, all-weaker P Q f puts h.1)

module _ (image : Image) (asked : Asked) (now i : ℕ) (n : Inode) (entry : Entry) (name : List ℕ) (d m : Node) (strong : IsStrong (frame image)) (x : Makes image asked now i n entry name d m)
    (end : entry.index ≡ length d.slots) (room : d.size + 16 ≤ size_limit) (longer : Longer) (target : Place → ℕ) (new : List ℕ) (lay : LaysOut image entry longer target new)
    (b1 b2 b3 : List ℕ) (im1 im2 : Image) (e1 : im1 ≡ image) (e2 : im2 ≡ im1) (plan1 plan2 plan3 plan4 : List (ℕ × List ℕ))
    (l1 : plan1 ≡ (inode_sector i, b1) ∷ []) (first : is_inode image i ≡ true → PutsInode image i b1 n)
    (l2 : plan2 ≡ plan1 ++ (entry.sector, b2) ∷ []) (slot : PutsSlot (cond longer.fresh zeros (get_or (put_all plan1 im1) entry.sector [])) entry.index b2 (slot_from entry.slot))
    (l3 : plan3 ≡ plan2 ++ map_puts longer.map) (l4 : plan4 ≡ with_put plan3 (inode_sector entry.directory, b3))
    (last : is_inode (put_all plan3 im2) entry.directory ≡ true → (inode_at (put_all plan3 im2) entry.directory).size + 16 < 2 ^ 32
    → PutsInode (put_all plan3 im2) entry.directory b3 (longer_inode (inode_at (put_all plan3 im2) entry.directory) longer.blocks.direct longer.blocks.single now)) where
  first' : PutsInode image i b1 n
  first' = first (made-number image asked now i n entry name d m strong x)

  unnamed : is_named (tree (frame image)) i ≡ false
  unnamed = absent-unnamed image i strong x.making.absent (making-within image asked now entry.directory name d i m strong x.making)

  apart : entry.directory ≢ i
  apart = made-apart image asked now i n entry name d m strong x

  -- ---- the layout, where it stands after the new inode

  address_p : (r : Place) → (frame (put_inode image i b1)).address entry.directory r ≡ (frame image).address entry.directory r
  address_p r = unnamed-addresses image i b1 n strong.weak first' x.new.placed x.making.low unnamed entry.directory apart r

  sizes : ((frame (put_inode image i b1)).isize ≡ (frame image).isize) × ((frame (put_inode image i b1)).fsize ≡ (frame image).fsize)
  sizes = unnamed-sizes image i b1 n strong.weak first' x.new.placed x.making.low unnamed

  free_there : (b : ℕ) → IsFreeBlock (frame image) b → IsFreeBlock (frame (put_inode image i b1)) b
  free_there b f = let least = strong.weak.sizes.low in let low = f.low in record {
    low = subst (λ z. z ≤ b) (sym sizes.0) f.low;
    high = subst (λ z. b < z) (sym sizes.1) f.high;
    nowhere = λ j r e. ⊎_elim
        (λ (h : j ≡ i). let none : (frame (put_inode image i b1)).address j r ≡ 0 = subst (λ z. (frame (put_inode image i b1)).address z r ≡ 0) (sym h)
        (unnamed-address image i b1 n strong.weak first' x.new.placed x.making.low unnamed r ∙ x.bare r) in absurd (let z : b ≡ 0 = sym e ∙ none in omega arith))
        (λ (ne : j ≢ i). f.nowhere j r (sym (unnamed-addresses image i b1 n strong.weak first' x.new.placed x.making.low unnamed j ne r) ∙ e))
        (cases_eq j i);
  }

  lays_image : IsTarget (frame image) entry.directory (length d.slots / 32) target
  lays_image = subst (λ k. IsTarget (frame image) entry.directory (k / 32) target) end lay.lays

  lays : IsTarget (frame (put_inode image i b1)) entry.directory (length d.slots / 32) target
  lays = record {
    kept = λ r nz. lays_image.kept r (λ z. nz (address_p r ∙ z)) ∙ sym (address_p r);
    fresh = λ r z nz. free_there (target r) (lays_image.fresh r (sym (address_p r) ∙ z) nz);
    apart = lays_image.apart;
    held = lays_image.held;
    added = λ l z nz. lays_image.added l (sym (address_p (Body l)) ∙ z) nz;
    map_needed = lays_image.map_needed;
    double = lays_image.double;
  }

  sector_is : entry.sector ≡ target (Body (length d.slots / 32))
  sector_is = lay.sector ∙ ap (λ k. target (Body (k / 32))) end

  map_image : MapPuts (frame image) entry.directory (length d.slots / 32) target (map_puts longer.map)
  map_image = subst (λ k. MapPuts (frame image) entry.directory (k / 32) target (map_puts longer.map)) end lay.map

  map_there : MapPuts (frame image) entry.directory (length d.slots / 32) target (map_puts longer.map) → MapPuts (frame (put_inode image i b1)) entry.directory (length d.slots / 32) target (map_puts longer.map)
  map_there (same reached through is) = same (λ z. reached (sym (address_p (Body (length d.slots / 32))) ∙ z)) (through ∙ sym (address_p Single)) is
  map_there (changed bytes ten new_sector some long each is) = changed bytes ten (address_p (Body (length d.slots / 32)) ∙ new_sector) some long each is

  same1 : put_all plan1 im1 ≡ put_inode image i b1
  same1 = (λ z. put_all (l1 z) (e1 z))

  fresh_is : longer.fresh ≡ ((frame (put_inode image i b1)).address entry.directory (Body (length d.slots / 32)) == 0)
  fresh_is = lay.is_fresh ∙ ap (λ k. (frame image).address entry.directory (Body (k / 32)) == 0) end ∙ ap (λ a. a == 0) (sym (address_p (Body (length d.slots / 32))))

  slot_there : PutsSlot (cond ((frame (put_inode image i b1)).address entry.directory (Body (length d.slots / 32)) == 0) zeros (sector_at (put_inode image i b1) (target (Body (length d.slots / 32))))) (length d.slots) b2 (Some (i, name))
  slot_there = subst (λ a. PutsSlot (cond ((frame (put_inode image i b1)).address entry.directory (Body (length d.slots / 32)) == 0) zeros (sector_at (put_inode image i b1) a)) (length d.slots) b2 (Some (i, name))) sector_is
      (subst (λ y. PutsSlot (cond ((frame (put_inode image i b1)).address entry.directory (Body (length d.slots / 32)) == 0) zeros (sector_at y entry.sector)) (length d.slots) b2 (Some (i, name))) same1
      (subst (λ t. PutsSlot (cond t zeros (sector_at (put_all plan1 im1) entry.sector)) (length d.slots) b2 (Some (i, name))) fresh_is
      (subst (λ k. PutsSlot (cond longer.fresh zeros (sector_at (put_all plan1 im1) entry.sector)) k b2 (Some (i, name))) end
      (subst (PutsSlot (cond longer.fresh zeros (sector_at (put_all plan1 im1) entry.sector)) entry.index b2) x.slot slot))))

  puts_longer : PutsLonger (put_inode image i b1) entry.directory (length d.slots) (Some (i, name)) target b2 (map_puts longer.map) longer.blocks.direct longer.blocks.single
  puts_longer = record { lays = lays; slot = slot_there; map = map_there map_image; own = lay.own; through = lay.through }

  new_there : AreNewBlocks (frame (put_inode image i b1)) entry.directory target new
  new_there = record { each = λ r z nz. lay.fresh.each r (sym (address_p r) ∙ z) nz; only = lay.fresh.only }

  -- ---- the directory's inode

  target_low : (r : Place) → target r ≢ 0 → (frame image).isize ≤ target r
  target_low r nz = ⊎_elim
      (λ (z : (frame image).address entry.directory r ≡ 0). (lays_image.fresh r z nz).low)
      (λ (h : (frame image).address entry.directory r ≢ 0). subst (λ a. (frame image).isize ≤ a) (sym (lays_image.kept r h)) (strong.weak.data_block entry.directory r h).0)
      (cases_eq ((frame image).address entry.directory r) 0)

  rest_past : AllByRecursion (λ (r : ℕ × List ℕ). (frame image).isize ≤ r.0) ((target (Body (length d.slots / 32)), b2) ∷ map_puts longer.map)
  rest_past = (target_low (Body (length d.slots / 32)) lays_image.held, by_map map_image)
    where
      by_map : MapPuts (frame image) entry.directory (length d.slots / 32) target (map_puts longer.map) → AllByRecursion (λ (r : ℕ × List ℕ). (frame image).isize ≤ r.0) (map_puts longer.map)
      by_map (same reached through is) = subst (AllByRecursion (λ (r : ℕ × List ℕ). (frame image).isize ≤ r.0)) (sym is) tt
      by_map (changed bytes ten new_sector some long each is) = subst (AllByRecursion (λ (r : ℕ × List ℕ). (frame image).isize ≤ r.0)) (sym is) (target_low Single some, tt)

  mid : Image
  mid = longer_image image d i target b1 b2 (map_puts longer.map)

  all3 : plan3 ≡ (inode_sector i, b1) ∷ (target (Body (length d.slots / 32)), b2) ∷ map_puts longer.map
  all3 = l3 ∙ ap (λ z. z ++ map_puts longer.map) (l2 ∙ ap (λ z. z ++ (entry.sector, b2) ∷ []) l1) ∙ ap (λ a. (inode_sector i, b1) ∷ (a, b2) ∷ map_puts longer.map) sector_is

  same3 : put_all plan3 im2 ≡ mid
  unfolding mid
  same3 = (λ z. put_all (all3 z) ((e2 ∙ e1) z))

  below : (s : ℕ) → s < isize_of (put_inode image i b1) → sector_at mid s ≡ sector_at (put_inode image i b1) s
  unfolding mid frame
  below s lt = put_all-below ((target (Body (length d.slots / 32)), b2) ∷ map_puts longer.map) (put_inode image i b1) (frame image).isize s rest_past (subst (λ z. s < z) sizes.0 lt)

  inode_mid : inode_at mid entry.directory ≡ inode_at image entry.directory
  unfolding frame
  inode_mid = same_inode (put_inode image i b1) mid (below 1 (let least = strong.weak.sizes.low in let e = sizes.0 in omega arith)) (λ s _ lt. below s lt) entry.directory
      ∙ unnamed-inodes image i b1 n strong.weak first' x.new.placed x.making.low unnamed entry.directory apart

  past_two : AllByRecursion (λ (r : ℕ × List ℕ). 2 ≤ r.0) ((inode_sector i, b1) ∷ (target (Body (length d.slots / 32)), b2) ∷ map_puts longer.map)
  past_two = (omega arith, all-weaker (λ (r : ℕ × List ℕ). (frame image).isize ≤ r.0) (λ (r : ℕ × List ℕ). 2 ≤ r.0) (λ r h. let least = strong.weak.sizes.low in omega arith) ((target (Body (length d.slots / 32)), b2) ∷ map_puts longer.map) rest_past)

  number_mid : is_inode mid entry.directory ≡ true
  unfolding mid
  number_mid = still image ((inode_sector i, b1) ∷ (target (Body (length d.slots / 32)), b2) ∷ map_puts longer.map) entry.directory past_two (made-parent image asked now i n entry name d m strong x).0

  size_mid : (inode_at mid entry.directory).size + 16 < 2 ^ 32
  unfolding frame
  size_mid = let s = (made-directory image asked now i n entry name d m strong x).size in let e : (inode_at mid entry.directory).size ≡ d.size = ap (λ (v : Inode). v.size) inode_mid ∙ s in omega arith

  directory : PutsInode mid entry.directory b3 (longer_inode (inode_at mid entry.directory) longer.blocks.direct longer.blocks.single now)
  directory = subst (λ y. is_inode y entry.directory ≡ true → (inode_at y entry.directory).size + 16 < 2 ^ 32
      → PutsInode y entry.directory b3 (longer_inode (inode_at y entry.directory) longer.blocks.direct longer.blocks.single now)) same3 last number_mid size_mid

  makes : MakesLonger image asked now entry.directory name d i m n target b1 b2 (map_puts longer.map) longer.blocks.direct longer.blocks.single b3
  unfolding mid
  makes = record {
    making = x.making;
    new = x.new;
    raised = x.raised;
    full = let e = x.place in omega arith;
    room = room;
    inode = first';
    longer = puts_longer;
    directory = directory;
  }

  all4 : plan4 ≡ longer_puts entry.directory d i target b1 b2 (map_puts longer.map) b3
  all4 = l4 ∙ ap (λ z. with_put z (inode_sector entry.directory, b3)) all3
      ∙ with-map (inode_sector entry.directory) b3 (inode_sector i, b1) (target (Body (length d.slots / 32)), b2) longer.map
      (all-weaker (λ (r : ℕ × List ℕ). (frame image).isize ≤ r.0) (λ (r : ℕ × List ℕ). r.0 ≢ inode_sector entry.directory)
      (λ r h e. let lt = (made-parent image asked now i n entry name d m strong x).1 in omega arith) ((target (Body (length d.slots / 32)), b2) ∷ map_puts longer.map) rest_past)

  pub built-at_end : IsPlannedMaking image asked now i new plan4
  built-at_end = subst (IsPlannedMaking image asked now i new) (sym all4) (record {
    plan = longer-plan image asked now entry.directory name d i m n target b1 b2 (map_puts longer.map) longer.blocks.direct longer.blocks.single b3 strong makes;
    sets = λ blocks inodes sets. longer-sets image asked now entry.directory name d i m n target b1 b2 (map_puts longer.map) longer.blocks.direct longer.blocks.single b3 strong makes x.bare new new_there blocks inodes sets;
  })
