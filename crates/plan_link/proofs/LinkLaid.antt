-- The strokes of a LINK at the end of its directory, one after the other, are its plan.
use Rattle.std.proofs.Common.{◌≡◌, ◌≢◌, ℕ, ◌+◌, ◌/◌, ◌^◌, ◌<◌, ◌≤◌, ◌==◌, true, cond, List, [], ◌∷◌, ◌++◌, length, get_or, set, sym, ap, subst, ◌∙◌, arith, ⊎_elim, Option, Some, None}
use Rattle.std.proofs.lemmas.Bool.{cases_eq, ne_eqb}
use Rattle.std.specs.List.{AllByRecursion}
use Rattle.v7_layout.specs.declared.inode.Inode.{Inode}
use Rattle.files_model.specs.declared.call.Call.TheVariants as call
use Rattle.files_model.specs.declared.credential.Cred.{Cred}
use Rattle.files_model.specs.Answers.{zeros}
use Rattle.files_model.specs.Files.{Node}
use Rattle.stable.specs.Puts.{put_all, with_put}
use Rattle.stable.specs.Store.{Image}
use Rattle.v7_map.specs.Image.{sector_at, is_inode, inode_at, inode_sector, isize_of}
use Rattle.v7_map.specs.Frame.{Head, Place, Body, Single, frame}
use Rattle.v7_map.specs.View.{view}
use Rattle.v7_map.specs.Weak.{IsStrong}
use Rattle.v7_map.specs.Plan.{PutsInode}
use Rattle.v7_map.proofs.Data.{same_inode}
use Rattle.v7_map.proofs.Puts.{put_all-below}
use Rattle.v7_plans.specs.Setting.{put_inode}
use Rattle.v7_sets.specs.Sets.{IsFreeBlock}
use Rattle.v7_strokes.specs.Inodes.{linked_inode, longer_inode}
use Rattle.v7_strokes.specs.Over.{slot_from}
use Rattle.v7_strokes.specs.Slots.{PutsSlot}
use Rattle.v7_strokes.specs.Targets.{IsTarget}
use Rattle.name_plans.specs.CreatingPuts.{longer_image, longer_puts}
use Rattle.name_plans.specs.Lengthening.{MapPuts, same, changed, PutsLonger}
use Rattle.name_plans.specs.Taken.{AreNewBlocks}
use Rattle.name_plans.proofs.LinkAccepted.{IsLinking}
use Rattle.name_plans.proofs.LinkFirst.{link-apart, link-heads, link-sizes, link-addresses}
use Rattle.longer_plans.specs.LongerLinks.{LinksLonger}
use Rattle.longer_plans.proofs.LinkLonger.{link-room, link-longer, link-taken}
use Rattle.plan_name.specs.Creating.{LaysOut, map_puts}
use Rattle.plan_name.specs.declared.creating_puts.Listing.{Listing}
use Rattle.plan_name.specs.declared.creating_puts.Longer.{Longer}
use Rattle.plan_name.proofs.Past.{still}
use Rattle.plan_link.specs.Links.{Links, IsPlannedLink, entry_of}
use Rattle.plan_link.specs.declared.link_puts.NewLink.{NewLink}
use Rattle.plan_link.proofs.LinkBuilt.{linking-of, linked-directory, linked-number, linked-parent, linked-count}

-- a last put of another sector comes after the others
with-map : (z : ℕ) (b : List ℕ) (p q : ℕ × List ℕ) (o : Option Listing) → AllByRecursion (λ (r : ℕ × List ℕ). r.0 ≢ z) (q ∷ map_puts o) → with_put (p ∷ q ∷ map_puts o) (z, b) ≡ p ∷ ((q ∷ map_puts o) ++ (z, b) ∷ [])
with-map z b p q None h = ap (λ t. cond t (set (p ∷ q ∷ []) 1 (z, b)) (p ∷ q ∷ (z, b) ∷ [])) (ne_eqb q.0 z h.0)
with-map z b p q (Some l) h = ap (λ t. cond t (set (p ∷ q ∷ (l.block, l.bytes) ∷ []) 2 (z, b)) (p ∷ q ∷ (l.block, l.bytes) ∷ (z, b) ∷ [])) (ne_eqb l.block z h.1.0)

all-weaker : (P Q : ℕ × List ℕ → Type 0) → ((r : ℕ × List ℕ) → P r → Q r) → (puts : List (ℕ × List ℕ)) → AllByRecursion P puts → AllByRecursion Q puts
all-weaker P Q f [] h = h
all-weaker P Q f (r ∷ puts) h = (f r h.0, all-weaker P Q f puts h.1)

module _ (image : Image) (link : NewLink) (name : List ℕ) (cred : Cred) (now : ℕ) (n d : Node) (strong : IsStrong (frame image)) (x : Links image link name cred now n d)
    (end : link.spot.index ≡ length d.slots) (longer : Longer) (target : Place → ℕ) (new : List ℕ) (lay : LaysOut image (entry_of link) longer target new)
    (b1 b2 b3 : List ℕ) (im1 im2 : Image) (e1 : im1 ≡ image) (e2 : im2 ≡ im1) (plan1 plan2 plan3 plan4 : List (ℕ × List ℕ)) (l1 : plan1 ≡ (inode_sector link.file.ino, b1) ∷ [])
    (first : is_inode image link.file.ino ≡ true → (inode_at image link.file.ino).nlink + 1 < 65536 → PutsInode image link.file.ino b1 (linked_inode (inode_at image link.file.ino) now))
    (l2 : plan2 ≡ plan1 ++ (link.spot.sector, b2) ∷ []) (slot : PutsSlot (cond longer.fresh zeros (get_or (put_all plan1 im1) link.spot.sector [])) link.spot.index b2 (slot_from link.slot))
    (l3 : plan3 ≡ plan2 ++ map_puts longer.map) (l4 : plan4 ≡ with_put plan3 (inode_sector link.spot.directory.ino, b3))
    (last : is_inode (put_all plan3 im2) link.spot.directory.ino ≡ true → (inode_at (put_all plan3 im2) link.spot.directory.ino).size + 16 < 2 ^ 32
    → PutsInode (put_all plan3 im2) link.spot.directory.ino b3 (longer_inode (inode_at (put_all plan3 im2) link.spot.directory.ino) longer.blocks.direct longer.blocks.single now)) where
  p : ℕ
  p = link.spot.directory.ino

  linking : IsLinking (view image) (call.Link link.file link.spot.directory name, cred) now link.spot.directory.ino name d link.file.ino n
  linking = linking-of image link name cred now n d strong x

  first' : PutsInode image link.file.ino b1 (linked_inode (inode_at image link.file.ino) now)
  first' = first (linked-number image link name cred now n d strong x) (linked-count image link name cred now n d strong x)

  apart : link.spot.directory.ino ≢ link.file.ino
  apart e = link-apart image (call.Link link.file link.spot.directory name, cred) now link.spot.directory.ino name d link.file.ino n strong linking (sym e)

  -- ---- the layout, where it stands after the node's inode

  address : (j : ℕ) (r : Place) → (frame (put_inode image link.file.ino b1)).address j r ≡ (frame image).address j r
  address = link-addresses image (call.Link link.file link.spot.directory name, cred) now link.spot.directory.ino name d link.file.ino n strong linking b1 first'

  sizes : ((frame (put_inode image link.file.ino b1)).isize ≡ (frame image).isize) × ((frame (put_inode image link.file.ino b1)).fsize ≡ (frame image).fsize)
  sizes = link-sizes image (call.Link link.file link.spot.directory name, cred) now link.spot.directory.ino name d link.file.ino n strong linking b1 first'

  free_there : (b : ℕ) → IsFreeBlock (frame image) b → IsFreeBlock (frame (put_inode image link.file.ino b1)) b
  free_there b f = record {
    low = subst (λ z. z ≤ b) (sym sizes.0) f.low;
    high = subst (λ z. b < z) (sym sizes.1) f.high;
    nowhere = λ j r e. f.nowhere j r (sym (address j r) ∙ e);
  }

  lays_image : IsTarget (frame image) link.spot.directory.ino (length d.slots / 32) target
  lays_image = subst (λ k. IsTarget (frame image) link.spot.directory.ino (k / 32) target) end lay.lays

  lays : IsTarget (frame (put_inode image link.file.ino b1)) link.spot.directory.ino (length d.slots / 32) target
  lays = record {
    kept = λ r nz. lays_image.kept r (λ z. nz (address link.spot.directory.ino r ∙ z)) ∙ sym (address link.spot.directory.ino r);
    fresh = λ r z nz. free_there (target r) (lays_image.fresh r (sym (address link.spot.directory.ino r) ∙ z) nz);
    apart = lays_image.apart;
    held = lays_image.held;
    added = λ l z nz. lays_image.added l (sym (address link.spot.directory.ino (Body l)) ∙ z) nz;
    map_needed = lays_image.map_needed;
    double = lays_image.double;
  }

  sector_is : link.spot.sector ≡ target (Body (length d.slots / 32))
  sector_is = lay.sector ∙ ap (λ k. target (Body (k / 32))) end

  map_image : MapPuts (frame image) link.spot.directory.ino (length d.slots / 32) target (map_puts longer.map)
  map_image = subst (λ k. MapPuts (frame image) link.spot.directory.ino (k / 32) target (map_puts longer.map)) end lay.map

  map_there : MapPuts (frame image) link.spot.directory.ino (length d.slots / 32) target (map_puts longer.map)
      → MapPuts (frame (put_inode image link.file.ino b1)) link.spot.directory.ino (length d.slots / 32) target (map_puts longer.map)
  map_there (same reached through is) = same (λ z. reached (sym (address link.spot.directory.ino (Body (length d.slots / 32))) ∙ z)) (through ∙ sym (address link.spot.directory.ino Single)) is
  map_there (changed bytes ten new_sector some long each is) = changed bytes ten (address link.spot.directory.ino (Body (length d.slots / 32)) ∙ new_sector) some long each is

  same1 : put_all plan1 im1 ≡ put_inode image link.file.ino b1
  same1 = (λ z. put_all (l1 z) (e1 z))

  fresh_is : longer.fresh ≡ ((frame (put_inode image link.file.ino b1)).address link.spot.directory.ino (Body (length d.slots / 32)) == 0)
  fresh_is = lay.is_fresh ∙ ap (λ k. (frame image).address link.spot.directory.ino (Body (k / 32)) == 0) end ∙ ap (λ a. a == 0) (sym (address link.spot.directory.ino (Body (length d.slots / 32))))

  slot_there : PutsSlot (cond ((frame (put_inode image link.file.ino b1)).address link.spot.directory.ino (Body (length d.slots / 32)) == 0) zeros (sector_at (put_inode image link.file.ino b1) (target (Body (length d.slots / 32)))))
      (length d.slots) b2 (Some (link.file.ino, name))
  slot_there =
      subst (λ a. PutsSlot (cond ((frame (put_inode image link.file.ino b1)).address link.spot.directory.ino (Body (length d.slots / 32)) == 0) zeros (sector_at (put_inode image link.file.ino b1) a)) (length d.slots) b2 (Some (link.file.ino, name))) sector_is
      (subst (λ y. PutsSlot (cond ((frame (put_inode image link.file.ino b1)).address link.spot.directory.ino (Body (length d.slots / 32)) == 0) zeros (sector_at y link.spot.sector)) (length d.slots) b2 (Some (link.file.ino, name))) same1
      (subst (λ t. PutsSlot (cond t zeros (sector_at (put_all plan1 im1) link.spot.sector)) (length d.slots) b2 (Some (link.file.ino, name))) fresh_is
      (subst (λ k. PutsSlot (cond longer.fresh zeros (sector_at (put_all plan1 im1) link.spot.sector)) k b2 (Some (link.file.ino, name))) end
      (subst (PutsSlot (cond longer.fresh zeros (sector_at (put_all plan1 im1) link.spot.sector)) link.spot.index b2) x.slot slot))))

  puts_longer : PutsLonger (put_inode image link.file.ino b1) link.spot.directory.ino (length d.slots) (Some (link.file.ino, name)) target b2 (map_puts longer.map) longer.blocks.direct longer.blocks.single
  puts_longer = record { lays = lays; slot = slot_there; map = map_there map_image; own = lay.own; through = lay.through }

  -- ---- the directory's inode

  target_low : (r : Place) → target r ≢ 0 → (frame image).isize ≤ target r
  target_low r nz = ⊎_elim
      (λ (z : (frame image).address link.spot.directory.ino r ≡ 0). (lays_image.fresh r z nz).low)
      (λ (h : (frame image).address link.spot.directory.ino r ≢ 0). subst (λ a. (frame image).isize ≤ a) (sym (lays_image.kept r h)) (strong.weak.data_block link.spot.directory.ino r h).0)
      (cases_eq ((frame image).address link.spot.directory.ino r) 0)

  rest_past : AllByRecursion (λ (r : ℕ × List ℕ). (frame image).isize ≤ r.0) ((target (Body (length d.slots / 32)), b2) ∷ map_puts longer.map)
  rest_past = (target_low (Body (length d.slots / 32)) lays_image.held, by_map map_image)
    where
      by_map : MapPuts (frame image) link.spot.directory.ino (length d.slots / 32) target (map_puts longer.map) → AllByRecursion (λ (r : ℕ × List ℕ). (frame image).isize ≤ r.0) (map_puts longer.map)
      by_map (same reached through is) = subst (AllByRecursion (λ (r : ℕ × List ℕ). (frame image).isize ≤ r.0)) (sym is) tt
      by_map (changed bytes ten new_sector some long each is) = subst (AllByRecursion (λ (r : ℕ × List ℕ). (frame image).isize ≤ r.0)) (sym is) (target_low Single some, tt)

  mid : Image
  mid = longer_image image d link.file.ino target b1 b2 (map_puts longer.map)

  all3 : plan3 ≡ (inode_sector link.file.ino, b1) ∷ (target (Body (length d.slots / 32)), b2) ∷ map_puts longer.map
  all3 = l3 ∙ ap (λ z. z ++ map_puts longer.map) (l2 ∙ ap (λ z. z ++ (link.spot.sector, b2) ∷ []) l1) ∙ ap (λ a. (inode_sector link.file.ino, b1) ∷ (a, b2) ∷ map_puts longer.map) sector_is

  same3 : put_all plan3 im2 ≡ mid
  unfolding mid
  same3 = (λ z. put_all (all3 z) ((e2 ∙ e1) z))

  below : (s : ℕ) → s < isize_of (put_inode image link.file.ino b1) → sector_at mid s ≡ sector_at (put_inode image link.file.ino b1) s
  unfolding mid frame
  below s lt = put_all-below ((target (Body (length d.slots / 32)), b2) ∷ map_puts longer.map) (put_inode image link.file.ino b1) (frame image).isize s rest_past (subst (λ z. s < z) sizes.0 lt)

  size_first : (inode_at (put_inode image link.file.ino b1) link.spot.directory.ino).size ≡ d.size
  unfolding frame
  size_first = ap (λ (h : Head). h.size) (link-heads image (call.Link link.file link.spot.directory name, cred) now link.spot.directory.ino name d link.file.ino n strong linking b1 first' link.spot.directory.ino apart)
      ∙ (linked-directory image link name cred now n d strong x).size

  size_is : (inode_at mid link.spot.directory.ino).size ≡ d.size
  unfolding frame
  size_is = ap (λ (v : Inode). v.size) (same_inode (put_inode image link.file.ino b1) mid (below 1 (let least = strong.weak.sizes.low in let e = sizes.0 in omega arith)) (λ s _ lt. below s lt) link.spot.directory.ino) ∙ size_first

  past_two : AllByRecursion (λ (r : ℕ × List ℕ). 2 ≤ r.0) ((inode_sector link.file.ino, b1) ∷ (target (Body (length d.slots / 32)), b2) ∷ map_puts longer.map)
  past_two = (omega arith, all-weaker (λ (r : ℕ × List ℕ). (frame image).isize ≤ r.0) (λ (r : ℕ × List ℕ). 2 ≤ r.0) (λ r h. let least = strong.weak.sizes.low in omega arith) ((target (Body (length d.slots / 32)), b2) ∷ map_puts longer.map) rest_past)

  number_mid : is_inode mid link.spot.directory.ino ≡ true
  unfolding mid
  number_mid = still image ((inode_sector link.file.ino, b1) ∷ (target (Body (length d.slots / 32)), b2) ∷ map_puts longer.map) link.spot.directory.ino past_two (linked-parent image link name cred now n d strong x).0

  room : d.size + 16 ≤ 70656
  room = link-room (view image) link.file link.spot.directory name cred now n d x.accepted (let e = x.place in omega arith)

  size_mid : (inode_at mid link.spot.directory.ino).size + 16 < 2 ^ 32
  size_mid = let s = size_is in let r = room in omega arith

  directory : PutsInode mid link.spot.directory.ino b3 (longer_inode (inode_at mid link.spot.directory.ino) longer.blocks.direct longer.blocks.single now)
  directory = subst (λ y. is_inode y link.spot.directory.ino ≡ true → (inode_at y link.spot.directory.ino).size + 16 < 2 ^ 32
      → PutsInode y link.spot.directory.ino b3 (longer_inode (inode_at y link.spot.directory.ino) longer.blocks.direct longer.blocks.single now)) same3 last number_mid size_mid

  links : LinksLonger image now link.spot.directory.ino name d link.file.ino target b1 b2 (map_puts longer.map) longer.blocks.direct longer.blocks.single b3
  unfolding mid
  links = record { full = let e = x.place in omega arith; node = first'; longer = puts_longer; directory = directory }

  all4 : plan4 ≡ longer_puts link.spot.directory.ino d link.file.ino target b1 b2 (map_puts longer.map) b3
  all4 = l4 ∙ ap (λ z. with_put z (inode_sector link.spot.directory.ino, b3)) all3
      ∙ with-map (inode_sector link.spot.directory.ino) b3 (inode_sector link.file.ino, b1) (target (Body (length d.slots / 32)), b2) longer.map
      (all-weaker (λ (r : ℕ × List ℕ). (frame image).isize ≤ r.0) (λ (r : ℕ × List ℕ). r.0 ≢ inode_sector link.spot.directory.ino)
      (λ r h e. let lt = (linked-parent image link name cred now n d strong x).1 in omega arith) ((target (Body (length d.slots / 32)), b2) ∷ map_puts longer.map) rest_past)

  pub built-at_end : IsPlannedLink image (call.Link link.file link.spot.directory name, cred) now new plan4
  built-at_end = subst (IsPlannedLink image (call.Link link.file link.spot.directory name, cred) now new) (sym all4) (record {
    plan = link-longer image (call.Link link.file link.spot.directory name, cred) now link.spot.directory.ino name d link.file.ino n target b1 b2 (map_puts longer.map) longer.blocks.direct longer.blocks.single b3 strong linking room links;
    sets = λ blocks inodes sets. link-taken image (call.Link link.file link.spot.directory name, cred) now link.spot.directory.ino name d link.file.ino n target b1 b2 (map_puts longer.map) longer.blocks.direct longer.blocks.single b3 strong linking room links new lay.fresh blocks inodes sets;
  })
