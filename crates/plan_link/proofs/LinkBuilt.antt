-- The strokes of a LINK into an empty slot, one after the other, are its plan.
use Rattle.std.proofs.Common.{◌≡◌, ◌≢◌, ℕ, ◌+◌, ◌/◌, ◌<◌, ◌≤◌, true, cond, List, [], ◌∷◌, ◌++◌, length, set, sym, ap, subst, ◌∙◌, arith, Some}
use Rattle.std.proofs.lemmas.Bool.{ne_eqb}
use Rattle.v7_layout.specs.declared.inode.Inode.{Inode}
use Rattle.files_model.specs.declared.call.Call.TheVariants as call
use Rattle.files_model.specs.declared.credential.Cred.{Cred}
use Rattle.files_model.specs.Files.{Node}
use Rattle.files_model.specs.Names.{place_for}
use Rattle.stable.specs.Puts.{put_all, with_put}
use Rattle.stable.specs.Store.{Image}
use Rattle.v7_map.specs.Image.{sector_at, is_inode, inode_at, inode_sector}
use Rattle.v7_map.specs.Frame.{Body, frame}
use Rattle.v7_map.specs.View.{view}
use Rattle.v7_map.specs.Weak.{IsStrong}
use Rattle.v7_map.specs.Plan.{PutsInode}
use Rattle.v7_map.proofs.AnyFrame.{frame-IsFrame}
use Rattle.v7_strokes.specs.Entries.{entry_sector}
use Rattle.v7_strokes.specs.Inodes.{linked_inode, timed_inode}
use Rattle.v7_strokes.specs.Over.{slot_from}
use Rattle.v7_strokes.specs.Slots.{PutsSlot}
use Rattle.v7_strokes.proofs.Directories.{StandsDir}
use Rattle.name_plans.proofs.LinkAccepted.{IsLinking, link-linking}
use Rattle.name_plans.proofs.LinkFirst.{link-dir, link-used, link-links, link-addresses}
use Rattle.name_plans.proofs.LinkInPlace.{link-plan, link-sets}
use Rattle.name_plans.specs.Linking.{LinksInPlace}
use Rattle.plan_name.proofs.Past.{still, is_number}
use Rattle.plan_link.specs.Links.{Links, IsPlannedLink}
use Rattle.plan_link.specs.declared.link_puts.NewLink.{NewLink}

module _ (image : Image) (link : NewLink) (name : List ℕ) (cred : Cred) (now : ℕ) (n d : Node) (strong : IsStrong (frame image)) (x : Links image link name cred now n d) where
  p : ℕ
  p = link.spot.directory.ino

  i : ℕ
  i = link.file.ino

  pub linking-of : IsLinking (view image) (call.Link link.file link.spot.directory name, cred) now link.spot.directory.ino name d link.file.ino n
  linking-of = link-linking image link.file link.spot.directory name cred now n d strong x.accepted

  pub linked-directory : StandsDir image link.spot.directory.ino d
  linked-directory = link-dir image (call.Link link.file link.spot.directory name, cred) now link.spot.directory.ino name d link.file.ino n strong linking-of

  used : ((frame image).head link.file.ino).is_used ≡ true
  used = link-used image (call.Link link.file link.spot.directory name, cred) now link.spot.directory.ino name d link.file.ino n strong linking-of

  pub linked-number : is_inode image link.file.ino ≡ true
  linked-number = let r = (frame-IsFrame image).numbers link.file.ino used in is_number image link.file.ino r.0 r.1

  pub linked-parent : (is_inode image link.spot.directory.ino ≡ true) × (inode_sector link.spot.directory.ino < (frame image).isize)
  linked-parent = let r = (frame-IsFrame image).numbers link.spot.directory.ino ((frame-IsFrame image).directories link.spot.directory.ino linked-directory.dir) in
      let low = r.0 in let high = r.1 in (is_number image link.spot.directory.ino r.0 r.1, omega arith)

  -- its count can go up
  pub linked-count : (inode_at image link.file.ino).nlink + 1 < 65536
  unfolding frame
  linked-count =
      let e : (inode_at image link.file.ino).nlink ≡ n.nlink = strong.counted link.file.ino used ∙ link-links image (call.Link link.file link.spot.directory name, cred) now link.spot.directory.ino name d link.file.ino n strong linking-of in
      let b = linking-of.bound in omega arith

  module _ (inside : link.spot.index < length d.slots) (stands : link.spot.sector ≡ entry_sector image link.spot.directory.ino link.spot.index) (b1 b2 b3 : List ℕ) (im1 im2 : Image) (e1 : im1 ≡ image) (e2 : im2 ≡ im1)
      (plan1 plan2 plan3 : List (ℕ × List ℕ)) (l1 : plan1 ≡ (inode_sector link.file.ino, b1) ∷ [])
      (first : is_inode image link.file.ino ≡ true → (inode_at image link.file.ino).nlink + 1 < 65536 → PutsInode image link.file.ino b1 (linked_inode (inode_at image link.file.ino) now))
      (l2 : plan2 ≡ plan1 ++ (link.spot.sector, b2) ∷ []) (slot : PutsSlot (sector_at (put_all plan1 im1) link.spot.sector) link.spot.index b2 (slot_from link.slot))
      (l3 : plan3 ≡ with_put plan2 (inode_sector link.spot.directory.ino, b3))
      (times : is_inode (put_all plan2 im2) link.spot.directory.ino ≡ true → PutsInode (put_all plan2 im2) link.spot.directory.ino b3 (timed_inode (inode_at (put_all plan2 im2) link.spot.directory.ino) now)) where
    k : ℕ
    k = place_for d.slots

    after1 : Image
    after1 = set image (inode_sector link.file.ino) b1

    inside' : place_for d.slots < length d.slots
    inside' = subst (λ j. j < length d.slots) x.place inside

    stands' : link.spot.sector ≡ entry_sector image link.spot.directory.ino (place_for d.slots)
    stands' = stands ∙ ap (entry_sector image link.spot.directory.ino) x.place

    first' : PutsInode image link.file.ino b1 (linked_inode (inode_at image link.file.ino) now)
    first' = first linked-number linked-count

    -- the slot's sector is where it was
    same_place : entry_sector after1 link.spot.directory.ino (place_for d.slots) ≡ link.spot.sector
    unfolding after1
    same_place = link-addresses image (call.Link link.file link.spot.directory name, cred) now link.spot.directory.ino name d link.file.ino n strong linking-of b1 first' link.spot.directory.ino (Body (place_for d.slots / 32)) ∙ sym stands'

    same1 : put_all plan1 im1 ≡ after1
    unfolding after1
    same1 = (λ z. put_all (l1 z) (e1 z))

    slot' : PutsSlot (sector_at after1 (entry_sector after1 link.spot.directory.ino (place_for d.slots))) (place_for d.slots) b2 (Some (link.file.ino, name))
    slot' = subst (λ a. PutsSlot (sector_at after1 a) (place_for d.slots) b2 (Some (link.file.ino, name))) (sym same_place)
        (subst (λ y. PutsSlot (sector_at y link.spot.sector) (place_for d.slots) b2 (Some (link.file.ino, name))) same1
        (subst (λ j. PutsSlot (sector_at (put_all plan1 im1) link.spot.sector) j b2 (Some (link.file.ino, name))) x.place
        (subst (PutsSlot (sector_at (put_all plan1 im1) link.spot.sector) link.spot.index b2) x.slot slot)))

    all2 : plan2 ≡ (inode_sector link.file.ino, b1) ∷ (entry_sector after1 link.spot.directory.ino (place_for d.slots), b2) ∷ []
    all2 = l2 ∙ ap (λ q. q ++ (link.spot.sector, b2) ∷ []) l1 ∙ ap (λ a. (inode_sector link.file.ino, b1) ∷ (a, b2) ∷ []) (sym same_place)

    after2 : Image
    after2 = set after1 (entry_sector after1 link.spot.directory.ino (place_for d.slots)) b2

    same2 : put_all plan2 im2 ≡ after2
    unfolding after2 after1
    same2 = (λ z. put_all (all2 z) ((e2 ∙ e1) z))

    -- it is past the list of inodes
    place_past : (2 ≤ entry_sector after1 link.spot.directory.ino (place_for d.slots)) × (entry_sector after1 link.spot.directory.ino (place_for d.slots) ≢ inode_sector link.spot.directory.ino)
    place_past =
        let size = linked-directory.size in let long = linked-directory.long in let inside'' = inside' in
        let r = strong.weak.data_block link.spot.directory.ino (Body (place_for d.slots / 32)) (strong.weak.needed link.spot.directory.ino (place_for d.slots / 32) linked-directory.dir (omega arith)) in
        let low : (frame image).isize ≤ entry_sector image link.spot.directory.ino (place_for d.slots) = r.0 in let least = strong.weak.sizes.low in let parent = linked-parent.1 in
        subst (λ a. (2 ≤ a) × (a ≢ inode_sector link.spot.directory.ino)) (sym (same_place ∙ stands')) (omega arith, λ e. omega arith)

    times' : PutsInode after2 link.spot.directory.ino b3 (timed_inode (inode_at after2 link.spot.directory.ino) now)
    unfolding after2 after1
    times' = subst (λ y. is_inode y link.spot.directory.ino ≡ true → PutsInode y link.spot.directory.ino b3 (timed_inode (inode_at y link.spot.directory.ino) now)) same2 times
        (still image ((inode_sector link.file.ino, b1) ∷ (entry_sector after1 link.spot.directory.ino (place_for d.slots), b2) ∷ []) link.spot.directory.ino (omega arith, (place_past.0, tt)) linked-parent.0)

    all3 : plan3 ≡ (inode_sector link.file.ino, b1) ∷ (entry_sector after1 link.spot.directory.ino (place_for d.slots), b2) ∷ (inode_sector link.spot.directory.ino, b3) ∷ []
    all3 = l3 ∙ ap (λ q. with_put q (inode_sector link.spot.directory.ino, b3)) all2
        ∙ ap (λ b. cond b (set ((inode_sector link.file.ino, b1) ∷ (entry_sector after1 link.spot.directory.ino (place_for d.slots), b2) ∷ []) 1 (inode_sector link.spot.directory.ino, b3))
        ((inode_sector link.file.ino, b1) ∷ (entry_sector after1 link.spot.directory.ino (place_for d.slots), b2) ∷ (inode_sector link.spot.directory.ino, b3) ∷ []))
        (ne_eqb (entry_sector after1 link.spot.directory.ino (place_for d.slots)) (inode_sector link.spot.directory.ino) place_past.1)

    links : LinksInPlace image now link.spot.directory.ino name d link.file.ino b1 b2 b3
    unfolding after2 after1
    links = record { inside = inside'; node = first'; entry = slot'; times = times' }

    pub built-in_place : IsPlannedLink image (call.Link link.file link.spot.directory name, cred) now [] plan3
    unfolding after2 after1
    built-in_place = subst (IsPlannedLink image (call.Link link.file link.spot.directory name, cred) now []) (sym all3) (record {
      plan = link-plan image (call.Link link.file link.spot.directory name, cred) now link.spot.directory.ino name d link.file.ino n b1 b2 b3 strong linking-of links;
      sets = link-sets image (call.Link link.file link.spot.directory name, cred) now link.spot.directory.ino name d link.file.ino n b1 b2 b3 strong linking-of links;
    })
