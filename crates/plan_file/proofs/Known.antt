-- What was read of a file is what its image has.
use Rattle.std.proofs.Common.{◌≡◌, ◌≢◌, ℕ, ◌-◌, ◌*◌, ◌<◌, ◌≤◌, min, Bool, true, false, cond, not, ◌&&◌, ◌==◌, List, [], length, get_or, unwrap_or, refl, sym, ap, ◌∙◌, arith, ⊎_elim, ltb, leb, Option, Some, None, is_some}
use Rattle.std.proofs.lemmas.Bool.{cases_eq, cases_lt, lt-ltb, le-leb, leb-true, eqb-true}
use Rattle.std.proofs.lemmas.List.{drop-replicate}
use Rattle.std.specs.FinMap.{get}
use Rattle.v7_layout.specs.declared.inode.Inode.{Inode}
use Rattle.files_model.specs.declared.attributes.FileId.{FileId}
use Rattle.files_model.specs.declared.attributes.Kind.TheVariants.{Regular}
use Rattle.files_model.specs.Files.{Node, sectors_of, clipped, live, IsBody}
use Rattle.files_model.specs.Space.{free}
use Rattle.files_model.specs.Step.{sector_of, zeros}
use Rattle.files_model.proofs.Clips.{clipped_fixed}
use Rattle.stable.specs.Store.{Image}
use Rattle.v7_map.specs.Image.{IsImage, sector_at, inode_at, is_inode, isize_of, inodes_before}
use Rattle.v7_map.specs.Frame.{Place, Body, Single, head_of, address_of, frame}
use Rattle.v7_sets.specs.Sets.{AreSetsOf}
use Rattle.v7_map.specs.Stored.{stored_attr}
use Rattle.v7_map.specs.View.{view, files_of, node_at}
use Rattle.v7_map.specs.Weak.{IsStrong}
use Rattle.v7_map.proofs.AnyFrame.{frame-IsFrame}
use Rattle.v7_map.proofs.Bodies.{view-IsBody, view-sector}
use Rattle.v7_map.proofs.Frames.{and_left, and_right}
use Rattle.v7_map.proofs.Ranges.{address-inside}
use Rattle.v7_space.proofs.Space.{free_blocks-counted, held-block, map_there, is_block}
use Rattle.v7_map.proofs.Standing.{live-standing, attr_of-stored, node-is}
use Rattle.v7_map.proofs.Walks.{and_both}
use Rattle.plan_file.specs.declared.draft.Draft.{Draft}
use Rattle.v7_read.specs.declared.found.Found.{Found}
use Rattle.plan_file.specs.declared.places.Places.{Places}
use Rattle.plan_file.specs.Contents.{old_content}
use Rattle.plan_file.specs.Draft.{IsDraftOf}
use Rattle.v7_read.specs.Found.{IsFile}
use Rattle.plan_file.specs.Free.{count_from}
use Rattle.plan_file.specs.Places.{place_within, map_place, ArePlaces}
use Rattle.plan_file.specs.Started.{IsFirst}
use Rattle.plan_file.proofs.Batch.{held_regular}
use Rattle.plan_file.proofs.Usage.{IsWritable}

cond_both : (t : Bool) (x : ℕ) → cond t x x ≡ x
cond_both true x = refl
cond_both false x = refl

module _ (image : Image) (strong : IsStrong (frame image)) (whole : IsImage image) (file : FileId) (found : Found) (is : IsFile image file found) where
  abbrev pub i : ℕ
  i = file.ino

  abbrev pub old : Node
  old = node_at image file.ino

  pub inode_is : is_inode image file.ino ≡ true
  inode_is = and_left _ _ is.stands

  pub used : not ((inode_at image file.ino).mode == 0) ≡ true
  used = and_left _ _ (and_right _ _ is.stands)

  pub live_is : live (view image) file ≡ Some old
  live_is = live-standing image strong file ∙ ap (λ b. cond b (Some old) None) is.stands

  pub at_node : get (view image).nodes file.ino ≡ Some old
  at_node = node-is image strong file.ino inode_is ∙ ap (λ b. cond b (Some old) None) used

  pub body : IsBody old.size old.sectors
  body = view-IsBody image file.ino old whole strong.weak at_node

  pub writable : IsWritable (view image) file old
  unfolding frame view files_of
  writable = record {
    is = live_is;
    body = body;
    size = (strong.weak.good file.ino used).length;
    low = leb-true 1 file.ino (and_left _ _ inode_is);
    high = leb-true file.ino (inodes_before (isize_of image)) (and_right (leb 1 file.ino) _ inode_is);
  }

  pub read_only-is : found.read_only ≡ (view image).read_only
  unfolding view files_of
  read_only-is = is.read_only

  past_none : (k : ℕ) → sectors_of old.size ≤ k → is_some (get old.sectors k) ≡ false
  past_none k ge = elim (get old.sectors k) as (λ o. get old.sectors k ≡ o → is_some o ≡ false) [ None ↦ λ e. refl | Some b ↦ λ e. let lt : k < sectors_of old.size = body.below k b e in absurd (omega arith) ] refl

  past_address : (k : ℕ) → sectors_of old.size ≤ k → (frame image).address file.ino (Body k) ≡ 0
  unfolding frame
  past_address k ge = strong.none_past file.ino k ge

  -- a sector is held where it has a block
  pub block_held : old.kind ≡ Regular → (k : ℕ) → not ((frame image).address file.ino (Body k) == 0) ≡ is_some (get old.sectors k)
  unfolding frame is_block
  block_held regular k = ⊎_elim
      (λ (lt : k < sectors_of old.size). sym (held-block image strong 138 139 refl refl file.ino k used lt) ∙ held_regular old k regular)
      (λ (ge : sectors_of old.size ≤ k). ap (λ a. not (a == 0)) (past_address k ge) ∙ sym (past_none k ge))
      (cases_lt k (sectors_of old.size))

  pub old_none : old.kind ≡ Regular → (k : ℕ) → (frame image).address file.ino (Body k) ≡ 0 → is_some (get old.sectors k) ≡ false
  old_none regular k z = sym (block_held regular k) ∙ ap (λ a. not (a == 0)) z

  -- its content
  pub old_is : old.kind ≡ Regular → (k : ℕ) → old_content image old.size k ((frame image).address file.ino (Body k)) ≡ sector_of old.sectors k
  old_is regular k = ⊎_elim
      (λ (lt : k < sectors_of old.size). by_address ((frame image).address file.ino (Body k) == 0) ∙ sym (ap (λ o. unwrap_or o zeros) (view-sector image file.ino k old at_node regular lt)))
      (λ (ge : sectors_of old.size ≤ k). ap (old_content image old.size k) (past_address k ge) ∙ clipped_fixed old.size k zeros (drop-replicate (old.size - 512 * k) 512 0) ∙ sym (ap (λ o. unwrap_or o zeros) (none (get old.sectors k) (past_none k ge))))
      (cases_lt k (sectors_of old.size))
    where
      none : (o : Option (List ℕ)) → is_some o ≡ false → o ≡ None
      none None e = refl
      none (Some b) e = absurd (cc)

      by_address : (t : Bool) → clipped old.size k (cond t zeros (get_or image ((frame image).address file.ino (Body k)) [])) ≡ unwrap_or (cond t None (Some (clipped old.size k (sector_at image ((frame image).address file.ino (Body k)))))) zeros
      by_address true = clipped_fixed old.size k zeros (drop-replicate (old.size - 512 * k) 512 0)
      by_address false = refl

  module _ (places : Places) (sectors : ℕ) (s_is : sectors ≡ min (length image) 1048576) (at : ArePlaces image sectors found.inode places) where
    within-same : (p : Place) → place_within sectors ((frame image).address file.ino p) ≡ (frame image).address file.ino p
    within-same p = ⊎_elim
        (λ (z : (frame image).address file.ino p ≡ 0). ap (place_within sectors) z ∙ cond_both (leb 2 0 && ltb 0 sectors) 0 ∙ sym z)
        (λ (nz : (frame image).address file.ino p ≢ 0).
        let w = address-inside image strong.weak file.ino p nz in
        let low : 3 ≤ (frame image).address file.ino p = w.0 in
        let high : (frame image).address file.ino p < length image = w.2 in
        let d = strong.weak.data_block file.ino p nz in
        let end : (frame image).address file.ino p < (frame image).fsize = d.1 in
        let huge = strong.weak.sizes.not_huge in
        ap (λ t. cond t ((frame image).address file.ino p) 0) (and_both (leb 2 ((frame image).address file.ino p)) _ (le-leb 2 _ (omega arith)) (lt-ltb ((frame image).address file.ino p) sectors (omega arith))))
        (cases_eq ((frame image).address file.ino p) 0)

    stored : (p : Place) → address_of image (head_of found.inode) p ≡ (frame image).address file.ino p
    unfolding frame
    stored p = ap (λ (m : Inode). address_of image (head_of m) p) is.inode

    map_is : map_place image sectors found.inode ≡ (frame image).address file.ino Single
    map_is = ap (place_within sectors) (stored Single) ∙ within-same Single

    pub at_single : places.single ≡ (frame image).address file.ino Single
    at_single = at.single ∙ map_is

    pub at_body : (k : ℕ) → k < 138 → get_or places.body k 0 ≡ (frame image).address file.ino (Body k)
    at_body k lt = at.body k lt ∙ by_map (leb 10 k && (map_place image sectors found.inode == 0)) refl
      where
        by_map : (t : Bool) → (leb 10 k && (map_place image sectors found.inode == 0)) ≡ t → cond t 0 (place_within sectors (address_of image (head_of found.inode) (Body k))) ≡ (frame image).address file.ino (Body k)
        by_map true e = sym ((frame-IsFrame image).through file.ino k (leb-true 10 k (and_left _ _ e)) (sym map_is ∙ eqb-true (map_place image sectors found.inode) 0 (and_right (leb 10 k) _ e)))
        by_map false e = ap (place_within sectors) (stored (Body k)) ∙ within-same (Body k)

    module _ (blocks inodes : List Bool) (are : AreSetsOf image blocks inodes) (d : Draft) (first : IsFirst file.ino found.inode places (count_from blocks 0) d) where
      pub draft : IsDraftOf file.ino old d
      unfolding frame is_block
      draft = record {
        attr = attr_of-stored image strong file.ino used ∙ ap (stored_attr file.ino) (sym is.inode) ∙ sym first.attr;
        long = first.held.long;
        held = λ regular k lt. first.held.is k ∙ ap (λ a. not (a == 0)) (at_body k lt) ∙ block_held regular k;
        mapped = λ regular. first.mapped ∙ ap (λ a. not (a == 0)) at_single ∙ sym (map_there image strong 138 139 refl refl file.ino used);
      }

      pub room : d.free ≡ free (view image)
      room = first.room ∙ free_blocks-counted image blocks inodes strong are
