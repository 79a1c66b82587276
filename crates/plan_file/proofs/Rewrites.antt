-- The plan for writes to a file: each prefix is Weak with a torn body, and the whole is Strong with the new node.
use Rattle.std.proofs.Common.{◌≡◌, ◌≢◌, ◌⊎◌, ℕ, ◌+◌, ◌-◌, ◌*◌, ◌<◌, ◌≤◌, true, false, cond, ◌&&◌, List, [], ◌∷◌, ◌++◌, map, length, get_or, set, replicate, unwrap_or, refl, sym, ap, subst, ◌∙◌, arith, inl, inr, ⊎_elim, eqb, leb, Option, Some, None, is_some, option_map, get_or-set_other, get_or-set_same, drop_of_length-le}
use Rattle.std.proofs.lemmas.Bool.{cases_eq, cases_lt, cases_Bool, ne_eqb}
use Rattle.std.specs.List.{AllByRecursion}
use Rattle.std.specs.FinMap.{get, empty}
use Rattle.v7_layout.specs.declared.inode.Inode.{Inode}
use Rattle.v7_layout.specs.Numbers.{field, part}
use Rattle.v7_layout.specs.Records.{inode_of}
use Rattle.files_model.specs.declared.attributes.Kind.TheVariants.{Regular}
use Rattle.files_model.specs.Files.{Node, Sectors, sectors_of, clipped, tabulated, IsBody}
use Rattle.files_model.specs.Step.{with_node, sector_of}
use Rattle.files_model.specs.Torn.{IsTornBody}
use Rattle.files_model.proofs.Maps.{get-tabulated, get-tabulated_above}
use Rattle.files_model.proofs.Clips.{clipped_fixed}
use Rattle.stable.specs.Store.{Image}
use Rattle.v7_map.specs.Image.{sector_at, isize_of, inode_at, inode_sector, inode_offset, IsImage}
use Rattle.v7_map.specs.Frame.{Frame, Head, Place, Body, Single, Double, head_of, is_directory, address_of, place_of, listed, frame}
use Rattle.v7_map.specs.Tree.{tree, is_named}
use Rattle.v7_map.specs.Weak.{IsWeak, IsStrong}
use Rattle.v7_map.specs.View.{view, node_of, body_of, held}
use Rattle.stable.specs.Puts.{put_all, EachPrefix}
use Rattle.plan_file.specs.Rewrite.{body_puts, IsLayout, IsFill, MapPut, same, put, moved_inode, IsModeOf, entries}
use Rattle.files_model.specs.Batch.{IsRewrite}
use Rattle.files_model.specs.Among.{is_among}
use Rattle.v7_sets.specs.Sets.{IsFreeBlock}
use Rattle.v7_map.specs.Plan.{PutsInode}
use Rattle.plan_file.proofs.Others.{IsMine, but_one-same, but_one-trans}
use Rattle.v7_map.proofs.Nodes.{StandsAs, view-node, is_file, size_of}
use Rattle.v7_map.proofs.Bodies.{view-IsBody, view-sector}
use Rattle.plan_file.proofs.Indirect.{map-view, map-weak, map-but_one, map-head, map-address_direct, map-address_listed, map-address_past, map-address_single, map-address_double}
use Rattle.files_model.proofs.Batches.{sector_long}
use Rattle.v7_map.proofs.Data.{same_inode, inode_below}
use Rattle.files_model.proofs.Batches.{with_node_twice, with_node_same}
use Rattle.v7_map.proofs.Prefixes.{prefix-last, prefix-append, prefix-weaker, put_all-append}
use Rattle.plan_file.proofs.Entries.{IsTornSoFar, IsPlaced, entries_torn, free_put}
use Rattle.plan_file.proofs.Contents.{all_map, content_other, content_out, content_in}
use Rattle.v7_map.proofs.Puts.{all_append, length-put_all, put_all-below}
use Rattle.plan_file.proofs.Finish.{IsReady, layout-mine, finish-strong, finish-view, finish-free, test_below, test_above}

-- the image is Weak, and its files are the old ones but for a torn body
pub record IsTornFile (image : Image) (i : ℕ) (n : Node) (new : Sectors) (now : Image) : Type 0 where
  pub weak : IsWeak (frame now)
  pub sectors : Sectors
  pub body : IsTornBody n.size n.sectors new sectors
  pub is : view now ≡ with_node (view image) i (record n { sectors = sectors })

some_of : {X : Type 0} (o : Option X) → is_some o ≡ true → (x : X) × (o ≡ Some x)
some_of None e = absurd (cc)
some_of (Some x) e = (x, refl)

none_or_some : {X : Type 0} (o : Option X) → (o ≡ None) ⊎ ((x : X) × (o ≡ Some x))
none_or_some None = inl refl
none_or_some (Some x) = inr (x, refl)

sector_is : (sectors : Sectors) (k : ℕ) (b : List ℕ) → get sectors k ≡ Some b → sector_of sectors k ≡ b
sector_is sectors k b e = ap (λ o. unwrap_or o (replicate 512 0)) e

-- a sector below the size is whole
clipped_whole : (size k : ℕ) (b : List ℕ) → length b ≡ 512 → 512 * (k + 1) ≤ size → clipped size k b ≡ b
clipped_whole size k b long le = clipped_fixed size k b (drop_of_length-le b (omega arith) ∙ (let none : 0 ≡ 512 - (size - 512 * k) = omega arith in ap (λ z. replicate z 0) none))

body_puts-append : (target : Place → ℕ) (xs ys : List (ℕ × List ℕ)) → body_puts target (xs ++ ys) ≡ body_puts target xs ++ body_puts target ys
body_puts-append target [] ys = refl
body_puts-append target (x ∷ xs) ys = ap (λ l. (target (Body x.0), x.1) ∷ l) (body_puts-append target xs ys)

all_puts : (target : Place → ℕ) (low : ℕ) (es : List (ℕ × List ℕ)) → AllByRecursion (λ (e : ℕ × List ℕ). low ≤ target (Body e.0)) es → AllByRecursion (λ (p : ℕ × List ℕ). low ≤ p.0) (body_puts target es)
all_puts target low [] h = tt
all_puts target low (e ∷ es) h = (h.0, all_puts target low es h.1)

pub PutsInode-moved : (old new : Image) (i : ℕ) (bytes : List ℕ) (n : Inode) → isize_of new ≡ isize_of old → sector_at new (inode_sector i) ≡ sector_at old (inode_sector i) → PutsInode old i bytes n → PutsInode new i bytes n
PutsInode-moved old new i bytes n isize sector puts = record {
  inside = (λ z. leb 1 i && leb i ((isize z - 2) * 8)) ∙ puts.inside;
  long = puts.long;
  here = puts.here;
  others = λ j low ne at. puts.others j low ne at ∙ ap (λ b. inode_of (part b (inode_offset j) 64)) (sym sector);
}

-- an address in the indirect block
listed_address : (image : Image) (i k : ℕ) → ((frame image).head i).is_used ≡ true → (frame image).address i Single ≢ 0 → 10 ≤ k → k < 138
    → (frame image).address i (Body k) ≡ field (sector_at image ((frame image).address i Single)) (4 * (k - 10)) 4
unfolding frame address_of
listed_address image i k used nonzero ge lt =
    let h : Head = head_of (inode_at image i) in
    let single : h.single ≡ cond h.is_used h.single 0 = ap (λ u. cond u h.single 0) (sym used) in
    ap (λ u. cond u (place_of image h (Body k)) 0) used
    ∙ (λ z. cond (test_above k 10 ge z) (get_or h.direct k 0) (cond (test_below k 138 lt z) (listed image (single z) (k - 10)) 0))
    ∙ ap (λ b. cond b 0 (field (sector_at image (cond h.is_used h.single 0)) (4 * (k - 10)) 4)) (ne_eqb (cond h.is_used h.single 0) 0 nonzero)

module _ (image : Image) (i : ℕ) (old new : Node) (ks zs : List ℕ) (target : Place → ℕ)
    (strong : IsStrong (frame image)) (whole : IsImage image) (at : get (view image).nodes i ≡ Some old) (regular : old.kind ≡ Regular)
    (re : IsRewrite old new ks) (lay : IsLayout (frame image) i ks target) (fill : IsFill old new ks zs) where
  s : StandsAs image i old
  s = view-node image i old at

  size_image : ((frame image).head i).size ≡ old.size
  size_image = size_of image i old s

  file_image : is_directory ((frame image).head i) ≡ false
  file_image = is_file image i old s regular

  body_old : IsBody old.size old.sectors
  body_old = view-IsBody image i old whole strong.weak at

  below_held : (k : ℕ) → (frame image).address i (Body k) ≢ 0 → k < sectors_of old.size
  below_held k nz = ⊎_elim (λ (lt : k < sectors_of old.size). lt) (λ (ge : sectors_of old.size ≤ k). absurd (nz (strong.none_past i k (subst (λ z. sectors_of z ≤ k) (sym size_image) ge)))) (cases_lt k (sectors_of old.size))

  -- what is held has a block, and what has a block is held
  address_of_held : (k : ℕ) (b : List ℕ) → get old.sectors k ≡ Some b → (frame image).address i (Body k) ≢ 0
  address_of_held k b e z =
      let no_sector : None ≡ Some b = ap (λ a. held image old.size k a) (sym z) ∙ sym (view-sector image i k old at regular (body_old.below k b e)) ∙ e in cc

  none_held : (k : ℕ) → (frame image).address i (Body k) ≡ 0 → get old.sectors k ≡ None
  none_held k z = ⊎_elim (λ (e : get old.sectors k ≡ None). e) (λ (h : (b : List ℕ) × (get old.sectors k ≡ Some b)). absurd (address_of_held k h.0 h.1 z)) (none_or_some (get old.sectors k))

  held_is : (k : ℕ) → (frame image).address i (Body k) ≢ 0 → get old.sectors k ≡ Some (clipped old.size k (sector_at image ((frame image).address i (Body k))))
  held_is k nz = view-sector image i k old at regular (below_held k nz) ∙ ap (λ b. cond b None (Some (clipped old.size k (sector_at image ((frame image).address i (Body k)))))) (ne_eqb ((frame image).address i (Body k)) 0 nz)

  abbrev pub es : List (ℕ × List ℕ)
  es = entries old new zs ks

  placed : AllByRecursion (IsPlaced (frame image) i old new.sectors target) es
  placed = all_append (IsPlaced (frame image) i old new.sectors target) (map (λ k. (k, sector_of old.sectors k)) zs) (map (λ k. (k, sector_of new.sectors k)) ks)
      (all_map (IsPlaced (frame image) i old new.sectors target) (λ k. (k, sector_of old.sectors k)) zs (λ k e.
      let b = some_of (get old.sectors k) (fill.held k e) in
      let nz : (frame image).address i (Body k) ≢ 0 = address_of_held k b.0 b.1 in
      inl (
        sym (lay.kept (Body k) nz),
        (λ z. nz (sym (lay.kept (Body k) nz) ∙ z)),
        body_old.below k b.0 b.1,
        inl (ap Some (ap (clipped old.size k) (sector_is old.sectors k b.0 b.1) ∙ body_old.zeros k b.0 b.1) ∙ sym b.1),
      )))
      (all_map (IsPlaced (frame image) i old new.sectors target) (λ k. (k, sector_of new.sectors k)) ks (λ k e.
      let b = some_of (get new.sectors k) (re.held k e) in
      ⊎_elim
      (λ (z : (frame image).address i (Body k) ≡ 0). inr (lay.fresh (Body k) z (lay.held k e)))
      (λ (nz : (frame image).address i (Body k) ≢ 0). inl (
        sym (lay.kept (Body k) nz),
        lay.held k e,
        below_held k nz,
        inr (below_held k nz, ap (λ c. Some (clipped old.size k c)) (sector_is new.sectors k b.0 b.1) ∙ ap (option_map (clipped old.size k)) (sym b.1)),
      ))
      (cases_eq ((frame image).address i (Body k)) 0)))

  start : IsTornSoFar image i old new.sectors image
  start = record { frame_same = refl; sectors = old.sectors; body = λ k. inl refl; is = sym (with_node_same (view image) i old at) }

  data_part : EachPrefix (IsTornSoFar image i old new.sectors) (body_puts target es) image
  data_part = entries_torn image i old new.sectors target strong.weak regular es image start placed

  mid : Image
  mid = put_all (body_puts target es) image

  so : IsTornSoFar image i old new.sectors mid
  unfolding mid
  so = prefix-last (IsTornSoFar image i old new.sectors) (body_puts target es) image data_part

  weak_mid : IsWeak (frame mid)
  weak_mid = subst IsWeak (sym so.frame_same) strong.weak

  mine : (p : Place) → target p ≢ 0 → IsMine (frame image) i (target p)
  mine = layout-mine (frame image) i ks target strong.weak lay

  length_mid : length mid ≡ length image
  unfolding mid
  length_mid = length-put_all (body_puts target es) image

  inside : (p : Place) → target p ≢ 0 → target p < length image
  unfolding frame
  inside p nz = let m = mine p nz in let high = m.high in let within = strong.weak.sizes.within in omega arith

  -- ---- what stands in the blocks

  first_image : Image
  first_image = put_all (body_puts target (map (λ k. (k, sector_of old.sectors k)) zs)) image

  mid_is : mid ≡ put_all (body_puts target (map (λ k. (k, sector_of new.sectors k)) ks)) first_image
  unfolding mid first_image
  mid_is = ap (λ l. put_all l image) (body_puts-append target (map (λ k. (k, sector_of old.sectors k)) zs) (map (λ k. (k, sector_of new.sectors k)) ks))
      ∙ put_all-append (body_puts target (map (λ k. (k, sector_of old.sectors k)) zs)) (body_puts target (map (λ k. (k, sector_of new.sectors k)) ks)) image

  put_content : (k : ℕ) → is_among k ks ≡ true → sector_at mid (target (Body k)) ≡ sector_of new.sectors k
  unfolding first_image
  put_content k e = ap (λ (m : Image). sector_at m (target (Body k))) mid_is
      ∙ content_in target lay.apart (λ q. sector_of new.sectors q) ks first_image k (lay.held k e)
      (subst (λ n. target (Body k) < n) (sym (length-put_all (body_puts target (map (λ k. (k, sector_of old.sectors k)) zs)) image)) (inside (Body k) (lay.held k e))) e

  first_content : (k : ℕ) → is_among k ks ≡ false → target (Body k) ≢ 0 → sector_at mid (target (Body k)) ≡ sector_at first_image (target (Body k))
  first_content k e nz = ap (λ (m : Image). sector_at m (target (Body k))) mid_is ∙ content_out target lay.apart (λ q. sector_of new.sectors q) ks first_image k nz e

  single_content : target Single ≢ 0 → sector_at mid (target Single) ≡ sector_at image (target Single)
  unfolding first_image
  single_content nz = ap (λ (m : Image). sector_at m (target Single)) mid_is
      ∙ content_other target lay.apart (λ q. sector_of new.sectors q) ks first_image Single nz (λ k e. differ k)
      ∙ content_other target lay.apart (λ q. sector_of old.sectors q) zs image Single nz (λ k e. differ k)
    where
      differ : (k : ℕ) → Single ≢ Body k
      differ k e = cc

  long : (k : ℕ) → (frame image).address i (Body k) ≢ 0 → length (sector_at image ((frame image).address i (Body k))) ≡ 512
  unfolding frame
  long k has = let d = strong.weak.data_block i (Body k) has in let high : (frame image).address i (Body k) < (frame image).fsize = d.1 in let within = strong.weak.sizes.within in
      let in' : (frame image).address i (Body k) < length image = omega arith in whole ((frame image).address i (Body k)) [] in'

  -- a sector that isn't written: its content is that of the old body at both sizes
  stays : (k : ℕ) → is_among k ks ≡ false → target (Body k) ≢ 0
      → (held mid old.size k (target (Body k)) ≡ get old.sectors k) × (held mid new.size k (target (Body k)) ≡ get new.sectors k)
  unfolding first_image
  stays k out nz =
      let has : (frame image).address i (Body k) ≢ 0 = λ z. let yes : is_among k ks ≡ true = lay.added k z nz in cc in
      let place : target (Body k) ≡ (frame image).address i (Body k) = lay.kept (Body k) has in
      let x : List ℕ = sector_at image ((frame image).address i (Body k)) in
      let b : List ℕ = clipped old.size k x in
      let is : get old.sectors k ≡ Some b = held_is k has in
      let new_is : get new.sectors k ≡ Some b = re.kept k out ∙ is in
      let open_held = λ (size : ℕ). ap (λ t. cond t None (Some (clipped size k (sector_at mid (target (Body k)))))) (ne_eqb (target (Body k)) 0 nz) in
      ⊎_elim
      (λ (filled : is_among k zs ≡ true).
      let c : sector_at mid (target (Body k)) ≡ b = first_content k out nz ∙ content_in target lay.apart (λ q. sector_of old.sectors q) zs image k nz (inside (Body k) nz) filled ∙ sector_is old.sectors k b is in (
        open_held old.size ∙ ap (λ s. Some (clipped old.size k s)) c ∙ ap Some (body_old.zeros k b is) ∙ sym is,
        open_held new.size ∙ ap (λ s. Some (clipped new.size k s)) c ∙ ap Some (re.body.zeros k b new_is) ∙ sym new_is,
      ))
      (λ (unfilled : is_among k zs ≡ false).
      let c : sector_at mid (target (Body k)) ≡ x = first_content k out nz ∙ content_out target lay.apart (λ q. sector_of old.sectors q) zs image k nz unfilled ∙ ap (sector_at image) place in (
        open_held old.size ∙ ap (λ s. Some (clipped old.size k s)) c ∙ sym is,
        open_held new.size ∙ ap (λ s. Some (clipped new.size k s)) c ∙ ap Some (same_clip k x b is out unfilled (long k has)) ∙ sym new_is,
      ))
      (cases_Bool (is_among k zs))
    where
      same_clip : (k : ℕ) (x b : List ℕ) → get old.sectors k ≡ Some (clipped old.size k x) → is_among k ks ≡ false → is_among k zs ≡ false → length x ≡ 512 → clipped new.size k x ≡ clipped old.size k x
      same_clip k x b is out unfilled long = ⊎_elim
          (λ (lt : old.size < new.size). ⊎_elim
          (λ (cut : old.size < 512 * (k + 1)). let yes : is_among k zs ≡ true = fill.all k (ap is_some is) out lt cut in absurd (cc))
          (λ (le : 512 * (k + 1) ≤ old.size). clipped_whole new.size k x long (omega arith) ∙ sym (clipped_whole old.size k x long le))
          (cases_lt old.size (512 * (k + 1))))
          (λ (ge : new.size ≤ old.size). let g = re.grows in let e : new.size ≡ old.size = omega arith in ap (λ z. clipped z k x) e)
          (cases_lt old.size new.size)

  no_target : (k : ℕ) → target (Body k) ≡ 0 → (frame image).address i (Body k) ≡ 0
  no_target k z = ⊎_elim (λ (e : (frame image).address i (Body k) ≡ 0). e) (λ (nz : (frame image).address i (Body k) ≢ 0). absurd (nz (sym (lay.kept (Body k) nz) ∙ z))) (cases_eq ((frame image).address i (Body k)) 0)

  contents : (k : ℕ) → held mid new.size k (target (Body k)) ≡ get new.sectors k
  contents k = ⊎_elim
      (λ (z : target (Body k) ≡ 0). ap (λ a. held mid new.size k a) z ∙ sym (re.kept k (not_among k z) ∙ none_held k (no_target k z)))
      (λ (nz : target (Body k) ≢ 0). ⊎_elim
      (λ (e : is_among k ks ≡ true). let b = some_of (get new.sectors k) (re.held k e) in
      ap (λ t. cond t None (Some (clipped new.size k (sector_at mid (target (Body k)))))) (ne_eqb (target (Body k)) 0 nz)
      ∙ ap (λ s. Some (clipped new.size k s)) (put_content k e ∙ sector_is new.sectors k b.0 b.1) ∙ ap Some (re.body.zeros k b.0 b.1) ∙ sym b.1)
      (λ (e : is_among k ks ≡ false). (stays k e nz).1)
      (cases_Bool (is_among k ks)))
      (cases_eq (target (Body k)) 0)
    where
      not_among : (k : ℕ) → target (Body k) ≡ 0 → is_among k ks ≡ false
      not_among k z = ⊎_elim (λ (e : is_among k ks ≡ true). absurd (lay.held k e z)) (λ (e : is_among k ks ≡ false). e) (cases_Bool (is_among k ks))

  contents_after : (now : Image) → ((k : ℕ) → target (Body k) ≢ 0 → sector_at now (target (Body k)) ≡ sector_at mid (target (Body k))) → (k : ℕ) → held now new.size k (target (Body k)) ≡ get new.sectors k
  contents_after now stay k = ⊎_elim
      (λ (z : target (Body k) ≡ 0). subst (λ a. held now new.size k a ≡ held mid new.size k a) (sym z) refl)
      (λ (nz : target (Body k) ≢ 0). ap (λ s. cond (eqb (target (Body k)) 0) None (Some (clipped new.size k s))) (stay k nz))
      (cases_eq (target (Body k)) 0) ∙ contents k

  -- ---- before the inode

  below_mid : (t : ℕ) → t < isize_of image → sector_at mid t ≡ sector_at image t
  unfolding mid frame
  below_mid t lt = put_all-below (body_puts target es) image (isize_of image) t (all_puts target (isize_of image) es
      (all_append (λ (e : ℕ × List ℕ). isize_of image ≤ target (Body e.0)) (map (λ k. (k, sector_of old.sectors k)) zs) (map (λ k. (k, sector_of new.sectors k)) ks)
      (all_map (λ (e : ℕ × List ℕ). isize_of image ≤ target (Body e.0)) (λ k. (k, sector_of old.sectors k)) zs (λ k e.
      let b = some_of (get old.sectors k) (fill.held k e) in let nz = address_of_held k b.0 b.1 in (mine (Body k) (λ z. nz (sym (lay.kept (Body k) nz) ∙ z))).low))
      (all_map (λ (e : ℕ × List ℕ). isize_of image ≤ target (Body e.0)) (λ k. (k, sector_of new.sectors k)) ks (λ k e. (mine (Body k) (lay.held k e)).low)))) lt

  low_sizes : 3 ≤ isize_of image
  unfolding frame
  low_sizes = strong.weak.sizes.low

  inode_mid : inode_at mid i ≡ inode_at image i
  inode_mid = let low = low_sizes in same_inode image mid (below_mid 1 (omega arith)) (λ t _ lt. below_mid t lt) i

  -- another put to a data block
  inode_after : (a : ℕ) (bytes : List ℕ) → isize_of image ≤ a → inode_at (set mid a bytes) i ≡ inode_at image i
  inode_after a bytes le = let low = low_sizes in same_inode image (set mid a bytes)
      (get_or-set_other mid a 1 bytes [] (λ e. omega arith) ∙ below_mid 1 (omega arith))
      (λ t _ lt. get_or-set_other mid a t bytes [] (λ e. omega arith) ∙ below_mid t lt) i

  to_torn : (now : Image) → IsTornSoFar image i old new.sectors now → IsTornFile image i old new.sectors now
  to_torn now t = record { weak = subst IsWeak (sym t.frame_same) strong.weak; sectors = t.sectors; body = t.body; is = t.is }

  ready_same : (now : Image) (t : IsTornSoFar image i old new.sectors now) → inode_at now i ≡ inode_at image i
      → (target Single ≢ 0 → (k : ℕ) → 10 ≤ k → k < 138 → field (sector_at now (target Single)) (4 * (k - 10)) 4 ≡ target (Body k))
      → ((k : ℕ) → target (Body k) ≢ 0 → sector_at now (target (Body k)) ≡ sector_at mid (target (Body k)))
      → IsReady image i old new target now
  ready_same now t inode maps stay = record {
    weak = subst IsWeak (sym t.frame_same) strong.weak;
    but = but_one-same i (frame image) (frame now) t.frame_same;
    head = ap (λ (f : Frame). f.head i) t.frame_same;
    inode = inode;
    sectors = t.sectors;
    is = t.is;
    maps = maps;
    contents = λ k _. contents_after now stay k;
  }

  module _ (used : ((frame image).head i).is_used ≡ true) (not_first : i ≢ 1) (not_root : i ≢ 2) where
    -- the indirect block, which the inode names already
    module _ (bytes : List ℕ) (nonzero : target Single ≢ 0) (held_map : (frame image).address i Single ≢ 0)
        (lists : (k : ℕ) → 10 ≤ k → k < 138 → field bytes (4 * (k - 10)) 4 ≡ target (Body k)) where
      single : (frame mid).address i Single ≡ target Single
      single = ap (λ (f : Frame). f.address i Single) so.frame_same ∙ sym (lay.kept Single held_map)

      used_mid : ((frame mid).head i).is_used ≡ true
      used_mid = ap (λ (f : Frame). (f.head i).is_used) so.frame_same ∙ used

      file_mid : is_directory ((frame mid).head i) ≡ false
      file_mid = ap (λ (f : Frame). is_directory (f.head i)) so.frame_same ∙ file_image

      after : Image
      after = set mid (target Single) bytes

      abbrev now_at : Place → ℕ
      now_at p = (frame (set mid (target Single) bytes)).address i p

      -- each place is the one before, and is that of the layout if it has a block
      places : (p : Place) → (now_at p ≢ 0 → now_at p ≡ target p) × (now_at p ≡ 0 → (frame image).address i p ≡ 0)
      places Single = let e : now_at Single ≡ target Single = map-address_single mid i (target Single) bytes weak_mid used_mid file_mid single nonzero ∙ single in ((λ _. e), (λ z. absurd (nonzero (sym e ∙ z))))
      places Double = let e : now_at Double ≡ (frame image).address i Double = map-address_double mid i (target Single) bytes weak_mid used_mid file_mid single nonzero ∙ ap (λ (f : Frame). f.address i Double) so.frame_same in
          ((λ nz. absurd (nz (e ∙ strong.weak.no_double i))), (λ z. sym e ∙ z))
      places (Body k) = ⊎_elim
          (λ (lt : k < 10). let e : now_at (Body k) ≡ (frame image).address i (Body k) = map-address_direct mid i (target Single) bytes weak_mid used_mid file_mid single nonzero k lt ∙ ap (λ (f : Frame). f.address i (Body k)) so.frame_same in
          ((λ nz. e ∙ sym (lay.kept (Body k) (λ z. nz (e ∙ z)))), (λ z. sym e ∙ z)))
          (λ (ge : 10 ≤ k). ⊎_elim
          (λ (lt : k < 138). let e : now_at (Body k) ≡ target (Body k) = map-address_listed mid i (target Single) bytes weak_mid used_mid file_mid single nonzero k ge lt ∙ lists k ge lt in
          ((λ nz. e), (λ z. no_target k (sym e ∙ z))))
          (λ (out : 138 ≤ k). let e : now_at (Body k) ≡ 0 = map-address_past mid i (target Single) bytes weak_mid used_mid file_mid single nonzero k out in
          ((λ nz. absurd (nz e)), (λ z. no_target k (lay.past k out))))
          (cases_lt k 138))
          (cases_lt k 10)

      weak_after : IsWeak (frame (set mid (target Single) bytes))
      weak_after = map-weak mid i (target Single) bytes weak_mid used_mid file_mid single nonzero not_first not_root now_at (λ p. refl)
          (λ p nz. subst (λ f. IsMine f i (now_at p)) (sym so.frame_same) (subst (IsMine (frame image) i) (sym ((places p).0 nz)) (mine p (λ z. nz ((places p).0 nz ∙ z)))))
          (λ p q nz e. lay.apart p q (λ z. nz ((places p).0 nz ∙ z)) (sym ((places p).0 nz) ∙ e ∙ (places q).0 (λ z. nz (e ∙ z))))
          (map-address_double mid i (target Single) bytes weak_mid used_mid file_mid single nonzero ∙ ap (λ (f : Frame). f.address i Double) so.frame_same ∙ strong.weak.no_double i)

      sectors_after : Sectors
      sectors_after = body_of mid ((frame mid).head i) now_at

      view_after : view (set mid (target Single) bytes) ≡ with_node (view image) i (record old { sectors = sectors_after })
      unfolding sectors_after
      view_after =
          map-view mid i (target Single) bytes weak_mid used_mid file_mid single nonzero now_at (λ p. refl)
          (λ k nz e. clash k (lay.apart (Body k) Single (λ z. nz ((places (Body k)).0 nz ∙ z)) (sym ((places (Body k)).0 nz) ∙ e)))
          (ap (λ f. is_named (tree f) i) so.frame_same ∙ s.named) (subst (λ f. i < (tree f).inodes + 1) (sym so.frame_same) s.within)
          ∙ (λ z. with_node (so.is z) i (node_of (tree (so.frame_same z)) i (inode_mid z) (body_of mid ((frame mid).head i) now_at)))
          ∙ ap (λ (m : Node). with_node (with_node (view image) i (record old { sectors = so.sectors })) i (record m { sectors = body_of mid ((frame mid).head i) now_at })) s.is
          ∙ with_node_twice (view image) i (record old { sectors = so.sectors }) (record old { sectors = body_of mid ((frame mid).head i) now_at })
        where
          clash : (k : ℕ) → Body k ≢ Single
          clash k e = cc

      table : ℕ → Option (List ℕ)
      table k = held mid old.size k (now_at (Body k))

      sectors_is : sectors_after ≡ tabulated table (sectors_of old.size)
      unfolding sectors_after body_of table
      sectors_is = (λ z. cond (file_mid z) empty (tabulated (λ k. held mid ((frame mid).head i).size k (now_at (Body k))) (sectors_of ((frame mid).head i).size)))
          ∙ ap (λ size. tabulated (λ k. held mid size k (now_at (Body k))) (sectors_of size)) (ap (λ (f : Frame). (f.head i).size) so.frame_same ∙ size_image)

      torn_after : IsTornBody old.size old.sectors new.sectors sectors_after
      unfolding table
      torn_after k = subst (λ (t : Sectors). (get t k ≡ get old.sectors k) ⊎ ((k < sectors_of old.size) × (get t k ≡ option_map (clipped old.size k) (get new.sectors k)))) (sym sectors_is) (⊎_elim
          (λ (lt : k < sectors_of old.size).
          let is : get (tabulated table (sectors_of old.size)) k ≡ table k = get-tabulated table (sectors_of old.size) k lt in
          ⊎_elim
          (λ (z : now_at (Body k) ≡ 0). inl (is ∙ ap (λ a. held mid old.size k a) z ∙ sym (none_held k ((places (Body k)).1 z))))
          (λ (nz : now_at (Body k) ≢ 0).
          let e : now_at (Body k) ≡ target (Body k) = (places (Body k)).0 nz in
          let there : target (Body k) ≢ 0 = λ z. nz (e ∙ z) in
          ⊎_elim
          (λ (in' : is_among k ks ≡ true). let b = some_of (get new.sectors k) (re.held k in') in inr (
            lt,
            is ∙ ap (λ a. held mid old.size k a) e
                ∙ ap (λ t. cond t None (Some (clipped old.size k (sector_at mid (target (Body k)))))) (ne_eqb (target (Body k)) 0 there)
                ∙ ap (λ s. Some (clipped old.size k s)) (put_content k in' ∙ sector_is new.sectors k b.0 b.1)
                ∙ ap (option_map (clipped old.size k)) (sym b.1),
          ))
          (λ (out : is_among k ks ≡ false). inl (is ∙ ap (λ a. held mid old.size k a) e ∙ (stays k out there).0))
          (cases_Bool (is_among k ks)))
          (cases_eq (now_at (Body k)) 0))
          (λ (ge : sectors_of old.size ≤ k). inl (get-tabulated_above table (sectors_of old.size) k ge ∙ sym (none_held k (past_held k ge))))
          (cases_lt k (sectors_of old.size)))
        where
          past_held : (k : ℕ) → sectors_of old.size ≤ k → (frame image).address i (Body k) ≡ 0
          past_held k ge = strong.none_past i k (subst (λ z. sectors_of z ≤ k) (sym size_image) ge)

      map_torn : IsTornFile image i old new.sectors (set mid (target Single) bytes)
      map_torn = record { weak = weak_after; sectors = sectors_after; body = torn_after; is = view_after }

      map_ready : IsReady image i old new target (set mid (target Single) bytes)
      unfolding frame
      map_ready = record {
        weak = weak_after;
        but = but_one-trans i (frame image) (frame mid) (frame (set mid (target Single) bytes)) (but_one-same i (frame image) (frame mid) so.frame_same) (map-but_one mid i (target Single) bytes weak_mid used_mid file_mid single nonzero);
        head = map-head mid i (target Single) bytes weak_mid used_mid file_mid single nonzero i ∙ ap (λ (f : Frame). f.head i) so.frame_same;
        inode = inode_after (target Single) bytes (mine Single nonzero).low;
        sectors = sectors_after;
        is = view_after;
        maps = λ nz k ge lt. ap (λ b. field b (4 * (k - 10)) 4) (get_or-set_same mid (target Single) bytes [] (subst (λ n. target Single < n) (sym length_mid) (inside Single nonzero))) ∙ lists k ge lt;
        contents = λ k _. contents_after (set mid (target Single) bytes) (λ q nz. get_or-set_other mid (target Single) (target (Body q)) bytes [] (λ e. clash q (lay.apart (Body q) Single nz e))) k;
      }
        where
          clash : (k : ℕ) → Body k ≢ Single
          clash k e = cc

    -- the whole plan but for the inode
    before_inode : (maps : List (ℕ × List ℕ)) → MapPut (frame image) i target maps
        → EachPrefix (IsTornFile image i old new.sectors) (body_puts target es ++ maps) image × IsReady image i old new target (put_all (body_puts target es ++ maps) image)
    unfolding mid frame
    before_inode maps (same of_single stay) = (
      prefix-append (IsTornFile image i old new.sectors) (body_puts target es) [] image data_torn (to_torn mid so),
      subst (IsReady image i old new target) (sym (put_all-append (body_puts target es) [] image))
          (ready_same mid so inode_mid
          (λ nz k ge lt. let held_map : (frame image).address i Single ≢ 0 = λ z. nz (of_single ∙ z) in
          ap (λ b. field b (4 * (k - 10)) 4) (single_content nz ∙ ap (sector_at image) of_single) ∙ sym (listed_address image i k used held_map ge lt) ∙ sym (stay k ge))
          (λ k _. refl)),
    )
      where
        data_torn : EachPrefix (IsTornFile image i old new.sectors) (body_puts target es) image
        data_torn = prefix-weaker (IsTornSoFar image i old new.sectors) (IsTornFile image i old new.sectors) to_torn (body_puts target es) image data_part
    before_inode maps (put bytes changed long_map high differs nonzero lists) =
        let r : IsTornFile image i old new.sectors (set mid (target Single) bytes) × IsReady image i old new target (set mid (target Single) bytes) = ⊎_elim
        (λ (z : (frame image).address i Single ≡ 0).
        let t : IsTornSoFar image i old new.sectors (set mid (target Single) bytes) = free_put image i old new.sectors target strong.weak regular mid so (target Single) bytes (lay.fresh Single z nonzero) in (
          to_torn (set mid (target Single) bytes) t,
          ready_same (set mid (target Single) bytes) t (inode_after (target Single) bytes (mine Single nonzero).low)
              (λ nz k ge lt. ap (λ b. field b (4 * (k - 10)) 4) (get_or-set_same mid (target Single) bytes [] (subst (λ n. target Single < n) (sym length_mid) (inside Single nonzero))) ∙ lists k ge lt)
              (λ k nz. get_or-set_other mid (target Single) (target (Body k)) bytes [] (λ e. clash k (lay.apart (Body k) Single nz e))),
        ))
        (λ (held_map : (frame image).address i Single ≢ 0). (map_torn bytes nonzero held_map lists, map_ready bytes nonzero held_map lists))
        (cases_eq ((frame image).address i Single) 0) in (
          prefix-append (IsTornFile image i old new.sectors) (body_puts target es) ((target Single, bytes) ∷ []) image data_torn (to_torn mid so, r.0),
          subst (IsReady image i old new target) (sym (put_all-append (body_puts target es) ((target Single, bytes) ∷ []) image)) r.1,
        )
      where
        clash : (k : ℕ) → Body k ≢ Single
        clash k e = cc

        data_torn : EachPrefix (IsTornFile image i old new.sectors) (body_puts target es) image
        data_torn = prefix-weaker (IsTornSoFar image i old new.sectors) (IsTornFile image i old new.sectors) to_torn (body_puts target es) image data_part

    module _ (maps : List (ℕ × List ℕ)) (map_put : MapPut (frame image) i target maps) (mode : ℕ) (is_mode : IsModeOf (inode_at image i) new mode) (direct : List ℕ) (directs : (k : ℕ) → k < 10 → get_or direct k 0 ≡ target (Body k))
        (inode_bytes : List ℕ) (puts : PutsInode image i inode_bytes (moved_inode (inode_at image i) new mode direct (target Single))) where
      abbrev pub before : List (ℕ × List ℕ)
      before = body_puts target (entries old new zs ks) ++ maps

      no_double : (inode_at image i).double ≡ 0
      unfolding frame address_of
      no_double = ap (λ b. cond b (inode_at image i).double 0) (sym used) ∙ strong.weak.no_double i

      -- all that is put before the inode is a data block
      low_maps : (maps : List (ℕ × List ℕ)) → MapPut (frame image) i target maps → AllByRecursion (λ (p : ℕ × List ℕ). isize_of image ≤ p.0) maps
      unfolding frame
      low_maps maps (same of_single stay) = tt
      low_maps maps (put bytes changed long_map high differs nonzero lists) = ((mine Single nonzero).low, tt)

      below_before : (t : ℕ) → t < isize_of image → sector_at (put_all before image) t ≡ sector_at image t
      unfolding mid
      below_before t lt = ap (λ (m : Image). sector_at m t) (put_all-append (body_puts target es) maps image) ∙ put_all-below maps mid (isize_of image) t (low_maps maps map_put) lt ∙ below_mid t lt

      inode_low : inode_sector i < isize_of image
      inode_low = inode_below (isize_of image) i puts.inside

      moved : PutsInode (put_all before image) i inode_bytes (moved_inode (inode_at image i) new mode direct (target Single))
      moved = let low = low_sizes in PutsInode-moved image (put_all before image) i inode_bytes (moved_inode (inode_at image i) new mode direct (target Single))
          (ap (λ b. field b 0 2) (below_before 1 (omega arith))) (below_before (inode_sector i) inode_low) puts

      pub rewrite-prefixes : EachPrefix (IsTornFile image i old new.sectors) (body_puts target (entries old new zs ks) ++ maps) image
      rewrite-prefixes = (before_inode maps map_put).0

      pub rewrite-strong : IsStrong (frame (set (put_all (body_puts target (entries old new zs ks) ++ maps) image) (inode_sector i) inode_bytes))
      rewrite-strong = finish-strong image i old new ks target strong at regular re lay (put_all before image) (before_inode maps map_put).1 mode is_mode direct directs inode_bytes moved used not_first not_root no_double

      pub rewrite-view : view (set (put_all (body_puts target (entries old new zs ks) ++ maps) image) (inode_sector i) inode_bytes) ≡ with_node (view image) i new
      rewrite-view = finish-view image i old new ks target strong at regular re lay (put_all before image) (before_inode maps map_put).1 mode is_mode direct directs inode_bytes moved used not_first not_root no_double

      pub rewrite-free : (a : ℕ) → (IsFreeBlock (frame (set (put_all (body_puts target (entries old new zs ks) ++ maps) image) (inode_sector i) inode_bytes)) a → IsFreeBlock (frame image) a × ((p : Place) → target p ≢ a))
          × (IsFreeBlock (frame image) a → ((p : Place) → target p ≢ a) → IsFreeBlock (frame (set (put_all (body_puts target (entries old new zs ks) ++ maps) image) (inode_sector i) inode_bytes)) a)
      rewrite-free = finish-free image i old new ks target strong at regular re lay (put_all before image) (before_inode maps map_put).1 mode is_mode direct directs inode_bytes moved used not_first not_root no_double

      -- where the puts go
      pub rewrite-each : (P : ℕ → Type 0) → ((p : Place) → target p ≢ 0 → P (target p)) → AllByRecursion (λ (p : ℕ × List ℕ). P p.0) (body_puts target (entries old new zs ks) ++ maps)
      rewrite-each P each = all_append (λ (p : ℕ × List ℕ). P p.0) (body_puts target es) maps
          (in_puts es (all_append (λ (e : ℕ × List ℕ). target (Body e.0) ≢ 0) (map (λ k. (k, sector_of old.sectors k)) zs) (map (λ k. (k, sector_of new.sectors k)) ks)
          (all_map (λ (e : ℕ × List ℕ). target (Body e.0) ≢ 0) (λ k. (k, sector_of old.sectors k)) zs (λ k e.
          let b = some_of (get old.sectors k) (fill.held k e) in let nz = address_of_held k b.0 b.1 in λ z. nz (sym (lay.kept (Body k) nz) ∙ z)))
          (all_map (λ (e : ℕ × List ℕ). target (Body e.0) ≢ 0) (λ k. (k, sector_of new.sectors k)) ks (λ k e. lay.held k e))))
          (of_maps maps map_put)
        where
          in_puts : (es : List (ℕ × List ℕ)) → AllByRecursion (λ (e : ℕ × List ℕ). target (Body e.0) ≢ 0) es → AllByRecursion (λ (p : ℕ × List ℕ). P p.0) (body_puts target es)
          in_puts [] h = tt
          in_puts (e ∷ es) h = (each (Body e.0) h.0, in_puts es h.1)

          of_maps : (maps : List (ℕ × List ℕ)) → MapPut (frame image) i target maps → AllByRecursion (λ (p : ℕ × List ℕ). P p.0) maps
          of_maps maps (same of_single stay) = tt
          of_maps maps (put bytes changed long_map high differs nonzero lists) = (each Single nonzero, tt)

      pub rewrite-inside : AllByRecursion (λ (p : ℕ × List ℕ). p.0 < length image) (body_puts target (entries old new zs ks) ++ maps)
      rewrite-inside = rewrite-each (λ a. a < length image) inside

      pub rewrite-past : AllByRecursion (λ (p : ℕ × List ℕ). 2 ≤ p.0) (body_puts target (entries old new zs ks) ++ maps)
      rewrite-past = rewrite-each (λ a. 2 ≤ a) (λ p nz. let low = (mine p nz).low in let three = strong.weak.sizes.low in omega arith)

      -- and how long they are
      pub rewrite-whole : AllByRecursion (λ (p : ℕ × List ℕ). length p.1 ≡ 512) (body_puts target (entries old new zs ks) ++ maps)
      rewrite-whole = all_append (λ (p : ℕ × List ℕ). length p.1 ≡ 512) (body_puts target es) maps
          (in_puts es (all_append (λ (e : ℕ × List ℕ). length e.1 ≡ 512) (map (λ k. (k, sector_of old.sectors k)) zs) (map (λ k. (k, sector_of new.sectors k)) ks)
          (all_map (λ (e : ℕ × List ℕ). length e.1 ≡ 512) (λ k. (k, sector_of old.sectors k)) zs (λ k e. (sector_long old.size old.sectors body_old k).0))
          (all_map (λ (e : ℕ × List ℕ). length e.1 ≡ 512) (λ k. (k, sector_of new.sectors k)) ks (λ k e. (sector_long new.size new.sectors re.body k).0))))
          (of_maps maps map_put)
        where
          in_puts : (es : List (ℕ × List ℕ)) → AllByRecursion (λ (e : ℕ × List ℕ). length e.1 ≡ 512) es → AllByRecursion (λ (p : ℕ × List ℕ). length p.1 ≡ 512) (body_puts target es)
          in_puts [] h = tt
          in_puts (e ∷ es) h = (h.0, in_puts es h.1)

          of_maps : (maps : List (ℕ × List ℕ)) → MapPut (frame image) i target maps → AllByRecursion (λ (p : ℕ × List ℕ). length p.1 ≡ 512) maps
          of_maps maps (same of_single stay) = tt
          of_maps maps (put bytes changed long_map high differs nonzero lists) = (long_map, tt)
