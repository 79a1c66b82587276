-- The plans of an accepted SETATTR: puts that don't show and the inode; or the inode and its block of addresses.
use Rattle.std.proofs.Common.{◌≡◌, ◌≢◌, ℕ, ◌-◌, ◌*◌, ◌<◌, ◌≤◌, true, false, not, ◌==◌, List, [], ◌∷◌, ◌++◌, length, take, replicate, set, sym, ap, subst, ◌∙◌, arith, inl, inr, ⊎_elim, Some, None, ◌⊎◌, length-take, drop_of_length-le}
use Rattle.std.proofs.lemmas.List.{take-take, take-append-le}
use Rattle.std.proofs.lemmas.Bool.{cases_lt, ne_eqb}
use Rattle.std.specs.FinMap.{get}
use Rattle.std.specs.List.{range_with_len}
use Rattle.v7_layout.specs.declared.inode.Inode.{Inode}
use Rattle.v7_layout.specs.Numbers.{field}
use Rattle.files_model.specs.Attributes.{set_node}
use Rattle.files_model.specs.declared.attributes.FileId.{FileId}
use Rattle.files_model.specs.declared.attributes.Kind.TheVariants.{Regular}
use Rattle.files_model.specs.declared.attributes.Sattr.{Sattr}
use Rattle.files_model.specs.declared.call.Call.TheVariants.{Setattr}
use Rattle.files_model.specs.declared.credential.Cred.{Cred}
use Rattle.files_model.specs.Files.{Node, Files, sectors_of, clipped, IsBody, live}
use Rattle.files_model.specs.Space.{size_limit}
use Rattle.files_model.specs.Step.{attr_of, setattr_refusal}
use Rattle.files_model.specs.Torn.{Asked}
use Rattle.files_model.proofs.Batches.{live-node}
use Rattle.files_model.proofs.Clips.{clipped_fixed}
use Rattle.stable.specs.Puts.{put_all}
use Rattle.stable.specs.Store.{Image}
use Rattle.v7_map.specs.Frame.{Head, Place, Body, Single, Double, head_of, is_directory, address_of, frame}
use Rattle.v7_map.specs.Image.{IsImage, sector_at, inode_at, inode_sector}
use Rattle.v7_map.specs.Plan.{PutsInode}
use Rattle.v7_map.specs.Plans.{IsPlanOf}
use Rattle.v7_map.specs.View.{view, node_at}
use Rattle.v7_map.specs.Weak.{IsWeak, IsStrong}
use Rattle.v7_map.proofs.AnyFrame.{frame-IsFrame}
use Rattle.v7_map.proofs.Bodies.{view-IsBody}
use Rattle.v7_map.proofs.Nodes.{StandsAs, view-node, is_file, size_of}
use Rattle.v7_map.proofs.Ranges.{address-inside}
use Rattle.v7_map.proofs.Used.{named_used}
use Rattle.v7_map.proofs.Walks.{any_at, among-range}
use Rattle.v7_plans.specs.Placed.{IsMine}
use Rattle.v7_plans.specs.Quiet.{AllQuiet}
use Rattle.v7_plans.specs.Resizing.{IsResized, StoresNode, KeepsBlocks, IsCut, IsCleanTo, CutsAddresses, AreLeft, AreSet}
use Rattle.v7_plans.specs.Setting.{IsSetting, ShrinksTo, IsCutBy, put_inode}
use Rattle.v7_plans.proofs.AddressPut.{map-muted, map-address_direct, map-address_listed, map-address_past, map-address_single, map-address_double, map-address_other}
use Rattle.v7_plans.proofs.Local.{held-mine}
use Rattle.v7_plans.proofs.Quieting.{quiet-plan, quiet-frame, quiet-view}
use Rattle.v7_plans.proofs.Resized.{resized-sets, resized-shrinks}
use Rattle.v7_plans.proofs.SettingPlan.{setting-plan, setting-blocks}
use Rattle.v7_plans.proofs.Setattr.{accepted-size, set-resized, setattr-sets}
use Rattle.v7_plans.proofs.ShrinkPlan.{shrink-plan, shrink-weak, shrink-head, shrink-address, shrink-elsewhere}

module _ (image : Image) (strong : IsStrong (frame image)) (file : FileId) (set' : Sattr) (cred : Cred) (now : ℕ) (n : Node) (is : live (view image) file ≡ Some n)
    (body : IsBody n.size n.sectors) (none : setattr_refusal (view image).read_only (attr_of file.ino n) set' cred ≡ None) where
  abbrev i : ℕ
  i = file.ino

  abbrev m : Node
  m = set_node n set' now

  abbrev asked : Asked
  asked = (Setattr file set', cred)

  stands : StandsAs image file.ino n
  stands = view-node image file.ino n (live-node (view image) file n is)

  used : ((frame image).head file.ino).is_used ≡ true
  used = named_used (frame image) strong.weak (frame-IsFrame image).directories file.ino stands.named

  node_is : node_at image file.ino ≡ n
  node_is = stands.is

  low : n.size ≤ size_limit
  low = let g = (strong.weak.good file.ino used).length in let s = size_of image file.ino n stands in omega arith

  resized : IsResized (node_at image file.ino) m
  resized = subst (λ x. IsResized x m) (sym node_is) (set-resized n set' now body low (accepted-size (view image).read_only (attr_of file.ino n) set' cred none))

  setting : IsSetting (view image) asked now file.ino n m
  setting = record { at = live-node (view image) file n is; after = setattr-sets (view image) file set' cred now n is none }

  -- one put
  set-one : (v : Inode) (b : List ℕ) → StoresNode image file.ino m v → KeepsBlocks image file.ino v → IsCut image v → IsCleanTo image file.ino v.size → PutsInode image file.ino b v
      → IsPlanOf image (asked ∷ []) now ((inode_sector file.ino, b) ∷ [])
  set-one v b stores keeps cut clean puts = setting-plan image asked now file.ino n m v b strong setting (resized-sets image file.ino strong used m v resized stores keeps clean cut b puts)

  set-blocks : (v : Inode) (b : List ℕ) → StoresNode image file.ino m v → KeepsBlocks image file.ino v → IsCut image v → IsCleanTo image file.ino v.size → PutsInode image file.ino b v
      → AreSet image (put_inode image file.ino b) file.ino v
  set-blocks v b stores keeps cut clean puts = let blocks = setting-blocks image asked now file.ino n m v b strong setting (resized-sets image file.ino strong used m v resized stores keeps clean cut b puts) in record { own = blocks.0; others = blocks.1 }

  -- a file gets shorter, and its block of addresses keeps some
  module _ (v : Inode) (b : List ℕ) (stores : StoresNode image file.ino m v) (keeps : KeepsBlocks image file.ino v) (clean : IsCleanTo image file.ino v.size) (puts : PutsInode image file.ino b v)
      (no_directory : is_directory ((frame image).head file.ino) ≡ false) (a left : ℕ) (bytes : List ℕ) (by : CutsAddresses image file.ino v a left bytes) where
    to : ShrinksTo image file.ino v m b
    to = resized-shrinks image file.ino strong used m v resized stores keeps clean no_directory b puts

    abbrev mid : Image
    mid = put_inode image file.ino b

    abbrev last : Image
    last = set mid a bytes

    weak_mid : IsWeak (frame mid)
    weak_mid = shrink-weak image asked now file.ino n m v b strong setting to

    head_mid : (frame mid).head file.ino ≡ head_of v
    head_mid = shrink-head image asked now file.ino n m v b strong setting to

    address_mid : (p : Place) → (frame mid).address file.ino p ≡ address_of image (head_of v) p
    address_mid = shrink-address image asked now file.ino n m v b strong setting to

    used_mid : ((frame mid).head file.ino).is_used ≡ true
    used_mid = ap (λ (h : Head). h.is_used) head_mid ∙ to.used

    stays_mid : (k : ℕ) → 10 ≤ k → k < 138 → k < sectors_of ((frame mid).head file.ino).size → field bytes (4 * (k - 10)) 4 ≡ (frame mid).address file.ino (Body k)
    stays_mid k ge lt in' = let in'' : k < sectors_of v.size = subst (λ (h : Head). k < sectors_of h.size) head_mid in' in
        by.stays k ge lt in'' ∙ sym (keeps.below k in'') ∙ sym (address_mid (Body k))

    single_mid : (frame mid).address file.ino Single ≡ a
    single_mid = address_mid Single ∙ by.single

    at_direct : (k : ℕ) → k < 10 → (frame last).address file.ino (Body k) ≡ (frame mid).address file.ino (Body k)
    at_direct = map-address_direct mid file.ino a bytes weak_mid used_mid stays_mid single_mid by.there

    at_listed : (k : ℕ) → 10 ≤ k → k < 138 → (frame last).address file.ino (Body k) ≡ field bytes (4 * (k - 10)) 4
    at_listed = map-address_listed mid file.ino a bytes weak_mid used_mid stays_mid single_mid by.there

    at_past : (k : ℕ) → 138 ≤ k → (frame last).address file.ino (Body k) ≡ 0
    at_past = map-address_past mid file.ino a bytes weak_mid used_mid stays_mid single_mid by.there

    -- each block that is left stands where it did
    left_mid : (p : Place) → (frame last).address file.ino p ≢ 0 → (frame last).address file.ino p ≡ (frame mid).address file.ino p
    left_mid (Body k) nz = ⊎_elim
        (λ (lt : k < 10). at_direct k lt)
        (λ (ge : 10 ≤ k). ⊎_elim
        (λ (lt : k < 138). ⊎_elim
        (λ (in' : k < sectors_of v.size). at_listed k ge lt ∙ by.stays k ge lt in' ∙ sym (keeps.below k in') ∙ sym (address_mid (Body k)))
        (λ (out : sectors_of v.size ≤ k). absurd (nz (at_listed k ge lt ∙ by.gone k ge lt out)))
        (cases_lt k (sectors_of v.size)))
        (λ (out : 138 ≤ k). absurd (nz (at_past k out)))
        (cases_lt k 138))
        (cases_lt k 10)
    left_mid Single nz = map-address_single mid file.ino a bytes weak_mid used_mid stays_mid single_mid by.there
    left_mid Double nz = map-address_double mid file.ino a bytes weak_mid used_mid stays_mid single_mid by.there

    cut : IsCutBy mid file.ino v ((a, bytes) ∷ [])
    cut = record {
      muted = (
        map-muted mid file.ino a bytes weak_mid used_mid stays_mid single_mid by.there by.long
            (λ p nz. subst (IsMine (frame mid) file.ino) (sym (left_mid p nz)) (held-mine (frame mid) file.ino p weak_mid (λ z. nz (left_mid p nz ∙ z))))
            (λ p q nz e. (weak_mid.unshared file.ino file.ino p q (λ z. nz (left_mid p nz ∙ z)) (sym (left_mid p nz) ∙ e ∙ left_mid q (λ z. nz (e ∙ z)))).1)
            (map-address_double mid file.ino a bytes weak_mid used_mid stays_mid single_mid by.there ∙ weak_mid.no_double file.ino),
        tt,
      );
      none_past = λ k out. ⊎_elim
          (λ (lt : k < 10). at_direct k lt ∙ address_mid (Body k) ∙ by.direct k lt out)
          (λ (ge : 10 ≤ k). ⊎_elim (λ (lt : k < 138). at_listed k ge lt ∙ by.gone k ge lt out) (λ (past : 138 ≤ k). at_past k past) (cases_lt k 138))
          (cases_lt k 10);
      single_needed = λ _. any_at (λ k. not ((frame last).address file.ino (Body k) == 0)) (range_with_len 10 128) left (among-range left 10 128 by.high (omega arith))
          (ap not (ne_eqb ((frame last).address file.ino (Body left)) 0 (λ z. by.some (sym (by.stays left by.high by.small by.below) ∙ sym (at_listed left by.high by.small) ∙ z))));
    }

    pub shorter-plan : IsPlanOf image (asked ∷ []) now ((inode_sector file.ino, b) ∷ (a, bytes) ∷ [])
    shorter-plan = shrink-plan image asked now file.ino n m v b strong setting to ((a, bytes) ∷ []) cut

    pub shorter-left : AreLeft image last file.ino v a bytes
    shorter-left = record {
      direct = λ k lt. at_direct k lt ∙ address_mid (Body k);
      listed = at_listed;
      past = at_past;
      single = map-address_single mid file.ino a bytes weak_mid used_mid stays_mid single_mid by.there ∙ single_mid;
      double = map-address_double mid file.ino a bytes weak_mid used_mid stays_mid single_mid by.there ∙ weak_mid.no_double file.ino;
      others = λ j ne p. map-address_other mid file.ino a bytes weak_mid used_mid stays_mid single_mid by.there j ne p ∙ (shrink-elsewhere image asked now file.ino n m v b strong setting to).addresses j ne p;
    }

-- puts that don't show, and the inode
pub setattr-plan : (image : Image) (file : FileId) (set' : Sattr) (cred : Cred) (now : ℕ) (n : Node) (first : List (ℕ × List ℕ)) (v : Inode) (b : List ℕ)
    → IsStrong (frame image) → IsImage image → live (view image) file ≡ Some n → setattr_refusal (view image).read_only (attr_of file.ino n) set' cred ≡ None → AllQuiet first image
    → StoresNode (put_all first image) file.ino (set_node n set' now) v → KeepsBlocks (put_all first image) file.ino v → IsCut (put_all first image) v → IsCleanTo (put_all first image) file.ino v.size
    → PutsInode (put_all first image) file.ino b v
    → IsPlanOf image ((Setattr file set', cred) ∷ []) now (first ++ (inode_sector file.ino, b) ∷ []) × AreSet (put_all first image) (put_inode (put_all first image) file.ino b) file.ino v
setattr-plan image file set' cred now n first v b strong whole is none quiet stores keeps cut clean puts =
    let f : frame (put_all first image) ≡ frame image = quiet-frame first image quiet in
    let w : view (put_all first image) ≡ view image = quiet-view first image quiet in
    let body : IsBody n.size n.sectors = view-IsBody image file.ino n whole strong.weak (live-node (view image) file n is) in
    let strong' : IsStrong (frame (put_all first image)) = subst IsStrong (sym f) strong in
    let is' : live (view (put_all first image)) file ≡ Some n = ap (λ (x : Files). live x file) w ∙ is in
    let none' : setattr_refusal (view (put_all first image)).read_only (attr_of file.ino n) set' cred ≡ None = ap (λ (x : Files). setattr_refusal x.read_only (attr_of file.ino n) set' cred) w ∙ none in (
      quiet-plan image ((Setattr file set', cred) ∷ []) now first ((inode_sector file.ino, b) ∷ []) quiet strong.weak
          (set-one (put_all first image) strong' file set' cred now n is' body none' v b stores keeps cut clean puts),
      set-blocks (put_all first image) strong' file set' cred now n is' body none' v b stores keeps cut clean puts,
    )

-- ---- a file that gets shorter

-- a sector cut twice is cut where the second cut is, if that is the lower one
clipped_less : (less size k : ℕ) (b : List ℕ) → length b ≡ 512 → less ≤ size → clipped less k b ≡ clipped less k (clipped size k b)
unfolding clipped
clipped_less less size k b long le = ⊎_elim
    (λ (ge : 512 ≤ size - 512 * k).
    let none : 512 - (size - 512 * k) ≡ 0 = omega arith in
    ap (clipped less k) (sym (clipped_fixed size k b (drop_of_length-le b (omega arith) ∙ ap (λ z. replicate z 0) (sym none)))))
    (λ (lt : size - 512 * k < 512). inner lt)
    (cases_ge (size - 512 * k) 512)
  where
    cases_ge : (x y : ℕ) → (y ≤ x) ⊎ (x < y)
    cases_ge x y = ⊎_elim (λ (l : x < y). inr l) (λ (g : y ≤ x). inl g) (cases_lt x y)

    inner : size - 512 * k < 512 → clipped less k b ≡ clipped less k (clipped size k b)
    inner lt =
        let r : ℕ = size - 512 * k in
        let q : ℕ = less - 512 * k in
        let low : q ≤ r = omega arith in
        let t : length (take r b) ≡ r = length-take r b ∙ omega arith in
        ap (λ l. l ++ replicate (512 - q) 0) (sym (take-append-le q (take r b) (replicate (512 - r) 0) (omega arith) ∙ take-take q r b low))

pub clean-shorter : (image : Image) (i size : ℕ) → IsWeak (frame image) → IsImage image → size ≤ (inode_at image i).size → IsCleanTo image i size
clean-shorter image i size weak whole le k lt nz =
    clipped_less size (inode_at image i).size k (sector_at image ((frame image).address i (Body k))) (whole ((frame image).address i (Body k)) [] (address-inside image weak i (Body k) nz).2) le

pub shorter-file : (image : Image) (file : FileId) (set' : Sattr) (cred : Cred) (now : ℕ) (n : Node) (v : Inode) (b : List ℕ) (a left : ℕ) (bytes : List ℕ)
    → IsStrong (frame image) → IsImage image → live (view image) file ≡ Some n → setattr_refusal (view image).read_only (attr_of file.ino n) set' cred ≡ None → n.kind ≡ Regular → v.size ≤ n.size
    → StoresNode image file.ino (set_node n set' now) v → KeepsBlocks image file.ino v → PutsInode image file.ino b v → CutsAddresses image file.ino v a left bytes
    → IsPlanOf image ((Setattr file set', cred) ∷ []) now ((inode_sector file.ino, b) ∷ (a, bytes) ∷ []) × AreLeft image (set (put_inode image file.ino b) a bytes) file.ino v a bytes
shorter-file image file set' cred now n v b a left bytes strong whole is none regular less stores keeps puts by =
    let there : get (view image).nodes file.ino ≡ Some n = live-node (view image) file n is in
    let s = view-node image file.ino n there in
    let size : (inode_at image file.ino).size ≡ n.size = ap (λ (x : Node). x.size) s.is in
    let body : IsBody n.size n.sectors = view-IsBody image file.ino n whole strong.weak there in
    let clean = clean-shorter image file.ino v.size strong.weak whole (omega arith) in
    let no_directory = is_file image file.ino n s regular in
    (shorter-plan image strong file set' cred now n is body none v b stores keeps clean puts no_directory a left bytes by, shorter-left image strong file set' cred now n is body none v b stores keeps clean puts no_directory a left bytes by)
