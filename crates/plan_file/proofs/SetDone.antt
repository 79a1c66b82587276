-- The plan of a SETATTR, by what was found and put.
use Rattle.std.proofs.Common.{◌≡◌, ◌≢◌, ℕ, ◌+◌, ◌-◌, ◌*◌, ◌/◌, ◌<◌, ◌≤◌, min, Bool, true, false, cond, not, ◌&&◌, ◌==◌, List, [], ◌∷◌, ◌++◌, length, take, drop, get_or, set, refl, sym, ap, subst, ◌∙◌, arith, inl, ⊎_elim, eqb, eq-eqb, ltb, leb, Option, Some, None, is_some}
use Rattle.std.proofs.lemmas.Bool.{cases_eq, cases_lt, cases_Bool, ne_eqb, eqb-true, lt-ltb, le-ltb}
use Rattle.std.specs.List.{range_with_len, list_any}
use Rattle.v7_layout.specs.declared.inode.Inode.{Inode}
use Rattle.v7_layout.specs.Numbers.{field}
use Rattle.files_model.specs.Among.{is_among}
use Rattle.files_model.specs.Attributes.{set_node, set_attr}
use Rattle.files_model.specs.declared.attributes.Attr.{Attr}
use Rattle.files_model.specs.declared.attributes.FileId.{FileId}
use Rattle.files_model.specs.declared.attributes.Kind.{Kind}
use Rattle.files_model.specs.declared.attributes.Kind.TheVariants.{Regular, Directory, Link}
use Rattle.files_model.specs.declared.attributes.Sattr.{Sattr}
use Rattle.files_model.specs.declared.call.Call.TheVariants.{Setattr}
use Rattle.files_model.specs.declared.credential.Cred.{Cred}
use Rattle.files_model.specs.declared.reply.Reply.{Reply}
use Rattle.files_model.specs.declared.reply.Reply.TheVariants as reply
use Rattle.files_model.specs.declared.reply.Stat.{Stat}
use Rattle.files_model.specs.declared.reply.Stat.TheVariants as stat
use Rattle.files_model.specs.Files.{Node, sectors_of, clipped, live}
use Rattle.files_model.specs.Permission as permission
use Rattle.files_model.specs.Step.{attr_of, with_node, at_live, unless, setattr_refusal, setattr_row, step}
use Rattle.files_model.specs.Torn.{Asked}
use Rattle.stable.specs.Puts.{put_all}
use Rattle.stable.specs.Store.{Image}
use Rattle.v7_map.specs.Frame.{Frame, Place, Body, Single, Double, head_of, is_directory, address_of, listed, frame}
use Rattle.v7_read.specs.Found.{IsFile}
use Rattle.v7_map.specs.Image.{IsImage, sector_at, inode_at, inode_sector, inode_offset, isize_of}
use Rattle.v7_map.specs.Plan.{PutsInode}
use Rattle.v7_map.specs.Plans.{IsPlanOf}
use Rattle.v7_map.specs.Stored.{is_standing, stored_attr}
use Rattle.v7_map.specs.View.{view, node_at}
use Rattle.v7_map.specs.Weak.{IsStrong}
use Rattle.v7_read.specs.declared.found.Found.{Found}
use Rattle.v7_map.proofs.AnyFrame.{frame-IsFrame}
use Rattle.v7_map.proofs.Prefixes.{put_all-append}
use Rattle.v7_map.proofs.Puts.{put_all-below}
use Rattle.v7_map.proofs.Ranges.{inode_sector-inside}
use Rattle.v7_map.proofs.Splices.{PutsInode-bytes}
use Rattle.v7_map.proofs.Standing.{live-standing, attr_of-stored}
use Rattle.v7_map.proofs.Walks.{any_at, among-range}
use Rattle.v7_sets.specs.Sets.{AreSetsOf}
use Rattle.v7_plans.specs.Resizing.{StoresNode, KeepsBlocks, IsCut, IsCleanTo, CutsAddresses, AreLeft, AreSet}
use Rattle.v7_plans.specs.Setting.{put_inode}
use Rattle.v7_plans.proofs.Quieting.{quiet-frame, quiet-inodes}
use Rattle.v7_plans.proofs.Setattr.{setattr-sets, accepted-size}
use Rattle.v7_plans.proofs.SetPlans.{setattr-plan, shorter-file, clean-shorter}
use Rattle.plan_file.specs.Contents.{MapPuts, none, one}
use Rattle.plan_file.specs.Found.{ReplacesInode}
use Rattle.plan_file.specs.Grown.{stored_inode}
use Rattle.plan_file.specs.Set.{zero_puts, AreKeptPuts, AreShorterPuts, AreSetPuts, kept, shorter, given, IsPlannedSet}
use Rattle.plan_file.specs.Shorter.{LeftPuts, gone, left, is_dropped}
use Rattle.plan_file.proofs.Freed.{free-of, sets-after}
use Rattle.plan_file.proofs.Giving.{length-given, given-free}
use Rattle.plan_file.proofs.Known.{inode_is, used, live_is, read_only-is, at_single, at_body}
use Rattle.plan_file.proofs.Storing.{set-attr, set-mode, stored-node, stored-used, same-places}
use Rattle.plan_file.proofs.Zeroed.{AreZeros, zeroed}

module _ (image : Image) (strong : IsStrong (frame image)) (whole : IsImage image) (file : FileId) (found : Found) (is : IsFile image file found) (wanted : Sattr) (cred : Cred) (now : ℕ)
    (allowed : setattr_refusal found.read_only (stored_attr file.ino found.inode) wanted cred ≡ None) where
  abbrev n : Node
  n = node_at image file.ino

  abbrev m : Node
  m = set_node n wanted now

  abbrev attr : Attr
  attr = set_attr (stored_attr file.ino found.inode) wanted now

  abbrev asked : Asked
  asked = (Setattr file wanted, cred)

  is_used : not ((inode_at image file.ino).mode == 0) ≡ true
  is_used = used image strong whole file found is

  used_head : ((frame image).head file.ino).is_used ≡ true
  unfolding frame
  used_head = is_used

  live_n : live (view image) file ≡ Some n
  live_n = live_is image strong whole file found is

  attr_is : stored_attr file.ino found.inode ≡ attr_of file.ino n
  attr_is = ap (stored_attr file.ino) is.inode ∙ sym (attr_of-stored image strong file.ino is_used)

  allowed_n : setattr_refusal (view image).read_only (attr_of file.ino n) wanted cred ≡ None
  allowed_n = (λ z. setattr_refusal (sym (read_only-is image strong whole file found is) z) (sym attr_is z) wanted cred) ∙ allowed

  attr_m : attr ≡ attr_of file.ino m
  attr_m = ap (λ a. set_attr a wanted now) attr_is ∙ sym (set-attr file.ino n wanted now)

  small : m.mode < 4096
  small = let low : (attr_of file.ino n).mode < 4096 = omega arith in
      let h = set-mode (attr_of file.ino n) wanted now low in subst (λ (a : Attr). a.mode < 4096) (sym (set-attr file.ino n wanted now)) h

  -- the answer
  answered : reply.Attr attr ≡ (step (view image) (Setattr file wanted) cred now).0
  unfolding setattr_row
  answered = ap reply.Attr attr_m ∙ sym (
      ap (λ o. (at_live (view image) o (λ q. unless (view image) (setattr_refusal (view image).read_only (attr_of file.ino q) wanted cred) (reply.Attr (attr_of file.ino (set_node q wanted now)), with_node (view image) file.ino (set_node q wanted now)))).0) live_n
      ∙ ap (λ r. (unless (view image) r (reply.Attr (attr_of file.ino m), with_node (view image) file.ino m)).0) allowed_n)

  -- the inode that is put
  abbrev v : List ℕ → ℕ → Inode
  v direct single = stored_inode (inode_at image file.ino) (attr_of file.ino m) direct single

  v_is : (direct : List ℕ) (single : ℕ) → stored_inode found.inode attr direct single ≡ v direct single
  v_is direct single z = stored_inode (is.inode z) (attr_m z) direct single

  -- its sector, on an image in which that sector is as before
  puts_v : (next : Image) (direct : List ℕ) (single : ℕ) (last : List ℕ) → ReplacesInode found.sector file.ino (stored_inode found.inode attr direct single) last
      → sector_at next 1 ≡ sector_at image 1 → sector_at next (inode_sector file.ino) ≡ sector_at image (inode_sector file.ino) → PutsInode next file.ino last (v direct single)
  puts_v next direct single last r first here =
      let inside = inode_is image strong whole file found is in
      let long : length (sector_at next (inode_sector file.ino)) ≡ 512 = ap length here ∙ whole (inode_sector file.ino) [] (inode_sector-inside image strong.weak file.ino inside).2 in
      let inside' = (λ z. leb 1 file.ino && leb file.ino ((field (first z) 0 2 - 2) * 8)) ∙ inside in
      let bytes = PutsInode-bytes next file.ino r.bytes (v direct single) inside' long r.long (r.reads ∙ v_is direct single) in
      let last_is = r.is ∙ ap (λ s. take (inode_offset file.ino) s ++ r.bytes ++ drop (inode_offset file.ino + length r.bytes) s) (is.sector ∙ sym here) in
      subst (λ b. PutsInode next file.ino b (v direct single)) (sym last_is) bytes

  -- the sets, where the blocks of the file afterwards are some of those before, and these are dropped
  sets_are : (puts : List (ℕ × List ℕ)) → IsPlanOf image (asked ∷ []) now puts → (freed : List ℕ)
      → ((j : ℕ) → j ≢ file.ino → (p : Place) → (frame (put_all puts image)).address j p ≡ (frame image).address j p)
      → ((p : Place) → (frame (put_all puts image)).address file.ino p ≢ 0 → (frame (put_all puts image)).address file.ino p ≡ (frame image).address file.ino p)
      → ((p : Place) → (frame image).address file.ino p ≢ 0 → (frame (put_all puts image)).address file.ino p ≡ 0 → is_among ((frame image).address file.ino p) freed ≡ true)
      → ((a : ℕ) → ((p : Place) → (frame image).address file.ino p ≢ 0 → (frame (put_all puts image)).address file.ino p ≡ 0 → (frame image).address file.ino p ≢ a) → is_among a freed ≡ false)
      → (blocks inodes : List Bool) → AreSetsOf image blocks inodes → AreSetsOf (put_all puts image) (given freed blocks) inodes
  unfolding frame
  sets_are puts plan freed others stay back only blocks inodes are =
      let first : sector_at (put_all puts image) 1 ≡ sector_at image 1 = put_all-below puts image 2 1 plan.past (omega arith) in
      let room = are.blocks_room in
      sets-after image strong file n live_n (asked ∷ []) now m (setattr-sets (view image) file wanted cred now n live_n allowed_n) puts plan blocks inodes (given freed blocks) are
      (given-free (frame image) (frame (put_all puts image)) file.ino freed strong.weak (ap (λ b. field b 0 2) first) (ap (λ b. field b 2 4) first) others stay back only blocks (free-of image blocks inodes are) (omega arith))
      (length-given freed blocks)

  size_n : found.inode.size ≡ n.size
  size_n = ap (λ (x : Inode). x.size) is.inode

  size_m : attr.size ≡ m.size
  size_m = ap (λ (a : Attr). a.size) attr_m

  -- ---- the file keeps its blocks

  module _ (puts : List (ℕ × List ℕ)) (x : AreKeptPuts image file.ino found attr puts) (le : found.inode.size ≤ attr.size) where
    abbrev first : List (ℕ × List ℕ)
    first = zero_puts image (inode_at image file.ino) m.size

    abbrev mid : Image
    mid = put_all first image

    abbrev w : Inode
    w = v (inode_at image file.ino).direct (inode_at image file.ino).single

    le_m : n.size ≤ m.size
    le_m = omega (arith, le, size_n, size_m)

    file_grows : n.size < m.size → is_directory ((frame image).head file.ino) ≡ false
    unfolding frame set_node
    file_grows lt = ⊎_elim
        (λ (d : eqb ((inode_at image file.ino).mode / 4096) 4 ≡ true).
        let s = (accepted-size (view image).read_only (attr_of file.ino n) wanted cred allowed_n).directory in absurd (no_size wanted.size d s lt))
        (λ (f : eqb ((inode_at image file.ino).mode / 4096) 4 ≡ false). f)
        (cases_Bool (eqb ((inode_at image file.ino).mode / 4096) 4))
      where
        no_size : (o : Option ℕ) → eqb ((inode_at image file.ino).mode / 4096) 4 ≡ true → (is_some o && permission.is_directory n.kind) ≡ false → n.size < (set_node n (record wanted { size = o }) now).size → ⊥
        no_size None d s lt = omega arith
        no_size (Some size) d s lt =
            let yes' : permission.is_directory n.kind ≡ true = ap (λ t. permission.is_directory (cond t Directory (cond (eqb ((inode_at image file.ino).mode / 4096) 10) Link Regular))) d in
            let no' : permission.is_directory n.kind ≡ false = s in clash (permission.is_directory n.kind) yes' no'
          where
            clash : (t : Bool) → t ≡ true → t ≡ false → ⊥
            clash true a b = cc
            clash false a b = cc

    zeros_are : AreZeros image file.ino m.size first
    zeros_are = zeroed image strong whole file.ino m.size is_used le_m file_grows

    same_frame : frame mid ≡ frame image
    same_frame = quiet-frame first image zeros_are.quiet

    same_at : (s : ℕ) → s < isize_of image → sector_at mid s ≡ sector_at image s
    same_at s lt = put_all-below first image (isize_of image) s zeros_are.high lt

    inode_mid : inode_at mid file.ino ≡ inode_at image file.ino
    inode_mid = quiet-inodes first image zeros_are.quiet file.ino

    strong_mid : IsStrong (frame mid)
    strong_mid = subst IsStrong (sym same_frame) strong

    w_mid : w ≡ stored_inode (inode_at mid file.ino) (attr_of file.ino m) (inode_at mid file.ino).direct (inode_at mid file.ino).single
    w_mid = ap (λ (q : Inode). stored_inode q (attr_of file.ino m) q.direct q.single) (sym inode_mid)

    used_mid : ((frame mid).head file.ino).is_used ≡ true
    used_mid = ap (λ (f : Frame). (f.head file.ino).is_used) same_frame ∙ used_head

    address_w : (p : Place) → address_of mid (head_of w) p ≡ (frame mid).address file.ino p
    address_w p = ap (λ (q : Inode). address_of mid (head_of q) p) w_mid
        ∙ same-places mid file.ino n m (inode_at mid file.ino).direct (inode_at mid file.ino).single small strong_mid used_mid refl refl p

    stores : StoresNode mid file.ino m w
    stores = subst (StoresNode mid file.ino m) (sym w_mid) (stored-node mid file.ino n m (inode_at mid file.ino).direct (inode_at mid file.ino).single small)

    keeps : KeepsBlocks mid file.ino w
    keeps = record {
      body = λ k nz. address_w (Body k);
      single = λ nz. address_w Single;
      below = λ k lt. address_w (Body k);
      directory = λ d. (ap (λ (q : Inode). q.direct) (sym inode_mid), ap (λ (q : Inode). q.single) (sym inode_mid));
    }

    cut : IsCut mid w
    unfolding frame
    cut = record {
      past = λ k ge. address_w (Body k) ∙ strong_mid.none_past file.ino k (subst (λ s. sectors_of s ≤ k) (sym (ap (λ (q : Inode). q.size) inode_mid)) (sectors_less n.size m.size k le_m ge));
      single_needed = λ nz. (λ z. list_any (λ k. not (address_w (Body k) z == 0)) (range_with_len 10 128)) ∙ strong_mid.single_needed file.ino (λ z. nz (address_w Single ∙ z));
    }
      where
        sectors_less : (s t k : ℕ) → s ≤ t → sectors_of t ≤ k → sectors_of s ≤ k
        sectors_less s t k le ge = omega arith

    clean : IsCleanTo mid file.ino w.size
    clean k lt nz =
        let same : (frame mid).address file.ino (Body k) ≡ (frame image).address file.ino (Body k) = ap (λ (f : Frame). f.address file.ino (Body k)) same_frame in
        (λ z. clipped m.size k (sector_at mid (same z))) ∙ zeros_are.clean k lt (λ z. nz (same ∙ z)) ∙ (λ z. clipped m.size k (clipped (sym inode_mid z).size k (sector_at mid (sym same z))))

    replaces : ReplacesInode found.sector file.ino (stored_inode found.inode attr (inode_at image file.ino).direct (inode_at image file.ino).single) x.last
    replaces = subst (λ (q : Inode). ReplacesInode found.sector file.ino (stored_inode found.inode attr q.direct q.single) x.last) is.inode x.replaces

    puts_w : PutsInode mid file.ino x.last w
    unfolding frame
    puts_w =
        let inside = inode_sector-inside image strong.weak file.ino (inode_is image strong whole file found is) in
        let three : 3 ≤ isize_of image = strong.weak.sizes.low in
        puts_v mid (inode_at image file.ino).direct (inode_at image file.ino).single x.last replaces (same_at 1 (omega arith)) (same_at (inode_sector file.ino) inside.1)

    all_puts : puts ≡ first ++ (inode_sector file.ino, x.last) ∷ []
    all_puts = x.is ∙ (λ z. zero_puts image (is.inode z) (size_m z) ++ (inode_sector file.ino, x.last) ∷ [])

    planned : IsPlanOf image (asked ∷ []) now (first ++ (inode_sector file.ino, x.last) ∷ []) × AreSet mid (put_inode mid file.ino x.last) file.ino w
    planned = setattr-plan image file wanted cred now n first w x.last strong whole live_n allowed_n zeros_are.quiet stores keeps cut clean puts_w

    final : put_all (first ++ (inode_sector file.ino, x.last) ∷ []) image ≡ put_inode mid file.ino x.last
    final = put_all-append first ((inode_sector file.ino, x.last) ∷ []) image

    own : (p : Place) → (frame (put_all (first ++ (inode_sector file.ino, x.last) ∷ []) image)).address file.ino p ≡ (frame image).address file.ino p
    own p = ap (λ (q : Image). (frame q).address file.ino p) final ∙ planned.1.own p ∙ address_w p ∙ ap (λ (f : Frame). f.address file.ino p) same_frame

    others : (j : ℕ) → j ≢ file.ino → (p : Place) → (frame (put_all (first ++ (inode_sector file.ino, x.last) ∷ []) image)).address j p ≡ (frame image).address j p
    others j ne p = ap (λ (q : Image). (frame q).address j p) final ∙ planned.1.others j ne p ∙ ap (λ (f : Frame). f.address j p) same_frame

    pub kept-done : IsPlannedSet image file wanted cred now puts (reply.Attr attr) []
    kept-done = subst (λ ps. IsPlannedSet image file wanted cred now ps (reply.Attr attr) []) (sym all_puts) (record {
      plan = planned.0;
      answered = answered;
      sets = sets_are (first ++ (inode_sector file.ino, x.last) ∷ []) planned.0 [] others (λ p nz. own p) (λ p nz z. absurd (nz (sym (own p) ∙ z))) (λ a h. refl);
    })

  -- ---- the file gets shorter

  module _ (puts : List (ℕ × List ℕ)) (freed : List ℕ) (x : AreShorterPuts image file.ino found attr puts freed) (lt : attr.size < found.inode.size) where
    abbrev count : ℕ
    count = sectors_of m.size

    abbrev u : Inode
    u = v x.direct x.new.single

    less : m.size < n.size
    less = omega (arith, lt, size_n, size_m)

    regular : n.kind ≡ Regular
    unfolding set_node
    regular =
        let s = accepted-size (view image).read_only (attr_of file.ino n) wanted cred allowed_n in by_size wanted.size less s.directory s.link
      where
        by_kind : (k : Kind) → permission.is_directory k ≡ false → permission.is_link k ≡ false → k ≡ Regular
        by_kind Regular d l = refl
        by_kind Directory d l = absurd (cc)
        by_kind Link d l = absurd (cc)

        by_size : (o : Option ℕ) → (set_node n (record wanted { size = o }) now).size < n.size → (is_some o && permission.is_directory n.kind) ≡ false → (is_some o && permission.is_link n.kind) ≡ false → n.kind ≡ Regular
        by_size None q d l = absurd (omega arith)
        by_size (Some size) q d l = by_kind n.kind d l

    no_directory : is_directory ((frame image).head file.ino) ≡ false
    unfolding frame
    no_directory = by_type (eqb ((inode_at image file.ino).mode / 4096) 4) (eqb ((inode_at image file.ino).mode / 4096) 10) regular
      where
        by_type : (a b : Bool) → cond a Directory (cond b Link Regular) ≡ Regular → a ≡ false
        by_type true b e = absurd (cc)
        by_type false b e = refl

    old_at : (k : ℕ) → k < 138 → get_or x.old.body k 0 ≡ (frame image).address file.ino (Body k)
    old_at = at_body image strong whole file found is x.old (min (length image) 1048576) refl x.places

    old_single : x.old.single ≡ (frame image).address file.ino Single
    old_single = at_single image strong whole file found is x.old (min (length image) 1048576) refl x.places

    past_zero : (k : ℕ) → 138 ≤ k → (frame image).address file.ino (Body k) ≡ 0
    past_zero k ge = ⊎_elim (λ (z : (frame image).address file.ino (Body k) ≡ 0). z) (λ (nz : (frame image).address file.ino (Body k) ≢ 0). let l : k < 138 = ((frame-IsFrame image).places file.ino (Body k) nz).1 in absurd (omega arith)) (cases_eq ((frame image).address file.ino (Body k)) 0)

    size_c : sectors_of attr.size ≡ count
    size_c = ap sectors_of size_m

    -- the new places, sector by sector
    new_low : (k : ℕ) → k < count → get_or x.new.body k 0 ≡ get_or x.old.body k 0
    new_low k l = x.cut.body k ∙ (λ z. cond (ltb k (size_c z)) (get_or x.old.body k 0) 0) ∙ ap (λ t. cond t (get_or x.old.body k 0) 0) (lt-ltb k count l)

    new_high : (k : ℕ) → count ≤ k → get_or x.new.body k 0 ≡ 0
    new_high k g = x.cut.body k ∙ (λ z. cond (ltb k (size_c z)) (get_or x.old.body k 0) 0) ∙ ap (λ t. cond t (get_or x.old.body k 0) 0) (le-ltb k count g)

    u_used : (head_of u).is_used ≡ true
    u_used = stored-used image file.ino n m x.direct x.new.single small strong used_head

    at_direct : (k : ℕ) → k < 10 → address_of image (head_of u) (Body k) ≡ get_or x.new.body k 0
    unfolding address_of
    at_direct k l =
        (λ z. cond (u_used z) (cond (lt-ltb k 10 l z) (get_or x.direct k 0) (cond (ltb k 138) (listed image x.new.single (k - 10)) 0)) 0)
        ∙ x.are_direct k l

    at_listed : (k : ℕ) → 10 ≤ k → k < 138 → address_of image (head_of u) (Body k) ≡ listed image x.new.single (k - 10)
    unfolding address_of
    at_listed k g l =
        (λ z. cond (u_used z) (cond (le-ltb k 10 g z) (get_or x.direct k 0) (cond (lt-ltb k 138 l z) (listed image x.new.single (k - 10)) 0)) 0)

    at_past : (k : ℕ) → 138 ≤ k → address_of image (head_of u) (Body k) ≡ 0
    unfolding address_of
    at_past k g =
        (λ z. cond (u_used z) (cond (le-ltb k 10 (ten k g) z) (get_or x.direct k 0) (cond (le-ltb k 138 g z) (listed image x.new.single (k - 10)) 0)) 0)
      where
        ten : (k : ℕ) → 138 ≤ k → 10 ≤ k
        ten k g = omega arith

    at_map : address_of image (head_of u) Single ≡ x.new.single
    unfolding address_of
    at_map = λ z. cond (u_used z) x.new.single 0

    listed_none : x.new.single ≡ 0 → (k : ℕ) → listed image x.new.single (k - 10) ≡ 0
    listed_none z k = ap (λ t. cond t 0 (field (sector_at image x.new.single) (4 * (k - 10)) 4)) (eq-eqb x.new.single 0 z)

    -- through a block of addresses that is kept, all addresses are as before
    listed_some : x.new.single ≢ 0 → (k : ℕ) → 10 ≤ k → k < 138 → listed image x.new.single (k - 10) ≡ (frame image).address file.ino (Body k)
    unfolding frame address_of
    listed_some nz k g l =
        let same : x.new.single ≡ (inode_at image file.ino).single = x.cut.same nz ∙ old_single ∙ ap (λ t. cond t (inode_at image file.ino).single 0) is_used in
        ap (λ a. listed image a (k - 10)) same
        ∙ (λ z. cond (sym is_used z) (cond (sym (le-ltb k 10 g) z) (get_or (inode_at image file.ino).direct k 0) (cond (sym (lt-ltb k 138 l) z) (listed image (inode_at image file.ino).single (k - 10)) 0)) 0)

    -- with no block of addresses none is left past the tenth sector
    none_left : x.new.single ≡ 0 → (k : ℕ) → 10 ≤ k → k < 138 → get_or x.new.body k 0 ≡ 0
    none_left z k g l = ⊎_elim
        (λ (e : get_or x.new.body k 0 ≡ 0). e)
        (λ (nz : get_or x.new.body k 0 ≢ 0).
        let gone' : (frame image).address file.ino Single ≡ 0 = sym old_single ∙ sym (x.cut.kept k g l nz) ∙ z in
        let low : k < count = ⊎_elim (λ (a : k < count). a) (λ (b : count ≤ k). absurd (nz (new_high k b))) (cases_lt k count) in
        absurd (nz (new_low k low ∙ old_at k l ∙ (frame-IsFrame image).through file.ino k g gone')))
        (cases_eq (get_or x.new.body k 0) 0)

    no_type : eqb ((inode_at image file.ino).mode / 4096) 4 ≡ false
    unfolding frame
    no_type = no_directory

    keeps_u : KeepsBlocks image file.ino u
    keeps_u = record {
      body = λ k nz. ⊎_elim
          (λ (l : k < 10). ⊎_elim
          (λ (low : k < count). at_direct k l ∙ new_low k low ∙ old_at k (omega arith))
          (λ (high : count ≤ k). absurd (nz (at_direct k l ∙ new_high k high)))
          (cases_lt k count))
          (λ (g : 10 ≤ k). ⊎_elim
          (λ (l : k < 138). ⊎_elim
          (λ (z : x.new.single ≡ 0). absurd (nz (at_listed k g l ∙ listed_none z k)))
          (λ (some : x.new.single ≢ 0). at_listed k g l ∙ listed_some some k g l)
          (cases_eq x.new.single 0))
          (λ (out : 138 ≤ k). absurd (nz (at_past k out)))
          (cases_lt k 138))
          (cases_lt k 10);
      single = λ nz. at_map ∙ x.cut.same (λ z. nz (at_map ∙ z)) ∙ old_single;
      below = λ k low. ⊎_elim
          (λ (l : k < 10). at_direct k l ∙ new_low k low ∙ old_at k (omega arith))
          (λ (g : 10 ≤ k). ⊎_elim
          (λ (l : k < 138). ⊎_elim
          (λ (z : x.new.single ≡ 0). at_listed k g l ∙ listed_none z k ∙ sym (none_left z k g l) ∙ new_low k low ∙ old_at k l)
          (λ (some : x.new.single ≢ 0). at_listed k g l ∙ listed_some some k g l)
          (cases_eq x.new.single 0))
          (λ (out : 138 ≤ k). at_past k out ∙ sym (past_zero k out))
          (cases_lt k 138))
          (cases_lt k 10);
      directory = λ d. absurd (clash (eqb (u.mode / 4096) 4) d (ap (λ t. eqb t 4) (stored-node image file.ino n m x.direct x.new.single small).type ∙ no_type));
    }
      where
        clash : (t : Bool) → t ≡ true → t ≡ false → ⊥
        clash true a b = cc
        clash false a b = cc

    puts_u : PutsInode image file.ino x.last u
    puts_u = puts_v image x.direct x.new.single x.last x.replaces refl refl

    stores_u : StoresNode image file.ino m u
    stores_u = stored-node image file.ino n m x.direct x.new.single small

    double_zero : address_of image (head_of u) Double ≡ 0
    unfolding frame address_of
    double_zero = (λ z. cond (u_used z) (inode_at image file.ino).double 0) ∙ (λ z. cond (sym is_used z) (inode_at image file.ino).double 0) ∙ strong.weak.no_double file.ino

    of_dropped : (o d : ℕ) → is_dropped o d ≡ true → (o ≢ 0) × (d ≡ 0)
    of_dropped o d e = ((λ z. differ (eqb o 0) (eq-eqb o 0 z) (first' (not (eqb o 0)) (eqb d 0) e)), eqb-true d 0 (second' (not (eqb o 0)) (eqb d 0) e))
      where
        first' : (s t : Bool) → (s && t) ≡ true → s ≡ true
        first' true t e = refl
        first' false t e = absurd (cc)

        second' : (s t : Bool) → (s && t) ≡ true → t ≡ true
        second' true t e = e
        second' false t e = absurd (cc)

        differ : (t : Bool) → t ≡ true → not t ≡ true → ⊥
        differ true a b = cc
        differ false a b = cc

    to_dropped : (o d : ℕ) → o ≢ 0 → d ≡ 0 → is_dropped o d ≡ true
    to_dropped o d nz z = (λ q. not (ne_eqb o 0 nz q) && (eq-eqb d 0 z q))

    -- where the blocks of the file are to stand
    module _ (list : List (ℕ × List ℕ)) (plan : IsPlanOf image (asked ∷ []) now list)
        (on_body : (k : ℕ) → k < 138 → (frame (put_all list image)).address file.ino (Body k) ≡ get_or x.new.body k 0) (on_past : (k : ℕ) → 138 ≤ k → (frame (put_all list image)).address file.ino (Body k) ≡ 0)
        (on_single : (frame (put_all list image)).address file.ino Single ≡ x.new.single) (on_double : (frame (put_all list image)).address file.ino Double ≡ 0)
        (on_others : (j : ℕ) → j ≢ file.ino → (p : Place) → (frame (put_all list image)).address j p ≡ (frame image).address j p) where
      stay : (p : Place) → (frame (put_all list image)).address file.ino p ≢ 0 → (frame (put_all list image)).address file.ino p ≡ (frame image).address file.ino p
      stay (Body k) nz = ⊎_elim
          (λ (l : k < 138). ⊎_elim
          (λ (low : k < count). on_body k l ∙ new_low k low ∙ old_at k l)
          (λ (high : count ≤ k). absurd (nz (on_body k l ∙ new_high k high)))
          (cases_lt k count))
          (λ (out : 138 ≤ k). absurd (nz (on_past k out)))
          (cases_lt k 138)
      stay Single nz = on_single ∙ x.cut.same (λ z. nz (on_single ∙ z)) ∙ old_single
      stay Double nz = absurd (nz on_double)

      back : (p : Place) → (frame image).address file.ino p ≢ 0 → (frame (put_all list image)).address file.ino p ≡ 0 → is_among ((frame image).address file.ino p) freed ≡ true
      back (Body k) nz z = ⊎_elim
          (λ (l : k < 138). ap (λ a. is_among a freed) (sym (old_at k l)) ∙ x.dropped.body k l (to_dropped (get_or x.old.body k 0) (get_or x.new.body k 0) (λ q. nz (sym (old_at k l) ∙ q)) (sym (on_body k l) ∙ z)))
          (λ (out : 138 ≤ k). absurd (nz (past_zero k out)))
          (cases_lt k 138)
      back Single nz z = ap (λ a. is_among a freed) (sym old_single) ∙ x.dropped.single (to_dropped x.old.single x.new.single (λ q. nz (sym old_single ∙ q)) (sym on_single ∙ z))
      back Double nz z = absurd (nz (strong.weak.no_double file.ino))

      only : (a : ℕ) → ((p : Place) → (frame image).address file.ino p ≢ 0 → (frame (put_all list image)).address file.ino p ≡ 0 → (frame image).address file.ino p ≢ a) → is_among a freed ≡ false
      only a h = x.dropped.others a
          (λ k l d e. let t = of_dropped (get_or x.old.body k 0) (get_or x.new.body k 0) d in h (Body k) (λ z. t.0 (old_at k l ∙ z)) (on_body k l ∙ t.1) (sym (old_at k l) ∙ e))
          (λ d e. let t = of_dropped x.old.single x.new.single d in h Single (λ z. t.0 (old_single ∙ z)) (on_single ∙ t.1) (sym old_single ∙ e))

      shorter_done : IsPlannedSet image file wanted cred now list (reply.Attr attr) freed
      shorter_done = record { plan = plan; answered = answered; sets = sets_are list plan freed on_others stay back only }

    clean_u : IsCleanTo image file.ino u.size
    clean_u = clean-shorter image file.ino m.size strong.weak whole (omega (arith, less))

    -- one put
    module _ (all : (k : ℕ) → k < 138 → address_of image (head_of u) (Body k) ≡ get_or x.new.body k 0) where
      cut_u : IsCut image u
      cut_u = record {
        past = λ k g. ⊎_elim (λ (l : k < 138). all k l ∙ new_high k g) (λ (out : 138 ≤ k). at_past k out) (cases_lt k 138);
        single_needed = λ nz.
            let l = x.cut.is_left (λ z. nz (at_map ∙ z)) in
            any_at (λ k. not (address_of image (head_of u) (Body k) == 0)) (range_with_len 10 128) x.cut.left (among-range x.cut.left 10 128 l.0 (let high : x.cut.left < 138 = l.1 in omega arith))
            (ap not (ne_eqb (address_of image (head_of u) (Body x.cut.left)) 0 (λ z. l.2 (sym (all x.cut.left l.1) ∙ z))));
      }

      one_planned : IsPlanOf image (asked ∷ []) now ((inode_sector file.ino, x.last) ∷ []) × AreSet image (put_inode image file.ino x.last) file.ino u
      one_planned = setattr-plan image file wanted cred now n [] u x.last strong whole live_n allowed_n tt stores_u keeps_u cut_u clean_u puts_u

      one_done : IsPlannedSet image file wanted cred now ((inode_sector file.ino, x.last) ∷ []) (reply.Attr attr) freed
      one_done = shorter_done ((inode_sector file.ino, x.last) ∷ []) one_planned.0
          (λ k l. one_planned.1.own (Body k) ∙ all k l) (λ k g. one_planned.1.own (Body k) ∙ at_past k g) (one_planned.1.own Single ∙ at_map) (one_planned.1.own Double ∙ double_zero) one_planned.1.others

    -- two
    module _ (bytes : List ℕ) (long : length bytes ≡ 512) (some : x.new.single ≢ 0) (reads : (k : ℕ) → 10 ≤ k → k < 138 → field bytes (4 * (k - 10)) 4 ≡ get_or x.new.body k 0) where
      by : CutsAddresses image file.ino u x.new.single x.cut.left bytes
      by =
          let l = x.cut.is_left some in
          let below : x.cut.left < count = ⊎_elim (λ (a : x.cut.left < count). a) (λ (b : count ≤ x.cut.left). absurd (l.2 (new_high x.cut.left b))) (cases_lt x.cut.left count) in record {
            long = long;
            single = at_map;
            there = some;
            direct = λ k a b. at_direct k a ∙ new_high k b;
            stays = λ k a b c. reads k a b ∙ new_low k c ∙ old_at k b;
            gone = λ k a b c. reads k a b ∙ new_high k c;
            high = l.0;
            small = l.1;
            below = below;
            some = λ z. l.2 (new_low x.cut.left below ∙ old_at x.cut.left l.1 ∙ z);
          }

      two_planned : IsPlanOf image (asked ∷ []) now ((inode_sector file.ino, x.last) ∷ (x.new.single, bytes) ∷ []) × AreLeft image (set (put_inode image file.ino x.last) x.new.single bytes) file.ino u x.new.single bytes
      two_planned = shorter-file image file wanted cred now n u x.last x.new.single x.cut.left bytes strong whole live_n allowed_n regular (omega (arith, less)) stores_u keeps_u puts_u by

      two_done : IsPlannedSet image file wanted cred now ((inode_sector file.ino, x.last) ∷ (x.new.single, bytes) ∷ []) (reply.Attr attr) freed
      two_done = shorter_done ((inode_sector file.ino, x.last) ∷ (x.new.single, bytes) ∷ []) two_planned.0
          (λ k l. ⊎_elim (λ (a : k < 10). two_planned.1.direct k a ∙ at_direct k a) (λ (a : 10 ≤ k). two_planned.1.listed k a l ∙ reads k a l) (cases_lt k 10))
          two_planned.1.past two_planned.1.single two_planned.1.double two_planned.1.others

    by_left : (maps : List (ℕ × List ℕ)) → LeftPuts x.old x.new maps → IsPlannedSet image file wanted cred now ((inode_sector file.ino, x.last) ∷ maps) (reply.Attr attr) freed
    by_left maps (gone z) = one_done (λ k l. ⊎_elim (λ (a : k < 10). at_direct k a) (λ (a : 10 ≤ k). at_listed k a l ∙ listed_none z k ∙ sym (none_left z k a l)) (cases_lt k 10))
    by_left maps (left puts' some changes) = by_changes puts' changes
      where
        by_changes : (ps : List (ℕ × List ℕ)) → MapPuts x.old x.new ps → IsPlannedSet image file wanted cred now ((inode_sector file.ino, x.last) ∷ ps) (reply.Attr attr) freed
        by_changes ps (none same) = one_done (λ k l. ⊎_elim (λ (a : k < 10). at_direct k a) (λ (a : 10 ≤ k). at_listed k a l ∙ listed_some some k a l ∙ sym (old_at k l) ∙ sym (same k a l)) (cases_lt k 10))
        by_changes ps (one bytes changed long ge l differs reads) = two_done bytes long some reads

    pub shorter-done : IsPlannedSet image file wanted cred now puts (reply.Attr attr) freed
    shorter-done = subst (λ ps. IsPlannedSet image file wanted cred now ps (reply.Attr attr) freed) (sym x.is) (by_left x.maps x.left)

  -- either
  pub set-done : (puts : List (ℕ × List ℕ)) (freed : List ℕ) → AreSetPuts image file.ino found attr puts freed → IsPlannedSet image file wanted cred now puts (reply.Attr attr) freed
  set-done puts freed (kept le x) = kept-done puts x le
  set-done puts freed (shorter list lt x) = shorter-done puts freed x lt

-- ---- nothing is planned

nothing_set : (image : Image) (file : FileId) (wanted : Sattr) (cred : Cred) (now : ℕ) (status : Stat) → IsStrong (frame image) → step (view image) (Setattr file wanted) cred now ≡ (reply.Refused status, view image)
    → IsPlannedSet image file wanted cred now [] (reply.Refused status) []
nothing_set image file wanted cred now status strong e = record {
  plan = record { past = tt; inside = tt; whole = tt; prefixes = record { weak = strong.weak; torn = inl refl }; strong = strong; after = sym (ap (λ p. p.1) e) };
  answered = sym (ap (λ p. p.0) e);
  sets = λ blocks inodes are. are;
}

pub refused-set : (image : Image) → IsStrong (frame image) → IsImage image → (file : FileId) (found : Found) → IsFile image file found → (wanted : Sattr) (cred : Cred) (now : ℕ) (status : Stat)
    → setattr_refusal found.read_only (stored_attr file.ino found.inode) wanted cred ≡ Some status → IsPlannedSet image file wanted cred now [] (reply.Refused status) []
unfolding setattr_row
refused-set image strong whole file found is wanted cred now status e =
    let q : Node = node_at image file.ino in
    let used' = used image strong whole file found is in
    let same : stored_attr file.ino found.inode ≡ attr_of file.ino q = ap (stored_attr file.ino) is.inode ∙ sym (attr_of-stored image strong file.ino used') in
    let refusal : setattr_refusal (view image).read_only (attr_of file.ino q) wanted cred ≡ Some status = (λ z. setattr_refusal (sym (read_only-is image strong whole file found is) z) (sym same z) wanted cred) ∙ e in
    nothing_set image file wanted cred now status strong (
    ap (λ o. at_live (view image) o (λ q. unless (view image) (setattr_refusal (view image).read_only (attr_of file.ino q) wanted cred) (reply.Attr (attr_of file.ino (set_node q wanted now)), with_node (view image) file.ino (set_node q wanted now)))) (live_is image strong whole file found is)
    ∙ ap (λ r. unless (view image) r (reply.Attr (attr_of file.ino (set_node q wanted now)), with_node (view image) file.ino (set_node q wanted now))) refusal)

pub stale-set : (image : Image) → IsStrong (frame image) → (file : FileId) (wanted : Sattr) (cred : Cred) (now : ℕ) → is_standing image file ≡ false → IsPlannedSet image file wanted cred now [] (reply.Refused stat.Stale) []
unfolding setattr_row
stale-set image strong file wanted cred now stale =
    nothing_set image file wanted cred now stat.Stale strong (
    ap (λ o. at_live (view image) o (λ q. unless (view image) (setattr_refusal (view image).read_only (attr_of file.ino q) wanted cred) (reply.Attr (attr_of file.ino (set_node q wanted now)), with_node (view image) file.ino (set_node q wanted now))))
    (live-standing image strong file ∙ ap (λ b. cond b (Some (node_at image file.ino)) None) stale))

-- the same of what is equal
pub same-planned : (image : Image) (file : FileId) (wanted : Sattr) (cred : Cred) (now : ℕ) {puts puts' : List (ℕ × List ℕ)} {answer answer' : Reply} {freed freed' : List ℕ} → puts ≡ puts' → answer ≡ answer' → freed ≡ freed'
    → IsPlannedSet image file wanted cred now puts' answer' freed' → IsPlannedSet image file wanted cred now puts answer freed
same-planned image file wanted cred now {puts} {puts'} {answer} {answer'} {freed} {freed'} a b c planned =
    subst (λ ps. IsPlannedSet image file wanted cred now ps answer freed) (sym a) (subst (λ r. IsPlannedSet image file wanted cred now puts' r freed) (sym b) (subst (λ f. IsPlannedSet image file wanted cred now puts' answer' f) (sym c) planned))
