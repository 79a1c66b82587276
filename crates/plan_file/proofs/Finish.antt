-- The last put of a plan for a file: the inode, with which all else appears.
use Rattle.std.proofs.Common.{◌≡◌, ◌≢◌, ℕ, ◌+◌, ◌-◌, ◌*◌, ◌/◌, ◌<◌, ◌≤◌, Bool, true, false, cond, not, ◌==◌, ◌||◌, List, get_or, set, refl, sym, ap, subst, ◌∙◌, arith, ⊎_elim, eqb, ltb, Option, Some, None, is_some}
use Rattle.std.proofs.lemmas.Bool.{cases_eq, cases_lt, ne_eqb, eqb-true}
use Rattle.std.specs.List.{range_with_len, list_any}
use Rattle.std.specs.FinMap.{get, empty}
use Rattle.v7_layout.specs.declared.inode.Inode.{Inode}
use Rattle.v7_layout.specs.Numbers.{field}
use Rattle.files_model.specs.declared.attributes.Kind.TheVariants.{Regular}
use Rattle.files_model.specs.Files.{Node, Sectors, sectors_of, tabulated}
use Rattle.files_model.specs.Step.{with_node}
use Rattle.files_model.proofs.Maps.{same_maps, get-tabulated, get-tabulated_above}
use Rattle.stable.specs.Store.{Image}
use Rattle.v7_map.specs.Image.{sector_at, isize_of, inode_at, inode_sector}
use Rattle.v7_map.specs.Frame.{Frame, Head, Place, Body, Single, Double, head_of, is_directory, address_of, place_of, listed, frame}
use Rattle.v7_map.specs.Tree.{Tree, tree, is_named}
use Rattle.v7_map.specs.Weak.{IsWeak, IsStrong, IsGood}
use Rattle.v7_map.specs.View.{view, node_of, body_of, held, kind_of}
use Rattle.files_model.specs.Batch.{IsRewrite}
use Rattle.files_model.specs.Among.{is_among}
use Rattle.plan_file.specs.Rewrite.{IsLayout, moved_inode, IsModeOf}
use Rattle.v7_sets.specs.Sets.{IsFreeBlock}
use Rattle.v7_map.specs.Plan.{PutsInode}
use Rattle.plan_file.proofs.Others.{ButOne, IsMine, IsFileIn, strong_but_one, but_one-trans, but_one-mine, free-mine, held-mine}
use Rattle.v7_map.proofs.Nodes.{StandsAs, view-node, is_file, size_of}
use Rattle.plan_file.proofs.Growth.{growth-address, growth-head, growth-but_one, growth-view}
use Rattle.files_model.proofs.Batches.{with_node_twice}
use Rattle.v7_map.proofs.Walks.{or_cases}

-- a place of the layout is a data block of this file alone
pub layout-mine : (f : Frame) (i : ℕ) (ks : List ℕ) (target : Place → ℕ) → IsWeak f → IsLayout f i ks target → (p : Place) → target p ≢ 0 → IsMine f i (target p)
layout-mine f i ks target weak lay p nz = ⊎_elim
    (λ (z : f.address i p ≡ 0). free-mine f i (target p) (lay.fresh p z nz))
    (λ (held : f.address i p ≢ 0). subst (IsMine f i) (sym (lay.kept p held)) (held-mine f i p weak held))
    (cases_eq (f.address i p) 0)

pub test_below : (k n : ℕ) → k < n → ltb k n ≡ true
test_below k n h = grind arith

pub test_above : (k n : ℕ) → n ≤ k → ltb k n ≡ false
test_above k n h = grind arith

-- before the inode's put: all is in its place but the inode
pub record IsReady (image : Image) (i : ℕ) (old new : Node) (target : Place → ℕ) (now : Image) : Type 0 where
  pub weak : IsWeak (frame now)
  pub but : ButOne i (frame image) (frame now)
  pub head : (frame now).head i ≡ (frame image).head i
  pub inode : inode_at now i ≡ inode_at image i
  pub sectors : Sectors
  pub is : view now ≡ with_node (view image) i (record old { sectors = sectors })
  pub maps : target Single ≢ 0 → (k : ℕ) → 10 ≤ k → k < 138 → field (sector_at now (target Single)) (4 * (k - 10)) 4 ≡ target (Body k)
  pub contents : (k : ℕ) → k < sectors_of new.size → held now new.size k (target (Body k)) ≡ get new.sectors k

module _ (image : Image) (i : ℕ) (old new : Node) (ks : List ℕ) (target : Place → ℕ)
    (strong : IsStrong (frame image)) (at : get (view image).nodes i ≡ Some old) (regular : old.kind ≡ Regular)
    (re : IsRewrite old new ks) (lay : IsLayout (frame image) i ks target)
    (now : Image) (ready : IsReady image i old new target now)
    (mode : ℕ) (is_mode : IsModeOf (inode_at image i) new mode) (direct : List ℕ) (directs : (k : ℕ) → k < 10 → get_or direct k 0 ≡ target (Body k))
    (bytes : List ℕ) (puts : PutsInode now i bytes (moved_inode (inode_at image i) new mode direct (target Single)))
    (used : ((frame image).head i).is_used ≡ true) (not_first : i ≢ 1) (not_root : i ≢ 2) (no_double : (inode_at image i).double ≡ 0) where
  n : Inode
  n = moved_inode (inode_at image i) new mode direct (target Single)

  s : StandsAs image i old
  s = view-node image i old at

  file_image : is_directory ((frame image).head i) ≡ false
  file_image = is_file image i old s regular

  type_some : 4 ≤ (inode_at image i).mode / 4096
  unfolding frame
  type_some = least ((inode_at image i).mode / 4096) (strong.weak.good i used).kind
    where
      least : (type : ℕ) → ((type == 4) || ((type == 8) || (type == 10))) ≡ true → 4 ≤ type
      least type e = ⊎_elim (λ (a : (type == 4) ≡ true). let s : type ≡ 4 = eqb-true type 4 a in omega arith)
          (λ (b : ((type == 8) || (type == 10)) ≡ true). ⊎_elim (λ (a : (type == 8) ≡ true). let s : type ≡ 8 = eqb-true type 8 a in omega arith) (λ (a : (type == 10) ≡ true). let s : type ≡ 10 = eqb-true type 10 a in omega arith) (or_cases (type == 8) (type == 10) b))
          (or_cases (type == 4) ((type == 8) || (type == 10)) e)

  n_used : (head_of n).is_used ≡ true
  unfolding frame n
  n_used = ap not (ne_eqb mode 0 (λ z. let t = type_some in let e = is_mode.type in omega arith))

  n_file : is_directory (head_of n) ≡ false
  unfolding frame n
  n_file = ap (λ t. eqb t 4) is_mode.type ∙ file_image

  both : (b : Bool) → ◌≡◌ {A = ℕ} (cond b 0 0) 0
  both true = refl
  both false = refl

  -- the places of the new inode
  places : (p : Place) → address_of now (head_of n) p ≡ target p
  unfolding address_of n n_used
  places Single = ap (λ b. cond b (target Single) 0) n_used
  places Double = ap (λ b. cond b (inode_at image i).double 0) n_used ∙ no_double ∙ sym lay.double
  places (Body k) = ap (λ b. cond b (place_of now (head_of n) (Body k)) 0) n_used ∙ ⊎_elim
      (λ (lt : k < 10). let b : ltb k 10 ≡ true = test_below k 10 lt in ap (λ b. cond b (get_or direct k 0) (cond (ltb k 138) (listed now (target Single) (k - 10)) 0)) b ∙ directs k lt)
      (λ (ge : 10 ≤ k). let b : ltb k 10 ≡ false = test_above k 10 ge in
      ap (λ b. cond b (get_or direct k 0) (cond (ltb k 138) (listed now (target Single) (k - 10)) 0)) b ∙ ⊎_elim
      (λ (lt : k < 138). let c : ltb k 138 ≡ true = test_below k 138 lt in ap (λ b. cond b (listed now (target Single) (k - 10)) 0) c ∙ in_map k ge lt)
      (λ (out : 138 ≤ k). let c : ltb k 138 ≡ false = test_above k 138 out in ap (λ b. cond b (listed now (target Single) (k - 10)) 0) c ∙ sym (lay.past k out))
      (cases_lt k 138))
      (cases_lt k 10)
    where
      in_map : (k : ℕ) → 10 ≤ k → k < 138 → listed now (target Single) (k - 10) ≡ target (Body k)
      in_map k ge lt = ⊎_elim
          (λ (z : target Single ≡ 0). ap (λ a. listed now a (k - 10)) z ∙ sym (⊎_elim (λ (e : target (Body k) ≡ 0). e) (λ (ne : target (Body k) ≢ 0). absurd (lay.mapped k ge ne z)) (cases_eq (target (Body k)) 0)))
          (λ (nz : target Single ≢ 0). ap (λ b. cond b 0 (field (sector_at now (target Single)) (4 * (k - 10)) 4)) (ne_eqb (target Single) 0 nz) ∙ ready.maps nz k ge lt)
          (cases_eq (target Single) 0)

  mine : (p : Place) → target p ≢ 0 → IsMine (frame image) i (target p)
  mine = layout-mine (frame image) i ks target strong.weak lay

  file_now : is_directory ((frame now).head i) ≡ false
  file_now = ap is_directory ready.head ∙ file_image

  blocks : (p : Place) → address_of now (head_of n) p ≢ 0 → isize_of now ≤ address_of now (head_of n) p
  unfolding frame
  blocks p nz = subst (λ a. isize_of now ≤ a) (sym (places p)) (but_one-mine i (frame image) (frame now) (target p) ready.but (mine p (λ z. nz (places p ∙ z)))).low

  last : Image
  last = set now (inode_sector i) bytes

  but : ButOne i (frame image) (frame last)
  unfolding last n
  but = but_one-trans i (frame image) (frame now) (frame last) ready.but (growth-but_one now i bytes n ready.weak puts file_now n_file blocks)

  address_last : (p : Place) → (frame last).address i p ≡ target p
  unfolding last n
  address_last p = growth-address now i bytes n ready.weak puts file_now n_file blocks p ∙ places p

  head_last : (frame last).head i ≡ head_of n
  unfolding last n
  head_last = growth-head now i bytes n ready.weak puts file_now n_file blocks

  good : IsGood (head_of n)
  unfolding frame n
  good = let g = strong.weak.good i used in record {
    kind = ap (λ t. (t == 4) || ((t == 8) || (t == 10))) is_mode.type ∙ g.kind;
    length = re.within;
    link = λ e. absurd (regular_no_link ((inode_at image i).mode / 4096) (ap (λ (m : Node). m.kind) s.is ∙ regular) (sym is_mode.type ∙ e));
    directory = λ e. absurd (four (mode / 4096) e n_file);
  }
    where
      regular_no_link : (type : ℕ) → kind_of type ≡ Regular → type ≡ 10 → ⊥
      regular_no_link type e ten = let f : kind_of 10 ≡ Regular = subst (λ z. kind_of z ≡ Regular) ten e in cc

      four : (type : ℕ) → type ≡ 4 → eqb type 4 ≡ false → ⊥
      four type e differ = let f : eqb 4 4 ≡ false = subst (λ z. eqb z 4 ≡ false) e differ in cc

  is_file_in : IsFileIn (frame image) (frame last) i
  is_file_in = record {
    used = ap (λ (h : Head). h.is_used) head_last ∙ n_used;
    good = subst IsGood (sym head_last) good;
    file = ap is_directory head_last ∙ n_file;
    mine = λ p nz. subst (IsMine (frame image) i) (sym (address_last p)) (mine p (λ z. nz (address_last p ∙ z)));
    apart = λ p q nz same. lay.apart p q (λ z. nz (address_last p ∙ z)) (sym (address_last p) ∙ same ∙ address_last q);
    no_double = address_last Double ∙ lay.double;
  }

  size_last : ((frame last).head i).size ≡ new.size
  unfolding n
  size_last = ap (λ (h : Head). h.size) head_last

  nlink_last : ((frame last).head i).nlink ≡ ((frame image).head i).nlink
  unfolding n frame
  nlink_last = ap (λ (h : Head). h.nlink) head_last

  past_last : (k : ℕ) → sectors_of new.size ≤ k → target (Body k) ≡ 0
  past_last k le = ⊎_elim (λ (z : target (Body k) ≡ 0). z)
      (λ (nz : target (Body k) ≢ 0). ⊎_elim
      (λ (z : (frame image).address i (Body k) ≡ 0). absurd (new_past k le (lay.added k z nz)))
      (λ (held : (frame image).address i (Body k) ≢ 0). absurd (held (strong.none_past i k (let e = size_of image i old s in let g = re.grows in omega arith))))
      (cases_eq ((frame image).address i (Body k)) 0))
      (cases_eq (target (Body k)) 0)
    where
      new_past : (k : ℕ) → sectors_of new.size ≤ k → is_among k ks ≡ true → ⊥
      new_past k le e = some_none k le (re.held k e)
        where
          some_none : (k : ℕ) → sectors_of new.size ≤ k → is_some (get new.sectors k) ≡ true → ⊥
          some_none k le e = elim (get new.sectors k) as (λ o. get new.sectors k ≡ o → is_some o ≡ true → ⊥) [
            | None ↦ λ q h. cc
            | Some b ↦ λ q h. let below : k < sectors_of new.size = re.body.below k b q in absurd (omega arith)
          ] refl e

  pub finish-strong : IsStrong (frame (set now (inode_sector i) bytes))
  unfolding last
  finish-strong = strong_but_one i (frame image) (frame last) strong.weak but not_first not_root is_file_in strong used nlink_last
      (λ k le. address_last (Body k) ∙ past_last k (subst (λ z. sectors_of z ≤ k) size_last le))
      (λ nz. (λ z. list_any (λ k. not (address_last (Body k) z == 0)) (range_with_len 10 128)) ∙ lay.map_needed (λ z. nz (address_last Single ∙ z)))

  -- the body of the new inode
  same_sectors : body_of now (head_of n) (address_of now (head_of n)) ≡ new.sectors
  unfolding body_of n
  same_sectors = (λ z. cond (n_file z) empty (tabulated (λ k. held now new.size k (places (Body k) z)) (sectors_of new.size)))
      ∙ same_maps (tabulated table (sectors_of new.size)) new.sectors (λ k. ⊎_elim
      (λ (lt : k < sectors_of new.size). get-tabulated table (sectors_of new.size) k lt ∙ ready.contents k lt)
      (λ (ge : sectors_of new.size ≤ k). get-tabulated_above table (sectors_of new.size) k ge ∙ sym (none_past k ge))
      (cases_lt k (sectors_of new.size)))
    where
      table : ℕ → Option (List ℕ)
      table k = held now new.size k (target (Body k))

      none_past : (k : ℕ) → sectors_of new.size ≤ k → get new.sectors k ≡ None
      none_past k le = elim (get new.sectors k) as (λ o. get new.sectors k ≡ o → o ≡ None) [
        | None ↦ λ q. refl
        | Some b ↦ λ q. let below : k < sectors_of new.size = re.body.below k b q in absurd (omega arith)
      ] refl

  node_last : node_of (tree (frame now)) i n (body_of now (head_of n) (address_of now (head_of n))) ≡ new
  unfolding n
  node_last = (λ z. record (node_of (ready.but.tree z) i n (same_sectors z)) { kind = kind_of (is_mode.type z); mode = is_mode.bits z })
      ∙ ap (λ (m : Node). record m { mode = new.mode; uid = new.uid; gid = new.gid; size = new.size; atime = new.atime; mtime = new.mtime; ctime = new.ctime; sectors = new.sectors }) s.is
      ∙ sym re.same

  pub finish-view : view (set now (inode_sector i) bytes) ≡ with_node (view image) i new
  unfolding last n
  finish-view =
      growth-view now i bytes n ready.weak puts file_now n_file blocks (ap (λ (m : Inode). m.generation) (sym ready.inode))
      (ap (λ t. is_named t i) ready.but.tree ∙ s.named) (subst (λ (t : Tree). i < t.inodes + 1) (sym ready.but.tree) s.within)
      ∙ (λ z. with_node (ready.is z) i (node_last z))
      ∙ with_node_twice (view image) i (record old { sectors = ready.sectors }) new

  -- the blocks that stand nowhere afterwards
  pub finish-free : (a : ℕ) → (IsFreeBlock (frame (set now (inode_sector i) bytes)) a → IsFreeBlock (frame image) a × ((p : Place) → target p ≢ a))
      × (IsFreeBlock (frame image) a → ((p : Place) → target p ≢ a) → IsFreeBlock (frame (set now (inode_sector i) bytes)) a)
  unfolding last
  finish-free a = (
    (λ free. (
      record {
        low = subst (λ z. z ≤ a) but.isize free.low;
        high = subst (λ z. a < z) but.fsize free.high;
        nowhere = λ j p. ⊎_elim
            (λ (e : j ≡ i) q. let here : (frame image).address i p ≡ a = ap (λ m. (frame image).address m p) (sym e) ∙ q in
            let nz : (frame image).address i p ≢ 0 = λ z. let low = free.low in let three = strong.weak.sizes.low in let same = but.isize in let zero : a ≡ 0 = sym here ∙ z in omega arith in
            free.nowhere i p (address_last p ∙ lay.kept p nz ∙ here))
            (λ (ne : j ≢ i) q. free.nowhere j p (but.addresses j ne p ∙ q))
            (cases_eq j i);
      },
      λ p e. free.nowhere i p (address_last p ∙ e),
    )),
    (λ free out. record {
      low = subst (λ z. z ≤ a) (sym but.isize) free.low;
      high = subst (λ z. a < z) (sym but.fsize) free.high;
      nowhere = λ j p. ⊎_elim
          (λ (e : j ≡ i) q. out p (sym (address_last p) ∙ ap (λ m. (frame last).address m p) (sym e) ∙ q))
          (λ (ne : j ≢ i) q. free.nowhere j p (sym (but.addresses j ne p) ∙ q))
          (cases_eq j i);
    }),
  )
