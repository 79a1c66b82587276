-- An inode with other attributes and another size may be put.
use Rattle.std.proofs.Common.{◌≡◌, ◌≢◌, ℕ, ◌/◌, ◌%◌, ◌<◌, ◌≤◌, Bool, true, false, cond, not, ◌||◌, List, refl, sym, ap, subst, ◌∙◌, arith, ⊎_elim, eqb, eq-eqb, Some, None}
use Rattle.std.proofs.lemmas.Bool.{cases_eq, cases_lt, cases_Bool, ne_eqb, eqb-true}
use Rattle.std.specs.Option.{option_map}
use Rattle.std.specs.FinMap.{get, empty}
use Rattle.v7_layout.specs.declared.inode.Inode.{Inode}
use Rattle.files_model.specs.Attributes.{cut_at}
use Rattle.files_model.specs.Files.{Node, sectors_of, clipped, tabulated}
use Rattle.files_model.specs.Permission as permission
use Rattle.files_model.specs.declared.attributes.Kind.TheVariants.{Regular, Directory, Link}
use Rattle.files_model.proofs.Maps.{get-tabulated, get-tabulated_above, tabulated_same}
use Rattle.stable.specs.Store.{Image}
use Rattle.v7_map.specs.Frame.{Frame, Place, Body, Single, Double, head_of, is_directory, address_of, slots_of, frame}
use Rattle.v7_map.specs.Image.{sector_at, inode_at}
use Rattle.v7_map.specs.Plan.{PutsInode}
use Rattle.v7_map.specs.Tree.{tree}
use Rattle.v7_map.specs.View.{node_of, node_at, body_of, held, kind_of}
use Rattle.v7_map.specs.Weak.{IsStrong, IsGood}
use Rattle.v7_map.proofs.Frames.{no_slots}
use Rattle.v7_plans.specs.Placed.{IsMine, IsPlaced}
use Rattle.v7_plans.specs.Resizing.{IsResized, StoresNode, KeepsBlocks, IsCut, IsCleanTo}
use Rattle.v7_plans.specs.Setting.{SetsInode, ShrinksTo}
use Rattle.v7_plans.proofs.Local.{held-mine}

-- a directory of the records is a directory of the files, and a link a link
directory_kind : (type : ℕ) → permission.is_directory (kind_of type) ≡ eqb type 4
directory_kind type = by_test (eqb type 4) (eqb type 10)
  where
    by_test : (a b : Bool) → permission.is_directory (cond a Directory (cond b Link Regular)) ≡ a
    by_test true b = refl
    by_test false true = refl
    by_test false false = refl

link_kind : (type : ℕ) → type ≡ 10 → permission.is_link (kind_of type) ≡ true
link_kind type e = ap (λ t. permission.is_link (kind_of t)) e

module _ (image : Image) (i : ℕ) (strong : IsStrong (frame image)) (used : ((frame image).head i).is_used ≡ true) (m : Node) (v : Inode) (re : IsResized (node_at image i) m) (stores : StoresNode image i m v) (keeps : KeepsBlocks image i v) where
  abbrev old : Inode
  old = inode_at image i

  abbrev f : Frame
  f = frame image

  size_is : v.size ≡ m.size
  size_is = ap (λ (x : Inode). x.size) stores.is

  good_old : IsGood (f.head i)
  good_old = strong.weak.good i used

  same_directory : is_directory (head_of v) ≡ is_directory (f.head i)
  unfolding frame
  same_directory = ap (λ t. eqb t 4) stores.type

  -- the type isn't 0, so the inode is used
  v_used : (head_of v).is_used ≡ true
  unfolding frame
  v_used = ap not (ne_eqb v.mode 0 (λ z. by_kind (eqb (old.mode / 4096) 4) (eqb (old.mode / 4096) 8) (eqb (old.mode / 4096) 10) refl refl refl good_old.kind (let t = stores.type in omega arith)))
    where
      by_kind : (a b c : Bool) → eqb (old.mode / 4096) 4 ≡ a → eqb (old.mode / 4096) 8 ≡ b → eqb (old.mode / 4096) 10 ≡ c → (a || (b || c)) ≡ true → old.mode / 4096 ≡ 0 → ⊥
      by_kind true b c x y w e z = let q = eqb-true (old.mode / 4096) 4 x in omega arith
      by_kind false true c x y w e z = let q = eqb-true (old.mode / 4096) 8 y in omega arith
      by_kind false false true x y w e z = let q = eqb-true (old.mode / 4096) 10 w in omega arith
      by_kind false false false x y w e z = absurd (cc)

  kept : (p : Place) → address_of image (head_of v) p ≢ 0 → address_of image (head_of v) p ≡ f.address i p
  unfolding frame address_of
  kept (Body k) nz = keeps.body k nz
  kept Single nz = keeps.single nz
  kept Double nz =
      (λ z. cond (v_used z) (stores.is z).double 0) ∙ (λ z. cond (sym used z) old.double 0)

  good_new : IsGood (head_of v)
  unfolding frame
  good_new = record {
    kind = (λ z. eqb (stores.type z) 4 || (eqb (stores.type z) 8 || eqb (stores.type z) 10)) ∙ good_old.kind;
    length = let w = re.within in let s : (head_of v).size ≡ m.size = size_is in omega (arith, w, s);
    link = λ t. let is : m.size ≡ old.size = re.link (link_kind (old.mode / 4096) (sym stores.type ∙ t)) in let l : old.size ≤ 1024 = good_old.link (sym stores.type ∙ t) in let s : (head_of v).size ≡ m.size = size_is in omega (arith, is, l, s);
    directory = λ t.
        let is : m.size ≡ old.size = (re.directory (directory_kind (old.mode / 4096) ∙ eq-eqb (old.mode / 4096) 4 (sym stores.type ∙ t))).0 in
        let d = good_old.directory (sym stores.type ∙ t) in
        let same : old.size ≡ v.size = sym is ∙ sym size_is in
        (subst (λ s. 32 ≤ s) same d.0, ap (λ s. s % 16) (sym same) ∙ d.1);
  }

  placed : IsCut image v → IsPlaced image i (head_of v)
  unfolding frame
  placed cut = record {
    good = λ u. good_new;
    mine = λ p nz. subst (IsMine f i) (sym (kept p nz)) (held-mine f i p strong.weak (λ z. nz (kept p nz ∙ z)));
    needed = λ k dir lt z.
        let is : m.size ≡ old.size = (re.directory (directory_kind (old.mode / 4096) ∙ sym same_directory ∙ dir)).0 in
        let low : k < sectors_of old.size = subst (λ s. k < sectors_of s) (size_is ∙ is) lt in
        strong.weak.needed i k (sym same_directory ∙ dir) low (sym (keeps.below k lt) ∙ z);
    apart = λ p q nz same. (strong.weak.unshared i i p q (λ z. nz (kept p nz ∙ z)) (sym (kept p nz) ∙ same ∙ kept q (λ z. nz (same ∙ z)))).1;
    no_double = ⊎_elim (λ (z : address_of image (head_of v) Double ≡ 0). z) (λ (nz : address_of image (head_of v) Double ≢ 0). kept Double nz ∙ strong.weak.no_double i) (cases_eq (address_of image (head_of v) Double) 0);
    past = cut.past;
    single = cut.single_needed;
  }

  same_slots : slots_of image (head_of v) ≡ f.slots i
  unfolding frame
  same_slots = ⊎_elim
      (λ (dir : is_directory (head_of v) ≡ true).
      let d = keeps.directory dir in
      let is : m.size ≡ old.size = (re.directory (directory_kind (old.mode / 4096) ∙ sym same_directory ∙ dir)).0 in
      λ z. slots_of image (record { is_used = (v_used ∙ sym used) z; type = stores.type z; nlink = (stores.is z).nlink; size = (size_is ∙ is) z; direct = d.0 z; single = d.1 z; double = (stores.is z).double }))
      (λ (file : is_directory (head_of v) ≡ false). no_slots image (head_of v) file ∙ sym (no_slots image (head_of old) (sym same_directory ∙ file)))
      (cases_Bool (is_directory (head_of v)))

  module _ (clean : IsCleanTo image i v.size) where
    -- a sector of the body
    one_sector : is_directory (head_of v) ≡ false → (k : ℕ) → k < sectors_of v.size → held image v.size k (address_of image (head_of v) (Body k)) ≡ option_map (clipped v.size k) (get (node_at image i).sectors k)
    unfolding frame body_of
    one_sector file k lt = ap (held image v.size k) (keeps.below k lt) ∙ ⊎_elim below' above' (cases_lt k (sectors_of old.size))
      where
        a : ℕ
        a = f.address i (Body k)

        body_is : (node_at image i).sectors ≡ tabulated (λ q. held image old.size q (f.address i (Body q))) (sectors_of old.size)
        body_is z = cond ((sym same_directory ∙ file) z) empty (tabulated (λ q. held image old.size q (f.address i (Body q))) (sectors_of old.size))

        below' : k < sectors_of old.size → held image v.size k (f.address i (Body k)) ≡ option_map (clipped v.size k) (get (node_at image i).sectors k)
        below' low = ⊎_elim
            (λ (z : f.address i (Body k) ≡ 0).
            ap (held image v.size k) z ∙ sym (ap (option_map (clipped v.size k)) (ap (λ s. get s k) body_is ∙ get-tabulated (λ q. held image old.size q (f.address i (Body q))) (sectors_of old.size) k low ∙ ap (held image old.size k) z)))
            (λ (nz : f.address i (Body k) ≢ 0).
            let no' : eqb (f.address i (Body k)) 0 ≡ false = ne_eqb (f.address i (Body k)) 0 nz in
            ap (λ t. cond t None (Some (clipped v.size k (sector_at image (f.address i (Body k)))))) no'
            ∙ ap Some (clean k lt nz)
            ∙ sym (ap (option_map (clipped v.size k)) (ap (λ s. get s k) body_is ∙ get-tabulated (λ q. held image old.size q (f.address i (Body q))) (sectors_of old.size) k low
            ∙ ap (λ t. cond t None (Some (clipped old.size k (sector_at image (f.address i (Body k)))))) no')))
            (cases_eq (f.address i (Body k)) 0)

        above' : sectors_of old.size ≤ k → held image v.size k (f.address i (Body k)) ≡ option_map (clipped v.size k) (get (node_at image i).sectors k)
        above' ge = ap (held image v.size k) (strong.none_past i k ge)
            ∙ sym (ap (option_map (clipped v.size k)) (ap (λ s. get s k) body_is ∙ get-tabulated_above (λ q. held image old.size q (f.address i (Body q))) (sectors_of old.size) k ge))

    sectors_are : body_of image (head_of v) (address_of image (head_of v)) ≡ m.sectors
    unfolding frame body_of cut_at
    sectors_are = ⊎_elim
        (λ (dir : is_directory (head_of v) ≡ true).
        ap (λ t. cond t empty (tabulated (λ k. held image v.size k (address_of image (head_of v) (Body k))) (sectors_of v.size))) dir
        ∙ sym (ap (λ t. cond t empty (tabulated (λ k. held image old.size k (f.address i (Body k))) (sectors_of old.size))) (sym same_directory ∙ dir))
        ∙ sym (re.directory (directory_kind (old.mode / 4096) ∙ sym same_directory ∙ dir)).1)
        (λ (file : is_directory (head_of v) ≡ false).
        ap (λ t. cond t empty (tabulated (λ k. held image v.size k (address_of image (head_of v) (Body k))) (sectors_of v.size))) file
        ∙ tabulated_same _ _ (sectors_of v.size) (one_sector file)
        ∙ ap (λ s. tabulated (λ k. option_map (clipped s k) (get (node_at image i).sectors k)) (sectors_of s)) size_is
        ∙ sym (re.sectors (directory_kind (old.mode / 4096) ∙ sym same_directory ∙ file)))
        (cases_Bool (is_directory (head_of v)))

    node_is : node_of (tree f) i v (body_of image (head_of v) (address_of image (head_of v))) ≡ m
    node_is =
        (λ z. record (node_at image i) {
          kind = kind_of (stores.type z);
          mode = stores.bits z;
          uid = (stores.is z).uid;
          gid = (stores.is z).gid;
          size = size_is z;
          atime = (stores.is z).atime;
          mtime = (stores.is z).mtime;
          ctime = (stores.is z).ctime;
          sectors = sectors_are z;
        })
        ∙ sym re.same

    pub resized-sets : IsCut image v → (b : List ℕ) → PutsInode image i b v → SetsInode image i v m b
    resized-sets cut b puts = record {
      puts = puts;
      placed = placed cut;
      used = v_used;
      same_kind = same_directory;
      same_slots = same_slots;
      nlink = ap (λ (x : Inode). x.nlink) stores.is;
      generation = ap (λ (x : Inode). x.generation) stores.is;
      is = node_is;
    }

    -- of a file, where its block of addresses is cut after that
    pub resized-shrinks : is_directory (f.head i) ≡ false → (b : List ℕ) → PutsInode image i b v → ShrinksTo image i v m b
    resized-shrinks file b puts = record {
      puts = puts;
      good = good_new;
      kept = kept;
      used = v_used;
      no_directory = same_directory ∙ file;
      was_none = file;
      nlink = ap (λ (x : Inode). x.nlink) stores.is;
      generation = ap (λ (x : Inode). x.generation) stores.is;
      is = node_is;
    }
