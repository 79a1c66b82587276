-- A put of the block of addresses of a file or directory, which the inode names already, and which keeps the addresses below the size.
use Rattle.std.proofs.Common.{◌≡◌, ◌≢◌, ℕ, ◌-◌, ◌*◌, ◌/◌, ◌%◌, ◌<◌, ◌≤◌, Bool, true, false, cond, List, [], length, get_or, set, refl, sym, ap, subst, ◌∙◌, arith, ⊎_elim, eqb, ltb, length-set, get_or-set_other, get_or-set_same, Some, None}
use Rattle.std.proofs.lemmas.Bool.{cases_eq, cases_lt, cases_Bool, ne_eqb}
use Rattle.std.specs.FinMap.{empty}
use Rattle.v7_layout.specs.Numbers.{field, part}
use Rattle.files_model.specs.Files.{clipped, sectors_of, tabulated}
use Rattle.files_model.proofs.Maps.{tabulated_same}
use Rattle.stable.specs.Store.{Image}
use Rattle.v7_map.specs.Image.{sector_at, isize_of, inode_at}
use Rattle.v7_map.specs.Frame.{Head, Place, Body, Single, Double, head_of, is_directory, address_of, listed, slots_of, slot_in, slot_of, frame}
use Rattle.v7_map.specs.Tree.{tree}
use Rattle.v7_map.specs.Weak.{IsWeak, IsGood}
use Rattle.v7_map.specs.View.{body_of, body_at, held}
use Rattle.v7_map.proofs.Frames.{same_places, same_slots_of, cond_same, no_slots, map_range_same}
use Rattle.v7_map.proofs.Data.{same_inode}
use Rattle.v7_plans.specs.Placed.{IsMine}
use Rattle.v7_plans.specs.Quiet.{IsMuted}
use Rattle.v7_plans.proofs.Local.{Elsewhere, weak_local, same-IsTree}
use Rattle.v7_map.proofs.AnyFrame.{frame-IsFrame}

module _ (old : Image) (i a : ℕ) (bytes : List ℕ) (weak : IsWeak (frame old)) (used : ((frame old).head i).is_used ≡ true)
    (stays : (k : ℕ) → 10 ≤ k → k < 138 → k < sectors_of ((frame old).head i).size → field bytes (4 * (k - 10)) 4 ≡ (frame old).address i (Body k))
    (is : (frame old).address i Single ≡ a) (there : a ≢ 0) where
  new : Image
  new = set old a bytes

  data_block : (isize_of old ≤ a) × (3 ≤ isize_of old) × (a < length old)
  unfolding frame
  data_block =
      let nonzero : (frame old).address i Single ≢ 0 = λ z. there (sym is ∙ z) in
      let d = weak.data_block i Single nonzero in
      let within = weak.sizes.within in
      (subst (λ b. isize_of old ≤ b) is d.0, weak.sizes.low, (let h : a < (frame old).fsize = subst (λ b. b < (frame old).fsize) is d.1 in omega arith))

  below_same : (s : ℕ) → s < isize_of old → sector_at new s ≡ sector_at old s
  unfolding new
  below_same s h = let d = data_block in get_or-set_other old a s bytes [] (let low : isize_of old ≤ a = d.0 in λ e. omega arith)

  first : sector_at new 1 ≡ sector_at old 1
  first = let d = data_block in let low : 3 ≤ isize_of old = d.1 in below_same 1 (omega arith)

  inodes_same : (j : ℕ) → inode_at new j ≡ inode_at old j
  inodes_same j = same_inode old new first (λ s _ lt. below_same s lt) j

  -- a block that stands elsewhere stays
  elsewhere : (j : ℕ) (p : Place) → (frame old).address j p ≢ 0 → ((i ≡ j) × (Single ≡ p) → ⊥) → sector_at new ((frame old).address j p) ≡ sector_at old ((frame old).address j p)
  unfolding new
  elsewhere j p nonzero other = get_or-set_other old a ((frame old).address j p) bytes [] (λ e.
      other (weak.unshared i j Single p (λ z. there (sym is ∙ z)) (is ∙ sym e)))

  pub map-head : (j : ℕ) → (frame (set old a bytes)).head j ≡ (frame old).head j
  unfolding frame new
  map-head j = ap head_of (inodes_same j)

  head_new : (j : ℕ) → (frame new).head j ≡ (frame old).head j
  unfolding frame
  head_new j = ap head_of (inodes_same j)

  pub map-address_other : (j : ℕ) → j ≢ i → (p : Place) → (frame (set old a bytes)).address j p ≡ (frame old).address j p
  unfolding frame new
  map-address_other j ne p = ap (λ m. address_of new (head_of m) p) (inodes_same j) ∙ same_places old new (head_of (inode_at old j)) (λ q _ nonzero. elsewhere j q nonzero (λ e. ne (sym e.0))) p

  -- the places of this file: the direct ones and the maps stay, the others are those of the new bytes
  pub map-address_direct : (k : ℕ) → k < 10 → (frame (set old a bytes)).address i (Body k) ≡ (frame old).address i (Body k)
  unfolding frame new address_of
  map-address_direct k lt = ap (λ m. address_of new (head_of m) (Body k)) (inodes_same i) ∙ cond_same (head_of (inode_at old i)).is_used _ _ 0 (λ _. let h : ltb k 10 ≡ true = grind arith in
      (λ z. cond (h z) (get_or (head_of (inode_at old i)).direct k 0) (cond (ltb k 138) (listed new (head_of (inode_at old i)).single (k - 10)) 0))
      ∙ (λ z. cond (sym h z) (get_or (head_of (inode_at old i)).direct k 0) (cond (ltb k 138) (listed old (head_of (inode_at old i)).single (k - 10)) 0)))

  pub map-address_single : (frame (set old a bytes)).address i Single ≡ (frame old).address i Single
  unfolding frame new address_of
  map-address_single = ap (λ m. address_of new (head_of m) Single) (inodes_same i)

  pub map-address_double : (frame (set old a bytes)).address i Double ≡ (frame old).address i Double
  unfolding frame new address_of
  map-address_double = ap (λ m. address_of new (head_of m) Double) (inodes_same i)

  pub map-address_past : (k : ℕ) → 138 ≤ k → (frame (set old a bytes)).address i (Body k) ≡ 0
  unfolding frame new address_of
  map-address_past k le = let b : ltb k 10 ≡ false = grind arith in let c : ltb k 138 ≡ false = grind arith in
      (λ z. cond ((head_of (inode_at new i)).is_used) (cond (b z) (get_or (head_of (inode_at new i)).direct k 0) (cond (c z) (listed new (head_of (inode_at new i)).single (k - 10)) 0)) 0)
      ∙ both (head_of (inode_at new i)).is_used
    where
      both : (b : Bool) → ◌≡◌ {A = ℕ} (cond b 0 0) 0
      both true = refl
      both false = refl

  pub map-address_listed : (k : ℕ) → 10 ≤ k → k < 138 → (frame (set old a bytes)).address i (Body k) ≡ field bytes (4 * (k - 10)) 4
  unfolding frame new address_of
  map-address_listed k ge lt =
      let d = data_block in
      let b : ltb k 10 ≡ false = grind arith in let c : ltb k 138 ≡ true = grind arith in
      let h : Head = head_of (inode_at old i) in
      let single : h.single ≡ a = ap (λ u. cond u h.single 0) (sym used) ∙ is in
      let no : eqb a 0 ≡ false = ne_eqb a 0 there in
      ap (λ m. address_of new (head_of m) (Body k)) (inodes_same i)
      ∙ (λ z. cond (used z) (cond (b z) (get_or h.direct k 0) (cond (c z) (listed new (single z) (k - 10)) 0)) 0)
      ∙ (λ z. cond (no z) 0 (field (sector_at new a) (4 * (k - 10)) 4))
      ∙ ap (λ s. field s (4 * (k - 10)) 4) (get_or-set_same old a bytes [] d.2)

  -- what is below the size stays
  below_stays : (k : ℕ) → k < sectors_of ((frame old).head i).size → (frame new).address i (Body k) ≡ (frame old).address i (Body k)
  unfolding new
  below_stays k lt = ⊎_elim
      (λ (low : k < 10). map-address_direct k low)
      (λ (ge : 10 ≤ k). ⊎_elim (λ (in' : k < 138). map-address_listed k ge in' ∙ stays k ge in' lt) (λ (out : 138 ≤ k). map-address_past k out ∙ sym (past_zero k out)) (cases_lt k 138))
      (cases_lt k 10)
    where
      past_zero : (k : ℕ) → 138 ≤ k → (frame old).address i (Body k) ≡ 0
      past_zero k out = ⊎_elim (λ (z : (frame old).address i (Body k) ≡ 0). z) (λ (nz : (frame old).address i (Body k) ≢ 0). let lt : k < 138 = ((frame-IsFrame old).places i (Body k) nz).1 in absurd (omega arith)) (cases_eq ((frame old).address i (Body k)) 0)

  own_slots : is_directory ((frame old).head i) ≡ true → slots_of new (head_of (inode_at old i)) ≡ slots_of old (head_of (inode_at old i))
  unfolding slots_of frame
  own_slots dir = cond_same (is_directory (head_of (inode_at old i))) _ _ [] (λ d. map_range_same (slot_in new (head_of (inode_at old i))) (slot_in old (head_of (inode_at old i))) 0 ((head_of (inode_at old i)).size / 16) (λ k lt.
      ap (λ a. slot_of (part (sector_at new a) (16 * (k % 32)) 16)) (ap (λ m. address_of new (head_of m) (Body (k / 32))) (sym (inodes_same i)) ∙ below_stays (k / 32) (omega arith))
      ∙ ap (λ bytes. slot_of (part bytes (16 * (k % 32)) 16)) (elsewhere i (Body (k / 32)) (weak.needed i (k / 32) dir (omega arith)) (λ e. clash (k / 32) e.1))))
    where
      clash : (k : ℕ) → Single ≢ Body k
      clash k e = cc

  slots_stay : (j : ℕ) → (frame new).slots j ≡ (frame old).slots j
  unfolding frame
  slots_stay j = ap (λ m. slots_of new (head_of m)) (inodes_same j) ∙ ⊎_elim
      (λ (e : j ≡ i). subst (λ q. slots_of new (head_of (inode_at old q)) ≡ slots_of old (head_of (inode_at old q))) (sym e) (⊎_elim
      (λ (dir : is_directory ((frame old).head i) ≡ true). own_slots dir)
      (λ (file : is_directory ((frame old).head i) ≡ false). no_slots new (head_of (inode_at old i)) file ∙ sym (no_slots old (head_of (inode_at old i)) file))
      (cases_Bool (is_directory ((frame old).head i)))))
      (λ (ne : j ≢ i). same_slots_of old new (head_of (inode_at old j)) (same_places old new (head_of (inode_at old j)) (λ q _ nonzero. elsewhere j q nonzero (λ e. ne (sym e.0))))
      (λ d k lt. elsewhere j (Body k) (weak.needed j k d lt) (λ e. ne (sym e.0))))
      (cases_eq j i)

  pub map-tree : tree (frame (set old a bytes)) ≡ tree (frame old)
  unfolding frame new
  map-tree z = record { inodes = (field (first z) 0 2 - 2) * 8; is_dir = λ j. is_directory (head_of (inodes_same j z)); slots = λ j. slots_stay j z }

  same_body_of : (h : Head) (address : Place → ℕ) → ((k : ℕ) → address (Body k) ≢ 0 → address (Body k) ≢ a) → body_of new h address ≡ body_of old h address
  unfolding body_of new
  same_body_of h address apart = ap (cond (is_directory h) empty) (tabulated_same _ _ _ (λ q lt. ⊎_elim
      (λ (z : address (Body q) ≡ 0). subst (λ b. held new h.size q b ≡ held old h.size q b) (sym z) refl)
      (λ (nz : address (Body q) ≢ 0). ap (λ s. cond (eqb (address (Body q)) 0) None (Some (clipped h.size q s))) (get_or-set_other old a (address (Body q)) bytes [] (apart q nz)))
      (cases_eq (address (Body q)) 0)))

  body_other : (j : ℕ) → j ≢ i → body_at new (frame new) j ≡ body_at old (frame old) j
  unfolding new
  body_other j ne = (λ z. body_of new (map-head j z) (λ p. map-address_other j ne p z)) ∙ same_body_of ((frame old).head j) ((frame old).address j)
      (λ k nz e. ne (sym (weak.unshared i j Single (Body k) (λ z. there (sym is ∙ z)) (is ∙ sym e)).0))

  pub map-elsewhere : Elsewhere i (frame old) (frame (set old a bytes))
  unfolding frame new
  map-elsewhere = record {
    sectors = length-set old a bytes;
    mark = λ z. field (first z) 440 4;
    isize = λ z. field (first z) 0 2;
    fsize = λ z. field (first z) 2 4;
    heads = λ j ne. map-head j;
    addresses = map-address_other;
  }

  pub map-weak : (target : Place → ℕ) → ((p : Place) → (frame (set old a bytes)).address i p ≡ target p)
      → ((p : Place) → target p ≢ 0 → IsMine (frame old) i (target p)) → ((p q : Place) → target p ≢ 0 → target p ≡ target q → p ≡ q) → target Double ≡ 0
      → IsWeak (frame (set old a bytes))
  unfolding new
  map-weak target at mine apart no_double = weak_local i (frame old) (frame (set old a bytes)) weak map-elsewhere (record {
    first = λ e. ap (λ (h : Head). h.is_used) (map-head i) ∙ subst (λ z. ((frame old).head z).is_used ≡ false) (sym e) weak.first;
    root = λ e. ap is_directory (map-head i) ∙ subst (λ z. is_directory ((frame old).head z) ≡ true) (sym e) weak.root;
    good = λ u. subst IsGood (sym (map-head i)) (weak.good i used);
    needed = λ k dir lt z. let d : is_directory ((frame old).head i) ≡ true = ap is_directory (sym (map-head i)) ∙ dir in
        let l : k < sectors_of ((frame old).head i).size = subst (λ (h : Head). k < sectors_of h.size) (map-head i) lt in weak.needed i k d l (sym (below_stays k l) ∙ z);
    mine = λ p nz. subst (IsMine (frame old) i) (sym (at p)) (mine p (λ z. nz (at p ∙ z)));
    apart = λ p q nz same. apart p q (λ z. nz (at p ∙ z)) (sym (at p) ∙ same ∙ at q);
    no_double = at Double ∙ no_double;
  }) (same-IsTree (frame old) (frame (set old a bytes)) weak.names map-tree (λ d k j name w s. ap (λ (h : Head). h.is_used) (map-head j) ∙ (weak.names.used d k j name w s).0))

  pub map-first : sector_at (set old a bytes) 1 ≡ sector_at old 1
  unfolding new
  map-first = first

  pub map-inodes : (j : ℕ) → inode_at (set old a bytes) j ≡ inode_at old j
  unfolding new
  map-inodes = inodes_same

  -- what a body holds stays
  own_body : body_at new (frame new) i ≡ body_at old (frame old) i
  unfolding body_of
  own_body =
      ap (λ h. cond (is_directory h) empty (tabulated (λ q. held new h.size q ((frame new).address i (Body q))) (sectors_of h.size))) (map-head' i)
      ∙ ap (cond (is_directory ((frame old).head i)) empty) (tabulated_same _ _ (sectors_of ((frame old).head i).size) (λ q lt. ap (held new ((frame old).head i).size q) (below_stays q lt) ∙ same_held q))
    where
      map-head' : (j : ℕ) → (frame new).head j ≡ (frame old).head j
      map-head' = head_new

      apart : (k : ℕ) → Single ≢ Body k
      apart k e = cc

      same_held : (q : ℕ) → held new ((frame old).head i).size q ((frame old).address i (Body q)) ≡ held old ((frame old).head i).size q ((frame old).address i (Body q))
      same_held q = ⊎_elim
          (λ (z : (frame old).address i (Body q) ≡ 0). subst (λ b. held new ((frame old).head i).size q b ≡ held old ((frame old).head i).size q b) (sym z) refl)
          (λ (nz : (frame old).address i (Body q) ≢ 0). ap (λ s. cond (eqb ((frame old).address i (Body q)) 0) None (Some (clipped ((frame old).head i).size q s))) (elsewhere i (Body q) nz (λ e. apart q e.1)))
          (cases_eq ((frame old).address i (Body q)) 0)

  pub map-bodies : (j : ℕ) → body_at (set old a bytes) (frame (set old a bytes)) j ≡ body_at old (frame old) j
  unfolding new
  map-bodies j = ⊎_elim
      (λ (e : j ≡ i). subst (λ q. body_at (set old a bytes) (frame (set old a bytes)) q ≡ body_at old (frame old) q) (sym e) own_body)
      (λ (ne : j ≢ i). body_other j ne)
      (cases_eq j i)

  pub map-inside : (3 ≤ a) × (a < length old)
  map-inside = let d = data_block in let low : isize_of old ≤ a = d.0 in let least : 3 ≤ isize_of old = d.1 in (omega arith, d.2)

  -- so the put doesn't show where the places are those of a weak image
  pub map-muted : length bytes ≡ 512
      → ((p : Place) → (frame (set old a bytes)).address i p ≢ 0 → IsMine (frame old) i ((frame (set old a bytes)).address i p))
      → ((p q : Place) → (frame (set old a bytes)).address i p ≢ 0 → (frame (set old a bytes)).address i p ≡ (frame (set old a bytes)).address i q → p ≡ q)
      → (frame (set old a bytes)).address i Double ≡ 0 → IsMuted i old (a, bytes)
  map-muted long mine apart double = let r = map-inside in let low : 3 ≤ a = r.0 in record {
    past = omega arith;
    inside = r.1;
    whole = long;
    weak = map-weak (λ p. (frame (set old a bytes)).address i p) (λ p. refl) mine apart double;
    same_first = map-first;
    same_tree = map-tree;
    same_heads = map-head;
    same_addresses = map-address_other;
    same_inodes = map-inodes;
    same_bodies = map-bodies;
  }
