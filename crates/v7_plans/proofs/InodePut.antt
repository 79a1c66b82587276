-- The put of any inode: used or free before and after, file or directory. What the frame is, and what the view is of.
use Rattle.std.proofs.Common.{◌≡◌, ◌≢◌, ℕ, ◌-◌, ◌*◌, ◌<◌, ◌≤◌, true, false, cond, List, [], set, refl, sym, ap, subst, ◌∙◌, arith, ⊎_elim, eqb, length-set, get_or-set_other, Some, None}
use Rattle.std.proofs.lemmas.Bool.{cases_eq}
use Rattle.std.specs.FinMap.{empty}
use Rattle.v7_layout.specs.declared.inode.Inode.{Inode}
use Rattle.v7_layout.specs.Numbers.{field}
use Rattle.files_model.specs.Files.{clipped, sectors_of}
use Rattle.files_model.proofs.Maps.{tabulated_same}
use Rattle.stable.specs.Store.{Image}
use Rattle.v7_map.specs.Image.{sector_at, isize_of, inode_at, inode_sector}
use Rattle.v7_map.specs.Frame.{Head, Place, Body, Double, head_of, is_directory, address_of, slots_of, frame}
use Rattle.v7_map.specs.Tree.{tree}
use Rattle.v7_map.specs.Weak.{IsWeak, IsGood, IsTree}
use Rattle.v7_map.specs.View.{body_of, body_at, held}
use Rattle.v7_map.specs.Plan.{PutsInode}
use Rattle.v7_map.proofs.Frames.{same_places, same_slots_of}
use Rattle.v7_map.proofs.Inodes.{inode_here, inode_other}
use Rattle.v7_map.proofs.Data.{inode_below}
use Rattle.v7_plans.specs.Placed.{IsMine}
use Rattle.v7_plans.proofs.Local.{Elsewhere, weak_local, each}

module _ (old : Image) (i : ℕ) (bytes : List ℕ) (n : Inode) (weak : IsWeak (frame old)) (puts : PutsInode old i bytes n)
    (mine : (p : Place) → address_of old (head_of n) p ≢ 0 → IsMine (frame old) i (address_of old (head_of n) p))
    (needed : (k : ℕ) → is_directory (head_of n) ≡ true → k < sectors_of (head_of n).size → address_of old (head_of n) (Body k) ≢ 0) where
  new : Image
  new = set old (inode_sector i) bytes

  place : (2 ≤ inode_sector i) × (inode_sector i < isize_of old)
  unfolding frame
  place = (omega arith, inode_below (isize_of old) i puts.inside)

  other : (s : ℕ) → isize_of old ≤ s → sector_at new s ≡ sector_at old s
  unfolding new
  other s high = let p = place in let low : inode_sector i < isize_of old = p.1 in get_or-set_other old (inode_sector i) s bytes [] (λ e. omega arith)

  first : sector_at new 1 ≡ sector_at old 1
  unfolding new
  first = let p = place in let low : 2 ≤ inode_sector i = p.0 in get_or-set_other old (inode_sector i) 1 bytes [] (λ e. omega arith)

  here : inode_at new i ≡ n
  unfolding new
  here = inode_here old i bytes n weak puts

  others : (j : ℕ) → j ≢ i → inode_at new j ≡ inode_at old j
  unfolding new
  others j ne = inode_other old i bytes n weak puts j ne

  low_mine : (p : Place) → address_of old (head_of n) p ≢ 0 → sector_at new (address_of old (head_of n) p) ≡ sector_at old (address_of old (head_of n) p)
  unfolding frame
  low_mine p nz = other (address_of old (head_of n) p) (mine p nz).low

  data_stays : (j : ℕ) (p : Place) → (frame old).address j p ≢ 0 → sector_at new ((frame old).address j p) ≡ sector_at old ((frame old).address j p)
  unfolding frame
  data_stays j p nonzero = other ((frame old).address j p) (weak.data_block j p nonzero).0

  new_places : (p : Place) → address_of new (head_of n) p ≡ address_of old (head_of n) p
  new_places = same_places old new (head_of n) (λ q _ nonzero. low_mine q nonzero)

  pub put-head : (frame (set old (inode_sector i) bytes)).head i ≡ head_of n
  unfolding frame new
  put-head = ap head_of here

  pub put-address : (p : Place) → (frame (set old (inode_sector i) bytes)).address i p ≡ address_of old (head_of n) p
  unfolding frame new
  put-address p = ap (λ m. address_of new (head_of m) p) here ∙ new_places p

  pub put-slots : (frame (set old (inode_sector i) bytes)).slots i ≡ slots_of old (head_of n)
  unfolding frame new
  put-slots = ap (λ m. slots_of new (head_of m)) here ∙ same_slots_of old new (head_of n) new_places (λ directory k lt. low_mine (Body k) (needed k directory lt))

  pub put-elsewhere : Elsewhere i (frame old) (frame (set old (inode_sector i) bytes))
  unfolding frame new
  put-elsewhere = record {
    sectors = length-set old (inode_sector i) bytes;
    mark = λ z. field (first z) 440 4;
    isize = λ z. field (first z) 0 2;
    fsize = λ z. field (first z) 2 4;
    heads = λ j ne. ap head_of (others j ne);
    addresses = λ j ne p. ap (λ m. address_of new (head_of m) p) (others j ne) ∙ same_places old new (head_of (inode_at old j)) (λ q _ nonzero. data_stays j q nonzero) p;
  }

  pub put-slots_other : (j : ℕ) → j ≢ i → (frame (set old (inode_sector i) bytes)).slots j ≡ (frame old).slots j
  unfolding frame new
  put-slots_other j ne = ap (λ m. slots_of new (head_of m)) (others j ne)
      ∙ same_slots_of old new (head_of (inode_at old j)) (same_places old new (head_of (inode_at old j)) (λ q _ nonzero. data_stays j q nonzero)) (λ directory k lt. data_stays j (Body k) (weak.needed j k directory lt))

  -- the tree stays where this is a directory as before, with the same slots
  pub put-tree : is_directory (head_of n) ≡ is_directory ((frame old).head i) → slots_of old (head_of n) ≡ (frame old).slots i → tree (frame (set old (inode_sector i) bytes)) ≡ tree (frame old)
  unfolding new
  put-tree dir slots z = record {
    inodes = ((put-elsewhere.isize z) - 2) * 8;
    is_dir = λ j. each i (λ j. is_directory ((frame new).head j) ≡ is_directory ((frame old).head j)) (ap is_directory put-head ∙ dir) (λ j ne. ap is_directory (put-elsewhere.heads j ne)) j z;
    slots = λ j. each i (λ j. (frame new).slots j ≡ (frame old).slots j) (put-slots ∙ slots) put-slots_other j z;
  }

  pub put-weak : (i ≡ 1 → (head_of n).is_used ≡ false) → (i ≡ 2 → is_directory (head_of n) ≡ true) → ((head_of n).is_used ≡ true → IsGood (head_of n))
      → ((p q : Place) → address_of old (head_of n) p ≢ 0 → address_of old (head_of n) p ≡ address_of old (head_of n) q → p ≡ q) → address_of old (head_of n) Double ≡ 0
      → IsTree (frame (set old (inode_sector i) bytes)) (tree (frame (set old (inode_sector i) bytes))) → IsWeak (frame (set old (inode_sector i) bytes))
  put-weak first_free root_dir good apart no_double names = weak_local i (frame old) (frame (set old (inode_sector i) bytes)) weak put-elsewhere (record {
    first = λ e. ap (λ (h : Head). h.is_used) put-head ∙ first_free e;
    root = λ e. ap is_directory put-head ∙ root_dir e;
    good = λ u. subst IsGood (sym put-head) (good (ap (λ (h : Head). h.is_used) (sym put-head) ∙ u));
    needed = λ k directory lt z. needed k (ap is_directory (sym put-head) ∙ directory) (subst (λ (h : Head). k < sectors_of h.size) put-head lt) (sym (put-address (Body k)) ∙ z);
    mine = λ p nz. subst (IsMine (frame old) i) (sym (put-address p)) (mine p (λ z. nz (put-address p ∙ z)));
    apart = λ p q nz same. apart p q (λ z. nz (put-address p ∙ z)) (sym (put-address p) ∙ same ∙ put-address q);
    no_double = put-address Double ∙ no_double;
  }) names

  same_body_of : (h : Head) (address : Place → ℕ) → ((k : ℕ) → address (Body k) ≢ 0 → isize_of old ≤ address (Body k)) → body_of new h address ≡ body_of old h address
  unfolding body_of
  same_body_of h address high = ap (cond (is_directory h) empty) (tabulated_same _ _ _ (λ q lt. ⊎_elim
      (λ (z : address (Body q) ≡ 0). subst (λ b. held new h.size q b ≡ held old h.size q b) (sym z) refl)
      (λ (nz : address (Body q) ≢ 0). ap (λ s. cond (eqb (address (Body q)) 0) None (Some (clipped h.size q s))) (other (address (Body q)) (high q nz)))
      (cases_eq (address (Body q)) 0)))

  -- bodies and inodes, of which the view is made
  pub put-body_other : (j : ℕ) → j ≢ i → body_at (set old (inode_sector i) bytes) (frame (set old (inode_sector i) bytes)) j ≡ body_at old (frame old) j
  unfolding new frame
  put-body_other j ne = (λ z. body_of new (put-elsewhere.heads j ne z) (λ p. put-elsewhere.addresses j ne p z)) ∙ same_body_of ((frame old).head j) ((frame old).address j) (λ k nz. (weak.data_block j (Body k) nz).0)

  pub put-body : body_at (set old (inode_sector i) bytes) (frame (set old (inode_sector i) bytes)) i ≡ body_of old (head_of n) (address_of old (head_of n))
  unfolding new frame
  put-body = (λ z. body_of new (put-head z) (λ p. put-address p z)) ∙ same_body_of (head_of n) (address_of old (head_of n)) (λ k nz. (mine (Body k) nz).low)

  pub put-inode : inode_at (set old (inode_sector i) bytes) i ≡ n
  unfolding new
  put-inode = here

  pub put-inode_other : (j : ℕ) → j ≢ i → inode_at (set old (inode_sector i) bytes) j ≡ inode_at old j
  unfolding new
  put-inode_other = others

  pub put-first : sector_at (set old (inode_sector i) bytes) 1 ≡ sector_at old 1
  unfolding new
  put-first = first
