-- A block of addresses is trimmed.
use Rattle.std.proofs.Common.{◌≡◌, ◌≢◌, ◌⊎◌, inl, inr, ℕ, ◌-◌, ◌*◌, ◌<◌, ◌≤◌, Bool, true, false, cond, not, ◌==◌, ◌&&◌, ◌||◌, List, [], length, get_or, set, refl, sym, ap, subst, ◌∙◌, arith, ⊎_elim, ltb, eq-eqb, length-set, get_or-set_other, get_or-set_same}
use Rattle.std.proofs.lemmas.Bool.{cases_eq, cases_lt, cases_Bool, ne_eqb, lt-ltb, le-ltb}
use Rattle.v7_layout.specs.declared.inode.Inode.{Inode}
use Rattle.v7_layout.specs.Numbers.{field}
use Rattle.files_model.specs.Files.{sectors_of}
use Rattle.stable.specs.Store.{Image}
use Rattle.v7_map.specs.Image.{sector_at, isize_of, inode_at}
use Rattle.v7_map.specs.Frame.{Place, Body, Single, Double, head_of, address_of, listed, frame}
use Rattle.v7_map.specs.Weak.{IsWeak}
use Rattle.v7_map.proofs.Frames.{same_places, cond_same, and_left, and_right}
use Rattle.v7_map.proofs.Data.{same_inode}
use Rattle.v7_map.proofs.AnyFrame.{frame-IsFrame}
use Rattle.v7_map.proofs.Ranges.{address-inside}
use Rattle.v7_mend.specs.Keeps.{bare, KeepsFiles}
use Rattle.v7_mend.specs.Settled.{entry, holds_below, holds_in, trimmed}
use Rattle.v7_mend.specs.Trims.{has_map, trimmed_block, trimmed_at, Trims}
use Rattle.v7_mend.proofs.KeptFiles.{keeps_same}
use Rattle.v7_mend.proofs.Entries.{holds_same, entry-trimmed}

-- an address of a used inode that stands in its block of addresses
pub address_listed : (image : Image) (i k : ℕ) → ((frame image).head i).is_used ≡ true → 10 ≤ k → k < 138 → (frame image).address i (Body k) ≡ listed image (inode_at image i).single (k - 10)
unfolding frame address_of
address_listed image i k used low high =
    (λ z. cond (used z) (cond (le-ltb k 10 low z) (get_or (inode_at image i).direct k 0) (cond (lt-ltb k 138 high z) (listed image (inode_at image i).single (k - 10)) 0)) 0)

pub address_single : (image : Image) (i : ℕ) → ((frame image).head i).is_used ≡ true → (frame image).address i Single ≡ (inode_at image i).single
unfolding frame address_of
address_single image i used = ap (λ u. cond u (inode_at image i).single 0) used

pub address_far : (image : Image) (i k : ℕ) → 138 ≤ k → (frame image).address i (Body k) ≡ 0
address_far image i k out = ⊎_elim (λ (z : (frame image).address i (Body k) ≡ 0). z)
    (λ (nz : (frame image).address i (Body k) ≢ 0). let lt : k < 138 = ((frame-IsFrame image).places i (Body k) nz).1 in absurd (omega arith))
    (cases_eq ((frame image).address i (Body k)) 0)

module _ (old : Image) (i a : ℕ) (bytes : List ℕ) (weak : IsWeak (frame old)) (used : ((frame old).head i).is_used ≡ true)
    (is : (inode_at old i).single ≡ a) (there : a ≢ 0)
    (entries : (k : ℕ) → 10 ≤ k → k < 138 → entry bytes k ≡ cond (ltb k (sectors_of (inode_at old i).size)) (entry (sector_at old a) k) 0) where
  new : Image
  new = set old a bytes

  at_single : (frame old).address i Single ≡ a
  at_single = address_single old i used ∙ is

  inside : (3 ≤ a) × (isize_of old ≤ a) × (a < length old)
  inside = let nz : (frame old).address i Single ≢ 0 = λ z. there (sym at_single ∙ z) in
      subst (λ b. (3 ≤ b) × (isize_of old ≤ b) × (b < length old)) at_single (address-inside old weak i Single nz)

  below_same : (s : ℕ) → s < isize_of old → sector_at new s ≡ sector_at old s
  unfolding new
  below_same s h = let low = inside.1 in get_or-set_other old a s bytes [] (λ e. omega arith)

  low_isize : 3 ≤ isize_of old
  unfolding frame
  low_isize = weak.sizes.low

  first : sector_at new 1 ≡ sector_at old 1
  first = let low = low_isize in below_same 1 (omega arith)

  inodes_same : (j : ℕ) → inode_at new j ≡ inode_at old j
  inodes_same j = same_inode old new first (λ s _ lt. below_same s lt) j

  -- a block that stands elsewhere stays
  elsewhere : (j : ℕ) (p : Place) → (frame old).address j p ≢ 0 → ((i ≡ j) × (Single ≡ p) → ⊥) → sector_at new ((frame old).address j p) ≡ sector_at old ((frame old).address j p)
  unfolding new
  elsewhere j p nonzero other = get_or-set_other old a ((frame old).address j p) bytes [] (λ e.
      other (weak.unshared i j Single p (λ z. there (sym at_single ∙ z)) (at_single ∙ sym e)))

  address_other : (j : ℕ) → j ≢ i → (p : Place) → (frame new).address j p ≡ (frame old).address j p
  unfolding frame
  address_other j ne p = ap (λ m. address_of new (head_of m) p) (inodes_same j) ∙ same_places old new (head_of (inode_at old j)) (λ q _ nonzero. elsewhere j q nonzero (λ e. ne (sym e.0))) p

  address_direct : (k : ℕ) → k < 10 → (frame new).address i (Body k) ≡ (frame old).address i (Body k)
  unfolding frame address_of
  address_direct k lt = ap (λ m. address_of new (head_of m) (Body k)) (inodes_same i) ∙ cond_same (head_of (inode_at old i)).is_used _ _ 0 (λ _.
      (λ z. cond (lt-ltb k 10 lt z) (get_or (head_of (inode_at old i)).direct k 0) (cond (ltb k 138) (listed new (head_of (inode_at old i)).single (k - 10)) 0))
      ∙ (λ z. cond (sym (lt-ltb k 10 lt) z) (get_or (head_of (inode_at old i)).direct k 0) (cond (ltb k 138) (listed old (head_of (inode_at old i)).single (k - 10)) 0)))

  address_map : (p : Place) → (p ≡ Single) ⊎ (p ≡ Double) → (frame new).address i p ≡ (frame old).address i p
  unfolding frame address_of
  address_map p (inl e) = subst (λ q. address_of new (head_of (inode_at new i)) q ≡ address_of old (head_of (inode_at old i)) q) (sym e) (ap (λ m. address_of new (head_of m) Single) (inodes_same i))
  address_map p (inr e) = subst (λ q. address_of new (head_of (inode_at new i)) q ≡ address_of old (head_of (inode_at old i)) q) (sym e) (ap (λ m. address_of new (head_of m) Double) (inodes_same i))

  used_too : ((frame new).head i).is_used ≡ true
  unfolding frame
  used_too = ap (λ (m : Inode). not (m.mode == 0)) (inodes_same i) ∙ used

  listed_at : (image : Image) (k : ℕ) → listed image a (k - 10) ≡ entry (sector_at image a) k
  unfolding entry
  listed_at image k = ap (λ b. cond b 0 (field (sector_at image a) (4 * (k - 10)) 4)) (ne_eqb a 0 there)

  address_old : (k : ℕ) → 10 ≤ k → k < 138 → (frame old).address i (Body k) ≡ entry (sector_at old a) k
  address_old k low high = address_listed old i k used low high ∙ ap (λ s. listed old s (k - 10)) is ∙ listed_at old k

  address_new : (k : ℕ) → 10 ≤ k → k < 138 → (frame new).address i (Body k) ≡ cond (ltb k (sectors_of (inode_at old i).size)) ((frame old).address i (Body k)) 0
  unfolding new
  address_new k low high =
      address_listed new i k used_too low high ∙ ap (λ (m : Inode). listed new m.single (k - 10)) (inodes_same i) ∙ ap (λ s. listed new s (k - 10)) is ∙ listed_at new k
      ∙ ap (λ b. entry b k) (get_or-set_same old a bytes [] inside.2) ∙ entries k low high
      ∙ ap (λ x. cond (ltb k (sectors_of (inode_at old i).size)) x 0) (sym (address_old k low high))

  address_below : (k : ℕ) → k < sectors_of (inode_at old i).size → (frame new).address i (Body k) ≡ (frame old).address i (Body k)
  address_below k lt = ⊎_elim
      (λ (low : k < 10). address_direct k low)
      (λ (ge : 10 ≤ k). ⊎_elim
      (λ (in' : k < 138). address_new k ge in' ∙ ap (λ b. cond b ((frame old).address i (Body k)) 0) (lt-ltb k _ lt))
      (λ (out : 138 ≤ k). address_far new i k out ∙ sym (address_far old i k out))
      (cases_lt k 138))
      (cases_lt k 10)

  either : (b : Bool) (x y : ℕ) → y ≡ cond b x 0 → y ≢ 0 → y ≡ x
  either true x y e nz = e
  either false x y e nz = absurd (nz e)

  address_places : (p : Place) → (frame new).address i p ≢ 0 → (frame new).address i p ≡ (frame old).address i p
  address_places (Body k) nz = ⊎_elim
      (λ (low : k < 10). address_direct k low)
      (λ (ge : 10 ≤ k). ⊎_elim
      (λ (in' : k < 138). either (ltb k (sectors_of (inode_at old i).size)) ((frame old).address i (Body k)) ((frame new).address i (Body k)) (address_new k ge in') nz)
      (λ (out : 138 ≤ k). absurd (nz (address_far new i k out)))
      (cases_lt k 138))
      (cases_lt k 10)
  address_places Single nz = address_map Single (inl refl)
  address_places Double nz = address_map Double (inr refl)

  not_single : (k : ℕ) → Single ≢ Body k
  not_single k e = absurd (cc)

  map-keeps : KeepsFiles old new
  unfolding new
  map-keeps = record {
    length = length-set old a bytes;
    first = first;
    inodes = λ j. inl (record {
      bare = ap bare (inodes_same j);
      below = λ k lt. ⊎_elim
          (λ (e : j ≡ i). subst (λ q. (frame new).address q (Body k) ≡ (frame old).address q (Body k)) (sym e) (address_below k (subst (λ q. k < sectors_of (inode_at old q).size) e lt)))
          (λ (ne : j ≢ i). address_other j ne (Body k))
          (cases_eq j i);
      places = λ p. ⊎_elim
          (λ (e : j ≡ i). subst (λ q. (frame new).address q p ≢ 0 → (frame new).address q p ≡ (frame old).address q p) (sym e) (address_places p))
          (λ (ne : j ≢ i) nz. address_other j ne p)
          (cases_eq j i);
      contents = λ k lt nz. elsewhere j (Body k) nz (λ e. not_single k e.1);
    });
  }

  map-past : (k : ℕ) → 10 ≤ k → sectors_of (inode_at old i).size ≤ k → (frame new).address i (Body k) ≡ 0
  map-past k low past = ⊎_elim
      (λ (in' : k < 138). address_new k low in' ∙ ap (λ b. cond b ((frame old).address i (Body k)) 0) (le-ltb k _ past))
      (λ (out : 138 ≤ k). address_far new i k out)
      (cases_lt k 138)

-- what decides whether a block of addresses stays is the same
pub has_same : (old new : Image) (m : Inode) (links : ℕ) → (not (m.mode == 0) ≡ true → m.single ≢ 0 → holds_below (sector_at new m.single) (sectors_of m.size) ≡ holds_below (sector_at old m.single) (sectors_of m.size))
    → has_map new m links ≡ has_map old m links
unfolding holds_in
has_same old new m links h = by_used (m.mode == 0) refl
  where
    inner : (u b : Bool) → m.mode == 0 ≡ false → (not (u || b) && holds_in new m) ≡ (not (u || b) && holds_in old m)
    inner true b e = refl
    inner false true e = refl
    inner false false e = ⊎_elim
        (λ (z : m.single ≡ 0). (λ q. not (z q == 0) && holds_below (sector_at new (z q)) (sectors_of m.size)) ∙ sym (λ q. not (z q == 0) && holds_below (sector_at old (z q)) (sectors_of m.size)))
        (λ (nz : m.single ≢ 0). ap (λ b. not (m.single == 0) && b) (h (ap not e) nz))
        (cases_eq m.single 0)

    by_used : (u : Bool) → m.mode == 0 ≡ u → has_map new m links ≡ has_map old m links
    by_used true e = (λ z. not (e z || (links == 0)) && holds_in new m) ∙ sym (λ z. not (e z || (links == 0)) && holds_in old m)
    by_used false e = inner (m.mode == 0) (links == 0) e

-- An inode's block of addresses is trimmed, or nothing is done.
module _ (old : Image) (i links : ℕ) (weak : IsWeak (frame old)) (long : (s : ℕ) → s < length old → length (sector_at old s) ≡ 512) where
  abbrev m : Inode
  m = inode_at old i

  holds_parts : has_map old m links ≡ true → (not (m.mode == 0) ≡ true) × (m.single ≢ 0)
  unfolding holds_in
  holds_parts h = (by_or (m.mode == 0) (links == 0) (and_left _ _ h), λ z. clash (m.single == 0) (eq-eqb m.single 0 z) (and_left _ _ (and_right _ _ h)))
    where
      by_or : (a b : Bool) → not (a || b) ≡ true → not a ≡ true
      by_or true b e = e
      by_or false b e = refl

      clash : (b : Bool) → b ≡ true → not b ≡ true → ⊥
      clash true t u = absurd (cc)
      clash false t u = absurd (cc)

  pub trimmed_at-is : has_map old m links ≡ true → trimmed_at old i links ≡ set old m.single (trimmed (sector_at old m.single) (sectors_of m.size))
  unfolding trimmed_at
  trimmed_at-is h = ap (λ b. cond b (set old m.single (trimmed (sector_at old m.single) (sectors_of m.size))) old) h

  pub trimmed_at-same : has_map old m links ≡ false → trimmed_at old i links ≡ old
  unfolding trimmed_at
  trimmed_at-same h = ap (λ b. cond b (set old m.single (trimmed (sector_at old m.single) (sectors_of m.size))) old) h

  trims_same : has_map old m links ≡ false → Trims old old i links
  trims_same h = record { files = keeps_same old; sectors = λ s lt. refl; others = λ j ne p. refl; has = λ j l. refl; here = λ yes. absurd (differ (has_map old m links) yes h) }
    where
      differ : (b : Bool) → b ≡ true → b ≡ false → ⊥
      differ true t f = absurd (cc)
      differ false t f = absurd (cc)

  trims_put : has_map old m links ≡ true → Trims old (set old m.single (trimmed (sector_at old m.single) (sectors_of m.size))) i links
  unfolding frame new
  trims_put h =
      let parts = holds_parts h in
      let used : ((frame old).head i).is_used ≡ true = parts.0 in
      let there : m.single ≢ 0 = parts.1 in
      let bytes : List ℕ = trimmed (sector_at old m.single) (sectors_of m.size) in
      let most : sectors_of m.size ≤ 138 = let g = (weak.good i used).length in omega arith in
      let in' = inside old i m.single bytes weak used refl there (λ k low high. entry-trimmed (sector_at old m.single) (sectors_of m.size) k (long m.single (in_length used there)) most low high) in
      let entries : (k : ℕ) → 10 ≤ k → k < 138 → entry bytes k ≡ cond (ltb k (sectors_of m.size)) (entry (sector_at old m.single) k) 0 =
      λ k low high. entry-trimmed (sector_at old m.single) (sectors_of m.size) k (long m.single in'.2) most low high in
      record {
        files = map-keeps old i m.single bytes weak used refl there entries;
        sectors = below_same old i m.single bytes weak used refl there entries;
        others = address_other old i m.single bytes weak used refl there entries;
        has = λ j l. ap (λ n. has_map (set old m.single bytes) n l) (inodes_same old i m.single bytes weak used refl there entries j)
            ∙ has_same old (set old m.single bytes) (inode_at old j) l (λ used' nz. ⊎_elim
            (λ (e : j ≡ i).
            subst (λ q. holds_below (sector_at (set old m.single bytes) (inode_at old q).single) (sectors_of (inode_at old q).size) ≡ holds_below (sector_at old (inode_at old q).single) (sectors_of (inode_at old q).size)) (sym e)
            (ap (λ b. holds_below b (sectors_of m.size)) (get_or-set_same old m.single bytes [] in'.2)
            ∙ holds_same bytes (sector_at old m.single) (sectors_of m.size) (λ k low high lt. entries k low high ∙ ap (λ b. cond b (entry (sector_at old m.single) k) 0) (lt-ltb k (sectors_of m.size) lt))))
            (λ (ne : j ≢ i). ap (λ b. holds_below b (sectors_of (inode_at old j).size))
            (let at : (frame old).address j Single ≡ (inode_at old j).single = address_single old j used' in
            subst (λ s. sector_at (set old m.single bytes) s ≡ sector_at old s) at
            (elsewhere old i m.single bytes weak used refl there entries j Single (λ z. nz (sym at ∙ z)) (λ e. ne (sym e.0)))))
            (cases_eq j i));
        here = λ _ k low past. map-past old i m.single bytes weak used refl there entries k low
            (subst (λ (n : Inode). sectors_of n.size ≤ k) (inodes_same old i m.single bytes weak used refl there entries i) past);
      }
    where
      in_length : ((frame old).head i).is_used ≡ true → m.single ≢ 0 → m.single < length old
      in_length used there =
          let at : (frame old).address i Single ≡ m.single = address_single old i used in
          subst (λ s. s < length old) at (address-inside old weak i Single (λ z. there (sym at ∙ z))).2

  pub trims : Trims old (trimmed_at old i links) i links
  trims = ⊎_elim
      (λ (yes : has_map old m links ≡ true). subst (λ x. Trims old x i links) (sym (trimmed_at-is yes)) (trims_put yes))
      (λ (no' : has_map old m links ≡ false). subst (λ x. Trims old x i links) (sym (trimmed_at-same no')) (trims_same no'))
      (cases_Bool (has_map old m links))

pub trimmed_block-same : (image : Image) (s n : ℕ) → holds_below (sector_at image s) n ≡ false → trimmed_block image s n ≡ image
unfolding trimmed_block
trimmed_block-same image s n no' = ap (λ b. cond b (set image s (trimmed (sector_at image s) n)) image) no'

-- of what was read and trimmed
pub trimmed_block-is : (image : Image) (s n : ℕ) (mid : Image) (bytes : List ℕ) {block : List ℕ} → holds_below (sector_at image s) n ≡ true → mid ≡ image → bytes ≡ trimmed block n → block ≡ sector_at image s
    → set mid s bytes ≡ trimmed_block image s n
unfolding trimmed_block
trimmed_block-is image s n mid bytes some same is read =
    (λ z. set (same z) s ((is ∙ ap (λ b. trimmed b n) read) z)) ∙ sym (ap (λ b. cond b (set image s (trimmed (sector_at image s) n)) image) some)
