-- A sector of inodes is put as it is after a repair.
use Rattle.std.proofs.Common.{◌≡◌, ◌≢◌, ◌⊎◌, inl, inr, ℕ, ◌+◌, ◌-◌, ◌*◌, ◌<◌, ◌≤◌, Bool, true, false, cond, not, ◌==◌, ◌&&◌, ◌||◌, List, [], ◌∷◌, length, get_or, set, take, replicate, refl, sym, ap, subst, ◌∙◌, arith, ⊎_elim, eqb, ltb, leb, eq-eqb, length-set, length-take, get_or-set_other, get_or-set_same}
use Rattle.std.proofs.lemmas.Bool.{cases_eq, cases_lt, cases_Bool, ne_eqb, lt-ltb, le-ltb, eqb-true, leb-true}
use Rattle.std.proofs.lemmas.List.{get_or_append_left, get_or-append_right, get_or-replicate, get_or-take}
use Rattle.std.proofs.lemmas.List.FromFn.{length-map-range_with_len}
use Rattle.std.specs.List.{range_with_len, list_any}
use Rattle.v7_layout.specs.declared.inode.Inode.{Inode}
use Rattle.v7_layout.specs.Numbers.{part, field}
use Rattle.v7_layout.specs.Records.{inode_of}
use Rattle.files_model.specs.Files.{sectors_of}
use Rattle.stable.specs.Store.{Image}
use Rattle.v7_map.specs.Image.{sector_at, isize_of, is_inode, inode_at, inode_sector, inode_offset}
use Rattle.v7_map.specs.Frame.{Frame, Place, Body, Single, Double, head_of, address_of, listed, frame}
use Rattle.v7_map.specs.Tree.{tree, is_walked, is_named, links}
use Rattle.v7_map.specs.Weak.{IsWeak}
use Rattle.v7_map.proofs.Frames.{same_places, and_left, and_right}
use Rattle.v7_map.proofs.AnyFrame.{frame-IsFrame}
use Rattle.v7_map.proofs.Ranges.{address-inside}
use Rattle.v7_map.proofs.Members.{In, any_is, any_in, in_range_of}
use Rattle.v7_map.proofs.Used.{walked_is_dir}
use Rattle.v7_map.proofs.Walks.{walked_reached}
use Rattle.v7_mend.specs.Keeps.{bare, KeepsInode, FreesInode, KeepsFiles}
use Rattle.v7_mend.specs.Settled.{direct_below, free_inode, settled_inode, entry, holds_below, holds_in}
use Rattle.v7_mend.specs.Settles.{inode_here, SettledBytes, IsSettled}
use Rattle.v7_mend.specs.Trims.{has_map, IsTrimmed}
use Rattle.v7_mend.proofs.Entries.{holds_at}
use Rattle.v7_mend.proofs.KeptFrames.{slot_linked}
use Rattle.v7_mend.proofs.Trimming.{address_listed, address_single, address_far}

-- an inode has ten direct addresses
length_direct_of : (bytes : List ℕ) → length (inode_of bytes).direct ≡ 10
unfolding inode_of
length_direct_of bytes = length-map-range_with_len (λ k. field bytes (12 + 3 * k) 3) 0 10

pub length_direct : (image : Image) (i : ℕ) → length (inode_at image i).direct ≡ 10
unfolding inode_at
length_direct image i = by_number (is_inode image i)
  where
    by_number : (b : Bool) → length (cond b (inode_of (part (sector_at image (inode_sector i)) (inode_offset i) 64)) (inode_of [])).direct ≡ 10
    by_number true = length_direct_of (part (sector_at image (inode_sector i)) (inode_offset i) 64)
    by_number false = length_direct_of []

-- the three cases
abbrev pub kept_inode : Inode → ℕ → Bool → Inode
kept_inode n count stays = record n { nlink = count; direct = direct_below (sectors_of n.size) n.direct; single = cond stays n.single 0 }

pub settled_free : (n : Inode) (count : ℕ) (stays : Bool) → (n.mode == 0) ≡ true → settled_inode n count stays ≡ n
unfolding settled_inode
settled_free n count stays e = ap (λ b. cond b n (cond (count == 0) (free_inode n.generation) (kept_inode n count stays))) e

pub settled_freed : (n : Inode) (count : ℕ) (stays : Bool) → (n.mode == 0) ≡ false → count ≡ 0 → settled_inode n count stays ≡ free_inode n.generation
unfolding settled_inode
settled_freed n count stays e none = (λ z. cond (e z) n (cond (eq-eqb count 0 none z) (free_inode n.generation) (kept_inode n count stays)))

pub settled_kept : (n : Inode) (count : ℕ) (stays : Bool) → (n.mode == 0) ≡ false → count ≢ 0 → settled_inode n count stays ≡ kept_inode n count stays
unfolding settled_inode
settled_kept n count stays e some = (λ z. cond (e z) n (cond (ne_eqb count 0 some z) (free_inode n.generation) (kept_inode n count stays)))

-- a block of addresses that doesn't stay has none below the size
pub none_listed : (image : Image) (n : Inode) (k : ℕ) → holds_in image n ≡ false → 10 ≤ k → k < 138 → k < sectors_of n.size → listed image n.single (k - 10) ≡ 0
unfolding holds_in entry
none_listed image n k none ge lt below = ⊎_elim
    (λ (z : n.single ≡ 0). ap (λ b. cond b 0 (field (sector_at image n.single) (4 * (k - 10)) 4)) (eq-eqb n.single 0 z))
    (λ (nz : n.single ≢ 0).
    let nb : (n.single == 0) ≡ false = ne_eqb n.single 0 nz in
    ap (λ b. cond b 0 (field (sector_at image n.single) (4 * (k - 10)) 4)) nb
    ∙ ⊎_elim
    (λ (z : entry (sector_at image n.single) k ≡ 0). z)
    (λ (there : entry (sector_at image n.single) k ≢ 0). absurd (differ _ (holds_at (sector_at image n.single) (sectors_of n.size) k ge lt below there)
    ((λ q. not (sym nb q) && holds_below (sector_at image n.single) (sectors_of n.size)) ∙ none)))
    (cases_eq (entry (sector_at image n.single) k) 0))
    (cases_eq n.single 0)
  where
    differ : (b : Bool) → b ≡ true → b ≡ false → ⊥
    differ true t f = absurd (cc)
    differ false t f = absurd (cc)

-- one that stays has one
some_listed : (image : Image) (n : Inode) → holds_in image n ≡ true → (k : ℕ) × In k (range_with_len 10 128) × (listed image n.single (k - 10) ≢ 0)
unfolding holds_in holds_below entry
some_listed image n some =
    let nb : not (n.single == 0) ≡ true = and_left _ _ some in
    let a = any_is (λ k. ltb k (sectors_of n.size) && not (entry (sector_at image n.single) k == 0)) (range_with_len 10 128) (and_right _ _ some) in
    (a.0, a.1, λ z. clash (entry (sector_at image n.single) a.0 == 0) (eq-eqb (entry (sector_at image n.single) a.0) 0 ((λ q. cond (sym (unset (n.single == 0) nb) q) 0 (field (sector_at image n.single) (4 * (a.0 - 10)) 4)) ∙ z)) (and_right _ _ a.2))
  where
    unset : (b : Bool) → not b ≡ true → b ≡ false
    unset true e = absurd (cc)
    unset false e = refl

    clash : (b : Bool) → b ≡ true → not b ≡ true → ⊥
    clash true t u = absurd (cc)
    clash false t u = absurd (cc)

either : (b : Bool) (x y : ℕ) → y ≡ cond b x 0 → y ≢ 0 → y ≡ x
either true x y e nz = e
either false x y e nz = absurd (nz e)

-- a direct address stays below the size
pub get_or-direct : (n k : ℕ) (direct : List ℕ) → length direct ≡ 10 → k < 10 → get_or (direct_below n direct) k 0 ≡ cond (ltb k n) (get_or direct k 0) 0
unfolding direct_below
get_or-direct n k direct ten low = ⊎_elim
    (λ (lt : k < n). let front : k < length (take n direct) = simp (length-take) (omega arith) in
    get_or_append_left (take n direct) (replicate (10 - n) 0) 0 k front ∙ get_or-take n direct k 0 lt ∙ ap (λ b. cond b (get_or direct k 0) 0) (sym (lt-ltb k n lt)))
    (λ (ge : n ≤ k). let front : length (take n direct) ≡ n = simp (length-take) (omega arith) in
    get_or-append_right (take n direct) (replicate (10 - n) 0) n k 0 front ge ∙ get_or-replicate (10 - n) (k - n) 0 0 (omega arith) ∙ ap (λ b. cond b (get_or direct k 0) 0) (sym (le-ltb k n ge)))
    (cases_lt k n)

-- an inode without links isn't named: a walked directory names itself
pub unnamed_of : (f : Frame) (i : ℕ) → IsWeak f → ((d : ℕ) → (tree f).is_dir d ≡ true → (1 ≤ d) × (d < 1 + (tree f).inodes)) → links (tree f) i ≡ 0 → is_named (tree f) i ≡ false
unnamed_of f i weak numbers none = ⊎_elim
    (λ (w : is_walked (tree f) i ≡ true).
    let self = (weak.names.dots i w).self in
    let some = slot_linked f i 0 i (46 ∷ []) w (numbers i (walked_is_dir {t = tree f} (walked_reached (tree f) i w))) self in
    absurd (omega (arith, some, none)))
    (λ (no' : is_walked (tree f) i ≡ false). (λ z. no' z || ltb 0 (none z)))
    (cases_Bool (is_walked (tree f) i))

module _ (old : Image) (s : ℕ) (counts bytes : List ℕ) (weak : IsWeak (frame old)) (low : 2 ≤ s) (high : s < isize_of old) (settled : SettledBytes old s counts bytes)
    (are : (i : ℕ) → is_inode old i ≡ true → get_or counts i 0 ≡ links (tree (frame old)) i) where
  new : Image
  new = set old s bytes

  place : (isize_of old < length old) × (3 ≤ isize_of old)
  unfolding frame
  place = let a = weak.sizes.above in let w = weak.sizes.within in (omega arith, weak.sizes.low)

  same_other : (q : ℕ) → q ≢ s → sector_at new q ≡ sector_at old q
  unfolding new
  same_other q ne = get_or-set_other old s q bytes [] ne

  first : sector_at new 1 ≡ sector_at old 1
  first = same_other 1 (λ e. omega arith)

  same_is_inode : (j : ℕ) → is_inode new j ≡ is_inode old j
  same_is_inode j z = leb 1 j && leb j ((field (first z) 0 2 - 2) * 8)

  inode_elsewhere : (j : ℕ) → inode_sector j ≢ s → inode_at new j ≡ inode_at old j
  unfolding inode_at
  inode_elsewhere j ne =
      (λ z. cond (same_is_inode j z) (inode_of (part (sector_at new (inode_sector j)) (inode_offset j) 64)) (inode_of []))
      ∙ ap (λ b. cond (is_inode old j) (inode_of (part b (inode_offset j) 64)) (inode_of [])) (same_other (inode_sector j) ne)

  inode_outside : (j : ℕ) → is_inode old j ≡ false → inode_at new j ≡ inode_at old j
  unfolding inode_at
  inode_outside j out =
      ap (λ b. cond b (inode_of (part (sector_at new (inode_sector j)) (inode_offset j) 64)) (inode_of [])) (same_is_inode j ∙ out)
      ∙ sym (ap (λ b. cond b (inode_of (part (sector_at old (inode_sector j)) (inode_offset j) 64)) (inode_of [])) out)

  -- an inode of the sector
  inode_settled : (j : ℕ) → inode_sector j ≡ s → is_inode old j ≡ true → inode_at new j ≡ settled_inode (inode_at old j) (get_or counts j 0) (holds_in old (inode_at old j))
  unfolding inode_at new
  inode_settled j e in' =
      let at = place in
      let len : s < length old = omega arith in
      let one : 1 ≤ j = leb-true 1 j (and_left (leb 1 j) _ in') in
      let was : inode_of (part (sector_at old (inode_sector j)) (inode_offset j) 64) ≡ inode_here (sector_at old s) j = ap (λ q. inode_of (part (sector_at old q) (inode_offset j) 64)) e in
      ap (λ b. cond b (inode_of (part (sector_at new (inode_sector j)) (inode_offset j) 64)) (inode_of [])) (same_is_inode j ∙ in')
      ∙ ap (λ q. inode_of (part (sector_at new q) (inode_offset j) 64)) e
      ∙ ap (λ b. inode_of (part b (inode_offset j) 64)) (get_or-set_same old s bytes [] len)
      ∙ settled.each j one e
      ∙ ap (λ (n : Inode). settled_inode n (get_or counts j 0) (holds_in old n)) (sym was ∙ sym (ap (λ b. cond b (inode_of (part (sector_at old (inode_sector j)) (inode_offset j) 64)) (inode_of [])) in'))

  -- data blocks stay
  same_data : (j : ℕ) (p : Place) → (frame old).address j p ≢ 0 → sector_at new ((frame old).address j p) ≡ sector_at old ((frame old).address j p)
  same_data j p nz = let a = address-inside old weak j p nz in let from = a.1 in same_other ((frame old).address j p) (λ e. omega arith)

  contents : (j k : ℕ) → (frame old).address j (Body k) ≢ 0 → sector_at new ((frame old).address j (Body k)) ≡ sector_at old ((frame old).address j (Body k))
  contents j k nz = same_data j (Body k) nz

  -- an inode that stays has its addresses
  address_same : (j : ℕ) → inode_at new j ≡ inode_at old j → (p : Place) → (frame new).address j p ≡ (frame old).address j p
  unfolding frame
  address_same j e p = ap (λ m. address_of new (head_of m) p) e ∙ same_places old new (head_of (inode_at old j)) (λ q _ nz. same_data j q nz) p

  keeps_unchanged : (j : ℕ) → inode_at new j ≡ inode_at old j → KeepsInode old new j
  keeps_unchanged j e = record {
    bare = ap bare e;
    below = λ k lt. address_same j e (Body k);
    places = λ p nz. address_same j e p;
    contents = λ k lt nz. contents j k nz;
  }

  -- an inode that is kept
  module _ (i : ℕ) (here : inode_sector i ≡ s) (in' : is_inode old i ≡ true) (mode : ((inode_at old i).mode == 0) ≡ false) (some : get_or counts i 0 ≢ 0) where
    abbrev m : Inode
    m = inode_at old i

    stays : Bool
    stays = holds_in old m

    is : inode_at new i ≡ kept_inode m (get_or counts i 0) stays
    unfolding stays
    is = inode_settled i here in' ∙ settled_kept m (get_or counts i 0) (holds_in old m) mode some

    used_old : ((frame old).head i).is_used ≡ true
    unfolding frame
    used_old = ap not mode

    used_new : ((frame new).head i).is_used ≡ true
    unfolding frame
    used_new = ap (λ (n : Inode). not (n.mode == 0)) is ∙ ap not mode

    direct_new : (k : ℕ) → k < 10 → (frame new).address i (Body k) ≡ cond (ltb k (sectors_of m.size)) ((frame old).address i (Body k)) 0
    unfolding frame address_of
    direct_new k lt =
        ap (λ n. address_of new (head_of n) (Body k)) is
        ∙ (λ z. cond (ap not mode z) (cond (lt-ltb k 10 lt z) (get_or (direct_below (sectors_of m.size) m.direct) k 0) (cond (ltb k 138) (listed new (cond stays m.single 0) (k - 10)) 0)) 0)
        ∙ get_or-direct (sectors_of m.size) k m.direct (length_direct old i) lt
        ∙ ap (λ a. cond (ltb k (sectors_of m.size)) a 0) (sym (λ z. cond (ap not mode z) (cond (lt-ltb k 10 lt z) (get_or m.direct k 0) (cond (ltb k 138) (listed old m.single (k - 10)) 0)) 0))

    single_same : (k : ℕ) → listed new m.single (k - 10) ≡ listed old m.single (k - 10)
    single_same k = ⊎_elim
        (λ (z : m.single ≡ 0). (λ q. cond (eq-eqb m.single 0 z q) 0 (field (sector_at new m.single) (4 * (k - 10)) 4)) ∙ sym (λ q. cond (eq-eqb m.single 0 z q) 0 (field (sector_at old m.single) (4 * (k - 10)) 4)))
        (λ (nz : m.single ≢ 0). let at : (frame old).address i Single ≡ m.single = address_single old i used_old in
        ap (λ b. cond (eqb m.single 0) 0 (field b (4 * (k - 10)) 4)) (subst (λ q. sector_at new q ≡ sector_at old q) at (same_data i Single (λ z. nz (sym at ∙ z)))))
        (cases_eq m.single 0)

    listed_new : (k : ℕ) → 10 ≤ k → k < 138 → (frame new).address i (Body k) ≡ cond stays ((frame old).address i (Body k)) 0
    listed_new k ge lt =
        address_listed new i k used_new ge lt ∙ ap (λ (n : Inode). listed new n.single (k - 10)) is
        ∙ by_stays stays
        ∙ ap (λ a. cond stays a 0) (single_same k ∙ sym (address_listed old i k used_old ge lt))
      where
        by_stays : (b : Bool) → listed new (cond b m.single 0) (k - 10) ≡ cond b (listed new m.single (k - 10)) 0
        by_stays true = refl
        by_stays false = refl

    single_new : (frame new).address i Single ≡ cond stays ((frame old).address i Single) 0
    single_new = address_single new i used_new ∙ ap (λ (n : Inode). n.single) is ∙ ap (λ a. cond stays a 0) (sym (address_single old i used_old))

    double_new : (frame new).address i Double ≡ (frame old).address i Double
    unfolding frame address_of
    double_new = ap (λ n. address_of new (head_of n) Double) is

    -- where the block of addresses goes, it holds none below the size
    none_below : stays ≡ false → (k : ℕ) → 10 ≤ k → k < 138 → k < sectors_of m.size → (frame old).address i (Body k) ≡ 0
    unfolding stays
    none_below gone k ge lt below = address_listed old i k used_old ge lt ∙ none_listed old m k gone ge lt below

    below_new : (k : ℕ) → k < sectors_of m.size → (frame new).address i (Body k) ≡ (frame old).address i (Body k)
    below_new k below = ⊎_elim
        (λ (low : k < 10). direct_new k low ∙ ap (λ b. cond b ((frame old).address i (Body k)) 0) (lt-ltb k _ below))
        (λ (ge : 10 ≤ k). ⊎_elim
        (λ (lt : k < 138). listed_new k ge lt ∙ ⊎_elim
        (λ (yes' : stays ≡ true). ap (λ b. cond b ((frame old).address i (Body k)) 0) yes')
        (λ (gone : stays ≡ false). ap (λ b. cond b ((frame old).address i (Body k)) 0) gone ∙ sym (none_below gone k ge lt below))
        (cases_Bool stays))
        (λ (out : 138 ≤ k). address_far new i k out ∙ sym (address_far old i k out))
        (cases_lt k 138))
        (cases_lt k 10)

    places_new : (p : Place) → (frame new).address i p ≢ 0 → (frame new).address i p ≡ (frame old).address i p
    places_new (Body k) nz = ⊎_elim
        (λ (low : k < 10). either (ltb k (sectors_of m.size)) _ _ (direct_new k low) nz)
        (λ (ge : 10 ≤ k). ⊎_elim
        (λ (lt : k < 138). either stays _ _ (listed_new k ge lt) nz)
        (λ (out : 138 ≤ k). absurd (nz (address_far new i k out)))
        (cases_lt k 138))
        (cases_lt k 10)
    places_new Single nz = either stays _ _ single_new nz
    places_new Double nz = double_new

    keeps_settled : KeepsInode old new i
    keeps_settled = record { bare = ap bare is; below = below_new; places = places_new; contents = λ k lt nz. contents i k nz }

    count_new : ((frame new).head i).nlink ≡ get_or counts i 0
    unfolding frame
    count_new = ap (λ (n : Inode). n.nlink) is

    size_new : ((frame new).head i).size ≡ m.size
    unfolding frame
    size_new = ap (λ (n : Inode). n.size) is

    has_here : stays ≡ true → has_map old m (get_or counts i 0) ≡ true
    unfolding stays
    has_here h = (λ z. not (mode z || ne_eqb (get_or counts i 0) 0 some z) && h z)

    past_new : IsTrimmed old i (get_or counts i 0) → (k : ℕ) → sectors_of m.size ≤ k → (frame new).address i (Body k) ≡ 0
    past_new trimmed k past = ⊎_elim
        (λ (low : k < 10). direct_new k low ∙ ap (λ b. cond b ((frame old).address i (Body k)) 0) (le-ltb k _ past))
        (λ (ge : 10 ≤ k). ⊎_elim
        (λ (lt : k < 138). listed_new k ge lt ∙ ⊎_elim
        (λ (yes' : stays ≡ true). ap (λ b. cond b ((frame old).address i (Body k)) 0) yes' ∙ trimmed (has_here yes') k ge past)
        (λ (gone : stays ≡ false). ap (λ b. cond b ((frame old).address i (Body k)) 0) gone)
        (cases_Bool stays))
        (λ (out : 138 ≤ k). address_far new i k out)
        (cases_lt k 138))
        (cases_lt k 10)

    single_stays : (frame new).address i Single ≢ 0 → stays ≡ true
    single_stays nz = ⊎_elim
        (λ (yes' : stays ≡ true). yes')
        (λ (gone : stays ≡ false). absurd (nz (single_new ∙ ap (λ b. cond b ((frame old).address i Single) 0) gone)))
        (cases_Bool stays)

    needed_new : stays ≡ true → list_any (λ k. not ((frame new).address i (Body k) == 0)) (range_with_len 10 128) ≡ true
    unfolding stays
    needed_new h =
        let a = some_listed old m h in
        let r = in_range_of a.0 10 128 a.1 in
        let ge = r.0 in
        let lt : a.0 < 138 = r.1 in
        let at : (frame new).address i (Body a.0) ≡ listed old m.single (a.0 - 10) = listed_new a.0 ge lt ∙ ap (λ b. cond b ((frame old).address i (Body a.0)) 0) h ∙ address_listed old i a.0 used_old ge lt in
        any_in (λ k. not ((frame new).address i (Body k) == 0)) a.0 (range_with_len 10 128) a.1 (ap not (ne_eqb ((frame new).address i (Body a.0)) 0 (λ z. a.2 (sym at ∙ z))))

    settled_now : IsTrimmed old i (get_or counts i 0) → IsSettled (frame new) i (get_or counts i 0)
    settled_now trimmed = record {
      counted = λ u. count_new;
      named = λ u. omega (arith, some);
      none_past = λ k past. past_new trimmed k (subst (λ n. sectors_of n ≤ k) size_new past);
      single_needed = λ nz. needed_new (single_stays nz);
    }

  numbers : (d : ℕ) → (tree (frame old)).is_dir d ≡ true → (1 ≤ d) × (d < 1 + (tree (frame old)).inodes)
  numbers d dir = let is = frame-IsFrame old in let r = is.numbers d (is.directories d dir) in let h = r.1 in (r.0, omega arith)

  -- an inode without names is freed
  frees : (i : ℕ) → inode_sector i ≡ s → is_inode old i ≡ true → ((inode_at old i).mode == 0) ≡ false → get_or counts i 0 ≡ 0 → FreesInode old new i
  unfolding free_inode
  frees i here in' mode none = let is = inode_settled i here in' ∙ settled_freed (inode_at old i) (get_or counts i 0) (holds_in old (inode_at old i)) mode none in record {
    unnamed = unnamed_of (frame old) i weak numbers (sym (are i in') ∙ none);
    free = ap (λ (n : Inode). n.mode) is;
    generation = ap (λ (n : Inode). n.generation) is;
  }

  settles_inode : (i : ℕ) → KeepsInode old new i ⊎ FreesInode old new i
  settles_inode i = ⊎_elim
      (λ (out : is_inode old i ≡ false). inl (keeps_unchanged i (inode_outside i out)))
      (λ (in' : is_inode old i ≡ true). ⊎_elim
      (λ (here : inode_sector i ≡ s). ⊎_elim
      (λ (free : ((inode_at old i).mode == 0) ≡ true). inl (keeps_unchanged i (inode_settled i here in' ∙ settled_free (inode_at old i) (get_or counts i 0) (holds_in old (inode_at old i)) free)))
      (λ (used : ((inode_at old i).mode == 0) ≡ false). ⊎_elim
      (λ (none : get_or counts i 0 ≡ 0). inr (frees i here in' used none))
      (λ (some : get_or counts i 0 ≢ 0). inl (keeps_settled i here in' used some))
      (cases_eq (get_or counts i 0) 0))
      (⊎_swap (cases_Bool ((inode_at old i).mode == 0))))
      (λ (there : inode_sector i ≢ s). inl (keeps_unchanged i (inode_elsewhere i there)))
      (cases_eq (inode_sector i) s))
      (⊎_swap' (cases_Bool (is_inode old i)))
    where
      ⊎_swap : {A B : Type 0} → A ⊎ B → A ⊎ B
      ⊎_swap x = x

      ⊎_swap' : {A B : Type 0} → A ⊎ B → B ⊎ A
      ⊎_swap' (inl a) = inr a
      ⊎_swap' (inr b) = inl b

  pub settles-keeps : KeepsFiles old (set old s bytes)
  unfolding new
  settles-keeps = record { length = length-set old s bytes; first = first; inodes = settles_inode }

  pub settles-data : (i : ℕ) (p : Place) → (frame old).address i p ≢ 0 → sector_at (set old s bytes) ((frame old).address i p) ≡ sector_at old ((frame old).address i p)
  unfolding new
  settles-data i p nz = same_data i p nz

  -- an inode of the sector is settled
  pub settles-inode : (j : ℕ) → inode_sector j ≡ s → is_inode old j ≡ true → inode_at (set old s bytes) j ≡ settled_inode (inode_at old j) (get_or counts j 0) (holds_in old (inode_at old j))
  unfolding new
  settles-inode j = inode_settled j

  -- an inode of another sector is as it was
  pub settles-inode_other : (i : ℕ) → inode_sector i ≢ s → inode_at (set old s bytes) i ≡ inode_at old i
  unfolding new
  settles-inode_other i ne = inode_elsewhere i ne

  pub settles-address_other : (i : ℕ) → inode_sector i ≢ s → (p : Place) → (frame (set old s bytes)).address i p ≡ (frame old).address i p
  unfolding new
  settles-address_other i ne p = address_same i (inode_elsewhere i ne) p

  -- a free inode has nothing to mend
  free_settled : (i count : ℕ) → ((frame new).head i).is_used ≡ false → IsSettled (frame new) i count
  free_settled i count free = record {
    counted = λ u. absurd (differ _ u free);
    named = λ u. absurd (differ _ u free);
    none_past = λ k past. none (Body k);
    single_needed = λ nz. absurd (nz (none Single));
  }
    where
      differ : (b : Bool) → b ≡ true → b ≡ false → ⊥
      differ true t f = absurd (cc)
      differ false t f = absurd (cc)

      none : (p : Place) → (frame new).address i p ≡ 0
      none p = ⊎_elim (λ (z : (frame new).address i p ≡ 0). z)
          (λ (nz : (frame new).address i p ≢ 0). absurd (differ _ ((frame-IsFrame new).places i p nz).0 free))
          (cases_eq ((frame new).address i p) 0)

  free_new : (i : ℕ) → (inode_at new i).mode ≡ 0 → ((frame new).head i).is_used ≡ false
  unfolding frame
  free_new i z = ap (λ (m : ℕ). not (m == 0)) z

  -- and each of this sector has nothing to mend
  pub settles-settled : (i : ℕ) → is_inode old i ≡ true → inode_sector i ≡ s → IsTrimmed old i (get_or counts i 0) → IsSettled (frame (set old s bytes)) i (get_or counts i 0)
  unfolding new
  settles-settled i in' here trimmed = ⊎_elim
      (λ (free : ((inode_at old i).mode == 0) ≡ true).
      free_settled i _ (free_new i (ap (λ (n : Inode). n.mode) (inode_settled i here in' ∙ settled_free (inode_at old i) (get_or counts i 0) (holds_in old (inode_at old i)) free) ∙ eqb-true (inode_at old i).mode 0 free)))
      (λ (used : ((inode_at old i).mode == 0) ≡ false). ⊎_elim
      (λ (none : get_or counts i 0 ≡ 0). free_settled i _ (free_new i (frees i here in' used none).free))
      (λ (some : get_or counts i 0 ≢ 0). settled_now i here in' used some trimmed)
      (cases_eq (get_or counts i 0) 0))
      (cases_Bool ((inode_at old i).mode == 0))
