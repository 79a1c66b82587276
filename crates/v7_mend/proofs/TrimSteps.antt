-- One more block of addresses is trimmed.
use Rattle.std.proofs.Common.{◌≡◌, ◌≢◌, inl, inr, ℕ, zero, suc, ◌+◌, ◌<◌, ◌≤◌, true, false, List, [], length, get_or, refl, sym, ap, subst, ◌∙◌, arith, ⊎_elim, leb, cond, set, get_or-set_other}
use Rattle.std.proofs.lemmas.Bool.{cases_eq, cases_lt, cases_Bool}
use Rattle.std.proofs.lemmas.List.{set-get_or}
use Rattle.v7_layout.specs.declared.inode.Inode.{Inode}
use Rattle.v7_layout.specs.Numbers.{field}
use Rattle.files_model.specs.Files.{sectors_of}
use Rattle.stable.specs.Store.{Image}
use Rattle.v7_map.specs.Image.{sector_at, is_inode, inode_at, inode_sector, isize_of, inodes_before}
use Rattle.v7_map.specs.Frame.{Body, Single, head_of, address_of, frame}
use Rattle.v7_map.specs.Weak.{IsWeak}
use Rattle.v7_map.proofs.Data.{same_inode}
use Rattle.v7_map.proofs.Walks.{and_both}
use Rattle.v7_mend.specs.Changes.{PutsSome, Differ, IsMapIn, IsDataBlock}
use Rattle.v7_mend.specs.Keeps.{KeepsFiles}
use Rattle.v7_mend.specs.Trims.{Either, has_map, trimmed_at, IsTrimmed, IsTrimmedIn, AreTrimmed, first_in}
use Rattle.v7_mend.specs.Settled.{trimmed}
use Rattle.v7_mend.proofs.KeptFrames.{keeps-weak}
use Rattle.v7_mend.proofs.KeptFiles.{keeps_same, keeps_then}
use Rattle.v7_mend.proofs.Differing.{differ_none, differ_put, differ_then, differ_wider}
use Rattle.v7_mend.proofs.Mapping.{used_of, map_parts, trimmed_is_same}
use Rattle.v7_mend.proofs.Trimming.{trims, address_single}

-- before the first
pub trimmed_none : (image : Image) (links : List ℕ) (n : ℕ) → AreTrimmed image image links n n
trimmed_none image links n = record { files = keeps_same image; sectors = λ s lt. refl; has = λ j l. refl; still = λ j was. was; trimmed = λ i low high. absurd (omega arith); kept = λ s all. refl }

-- a number of a sector of the i-list is one of the image's inodes
pub number_of : (image : Image) (sector i : ℕ) → 2 ≤ sector → sector < isize_of image → first_in sector ≤ i → i < first_in sector + 8 → is_inode image i ≡ true
number_of image sector i past below low high =
    and_both (leb 1 i) (leb i (inodes_before (isize_of image))) (leb_true 1 i (omega arith)) (leb_true i (inodes_before (isize_of image)) (omega arith))
  where
    leb_true : (a b : ℕ) → a ≤ b → leb a b ≡ true
    leb_true a b le = grind arith

-- and stands there
pub sector_of_number : (sector i : ℕ) → 2 ≤ sector → first_in sector ≤ i → i < first_in sector + 8 → inode_sector i ≡ sector
sector_of_number sector i past low high = omega arith

module _ (old new : Image) (first : sector_at new 1 ≡ sector_at old 1) (sectors : (s : ℕ) → s < isize_of old → sector_at new s ≡ sector_at old s) where
  -- inodes are where they were
  pub inodes_stay : (j : ℕ) → inode_at new j ≡ inode_at old j
  inodes_stay j = same_inode old new first (λ s _ lt. sectors s lt) j

  pub isize_stays : isize_of new ≡ isize_of old
  isize_stays = ap (λ b. field b 0 2) first

-- a run of blocks, and one of those that follow
pub trimmed_then : (old mid new : Image) (links : List ℕ) (a b c : ℕ) → IsWeak (frame old) → AreTrimmed old mid links a b → AreTrimmed mid new links b c → AreTrimmed old new links a c
trimmed_then old mid new links a b c weak x y = record {
  files = keeps_then old mid new weak x.files y.files;
  sectors = λ s lt. y.sectors s (subst (λ n. s < n) (sym (isize_stays old mid x.files.first x.sectors)) lt) ∙ x.sectors s lt;
  has = λ j l. y.has j l ∙ x.has j l;
  still = λ j was. y.still j (x.still j was);
  trimmed = λ i low high. ⊎_elim (λ (lt : i < b). y.still i (x.trimmed i low lt)) (λ (ge : b ≤ i). y.trimmed i ge high) (cases_lt i b);
  kept = λ s all.
      let e : sector_at mid s ≡ sector_at old s = x.kept s all in
      let inodes = inodes_stay old mid x.files.first x.sectors in
      y.kept s (λ i has at. (λ z. trimmed (e z) (sectors_of (inodes i z).size)) ∙ all i (sym (x.has i (get_or links i 0)) ∙ has) (ap (λ (n : Inode). n.single) (sym (inodes i)) ∙ at) ∙ sym e) ∙ e;
}

-- a block of addresses with none past the size stays
kept_one : (mid : Image) (links : List ℕ) (i s : ℕ) → IsTrimmedIn mid links s → sector_at (trimmed_at mid i (get_or links i 0)) s ≡ sector_at mid s
unfolding trimmed_at
kept_one mid links i s all = ⊎_elim
    (λ (has : has_map mid (inode_at mid i) (get_or links i 0) ≡ true).
    ap (λ b. sector_at (cond b (set mid (inode_at mid i).single (trimmed (sector_at mid (inode_at mid i).single) (sectors_of (inode_at mid i).size))) mid) s) has
    ∙ ⊎_elim
    (λ (e : s ≡ (inode_at mid i).single).
    ap (λ x. sector_at x s) ((λ z. set mid (sym e z) (trimmed (sector_at mid (sym e z)) (sectors_of (inode_at mid i).size))) ∙ ap (set mid s) (all i has (sym e)) ∙ set-get_or mid s []))
    (λ (ne : s ≢ (inode_at mid i).single). get_or-set_other mid (inode_at mid i).single s (trimmed (sector_at mid (inode_at mid i).single) (sectors_of (inode_at mid i).size)) [] ne)
    (cases_eq s (inode_at mid i).single))
    (λ (none : has_map mid (inode_at mid i) (get_or links i 0) ≡ false). ap (λ x. sector_at x s) (trimmed_is_same mid i (get_or links i 0) none))
    (cases_Bool (has_map mid (inode_at mid i) (get_or links i 0)))

-- one block
pub trimmed_one : (mid : Image) (links : List ℕ) (i : ℕ) → IsWeak (frame mid) → ((s : ℕ) → s < length mid → length (sector_at mid s) ≡ 512) → AreTrimmed mid (trimmed_at mid i (get_or links i 0)) links i (i + 1)
trimmed_one mid links i weak long = let t = trims mid i (get_or links i 0) weak long in record {
  files = t.files;
  sectors = t.sectors;
  has = t.has;
  still = λ j was. ⊎_elim
      (λ (e : j ≡ i). subst (λ q. IsTrimmed (trimmed_at mid i (get_or links i 0)) q (get_or links q 0)) (sym e) t.here)
      (λ (ne : j ≢ i) has k ten past.
      t.others j ne (Body k) ∙ was (sym (t.has j (get_or links j 0)) ∙ has) k ten (subst (λ (n : Inode). sectors_of n.size ≤ k) (inodes_stay mid _ t.files.first t.sectors j) past))
      (cases_eq j i);
  trimmed = λ j low high. let e : j ≡ i = omega arith in subst (λ q. IsTrimmed (trimmed_at mid i (get_or links i 0)) q (get_or links q 0)) (sym e) t.here;
  kept = kept_one mid links i;
}

module _ (old mid : Image) (links : List ℕ) (from i : ℕ) (weak : IsWeak (frame old)) (so_far : AreTrimmed old mid links from i) (long : (s : ℕ) → s < length mid → length (sector_at mid s) ≡ 512) where
  one : AreTrimmed mid (trimmed_at mid i (get_or links i 0)) links i (i + 1)
  one = trimmed_one mid links i (keeps-weak old mid weak so_far.files) long

  pub trim_step : AreTrimmed old (trimmed_at mid i (get_or links i 0)) links from (i + 1)
  trim_step = trimmed_then old mid (trimmed_at mid i (get_or links i 0)) links from i (i + 1) weak so_far one

  -- at each moment the files are kept
  pub trim_moment : (d : Image) → Either mid (trimmed_at mid i (get_or links i 0)) d → KeepsFiles old d
  trim_moment d (inl e) = subst (KeepsFiles old) (sym e) so_far.files
  trim_moment d (inr e) = subst (KeepsFiles old) (sym e) trim_step.files

-- the block of addresses of an inode is the one that its inode names
single_same : (old new : Image) (i : ℕ) → inode_at new i ≡ inode_at old i → (frame new).address i Single ≡ (frame old).address i Single
unfolding frame address_of
single_same old new i e = ap (λ m. address_of new (head_of m) Single) e

pub map_data : (image : Image) → IsWeak (frame image) → (from to s : ℕ) → IsMapIn image from to s → IsDataBlock image s
unfolding frame
map_data image weak from to s map = let d = weak.data_block map.0 Single (λ z. map.3 (sym map.4 ∙ z)) in subst (λ q. isize_of image ≤ q) map.4 d.0

-- a block of addresses stands in one inode
map_apart : (image : Image) → IsWeak (frame image) → (a b c d p q : ℕ) → b ≤ c → IsMapIn image a b p → IsMapIn image c d q → p ≢ q
map_apart image weak a b c d p q le x y e =
    let same = weak.unshared x.0 y.0 Single Single (λ z. x.3 (sym x.4 ∙ z)) (x.4 ∙ e ∙ sym y.4) in
    let lt = x.2 in let ge = y.1 in let is = same.0 in absurd (omega (arith, lt, ge, is, le))

-- inodes that stay have their blocks of addresses
map_stays : (old mid : Image) (a b s : ℕ) → ((j : ℕ) → inode_at mid j ≡ inode_at old j) → IsMapIn mid a b s → IsMapIn old a b s
map_stays old mid a b s inodes x = (x.0, x.1, x.2, x.3, sym (single_same old mid x.0 (inodes x.0)) ∙ x.4)

map_wider : (image : Image) (a b c d s : ℕ) → c ≤ a → b ≤ d → IsMapIn image a b s → IsMapIn image c d s
map_wider image a b c d s low high x = let ge = x.1 in let lt = x.2 in (x.0, omega (arith, ge, low), omega (arith, lt, high), x.3, x.4)

-- what a run of blocks changes, and one of those that follow
pub trimmed_exact : (old mid new : Image) (links : List ℕ) (a b c n m : ℕ) → a ≤ b → b ≤ c → IsWeak (frame old) → AreTrimmed old mid links a b
    → Differ (IsMapIn old a b) old mid n → Differ (IsMapIn mid b c) mid new m → Differ (IsMapIn old a c) old new (n + m)
trimmed_exact old mid new links a b c n m low high weak x p q =
    let inodes = inodes_stay old mid x.files.first x.sectors in
    differ_then (IsMapIn old a b) (IsMapIn old b c) (IsMapIn old a c) old mid new n m
    (λ s t is has. map_apart old weak a b b c s t (omega arith) is has)
    (λ s is. map_wider old a b a c s (omega arith) high is) (λ s has. map_wider old b c a c s low (omega arith) has)
    p (differ_wider (IsMapIn mid b c) (IsMapIn old b c) mid new m (λ s. map_stays old mid b c s inodes) q)

module _ (mid new : Image) (i links k : ℕ) (is : new ≡ trimmed_at mid i links) (puts : PutsSome k mid new (inode_at mid i).single) where
  -- a put that changes something is of a block of addresses
  changes_map : (k : ℕ) → k ≢ 0 → PutsSome k mid new (inode_at mid i).single → has_map mid (inode_at mid i) links ≡ true
  changes_map zero nz puts = absurd (nz refl)
  changes_map (suc k) nz puts = ⊎_elim
      (λ (yes' : has_map mid (inode_at mid i) links ≡ true). yes')
      (λ (no' : has_map mid (inode_at mid i) links ≡ false). absurd (puts.1 (ap (λ (x : Image). sector_at x (inode_at mid i).single) (is ∙ trimmed_is_same mid i links no'))))
      (cases_Bool (has_map mid (inode_at mid i) links))

  first_put : Differ (IsMapIn mid i (i + 1)) mid new (0 + k)
  first_put = differ_put (λ q. ⊥) (IsMapIn mid i (i + 1)) mid mid new 0 k (inode_at mid i).single
      (λ q none. absurd none) (λ nz q none. absurd none)
      (λ nz. let p = map_parts mid (inode_at mid i) links (changes_map k nz puts) in (i, omega arith, omega arith, p.1, address_single mid i (used_of mid i p.0)))
      (differ_none (λ q. ⊥) mid) puts

  pub trim_exact : Differ (IsMapIn mid i (i + 1)) mid new k
  trim_exact = subst (Differ (IsMapIn mid i (i + 1)) mid new) (omega arith) first_put

module _ (old mid : Image) (links : List ℕ) (sector i : ℕ) (past : 2 ≤ sector) (below : sector < isize_of old) (low : first_in sector ≤ i) (high : i < first_in sector + 8) (so_far : AreTrimmed old mid links (first_in sector) i) where
  -- the next inode is one of the volume
  pub next_number : is_inode mid i ≡ true
  next_number = number_of mid sector i past (subst (λ n. sector < n) (sym (isize_stays old mid so_far.files.first so_far.sectors)) below) low high

  -- and its sector is as it was read
  pub next_held : (held : List ℕ) → held ≡ sector_at old sector → held ≡ sector_at mid (inode_sector i)
  next_held held is = is ∙ sym (so_far.sectors sector below) ∙ ap (sector_at mid) (sym (sector_of_number sector i past low high))

-- the blocks so far, and one more
pub trim_exact_step : (old mid new : Image) (links : List ℕ) (from i n k : ℕ) → from ≤ i → IsWeak (frame old) → AreTrimmed old mid links from i → Differ (IsMapIn old from i) old mid n
    → new ≡ trimmed_at mid i (get_or links i 0) → PutsSome k mid new (inode_at mid i).single → Differ (IsMapIn old from (i + 1)) old new (n + k)
trim_exact_step old mid new links from i n k low weak so_far p is puts =
    trimmed_exact old mid new links from i (i + 1) n k low (omega arith) weak so_far p (trim_exact mid new i (get_or links i 0) k is puts)
