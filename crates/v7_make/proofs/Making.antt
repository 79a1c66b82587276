-- A volume is put, and then its free chain.
use Rattle.std.proofs.Common.{◌≡◌, ◌≢◌, ℕ, zero, suc, ◌+◌, ◌-◌, ◌*◌, ◌<◌, ◌≤◌, min, Bool, true, false, cond, ◌&&◌, List, [], ◌∷◌, get_or, refl, sym, ap, subst, ◌∙◌, arith, ⊎_elim, eqb, leb, eq-eqb, nat_cmp}
use Rattle.std.proofs.lemmas.Bool.{cases_eq, cases_Bool, ne_eqb}
use Rattle.std.proofs.lemmas.List.Sums.{sum_by-append}
use Rattle.std.proofs.lemmas.List.FromFn.{get_or-range_with_len}
use Rattle.std.specs.FinMap.{empty, insert, get, get-empty}
use Rattle.std.specs.List.{range_with_len, sum_by}
use Rattle.v7_layout.specs.declared.super_block.Super.{Super}
use Rattle.v7_layout.specs.Numbers.{part}
use Rattle.v7_layout.specs.Records.{inode_of, super_of}
use Rattle.files_model.specs.Space.{free, node_usage, usage, usage_at}
use Rattle.files_model.proofs.Maps.{get-insert_same, get-insert_other}
use Rattle.index_sets.specs.Free.{is_free, count_free}
use Rattle.stable.specs.Store.{Image}
use Rattle.v7_map.specs.Image.{sector_at, isize_of, fsize_of, inode_at, inode_offset, inode_sector, inodes_before, is_inode}
use Rattle.v7_map.specs.Frame.{Frame, frame}
use Rattle.v7_map.specs.View.{view}
use Rattle.v7_map.specs.Weak.{IsWeak, IsStrong}
use Rattle.v7_map.proofs.Data.{inode_below}
use Rattle.v7_make.specs.Chains.{AreIdle, IsChained, Takes}
use Rattle.v7_make.specs.Made.{IsMade, IsNewSuper, IsPut, ListsFirst, made_files, root_inode, root_node}
use Rattle.v7_make.specs.Sets.{AreFrom, rising}
use Rattle.v7_make.specs.Stops.{ListsLowest, chain_in}
use Rattle.v7_make.proofs.Counts.{count-from, rising-from}
use Rattle.v7_make.proofs.Fresh.{fresh_strong, fresh_view, address_is}

sum_none : (f : ℕ → ℕ) (a n : ℕ) → ((x : ℕ) → a ≤ x → f x ≡ 0) → sum_by f (range_with_len a n) ≡ 0
sum_none f a zero none = refl
sum_none f a (suc n) none =
    let r = sum_none f (a + 1) n (λ x le. none x (omega (arith, le))) in
    let z = none a (omega arith) in
    let s : sum_by f (range_with_len a (suc n)) ≡ (0 + f a) + sum_by f (range_with_len (a + 1) n) = sum_by-append f (a ∷ []) (range_with_len (a + 1) n) in
    omega (arith, s, r, z)

sum_only : (f : ℕ → ℕ) (d a n : ℕ) → ((x : ℕ) → x ≢ d → f x ≡ 0) → a ≤ d → d < a + n → sum_by f (range_with_len a n) ≡ f d
sum_only f d a zero none low high = absurd (omega (arith, low, high))
sum_only f d a (suc n) none low high =
    let s : sum_by f (range_with_len a (suc n)) ≡ (0 + f a) + sum_by f (range_with_len (a + 1) n) = sum_by-append f (a ∷ []) (range_with_len (a + 1) n) in
    ⊎_elim
    (λ (e : a ≡ d).
    let r = sum_none f (a + 1) n (λ x le. none x (λ q. omega (arith, le, q, e))) in
    let h : f a ≡ f d = ap f e in
    omega (arith, s, r, h))
    (λ (ne : a ≢ d).
    let r = sum_only f d (a + 1) n none (omega (arith, low, ne)) (omega (arith, high)) in
    let z = none a ne in
    omega (arith, s, r, z))
    (cases_eq a d)

-- the root takes one block
root_usage : (now : ℕ) → node_usage (root_node now) ≡ 1
root_usage now = refl

usage-made : (inodes blocks now : ℕ) → 2 ≤ inodes → usage (made_files inodes blocks now) ≡ 1
unfolding usage made_files
usage-made inodes blocks now some =
    sum_only (λ i. usage_at (get (insert empty 2 (root_node now)) i)) 2 1 inodes
    (λ x ne. ap usage_at (get-insert_other empty 2 (root_node now) x ne ∙ get-empty nat_cmp x)) (omega arith) (omega (arith, some))
    ∙ ap usage_at (get-insert_same empty 2 (root_node now)) ∙ root_usage now

free-made : (inodes blocks now left : ℕ) → 2 ≤ inodes → left + 1 ≡ blocks → left ≡ free (made_files inodes blocks now)
unfolding made_files
free-made inodes blocks now left some all = let one = usage-made inodes blocks now some in omega (arith, one, all)

module _ (mid : Image) (size isize now : ℕ) (pack : List ℕ) (put : IsPut mid size isize pack now) (low : 3 ≤ isize) (above : isize < size) where
  isize_mid : isize_of mid ≡ isize
  unfolding super_of
  isize_mid = ap (λ (s : Super). s.s_isize) put.super

  fsize_mid : fsize_of mid ≡ size
  unfolding super_of
  fsize_mid = ap (λ (s : Super). s.s_fsize) put.super

  weak_mid : IsWeak (frame mid)
  weak_mid = (fresh_strong mid now put.fresh).weak

  pub put_idle : (blocks : List Bool) → AreFrom (isize + 1) size blocks → AreIdle mid blocks
  put_idle blocks from = record {
    weak = weak_mid;
    past = λ b there. let past = from.only b there in let e = isize_mid in omega (arith, past, e);
    unheld = λ b there i p same.
        let past = from.only b there in
        let e = isize_mid in
        let at : (frame mid).address i p ≡ isize_of mid = address_is mid now put.fresh i p (λ z. omega (arith, z, same, past)) in
        omega (arith, at, same, past, e);
  }

  module _ (new : Image) (blocks numbers : List Bool) (left : ℕ) (from : AreFrom (isize + 1) size blocks) (others : AreFrom 3 (8 * (isize - 2) + 1) numbers) (all : left ≡ size - isize - 1) (chained : IsChained mid new blocks numbers now) where
    isize_new : isize_of new ≡ isize
    unfolding frame
    isize_new = ap (λ (f : Frame). f.isize) chained.keeps.frame ∙ isize_mid

    blocks_left : count_free blocks ≡ left
    blocks_left = count-from blocks (isize + 1) size from (omega (arith, above)) ∙ (let e : size - (isize + 1) ≡ left = omega (arith, all) in e)

    numbers_left : count_free numbers ≡ inodes_before isize - 2
    numbers_left = count-from numbers 3 (8 * (isize - 2) + 1) others (omega (arith, low)) ∙ (let e : 8 * (isize - 2) + 1 - 3 ≡ (isize - 2) * 8 - 2 = omega arith in e)

    -- a sector of inodes isn't one of the blocks
    sector_same : (s : ℕ) → 2 ≤ s → s < isize → sector_at new s ≡ sector_at mid s
    sector_same s two lt = chained.keeps.elsewhere s (λ e. omega (arith, e, two)) (⊎_elim
        (λ (some : is_free blocks s ≡ true). let past = from.only s some in absurd (omega (arith, past, lt)))
        (λ (none : is_free blocks s ≡ false). none)
        (cases_Bool (is_free blocks s)))

    inode_same : (i : ℕ) → inode_at new i ≡ inode_at mid i
    unfolding inode_at
    inode_same i =
        (λ z. cond (leb 1 i && leb i (((isize_new ∙ sym isize_mid) z - 2) * 8)) (inode_of (part (sector_at new (inode_sector i)) (inode_offset i) 64)) (inode_of []))
        ∙ ⊎_elim
        (λ (in' : is_inode mid i ≡ true).
        let below : inode_sector i < isize_of mid = inode_below (isize_of mid) i in' in
        let e = isize_mid in
        ap (λ s. cond (is_inode mid i) (inode_of (part s (inode_offset i) 64)) (inode_of [])) (sector_same (inode_sector i) (omega arith) (omega (arith, below, e))))
        (λ (out : is_inode mid i ≡ false). ap (λ b. cond b (inode_of (part (sector_at new (inode_sector i)) (inode_offset i) 64)) (inode_of [])) out
        ∙ sym (ap (λ b. cond b (inode_of (part (sector_at mid (inode_sector i)) (inode_offset i) 64)) (inode_of [])) out))
        (cases_Bool (is_inode mid i))

    inodes_are : (i : ℕ) → inode_at new i ≡ cond (eqb i 2) (root_inode isize now) (inode_of [])
    inodes_are i = inode_same i ∙ ⊎_elim
        (λ (e : i ≡ 2). ap (inode_at mid) e ∙ put.fresh.root ∙ ap (λ b. root_inode b now) isize_mid ∙ sym (ap (λ b. cond b (root_inode isize now) (inode_of [])) (eq-eqb i 2 e)))
        (λ (ne : i ≢ 2). put.fresh.empty i ne ∙ sym (ap (λ b. cond b (root_inode isize now) (inode_of [])) (ne_eqb i 2 ne)))
        (cases_eq i 2)

    view_is : view new ≡ made_files (inodes_before isize) (size - isize) now
    unfolding frame
    view_is = chained.keeps.view ∙ fresh_view mid now put.fresh ∙ (λ z. made_files (inodes_before (isize_mid z)) (fsize_mid z - isize_mid z) now)

    super_new : Super
    super_new = super_of (sector_at new 1)

    super_is : IsNewSuper size isize pack now 0 left (inodes_before isize - 2) super_new
    unfolding super_new
    super_is = chained.stopped ∙ (λ z. record (put.super z) {
      s_nfree = (super_of (sector_at new 1)).s_nfree;
      s_free = (super_of (sector_at new 1)).s_free;
      s_ninode = (super_of (sector_at new 1)).s_ninode;
      s_inode = (super_of (sector_at new 1)).s_inode;
      s_fmod = 0;
      s_time = now;
      s_tfree = blocks_left z;
      s_tinode = numbers_left z;
    })

    listed_are : (free' : List Bool) (many : ℕ) (inodes : List ℕ) (count : ℕ) → count_free free' ≡ many → rising free' ≡ range_with_len 3 many → ListsLowest free' inodes count → ListsFirst 3 many inodes count
    listed_are free' many inodes count counted are lists = record {
      most = lists.most ∙ ap (min 100) counted;
      listed = λ k lt. lists.listed k lt ∙ ap (λ l. get_or l (count - 1 - k) 0) are ∙ get_or-range_with_len 3 many (count - 1 - k) 0 (let most = lists.most in omega (arith, lt, most, counted));
      rest = lists.rest;
    }

    pub put_made : IsMade new size isize pack now left
    unfolding super_new
    put_made = record {
      strong = subst IsStrong (sym chained.keeps.frame) (fresh_strong mid now put.fresh);
      left_is = free-made (inodes_before isize) (size - isize) now left (omega (arith, low)) (omega (arith, all, above)) ∙ ap free (sym view_is);
      view = view_is;
      inodes = inodes_are;
      super = super_is;
      takes = subst (Takes new (chain_in (super_of (sector_at new 1)))) (rising-from blocks (isize + 1) size from (omega (arith, above)) ∙ (let e : size - (isize + 1) ≡ left = omega (arith, all) in ap (range_with_len (isize + 1)) e)) chained.takes;
      places = chained.places;
      listed = listed_are numbers (inodes_before isize - 2) (super_of (sector_at new 1)).s_inode (super_of (sector_at new 1)).s_ninode numbers_left
          (rising-from numbers 3 (8 * (isize - 2) + 1) others (omega (arith, low)) ∙ (let e : 8 * (isize - 2) + 1 - 3 ≡ (isize - 2) * 8 - 2 = omega arith in ap (range_with_len 3) e)) chained.listed;
      whole = chained.whole;
    }
