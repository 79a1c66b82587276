-- The free blocks are as many as the files leave.
use Rattle.std.proofs.Common.{◌≡◌, ◌≢◌, ℕ, zero, suc, ◌+◌, ◌-◌, ◌*◌, ◌/◌, ◌%◌, ◌<◌, ◌≤◌, length, Bool, true, false, cond, not, ◌&&◌, ◌==◌, List, [], ◌∷◌, map, refl, sym, ap, subst, ◌∙◌, arith, ⊎_elim, eqb, eq-eqb, ltb, leb, Option, Some, None, is_some}
use Rattle.std.proofs.lemmas.Bool.{cases_eq, cases_lt, cases_Bool, ne_eqb, lt-ltb, le-ltb, leb-true, le-leb}
use Rattle.std.proofs.lemmas.List.Sums.{sum_by-cons}
use Rattle.index_sets.specs.Free.{is_free, count_free}
use Rattle.std.specs.List.{range_with_len, count_by, sum_by, list_any}
use Rattle.std.specs.FinMap.{get, empty}
use Rattle.index_sets.specs.Queue.{is_listed}
use Rattle.files_model.specs.Files.{Node, sectors_of, tabulated, clipped}
use Rattle.files_model.specs.Space.{is_held, map_blocks, node_usage, usage_at, usage, free}
use Rattle.files_model.specs.Permission as permission
use Rattle.files_model.specs.declared.attributes.Kind.TheVariants.{Regular, Directory, Link}
use Rattle.files_model.proofs.Maps.{get-tabulated}
use Rattle.stable.specs.Store.{Image}
use Rattle.v7_map.specs.Image.{sector_at, inode_at}
use Rattle.v7_map.specs.Frame.{Frame, Place, Body, Single, Double, CanHold, is_directory, frame}
use Rattle.v7_map.specs.Tree.{tree, is_named}
use Rattle.v7_map.specs.Weak.{IsWeak, IsStrong}
use Rattle.v7_map.specs.View.{view, files_of, node_at, body_of, body_at, held, kind_of}
use Rattle.v7_sets.specs.Sets.{IsFreeBlock, AreSetsOf}
use Rattle.v7_map.proofs.AnyFrame.{frame-IsFrame}
use Rattle.v7_map.proofs.Frames.{and_left, and_right}
use Rattle.v7_map.proofs.Used.{named_used}
use Rattle.v7_map.proofs.Walks.{any_found, any_at, and_both, among, among-range}
use Rattle.v7_space.proofs.Counting.{one, count-cons, count_same, count_none, count_parts, count_others, count-map, count_rows, count_shift, count_listed, AllOnce, count_places, among_map_at, among_map_found, all_once}

-- ---- the places of an inode: those of its body, and the one of its block of addresses

place : ℕ → Place
place m = cond (ltb m 138) (Body m) Single

place_of_body : (m : ℕ) → m < 138 → place m ≡ Body m
unfolding place
place_of_body m lt = ap (λ b. cond b (Body m) Single) (lt-ltb m 138 lt)

place_of_map : (m : ℕ) → 138 ≤ m → place m ≡ Single
unfolding place
place_of_map m ge = ap (λ b. cond b (Body m) Single) (le-ltb m 138 ge)

number : Place → ℕ
number (Body k) = k
number Single = 138
number Double = 139

number_of_place : (m : ℕ) → m < 139 → number (place m) ≡ m
unfolding number
number_of_place m lt = ⊎_elim
    (λ (l : m < 138). ap number (place_of_body m l))
    (λ (g : 138 ≤ m). ap number (place_of_map m g) ∙ omega arith)
    (cases_lt m 138)

place_once : (a b : ℕ) → a < 139 → b < 139 → place a ≡ place b → a ≡ b
place_once a b la lb e = let x = number_of_place a la in let y = number_of_place b lb in let z = ap number e in omega arith

pub among-within : (k a n : ℕ) → is_listed k (range_with_len a n) ≡ true → (a ≤ k) × (k < a + n)
among-within k a n e = let r = among_map_found (λ x. x) k a n (ap (is_listed k) (map_same (range_with_len a n)) ∙ e) in
    let low : a ≤ r.0 = r.1 in let high : r.0 < a + n = r.2 in let same : r.0 ≡ k = r.3 in (omega arith, omega arith)
  where
    map_same : (xs : List ℕ) → map (λ (x : ℕ). x) xs ≡ xs
    map_same [] = refl
    map_same (x ∷ xs) = ap (λ l. x ∷ l) (map_same xs)

pub sum_same : (f g : ℕ → ℕ) (a n : ℕ) → ((i : ℕ) → a ≤ i → i < a + n → f i ≡ g i) → sum_by f (range_with_len a n) ≡ sum_by g (range_with_len a n)
sum_same f g a zero h = refl
sum_same f g a (suc n) h = let c = sum_by-cons f a (range_with_len (a + 1) n) in let d = sum_by-cons g a (range_with_len (a + 1) n) in
    let here = h a (omega arith) (omega arith) in let r = sum_same f g (a + 1) n (λ i l u. h i (omega arith) (omega arith)) in omega arith

-- a directory's kind
directory_kind : (type : ℕ) → permission.is_directory (kind_of type) ≡ (type == 4)
directory_kind type = by_test (eqb type 4) (eqb type 10)
  where
    by_test : (a b : Bool) → permission.is_directory (cond a Directory (cond b Link Regular)) ≡ a
    by_test true b = refl
    by_test false true = refl
    by_test false false = refl

unfoldable pub is_block : ℕ → Bool
is_block a = not (a == 0)

block_there : (a : ℕ) → a ≢ 0 → is_block a ≡ true
unfolding is_block
block_there a nz = ap not (ne_eqb a 0 nz)

block_none : (a : ℕ) → a ≡ 0 → is_block a ≡ false
unfolding is_block
block_none a z = ap not (eq-eqb a 0 z)

module _ (image : Image) (strong : IsStrong (frame image)) (b w : ℕ) (is_b : b ≡ 138) (is_w : w ≡ b + 1) where
  abbrev f : Frame
  f = frame image

  weak : IsWeak f
  weak = strong.weak

  -- the blocks of an inode
  row : ℕ → ℕ
  row i = count_by (λ m. is_block (f.address i (place m))) (range_with_len 0 w)

  pub held-block : (i k : ℕ) → (f.head i).is_used ≡ true → k < sectors_of (f.head i).size → is_held (node_at image i) k ≡ is_block (f.address i (Body k))
  unfolding frame body_of is_block
  held-block i k used lt = by_kind (is_directory (f.head i)) refl
    where
      table : ℕ → Option (List ℕ)
      table q = held image (f.head i).size q (f.address i (Body q))

      some : (a : ℕ) → is_some (held image (f.head i).size k a) ≡ not (a == 0)
      some a = by_test (eqb a 0)
        where
          by_test : (t : Bool) → is_some (cond t None (Some (clipped (f.head i).size k (sector_at image a)))) ≡ not t
          by_test true = refl
          by_test false = refl

      by_kind : (d : Bool) → is_directory (f.head i) ≡ d → is_held (node_at image i) k ≡ not (f.address i (Body k) == 0)
      by_kind true e =
          (λ z. cond ((directory_kind ((inode_at image i).mode / 4096) ∙ e) z) (ltb k (sectors_of (f.head i).size)) (is_some (get (body_at image f i) k)))
          ∙ lt-ltb k (sectors_of (f.head i).size) lt
          ∙ sym (ap not (ne_eqb (f.address i (Body k)) 0 (weak.needed i k e lt)))
      by_kind false e =
          (λ z. cond ((directory_kind ((inode_at image i).mode / 4096) ∙ e) z) (ltb k (sectors_of (f.head i).size)) (is_some (get (body_at image f i) k)))
          ∙ (λ z. is_some (get (cond (e z) empty (tabulated table (sectors_of (f.head i).size))) k))
          ∙ ap is_some (get-tabulated table (sectors_of (f.head i).size) k lt)
          ∙ some (f.address i (Body k))

  -- a block of addresses stands where a sector is reached through it
  pub map_there : (i : ℕ) → (f.head i).is_used ≡ true → list_any (λ k. leb 10 k && is_held (node_at image i) k) (range_with_len 0 (sectors_of (f.head i).size)) ≡ is_block (f.address i Single)
  unfolding frame among is_block
  map_there i used = ⊎_elim
      (λ (z : f.address i Single ≡ 0). none z (list_any test (range_with_len 0 s)) refl ∙ sym (block_none _ z))
      (λ (nz : f.address i Single ≢ 0).
      let e = any_found (λ k. not (f.address i (Body k) == 0)) (range_with_len 10 128) (strong.single_needed i nz) in
      let k : ℕ = e.0 in
      let in' = among-within k 10 128 e.1 in
      let low : 10 ≤ k = in'.0 in
      let nonzero : f.address i (Body k) ≢ 0 = λ z. clash (f.address i (Body k) == 0) (eq-eqb _ 0 z) e.2 in
      let below : k < s = ⊎_elim (λ (lt : k < s). lt) (λ (ge : s ≤ k). absurd (nonzero (strong.none_past i k ge))) (cases_lt k s) in
      any_at test (range_with_len 0 s) k (among-range k 0 s (omega arith) (omega arith)) (and_both _ _ (le-leb 10 k low) (held-block i k used below ∙ block_there _ nonzero))
      ∙ sym (block_there _ nz))
      (cases_eq (f.address i Single) 0)
    where
      s : ℕ
      s = sectors_of (f.head i).size

      test : ℕ → Bool
      test k = leb 10 k && is_held (node_at image i) k

      clash : (t : Bool) → t ≡ true → not t ≡ true → ⊥
      clash true x y = cc
      clash false x y = cc

      none : f.address i Single ≡ 0 → (t : Bool) → list_any test (range_with_len 0 s) ≡ t → t ≡ false
      none z false e = refl
      none z true e =
          let r = any_found test (range_with_len 0 s) e in
          let k : ℕ = r.0 in
          let in' = among-within k 0 s r.1 in
          let low : 10 ≤ k = leb-true 10 k (and_left _ _ r.2) in
          let high : k < 0 + s = in'.1 in
          let below : k < s = omega arith in
          let there : not (f.address i (Body k) == 0) ≡ true = sym (held-block i k used below) ∙ and_right (leb 10 k) (is_held (node_at image i) k) r.2 in
          absurd (clash (f.address i (Body k) == 0) (eq-eqb _ 0 ((frame-IsFrame image).through i k low z)) there)

  -- what an inode that is used takes
  row-used : (i : ℕ) → (f.head i).is_used ≡ true → row i ≡ node_usage (node_at image i)
  unfolding frame row one
  row-used i used =
      let good = (weak.good i used).length in
      let s : ℕ = sectors_of (f.head i).size in
      let fits : s ≤ 138 = omega arith in
      let parts = count_parts (λ m. is_block (f.address i (place m))) 0 b 1 w is_w in
      let bodies = count_same (λ m. is_block (f.address i (place m))) (λ m. is_block (f.address i (Body m))) 0 b (λ m l u. ap (λ p. is_block (f.address i p)) (place_of_body m (omega arith))) in
      let again = count_parts (λ m. is_block (f.address i (Body m))) 0 s (b - s) b (omega arith) in
      let past = count_none (λ m. is_block (f.address i (Body m))) (0 + s) (b - s) (λ m l u. block_none _ (strong.none_past i m (omega arith))) in
      let within = count_same (λ m. is_block (f.address i (Body m))) (is_held (node_at image i)) 0 s (λ m l u. sym (held-block i m used (omega arith))) in
      let last = count-cons (λ m. is_block (f.address i (place m))) (0 + b) [] in
      let single : one (is_block (f.address i (place (0 + b)))) ≡ one (is_block (f.address i Single)) = ap (λ p. one (is_block (f.address i p))) (place_of_map (0 + b) (omega arith)) in
      let maps : one (is_block (f.address i Single)) ≡ map_blocks (node_at image i) = ap one (sym (map_there i used)) in
      omega arith

  -- and one that is free
  row-free : (i : ℕ) → (f.head i).is_used ≡ false → row i ≡ 0
  unfolding row
  row-free i free' = count_none (λ m. is_block (f.address i (place m))) 0 w (λ m l u. block_none _ (none (place m)))
    where
      none : (p : Place) → f.address i p ≡ 0
      none p = ⊎_elim (λ (z : f.address i p ≡ 0). z) (λ (nz : f.address i p ≢ 0). let used = ((frame-IsFrame image).places i p nz).0 in absurd (cc)) (cases_eq (f.address i p) 0)

  row-usage : (i : ℕ) → i < (tree f).inodes + 1 → row i ≡ usage_at (get (view image).nodes i)
  unfolding view files_of
  row-usage i lt =
      by_used (f.head i).is_used refl
    where
      node : ℕ → Option Node
      node j = cond (is_named (tree f) j) (Some (node_at image j)) None

      by_used : (u : Bool) → (f.head i).is_used ≡ u → row i ≡ usage_at (get (view image).nodes i)
      by_used true used = row-used i used ∙ sym (ap usage_at (get-tabulated node ((tree f).inodes + 1) i lt ∙ ap (λ t. cond t (Some (node_at image i)) None) (strong.named i used)))
      by_used false free' = row-free i free' ∙ sym (ap usage_at (get-tabulated node ((tree f).inodes + 1) i lt ∙ ap (λ t. cond t (Some (node_at image i)) None) unnamed))
        where
          unnamed : is_named (tree f) i ≡ false
          unnamed = ⊎_elim (λ (h : is_named (tree f) i ≡ true). let used = named_used f weak (frame-IsFrame image).directories i h in absurd (cc)) (λ (h : is_named (tree f) i ≡ false). h) (cases_Bool (is_named (tree f) i))

  -- ---- all blocks

  -- the block at the m-th place of the volume
  block_at : ℕ → ℕ
  block_at m = f.address (m / 139 + 1) (place (m % 139))

  abbrev inodes : ℕ
  inodes = (tree f).inodes

  taken : List ℕ
  taken = map block_at (range_with_len (w * 0) (w * inodes))

  count-taken : count_by is_block taken ≡ usage (view image)
  unfolding taken usage view files_of row block_at
  count-taken =
      count-map is_block block_at (range_with_len (w * 0) (w * inodes))
      ∙ count_rows (λ m. is_block (block_at m)) w row 0 inodes rows
      ∙ sum_same row (λ i. usage_at (get (view image).nodes i)) (0 + 1) inodes (λ i l u. row-usage i (omega arith))
    where
      rows : (i : ℕ) → count_by (λ m. is_block (block_at m)) (range_with_len (w * i) w) ≡ row (i + 1)
      rows i = count_shift (λ m. is_block (block_at m)) (λ m. is_block (f.address (i + 1) (place m))) (w * i) 0 w (λ k lt. let width : w ≡ 139 = omega arith in
          let q : (w * i + k) / 139 ≡ i = ap (λ v. (v * i + k) / 139) width ∙ quotient i k (omega arith) in
          let r : (w * i + k) % 139 ≡ 0 + k = ap (λ v. (v * i + k) % 139) width ∙ remainder i k (omega arith) in
          λ z. is_block (f.address (q z + 1) (place (r z))))
        where
          quotient : (i k : ℕ) → k < 139 → (139 * i + k) / 139 ≡ i
          quotient i k lt = omega arith

          remainder : (i k : ℕ) → k < 139 → (139 * i + k) % 139 ≡ 0 + k
          remainder i k lt = omega arith

  block_at-low : (m : ℕ) → block_at m ≢ 0 → (f.isize ≤ block_at m) × (block_at m < f.isize + (f.fsize - f.isize))
  unfolding block_at
  block_at-low m nz = let d = weak.data_block (m / 139 + 1) (place (m % 139)) nz in let high : block_at m < f.fsize = d.1 in (d.0, omega arith)

  taken-once : AllOnce f.isize (f.fsize - f.isize) taken
  unfolding taken block_at
  taken-once = all_once block_at f.isize (f.fsize - f.isize) (w * 0) (w * inodes) (λ x l u nz. block_at-low x nz)
      (λ x y l lt u nz e. let s = weak.unshared (x / 139 + 1) (y / 139 + 1) (place (x % 139)) (place (y % 139)) nz e in
      let same = place_once (x % 139) (y % 139) (omega arith) (omega arith) s.1 in let row' : x / 139 + 1 ≡ y / 139 + 1 = s.0 in absurd (omega arith))

  -- a data block is free, or stands at a place
  module _ (has : ℕ → Bool) (sound : (a : ℕ) → has a ≡ true → IsFreeBlock f a) (all : (a : ℕ) → IsFreeBlock f a → has a ≡ true) where
    has-taken : (a : ℕ) → f.isize ≤ a → a < f.fsize → has a ≡ not (is_listed a taken)
    unfolding taken block_at number
    has-taken a low high = ⊎_elim
        (λ (h : is_listed a taken ≡ true). let r = among_map_found block_at a (w * 0) (w * inodes) h in
        let not_free : has a ≡ false = ⊎_elim (λ (y : has a ≡ true). absurd ((sound a y).nowhere (r.0 / 139 + 1) (place (r.0 % 139)) r.3)) (λ (n : has a ≡ false). n) (cases_Bool (has a)) in
        not_free ∙ sym (ap not h))
        (λ (h : is_listed a taken ≡ false).
        all a (record { low = low; high = high; nowhere = λ i p e. stands i p e (is_listed a taken) refl h }) ∙ sym (ap not h))
        (cases_Bool (is_listed a taken))
      where
        positive : a ≢ 0
        positive = let three = weak.sizes.low in omega arith

        at_number : (i m : ℕ) → 1 ≤ i → i ≤ inodes → m < 139 → f.address i (place m) ≡ a → is_listed a taken ≡ true
        at_number i m one' le lt e =
            let y : ℕ = 139 * (i - 1) + m in
            let q : y / 139 + 1 ≡ i = omega arith in
            let r : y % 139 ≡ m = omega arith in
            let here : block_at y ≡ a = (λ z. f.address (q z) (place (r z))) ∙ e in
            let width : 139 ≡ w = omega arith in
            let high' : 139 * (i - 1) + m < 139 * 0 + 139 * inodes = omega arith in
            let high'' : y < w * 0 + w * inodes = subst (λ v. y < v * 0 + v * inodes) width high' in
            sym (ap (λ x. is_listed x taken) here) ∙ among_map_at block_at (w * 0) (w * inodes) y (subst (λ v. v * 0 ≤ y) width (omega arith)) high''

        stands : (i : ℕ) (p : Place) → f.address i p ≡ a → (t : Bool) → is_listed a taken ≡ t → t ≡ false → ⊥
        stands i p e true is out = absurd (cc)
        stands i p e false is out =
            let nz : f.address i p ≢ 0 = λ z. positive (sym e ∙ z) in
            let place' = (frame-IsFrame image).places i p nz in
            let numbers = (frame-IsFrame image).numbers i place'.0 in
            let yes : is_listed a taken ≡ true = by_place p e nz place'.1 i numbers.0 numbers.1 in
            absurd (cc)
          where
            by_place : (p : Place) → f.address i p ≡ a → f.address i p ≢ 0 → CanHold p → (j : ℕ) → 1 ≤ i → i ≤ inodes → is_listed a taken ≡ true
            by_place (Body k) e nz can j low high = at_number i k low high (let lt : k < 138 = can in omega arith) (ap (f.address i) (place_of_body k can) ∙ e)
            by_place Single e nz can j low high = at_number i 138 low high (omega arith) (ap (f.address i) (place_of_map 138 (omega arith)) ∙ e)
            by_place Double e nz can j low high = absurd (nz (weak.no_double i))

    free-counted : (size : ℕ) → f.fsize ≤ size → count_by has (range_with_len 0 size) ≡ free (view image)
    unfolding is_block view files_of
    free-counted size le =
        let n : ℕ = f.fsize - f.isize in
        let above = weak.sizes.above in
        let low = weak.sizes.low in
        let first = count_parts has 0 f.isize (size - f.isize) size (omega arith) in
        let second = count_parts has (0 + f.isize) n (size - f.fsize) (size - f.isize) (omega arith) in
        let before = count_none has 0 f.isize (λ a l u. not_free a (λ (y : IsFreeBlock f a). let from = y.low in omega arith)) in
        let after = count_none has ((0 + f.isize) + n) (size - f.fsize) (λ a l u. not_free a (λ (y : IsFreeBlock f a). let to = y.high in omega arith)) in
        let both = count_others has (λ a. is_listed a taken) f.isize n (λ a l u. has-taken a l (omega arith)) in
        let placed = count_places f.isize n taken (omega arith) taken-once in
        let used = count-taken in
        let start : 0 + f.isize ≡ f.isize = omega arith in
        let middle : count_by has (range_with_len (0 + f.isize) n) ≡ count_by has (range_with_len f.isize n) = λ z. count_by has (range_with_len (start z) n) in
        omega arith
      where
        not_free : (a : ℕ) → (IsFreeBlock f a → ⊥) → has a ≡ false
        not_free a no' = ⊎_elim (λ (y : has a ≡ true). absurd (no' (sound a y))) (λ (n : has a ≡ false). n) (cases_Bool (has a))

-- where there is nothing to mend, as many blocks are free as the files leave
pub free_blocks-counted : (image : Image) (blocks inodes : List Bool) → IsStrong (frame image) → AreSetsOf image blocks inodes → count_free blocks ≡ free (view image)
free_blocks-counted image blocks inodes strong are =
    let room = are.blocks_room in
    let listed = count_listed (λ b. b) false blocks in
    let all = free-counted image strong 138 139 refl refl (is_free blocks) are.free are.all_free (length blocks) (omega arith) in omega arith
