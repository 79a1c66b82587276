-- What differs after mending differs in each image that repairs the volume.
use Rattle.std.proofs.Common.{◌≡◌, ◌≢◌, ℕ, ◌+◌, ◌-◌, ◌*◌, ◌<◌, ◌≤◌, Bool, true, false, cond, not, ◌==◌, ◌&&◌, ◌||◌, length, get_or, refl, sym, ap, subst, ◌∙◌, arith, ⊎_elim, ltb, eq-eqb, Some, None}
use Rattle.std.proofs.lemmas.Bool.{cases_eq, cases_lt, cases_Bool, ne_eqb, lt-ltb}
use Rattle.std.specs.FinMap.{get}
use Rattle.std.specs.List.{range_with_len}
use Rattle.v7_layout.specs.declared.inode.Inode.{Inode}
use Rattle.v7_layout.specs.Numbers.{field}
use Rattle.files_model.specs.Files.{Node, Files, sectors_of}
use Rattle.files_model.proofs.Maps.{get-tabulated}
use Rattle.stable.specs.Store.{Image}
use Rattle.v7_map.specs.Image.{sector_at, inode_at, is_inode, isize_of, inodes_before}
use Rattle.v7_map.specs.Frame.{Body, Single, address_of, listed, frame}
use Rattle.v7_map.specs.Tree.{tree, is_named, is_walked, links as count_links}
use Rattle.v7_map.specs.View.{view, files_of, node_at}
use Rattle.v7_map.specs.Weak.{IsWeak}
use Rattle.v7_map.proofs.AnyFrame.{frame-IsFrame}
use Rattle.v7_map.proofs.Frames.{and_left, and_right}
use Rattle.v7_map.proofs.Members.{any_is, in_range_of}
use Rattle.v7_map.proofs.Nodes.{StandsAs, view-node}
use Rattle.v7_map.proofs.Walks.{or_right}
use Rattle.v7_mend.specs.Repairs.{Repairs}
use Rattle.v7_mend.specs.Settled.{settled_inode, entry, holds_below, holds_in, trimmed}
use Rattle.v7_mend.specs.Trims.{has_map}
use Rattle.v7_mend.proofs.Mapping.{used_of, map_parts}
use Rattle.v7_mend.proofs.Settling.{length_direct, settled_free, settled_kept, unnamed_of, none_listed}
use Rattle.v7_mend.proofs.Trimming.{address_listed, address_single}
use Rattle.v7_mend.proofs.Zeros.{direct_stays, block_stays}

pub clash : (b : Bool) → b ≡ true → not b ≡ true → ⊥
clash true t u = absurd (cc)
clash false t u = absurd (cc)

unset : (b : Bool) → not b ≡ true → b ≡ false
unset true e = absurd (cc)
unset false e = refl

not_second : (a b : Bool) → not (a || b) ≡ true → not b ≡ true
not_second true b e = absurd (cc)
not_second false b e = e

ltb-lt : (a b : ℕ) → ltb a b ≡ true → a < b
ltb-lt a b e = grind arith

-- a block of addresses that is to stay has one below the size
first_listed : (image : Image) (i count : ℕ) → ((frame image).head i).is_used ≡ true → has_map image (inode_at image i) count ≡ true
    → (k : ℕ) × (10 ≤ k) × (k < 138) × (k < sectors_of (inode_at image i).size) × ((frame image).address i (Body k) ≢ 0)
unfolding holds_in holds_below entry
first_listed image i count used has =
    let h = and_right _ _ has in
    let nb : not ((inode_at image i).single == 0) ≡ true = and_left _ _ h in
    let a = any_is (λ k. ltb k (sectors_of (inode_at image i).size) && not (entry (sector_at image (inode_at image i).single) k == 0)) (range_with_len 10 128) (and_right _ _ h) in
    let range = in_range_of a.0 10 128 a.1 in (
      a.0,
      range.0,
      range.1,
      ltb-lt a.0 (sectors_of (inode_at image i).size) (and_left _ _ a.2),
      λ z. clash (entry (sector_at image (inode_at image i).single) a.0 == 0) (eq-eqb (entry (sector_at image (inode_at image i).single) a.0) 0
          ((λ q. cond (sym (unset ((inode_at image i).single == 0) nb) q) 0 (field (sector_at image (inode_at image i).single) (4 * (a.0 - 10)) 4)) ∙ sym (address_listed image i a.0 used range.0 range.1) ∙ z)) (and_right _ _ a.2),
    )

-- the node of an inode that has a name
shown : (image : Image) (i : ℕ) → is_named (tree (frame image)) i ≡ true → i < (tree (frame image)).inodes + 1 → get (view image).nodes i ≡ Some (node_at image i)
unfolding view files_of
shown image i named within = get-tabulated _ ((tree (frame image)).inodes + 1) i within ∙ ap (λ b. cond b (Some (node_at image i)) None) named

pub in_volume : (image : Image) (i : ℕ) → ((frame image).head i).is_used ≡ true → i < (tree (frame image)).inodes + 1
in_volume image i used = let r = (frame-IsFrame image).numbers i used in let high = r.1 in omega arith

pub size_in_head : (image : Image) (i : ℕ) → ((frame image).head i).size ≡ (inode_at image i).size
unfolding frame
size_in_head image i = refl

address_direct : (image : Image) (i k : ℕ) → ((frame image).head i).is_used ≡ true → k < 10 → (frame image).address i (Body k) ≡ get_or (inode_at image i).direct k 0
unfolding frame address_of
address_direct image i k used lt z = cond (used z) (cond (lt-ltb k 10 lt z) (get_or (inode_at image i).direct k 0) (cond (ltb k 138) (listed image (inode_at image i).single (k - 10)) 0)) 0

numbers : (image : Image) (d : ℕ) → (tree (frame image)).is_dir d ≡ true → (1 ≤ d) × (d < 1 + (tree (frame image)).inodes)
numbers image d dir = let is = frame-IsFrame image in let r = is.numbers d (is.directories d dir) in let h = r.1 in (r.0, omega arith)

module _ (old other : Image) (weak : IsWeak (frame old)) (r : Repairs old other) where
  same_inodes : (tree (frame other)).inodes ≡ (tree (frame old)).inodes
  unfolding view files_of
  same_inodes = ap (λ (f : Files). f.inodes) r.view

  low_isize : (3 ≤ isize_of old) × (3 ≤ isize_of other)
  unfolding frame
  low_isize = (weak.sizes.low, r.strong.weak.sizes.low)

  pub same_isize : isize_of other ≡ isize_of old
  unfolding frame
  same_isize = let low = low_isize.0 in let low' = low_isize.1 in let e : inodes_before (isize_of other) ≡ inodes_before (isize_of old) = same_inodes in omega (arith, low, low', e)

  -- what has a name in one has it in the other, and is the same node
  named_there : (i : ℕ) → is_named (tree (frame old)) i ≡ true → i < (tree (frame old)).inodes + 1 → StandsAs other i (node_at old i)
  named_there i named within = view-node other i (node_at old i) (ap (λ (f : Files). get f.nodes i) r.view ∙ shown old i named within)

  pub named_here : (i : ℕ) → is_named (tree (frame other)) i ≡ true → i < (tree (frame other)).inodes + 1 → StandsAs old i (node_at other i)
  named_here i named within = view-node old i (node_at other i) (ap (λ (f : Files). get f.nodes i) (sym r.view) ∙ shown other i named within)

  module _ (i : ℕ) (same : inode_at other i ≡ inode_at old i) (mode : ((inode_at old i).mode == 0) ≡ false) where
    abbrev m : Inode
    m = inode_at old i

    used_old : ((frame old).head i).is_used ≡ true
    unfolding frame
    used_old = ap not mode

    used : ((frame other).head i).is_used ≡ true
    unfolding frame
    used = ap (λ (n : Inode). not (n.mode == 0)) same ∙ ap not mode

    here : StandsAs old i (node_at other i)
    here = named_here i (r.strong.named i used) (in_volume other i used)

    size : ((frame other).head i).size ≡ m.size
    unfolding frame
    size = ap (λ (n : Inode). n.size) same

    counted : m.nlink ≡ count_links (tree (frame old)) i
    unfolding frame
    counted = ap (λ (n : Inode). n.nlink) (sym same) ∙ r.strong.counted i used ∙ sym (ap (λ (n : Node). n.nlink) here.is)

    linked : count_links (tree (frame old)) i ≢ 0
    linked none = differ (is_named (tree (frame old)) i) here.named (unnamed_of (frame old) i weak (numbers old) none)
      where
        differ : (b : Bool) → b ≡ true → b ≡ false → ⊥
        differ true t f = absurd (cc)
        differ false t f = absurd (cc)

    none_past : (k : ℕ) → sectors_of m.size ≤ k → (frame other).address i (Body k) ≡ 0
    none_past k past = r.strong.none_past i k (subst (λ n. sectors_of n ≤ k) (sym size) past)

    direct : (k : ℕ) → k < 10 → sectors_of m.size ≤ k → get_or m.direct k 0 ≡ 0
    direct k lt past = ap (λ (n : Inode). get_or n.direct k 0) (sym same) ∙ sym (address_direct other i k used lt) ∙ none_past k past

    -- a block of addresses that stands there has one below the size
    single : (stays : Bool) → stays ≡ holds_in old m → cond stays m.single 0 ≡ m.single
    single true is = refl
    single false is = ⊎_elim
        (λ (z : m.single ≡ 0). sym z)
        (λ (nz : m.single ≢ 0).
        let at : (frame other).address i Single ≡ m.single = address_single other i used ∙ ap (λ (n : Inode). n.single) same in
        let a = any_is (λ k. not ((frame other).address i (Body k) == 0)) (range_with_len 10 128) (r.strong.single_needed i (λ z. nz (sym at ∙ z))) in
        let range = in_range_of a.0 10 128 a.1 in
        let some : (frame other).address i (Body a.0) ≢ 0 = λ z. clash ((frame other).address i (Body a.0) == 0) (eq-eqb _ 0 z) a.2 in
        ⊎_elim
        (λ (below : a.0 < sectors_of m.size).
        absurd (some (r.places i (Body a.0) some ∙ address_listed old i a.0 used_old range.0 range.1 ∙ none_listed old m a.0 (sym is) range.0 range.1 below)))
        (λ (past : sectors_of m.size ≤ a.0). absurd (some (none_past a.0 past)))
        (cases_lt a.0 (sectors_of m.size)))
        (cases_eq m.single 0)

    pub used_stays : (count : ℕ) → count ≡ count_links (tree (frame old)) i → settled_inode m count (holds_in old m) ≡ m
    used_stays count is = settled_kept m count (holds_in old m) mode (λ z. linked (sym is ∙ z)) ∙ (λ z. record m {
      nlink = (is ∙ sym counted) z;
      direct = direct_stays (sectors_of m.size) m.direct (length_direct old i) direct z;
      single = single (holds_in old m) refl z;
    })

  -- an inode that stays in the other is settled
  pub inode_stays : (i count : ℕ) → inode_at other i ≡ inode_at old i → (is_inode old i ≡ true → count ≡ count_links (tree (frame old)) i) → is_inode old i ≡ true → settled_inode (inode_at old i) count (holds_in old (inode_at old i)) ≡ inode_at old i
  inode_stays i count same is in' = ⊎_elim
      (λ (free : ((inode_at old i).mode == 0) ≡ true). settled_free (inode_at old i) count (holds_in old (inode_at old i)) free)
      (λ (mode : ((inode_at old i).mode == 0) ≡ false). used_stays i same mode count (is in'))
      (cases_Bool ((inode_at old i).mode == 0))

  -- a block of addresses that stays in the other is trimmed
  pub map_stays : (i count s : ℕ) → count ≡ count_links (tree (frame old)) i → has_map old (inode_at old i) count ≡ true → (inode_at old i).single ≡ s → sector_at other s ≡ sector_at old s → length (sector_at old s) ≡ 512
      → trimmed (sector_at old s) (sectors_of (inode_at old i).size) ≡ sector_at old s
  unfolding entry
  map_stays i count s is has at same long = block_stays (sector_at old s) (sectors_of m.size) long none
    where
      m : Inode
      m = inode_at old i

      used : ((frame old).head i).is_used ≡ true
      used = used_of old i (map_parts old m count has).0

      found : (k : ℕ) × (10 ≤ k) × (k < 138) × (k < sectors_of m.size) × ((frame old).address i (Body k) ≢ 0)
      found = first_listed old i count used has

      linked : count_links (tree (frame old)) i ≢ 0
      linked z = clash (count == 0) (eq-eqb count 0 (is ∙ z)) (not_second (m.mode == 0) (count == 0) (and_left _ _ has))

      named : is_named (tree (frame old)) i ≡ true
      named = or_right (is_walked (tree (frame old)) i) _ (lt-ltb 0 (count_links (tree (frame old)) i) (let some = linked in omega (arith, some)))

      there : StandsAs other i (node_at old i)
      there = named_there i named (in_volume old i used)

      size : (inode_at other i).size ≡ m.size
      size = ap (λ (n : Node). n.size) there.is

      stands : (frame other).address i (Body found.0) ≢ 0
      stands z = found.4 (sym (r.below i found.0 named found.3) ∙ z)

      used_other : ((frame other).head i).is_used ≡ true
      used_other = ((frame-IsFrame other).places i (Body found.0) stands).0

      single : (inode_at other i).single ≡ s
      single =
          let nz : (frame other).address i Single ≢ 0 = λ z. stands ((frame-IsFrame other).through i found.0 found.1 z) in
          sym (address_single other i used_other) ∙ r.places i Single nz ∙ address_single old i used ∙ at

      s_there : s ≢ 0
      s_there z = (map_parts old m count has).1 (at ∙ z)

      past_other : (k : ℕ) → sectors_of m.size ≤ k → sectors_of ((frame other).head i).size ≤ k
      past_other k past = subst (λ n. sectors_of n ≤ k) (sym (size_in_head other i ∙ size)) past

      none : (k : ℕ) → 10 ≤ k → k < 138 → sectors_of m.size ≤ k → field (sector_at old s) (4 * (k - 10)) 4 ≡ 0
      none k ge lt past =
          ap (λ b. field b (4 * (k - 10)) 4) (sym same)
          ∙ sym (ap (λ b. cond b 0 (field (sector_at other s) (4 * (k - 10)) 4)) (ne_eqb s 0 s_there))
          ∙ ap (λ q. listed other q (k - 10)) (sym single)
          ∙ sym (address_listed other i k used_other ge lt)
          ∙ r.strong.none_past i k (past_other k past)
