-- The tests of an inode, and inode by inode.
use Rattle.std.proofs.Common.{◌≡◌, ◌≢◌, ◌⊎◌, ℕ, zero, suc, ◌+◌, ◌-◌, ◌/◌, ◌<◌, ◌≤◌, Bool, true, false, cond, not, ◌&&◌, ◌||◌, ◌==◌, List, [], ◌∷◌, ◌++◌, map, append-nil, refl, sym, ap, subst, ◌∙◌, arith, ⊎_elim, inl, inr, eq-eqb, Some, None}
use Rattle.std.specs.Prelude.{Option}
use Rattle.std.specs.Option.{option_map}
use Rattle.std.specs.List.{range_with_len, flat_map, find}
use Rattle.std.proofs.lemmas.Bool.{cases_eq, cases_Bool, ne_eqb}
use Rattle.v7_layout.specs.declared.inode.Inode.{Inode}
use Rattle.v7_map.specs.Image.{inode_sector}
use Rattle.v7_map.specs.Frame.{Frame, Head, head_of}
use Rattle.v7_map.specs.Damage.{Test, Kind, Length, Address, Shared, passes, place_at, block, inode_tests, sector_of_test}
use Rattle.v7_map.proofs.Members.{In, in_flat_map}
use Rattle.v7_map.proofs.SlotLists.{flat_more}
use Rattle.v7_damage.specs.declared.damage.Damage.{Damage}
use Rattle.v7_damage.specs.Marks.{AreSeen}
use Rattle.v7_damage.specs.Tests.{first_failing, kind_of_test, place_tests, earlier_blocks, tests_of, tests_of_inodes, told}
use Rattle.v7_damage.proofs.MarkLists.{seen_none}
use Rattle.v7_damage.proofs.Failing.{earlier_more, first-append_some}

pub tests_used : (f : Frame) (i : ℕ) → (f.head i).is_used ≡ true → tests_of f i ≡ Kind i ∷ Length i ∷ place_tests i 0 140
unfolding tests_of place_tests
tests_used f i used = ap (λ b. cond b (Kind i ∷ Length i ∷ flat_map (λ n. Address i n ∷ Shared i n ∷ []) (range_with_len 0 140)) (cond (i == 2) (Kind i ∷ []) [])) used

pub tests_root : (f : Frame) (i : ℕ) → (f.head i).is_used ≡ false → i ≡ 2 → tests_of f i ≡ Kind i ∷ []
unfolding tests_of
tests_root f i free root =
    ap (λ b. cond b (Kind i ∷ Length i ∷ flat_map (λ n. Address i n ∷ Shared i n ∷ []) (range_with_len 0 140)) (cond (i == 2) (Kind i ∷ []) [])) free
    ∙ ap (λ b. cond b (Kind i ∷ []) []) (eq-eqb i 2 root)

pub tests_free : (f : Frame) (i : ℕ) → (f.head i).is_used ≡ false → i ≢ 2 → tests_of f i ≡ []
unfolding tests_of
tests_free f i free other =
    ap (λ b. cond b (Kind i ∷ Length i ∷ flat_map (λ n. Address i n ∷ Shared i n ∷ []) (range_with_len 0 140)) (cond (i == 2) (Kind i ∷ []) [])) free
    ∙ ap (λ b. cond b (Kind i ∷ []) []) (ne_eqb i 2 other)

-- a free inode isn't the root's
pub root_fails : (f : Frame) (i : ℕ) → i ≡ 2 → (f.head i).type ≡ 0 → passes f (Kind i) ≡ false
root_fails f i root free = λ z. not (root z == 1) && cond (root z == 2) (free z == 4) ((free z == 4) || ((free z == 8) || (free z == 10)))

pub used_by : (f : Frame) (i : ℕ) (n : Inode) → f.head i ≡ head_of n → n.mode ≢ 0 → (f.head i).is_used ≡ true
used_by f i n is some = ap (λ (h : Head). h.is_used) is ∙ ap not (ne_eqb n.mode 0 some)

pub free_by : (f : Frame) (i : ℕ) (n : Inode) → f.head i ≡ head_of n → n.mode ≡ 0 → (f.head i).is_used ≡ false
free_by f i n is none = ap (λ (h : Head). h.is_used) is ∙ ap not (eq-eqb n.mode 0 none)

pub type_by : (f : Frame) (i : ℕ) (n : Inode) → f.head i ≡ head_of n → n.mode ≡ 0 → (f.head i).type ≡ 0
type_by f i n is none = ap (λ (h : Head). h.type) is ∙ (let e : n.mode / 4096 ≡ 0 = omega arith in e)

-- ---- seen blocks

-- the places of an inode and those of the next
pub earlier_next : (f : Frame) (i : ℕ) → 1 ≤ i → earlier_blocks f (i + 1) 0 ≡ earlier_blocks f i 140
unfolding earlier_blocks
earlier_next f i low =
    let g : ℕ → List ℕ = λ (j : ℕ). map (block f j) (range_with_len 0 140) in
    let e : (i + 1) - 1 ≡ suc (i - 1) = omega arith in
    let back : 1 + (i - 1) ≡ i = omega arith in
    append-nil (flat_map g (range_with_len 1 ((i + 1) - 1))) ∙ ap (λ m. flat_map g (range_with_len 1 m)) e ∙ flat_more g 1 (i - 1) ∙ ap (λ j. flat_map g (range_with_len 1 (i - 1)) ++ g j) back

pub earlier_start : (f : Frame) → earlier_blocks f 1 0 ≡ []
unfolding earlier_blocks
earlier_start f = refl

-- the places of a free inode
pub seen_free : (f : Frame) (i : ℕ) (seen : List Bool) → ((k : ℕ) → f.address i (place_at k) ≡ 0) → (n : ℕ) → AreSeen seen (earlier_blocks f i 0) → AreSeen seen (earlier_blocks f i n)
seen_free f i seen none zero was = was
seen_free f i seen none (suc n) was =
    let e : n + 1 ≡ suc n = omega arith in
    subst (λ m. AreSeen seen (earlier_blocks f i m)) e (subst (AreSeen seen) (sym (earlier_more f i n)) (seen_none seen (earlier_blocks f i n) (f.address i (place_at n)) (none n) (seen_free f i seen none n was)))

-- ---- what is told

module _ (f : Frame) (i : ℕ) where
  of_inode : (t : Test) → In t (Kind i ∷ Length i ∷ place_tests i 0 140) → sector_of_test f t ≡ inode_sector i
  unfolding In place_tests
  of_inode t (inl e) = ap (sector_of_test f) e
  of_inode t (inr (inl e)) = ap (sector_of_test f) e
  of_inode t (inr (inr h)) = let q = in_flat_map (λ n. Address i n ∷ Shared i n ∷ []) t (range_with_len 0 140) h in of_place q.0 q.2
    where
      of_place : (n : ℕ) → In t (Address i n ∷ Shared i n ∷ []) → sector_of_test f t ≡ inode_sector i
      of_place n (inl e) = ap (sector_of_test f) e
      of_place n (inr (inl e)) = ap (sector_of_test f) e
      of_place n (inr (inr h)) = absurd h

  of_root : (t : Test) → In t (Kind i ∷ []) → sector_of_test f t ≡ inode_sector i
  unfolding In
  of_root t (inl e) = ap (sector_of_test f) e
  of_root t (inr h) = absurd h

  sector_told : (t : Test) → In t (tests_of f i) → sector_of_test f t ≡ inode_sector i
  unfolding In
  sector_told t in' = ⊎_elim
      (λ (used : (f.head i).is_used ≡ true). of_inode t (subst (In t) (tests_used f i used) in'))
      (λ (free : (f.head i).is_used ≡ false). ⊎_elim
      (λ (root : i ≡ 2). of_root t (subst (In t) (tests_root f i free root) in'))
      (λ (other : i ≢ 2). absurd (subst (In t) (tests_free f i free other) in'))
      (cases_eq i 2))
      (cases_Bool (f.head i).is_used)

pub first-in : (f : Frame) (t : Test) (ts : List Test) → first_failing f ts ≡ Some t → In t ts
unfolding first_failing In
first-in f t [] e = absurd (cc)
first-in f t (x ∷ xs) e = by_test (first-in f t xs) (not (passes f x)) e
  where
    by_test : (find (λ t. not (passes f t)) xs ≡ Some t → In t xs) → (b : Bool) → cond b (Some x) (find (λ t. not (passes f t)) xs) ≡ Some t → (t ≡ x) ⊎ In t xs
    by_test rest true e = inl (let s : x ≡ t = cc in sym s)
    by_test rest false e = inr (rest e)

-- the kind that is told, with its sector
pub told_inode : (f : Frame) (i : ℕ) (kind : Damage) → Some kind ≡ option_map kind_of_test (first_failing f (tests_of f i)) → told f (first_failing f (tests_of f i)) ≡ Some (inode_sector i, kind)
told_inode f i kind is = by_first (first_failing f (tests_of f i)) refl
  where
    by_first : (o : Option Test) → first_failing f (tests_of f i) ≡ o → told f (first_failing f (tests_of f i)) ≡ Some (inode_sector i, kind)
    by_first None e = let no : Some kind ≡ None = is ∙ ap (option_map kind_of_test) e in absurd (cc)
    by_first (Some t) e =
        let some : Some kind ≡ Some (kind_of_test t) = is ∙ ap (option_map kind_of_test) e in
        let same : kind ≡ kind_of_test t = cc in
        let at = sector_told f i t (first-in f t (tests_of f i) e) in
        ap (told f) e ∙ (λ z. Some (at z, sym same z))

-- it comes first of the longer list too
pub told_more : (f : Frame) (ts us : List Test) (x : ℕ × Damage) → told f (first_failing f ts) ≡ Some x → told f (first_failing f (ts ++ us)) ≡ Some x
told_more f ts us x is = by_first (first_failing f ts) refl
  where
    by_first : (o : Option Test) → first_failing f ts ≡ o → told f (first_failing f (ts ++ us)) ≡ Some x
    by_first None e = let no : Some x ≡ None = sym is ∙ ap (told f) e in absurd (cc)
    by_first (Some t) e = ap (told f) (first-append_some f t ts us e ∙ sym e) ∙ is

-- one inode more
pub inodes_more : (f : Frame) (i n : ℕ) → i < n + 1 → tests_of_inodes f i (n + 1 - i) ≡ tests_of f i ++ tests_of_inodes f (i + 1) (n + 1 - (i + 1))
unfolding tests_of_inodes tests_of
inodes_more f i n lt = let e : n + 1 - i ≡ suc (n + 1 - (i + 1)) = omega arith in ap (λ m. flat_map (inode_tests f) (range_with_len i m)) e

pub inodes_end : (f : Frame) (i m : ℕ) → m ≡ 0 → tests_of_inodes f i m ≡ []
unfolding tests_of_inodes
inodes_end f i m e = ap (λ m. flat_map (inode_tests f) (range_with_len i m)) e
