-- Where no inode's test fails, the directories can be read.
use Rattle.std.proofs.Common.{◌≡◌, ◌≢◌, ℕ, ◌+◌, ◌<◌, ◌≤◌, Bool, true, false, cond, not, ◌&&◌, ◌||◌, ◌==◌, List, [], ◌∷◌, ◌++◌, length, get_or, refl, sym, ap, subst, ◌∙◌, arith, ⊎_elim, inl, inr, ltb, leb, eq-eqb, None}
use Rattle.std.specs.Prelude.{replicate, count_by}
use Rattle.std.specs.List.{range_with_len, list_any}
use Rattle.std.proofs.lemmas.Bool.{cases_eq, cases_lt, cases_Bool, leb-true, ltb-true, ne_eqb}
use Rattle.std.proofs.lemmas.List.{drop_all, get_or-replicate, get_or_past, length-replicate}
use Rattle.stable.specs.Store.{Image}
use Rattle.v7_map.specs.Image.{inode_at}
use Rattle.v7_map.specs.Frame.{Frame, Head, Body, frame, is_directory}
use Rattle.v7_map.specs.Tree.{Tree, tree, is_slot_of}
use Rattle.v7_map.specs.Weak.{HasSizes}
use Rattle.v7_map.specs.Damage.{Test, Sizes, Kind, Length, Address, Shared, passes, has_address, has_kind, inode_tests, tests, is_needed}
use Rattle.v7_map.proofs.AnyFrame.{frame-IsFrame}
use Rattle.v7_map.proofs.Frames.{and_left, and_right}
use Rattle.v7_map.proofs.Members.{In, In-flat_map, In-range, find_none}
use Rattle.v7_map.proofs.SuperBlock.{sizes-passed}
use Rattle.v7_damage.specs.Marks.{mark_at}
use Rattle.v7_damage.specs.declared.bodies.Bodies.{Bodies}
use Rattle.v7_damage.specs.Stored.{place_of_body}
use Rattle.v7_damage.specs.Tables.{AreBodies, HasBody, CanRead}
use Rattle.v7_damage.specs.Walk.{CanWalk}
use Rattle.v7_damage.specs.Names.{AreTypes, HasKept, slots_until, tests_of_directories}
use Rattle.v7_damage.specs.Tests.{first_failing, tests_of, tests_of_inodes, place_tests}
use Rattle.v7_damage.proofs.BodyPlaces.{place-body}
use Rattle.v7_damage.proofs.InodeTests.{tests_used}
use Rattle.v7_damage.proofs.WalkSteps.{no-marks}

turned : (b : Bool) → not b ≡ false → b ≡ true
turned true e = refl
turned false e = absurd (cc)

pub all_pass : (f : Frame) (t : Test) (ts : List Test) → first_failing f ts ≡ None → In t ts → passes f t ≡ true
unfolding first_failing
all_pass f t ts none in' = turned (passes f t) (find_none (λ t. not (passes f t)) t ts none in')

in-rest : (f : Frame) (t : Test) (n : ℕ) → In t (tests_of_inodes f 1 n) → In t (Sizes ∷ tests_of_inodes f 1 n)
unfolding In
in-rest f t n h = inr h

in-first : (f : Frame) (n : ℕ) → In Sizes (Sizes ∷ tests_of_inodes f 1 n)
unfolding In
in-first f n = inl refl

in-inode : (f : Frame) (t : Test) (i n : ℕ) → 1 ≤ i → i < 1 + n → In t (tests_of f i) → In t (tests_of_inodes f 1 n)
unfolding tests_of tests_of_inodes
in-inode f t i n low high h = In-flat_map (inode_tests f) t i (range_with_len 1 n) (In-range i 1 n low high) h

in-kind : (i : ℕ) → In (Kind i) (Kind i ∷ Length i ∷ place_tests i 0 140)
unfolding In
in-kind i = inl refl

in-length : (i : ℕ) → In (Length i) (Kind i ∷ Length i ∷ place_tests i 0 140)
unfolding In
in-length i = inr (inl refl)

in-address : (i n : ℕ) → n < 140 → In (Address i n) (Kind i ∷ Length i ∷ place_tests i 0 140)
unfolding In place_tests
in-address i n lt = inr (inr (In-flat_map (λ k. Address i k ∷ Shared i k ∷ []) (Address i n) n (range_with_len 0 140) (In-range n 0 140 (omega arith) lt) (inl refl)))

cond_within : (a isize fsize : ℕ) (b : Bool) → 0 < fsize → cond (a == 0) b (leb isize a && ltb a fsize) ≡ true → a < fsize
cond_within a isize fsize b some e = ⊎_elim
    (λ (z : a ≡ 0). omega arith)
    (λ (nz : a ≢ 0). let in' : (leb isize a && ltb a fsize) ≡ true = sym (ap (λ t. cond t b (leb isize a && ltb a fsize)) (ne_eqb a 0 nz)) ∙ e in ltb-true a fsize (and_right (leb isize a) _ in'))
    (cases_eq a 0)

type_zero : (i : ℕ) (h : Head) → has_kind i h ≡ true → h.type ≢ 0
type_zero i h e z = let by : has_kind i h ≡ (not (i == 1) && (cond (i == 2) false false)) = (λ k. not (i == 1) && cond (i == 2) (z k == 4) ((z k == 4) || ((z k == 8) || (z k == 10)))) in
    let none : (not (i == 1) && cond (i == 2) false false) ≡ false = never (not (i == 1)) (i == 2) in
    let clash : true ≡ false = sym e ∙ by ∙ none in absurd (cc)
  where
    never : (a b : Bool) → (a && cond b false false) ≡ false
    never true true = refl
    never true false = refl
    never false true = refl
    never false false = refl

module _ (image : Image) (none : first_failing (frame image) (Sizes ∷ tests_of_inodes (frame image) 1 (tree (frame image)).inodes) ≡ None) where
  abbrev f : Frame
  f = frame image

  pub sizes : HasSizes f
  sizes = sizes-passed f (all_pass f Sizes (Sizes ∷ tests_of_inodes f 1 (tree f).inodes) none (in-first f (tree f).inodes))

  inode_passes : (i : ℕ) (t : Test) → (f.head i).is_used ≡ true → In t (Kind i ∷ Length i ∷ place_tests i 0 140) → passes f t ≡ true
  inode_passes i t used h =
      let r = (frame-IsFrame image).numbers i used in let high = r.1 in
      all_pass f t (Sizes ∷ tests_of_inodes f 1 (tree f).inodes) none (in-rest f t (tree f).inodes (in-inode f t i (tree f).inodes r.0 (omega arith) (subst (In t) (sym (tests_used f i used)) h)))

  long-image : f.fsize ≤ length image
  unfolding frame
  long-image = sizes.within

  can_read : (bodies : Bodies) (i : ℕ) → is_directory (f.head i) ≡ true → HasBody image bodies i → CanRead image bodies i
  can_read bodies i dir has =
      let used = (frame-IsFrame image).directories i dir in
      let size : (f.head i).size ≤ 70656 = leb-true (f.head i).size 70656 (and_left _ _ (inode_passes i (Length i) used (in-length i))) in
      record {
        dir = dir;
        size = size;
        stand = λ k below.
            let lt : k < 138 = omega arith in
            let at = place-body k lt in
            let passed : has_address f i (Body k) ≡ true = subst (λ p. has_address f i p ≡ true) at.1 (inode_passes i (Address i (place_of_body k)) used (in-address i (place_of_body k) at.0)) in
            let low = sizes.low in let above = sizes.above in let within = long-image in
            let some : 0 < f.fsize = omega arith in
            let near = cond_within (f.address i (Body k)) f.isize f.fsize (not (is_needed (f.head i) (Body k))) some passed in
            omega arith;
        has = has;
      }

  pub can_walk : (types : List ℕ) (bodies : Bodies) → ((i : ℕ) → get_or types i 0 ≡ (f.head i).type) → AreBodies image bodies ((tree f).inodes + 1) → CanWalk image types bodies
  can_walk types bodies are had = record {
    types_are = λ i. ap (λ t. t == 4) (are i);
    read = λ i dir. let r = (frame-IsFrame image).numbers i ((frame-IsFrame image).directories i dir) in let high = r.1 in can_read bodies i dir (had.each i (omega arith) dir);
  }

  free-type : (i : ℕ) → (f.head i).is_used ≡ false → (f.head i).type ≡ 0
  unfolding frame
  free-type i free = ⊎_elim
      (λ (z : (inode_at image i).mode ≡ 0). omega arith)
      (λ (nz : (inode_at image i).mode ≢ 0). let clash : true ≡ false = sym (ap not (ne_eqb (inode_at image i).mode 0 nz)) ∙ free in absurd (cc))
      (cases_eq (inode_at image i).mode 0)

  pub are_types : (types : List ℕ) → ((i : ℕ) → get_or types i 0 ≡ (f.head i).type) → AreTypes f types
  are_types types are = record {
    each = are;
    used = λ i. ⊎_elim
        (λ (used : (f.head i).is_used ≡ true). used ∙ sym (ap not (ne_eqb (f.head i).type 0 (type_zero i (f.head i) (inode_passes i (Kind i) used (in-kind i))))))
        (λ (free : (f.head i).is_used ≡ false). free ∙ sym (ap not (eq-eqb (f.head i).type 0 (free-type i free))))
        (cases_Bool (f.head i).is_used);
  }

-- before the first slot
no-slots : (t : Tree) (n : ℕ) → slots_until t n 1 0 ≡ []
unfolding slots_until
no-slots t n = ap (λ l. [] ++ l) (drop_all n [] (omega arith))

pub kept_start : (g : Frame) (types counts : List ℕ) (named : List Bool) (n m : ℕ) → AreTypes g types → counts ≡ replicate n 0 → named ≡ replicate m false → HasKept g types counts named 1 0
kept_start g types counts named n m are zeros none = record {
  types_are = are;
  counts_are = record { each = λ i low lt. ap (λ l. get_or l i 0) zeros ∙ zero-at n i ∙ sym (ap (count_by (is_slot_of i)) (no-slots (tree g) 0)) };
  named_are = record { each = λ i dir. ap (λ l. mark_at l i) none ∙ no-marks m i ∙ sym (ap (list_any (is_slot_of i)) (no-slots (tree g) 2)) };
}
  where
    zero-at : (n i : ℕ) → ◌≡◌ {A = ℕ} (get_or (replicate n 0) i 0) 0
    zero-at n i = ⊎_elim (λ (lt : i < n). get_or-replicate n i 0 0 lt) (λ (ge : n ≤ i). get_or_past (replicate n 0) i 0 (let l : length (replicate {A = ℕ} n 0) ≡ n = length-replicate n 0 in omega arith)) (cases_lt i n)

-- all tests: those of the super-block and the inodes, and those of the directories
pub tests_split : (f : Frame) → tests f ≡ (Sizes ∷ tests_of_inodes f 1 (tree f).inodes) ++ tests_of_directories (tree f) 1 (tree f).inodes
unfolding tests tests_of_inodes tests_of_directories
tests_split f = refl
