-- Whether there is nothing to mend, by inodes.
use Rattle.std.proofs.Common.{◌≡◌, ◌≢◌, ℕ, zero, suc, ◌+◌, ◌-◌, ◌<◌, ◌≤◌, Bool, true, false, not, ◌&&◌, ◌||◌, ◌==◌, refl, sym, ap, ◌∙◌, arith, ⊎_elim, ltb, eq-eqb}
use Rattle.std.specs.List.{range_with_len, list_any, list_all}
use Rattle.std.proofs.lemmas.Bool.{cases_eq, cases_lt, cases_Bool, eqb-true, ne_eqb, lt-ltb, le-ltb}
use Rattle.files_model.specs.Files.{sectors_of}
use Rattle.v7_map.specs.Frame.{Frame, IsFrame, Body, Single}
use Rattle.v7_map.specs.Tree.{tree, links, is_named}
use Rattle.v7_map.specs.Weak.{IsWeak, IsStrong}
use Rattle.v7_map.proofs.Frames.{and_left, and_right}
use Rattle.v7_map.proofs.Walks.{and_both, or_left, or_right}
use Rattle.v7_damage.specs.Summaries.{none_past, some_listed, is_tidy}
use Rattle.v7_inspect.specs.Tidy.{is_strong_at}
use Rattle.v7_damage.proofs.Ranges.{all_step}

pub all_more : (p : ℕ → Bool) (k : ℕ) → 1 ≤ k → list_all p (range_with_len 1 (k + 1 - 1)) ≡ (list_all p (range_with_len 1 (k - 1)) && p k)
all_more p k low =
    let m : k + 1 - 1 ≡ suc (k - 1) = omega arith in
    let at : 1 + (k - 1) ≡ k = omega arith in
    ap (λ n. list_all p (range_with_len 1 n)) m ∙ all_step p 1 (k - 1) ∙ ap (λ i. list_all p (range_with_len 1 (k - 1)) && p i) at

all_at : (p : ℕ → Bool) (a n i : ℕ) → list_all p (range_with_len a n) ≡ true → a ≤ i → i < a + n → p i ≡ true
all_at p a zero i e low high = absurd (omega arith)
all_at p a (suc n) i e low high = ⊎_elim
    (λ (s : i ≡ a). ap p s ∙ and_left (p a) _ e)
    (λ (ne : i ≢ a). all_at p (a + 1) n i (and_right (p a) _ e) (omega arith) (omega arith))
    (cases_eq i a)

all_from : (p : ℕ → Bool) (a n : ℕ) → ((i : ℕ) → a ≤ i → i < a + n → p i ≡ true) → list_all p (range_with_len a n) ≡ true
all_from p a zero each = refl
all_from p a (suc n) each = and_both (p a) _ (each a (omega arith) (omega arith)) (all_from p (a + 1) n (λ i low high. each i (omega arith) (omega arith)))

-- a named inode is judged by its links and its addresses
pub strong_named : (f : Frame) (i : ℕ) → (f.head i).is_used ≡ true → is_named (tree f) i ≡ true
    → (((f.head i).nlink == links (tree f) i) && is_tidy (λ k. f.address i (Body k)) (f.address i Single) (f.head i).size) ≡ is_strong_at f i
unfolding is_strong_at
strong_named f i used named =
    sym (λ z. not (used z) || (((f.head i).nlink == links (tree f) i) && (named z && is_tidy (λ k. f.address i (Body k)) (f.address i Single) (f.head i).size)))

or_false_left : (a b : Bool) → a ≡ false → (a || b) ≡ true → b ≡ true
or_false_left true b e h = absurd (cc)
or_false_left false b e h = h

module _ (f : Frame) (is : IsFrame f) (weak : IsWeak f) where
  in-numbers : (i : ℕ) → (f.head i).is_used ≡ true → (1 ≤ i) × (i < 1 + (tree f).inodes)
  in-numbers i used = let r = is.numbers i used in let high = r.1 in (r.0, omega arith)

  module _ (all : list_all (is_strong_at f) (range_with_len 1 (tree f).inodes) ≡ true) where
    parts : (i : ℕ) → (f.head i).is_used ≡ true → (((f.head i).nlink == links (tree f) i) && (is_named (tree f) i && is_tidy (λ k. f.address i (Body k)) (f.address i Single) (f.head i).size)) ≡ true
    unfolding is_strong_at
    parts i used = let r = in-numbers i used in or_false_left (not (f.head i).is_used) _ (ap not used) (all_at (is_strong_at f) 1 (tree f).inodes i all r.0 r.1)

    tidy : (i : ℕ) → (f.head i).is_used ≡ true → is_tidy (λ k. f.address i (Body k)) (f.address i Single) (f.head i).size ≡ true
    tidy i used = and_right (is_named (tree f) i) _ (and_right ((f.head i).nlink == links (tree f) i) _ (parts i used))

    past : (i k : ℕ) → sectors_of (f.head i).size ≤ k → k < 138 → (f.head i).is_used ≡ true → f.address i (Body k) ≡ 0
    unfolding none_past
    past i k far lt used =
        let each = all_at (λ k. ltb k (sectors_of (f.head i).size) || (f.address i (Body k) == 0)) 0 138 k (and_left _ _ (tidy i used)) (omega arith) (omega arith) in
        eqb-true (f.address i (Body k)) 0 (or_false_left (ltb k (sectors_of (f.head i).size)) _ (le-ltb k (sectors_of (f.head i).size) far) each)

    listed : (i : ℕ) → f.address i Single ≢ 0 → list_any (λ k. not (f.address i (Body k) == 0)) (range_with_len 10 128) ≡ true
    unfolding some_listed
    listed i some = let used = (is.places i Single some).0 in or_false_left (f.address i Single == 0) _ (ne_eqb (f.address i Single) 0 some) (and_right _ _ (tidy i used))

    pub strong_if : IsStrong f
    strong_if = record {
      weak = weak;
      counted = λ i used. eqb-true (f.head i).nlink (links (tree f) i) (and_left _ _ (parts i used));
      named = λ i used. and_left _ _ (and_right ((f.head i).nlink == links (tree f) i) _ (parts i used));
      none_past = λ i k far. ⊎_elim
          (λ (z : f.address i (Body k) ≡ 0). z)
          (λ (some : f.address i (Body k) ≢ 0). let held = is.places i (Body k) some in past i k far held.1 held.0)
          (cases_eq (f.address i (Body k)) 0);
      single_needed = listed;
    }

  module _ (strong : IsStrong f) where
    tidy-past : (i : ℕ) → none_past (λ k. f.address i (Body k)) (f.head i).size 138 ≡ true
    unfolding none_past
    tidy-past i = all_from (λ k. ltb k (sectors_of (f.head i).size) || (f.address i (Body k) == 0)) 0 138 (λ k low high. ⊎_elim
        (λ (lt : k < sectors_of (f.head i).size). or_left _ _ (lt-ltb k (sectors_of (f.head i).size) lt))
        (λ (ge : sectors_of (f.head i).size ≤ k). or_right _ _ (eq-eqb (f.address i (Body k)) 0 (strong.none_past i k ge)))
        (cases_lt k (sectors_of (f.head i).size)))

    tidy-listed : (i : ℕ) → ((f.address i Single == 0) || some_listed (λ k. f.address i (Body k)) 128) ≡ true
    unfolding some_listed
    tidy-listed i = ⊎_elim
        (λ (z : f.address i Single ≡ 0). or_left _ _ (eq-eqb (f.address i Single) 0 z))
        (λ (some : f.address i Single ≢ 0). or_right _ _ (strong.single_needed i some))
        (cases_eq (f.address i Single) 0)

    pub if_strong : list_all (is_strong_at f) (range_with_len 1 (tree f).inodes) ≡ true
    unfolding is_strong_at
    if_strong = all_from (is_strong_at f) 1 (tree f).inodes (λ i low high. ⊎_elim
        (λ (used : (f.head i).is_used ≡ true). or_right _ _ (and_both _ _ (eq-eqb (f.head i).nlink (links (tree f) i) (strong.counted i used)) (and_both _ _ (strong.named i used) (and_both _ _ (tidy-past i) (tidy-listed i)))))
        (λ (free : (f.head i).is_used ≡ false). or_left _ _ (ap not free))
        (cases_Bool (f.head i).is_used))
