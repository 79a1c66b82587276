-- Several volumes: one of them alone, all of them one after the other, and one run after another.
use Rattle.std.proofs.Common.{arith, ◌≡◌, ◌≢◌, ℕ, zero, suc, ◌+◌, ◌<◌, List, [], ◌∷◌, ◌++◌, length, Some, refl, sym, ap, ◌∙◌, subst}
use Rattle.std.specs.Prelude.{slice_get, slice_set}
use Rattle.std.specs.List.{AllByRecursion}
use Rattle.std.proofs.lemmas.List.{length-set}
use Rattle.nfs_worker.specs.Account.{Hold}
use Rattle.nfs_worker.specs.Volumes.{Pairwise, EachVolume, OneAlone}

-- ---- one place

same_inside : {A : Type 0} (x y : A) → Some x ≡ Some y → x ≡ y
same_inside x y is = cc

place_found : {A : Type 0} (xs : List A) (place : ℕ) → place < length xs → (x : A) × (slice_get xs place ≡ Some x)
place_found [] place lt = absurd (omega (arith, lt))
place_found (x ∷ xs) zero lt = (x, refl)
place_found (x ∷ xs) (suc place) lt = place_found xs place (omega (arith, lt))

put_same : {A : Type 0} (xs : List A) (place : ℕ) (x : A) → slice_get xs place ≡ Some x → xs ≡ slice_set xs place x
put_same [] place x is = refl
put_same (y ∷ ys) zero x is = ap (λ z. z ∷ ys) (same_inside y x is)
put_same (y ∷ ys) (suc place) x is = ap (λ zs. y ∷ zs) (put_same ys place x is)

-- nothing has changed
pub alone_still : {A : Type 0} {P : A → A → Type 0} (xs : List A) (place : ℕ) → place < length xs → ((x : A) → slice_get xs place ≡ Some x → P x x) → OneAlone P place xs xs
alone_still xs place lt each =
    let at = place_found xs place lt in
    record { old = at.0; new = at.0; found = at.1; put = put_same xs place at.0 at.1; went = each at.0 at.1 }

pub alone_length : {A : Type 0} {P : A → A → Type 0} {place : ℕ} {xs ys : List A} → OneAlone P place xs ys → length ys ≡ length xs
alone_length {place = place} {xs = xs} alone = ap length alone.put ∙ length-set xs place alone.new

pub all_at : {A : Type 0} (P : A → Type 0) (xs : List A) (place : ℕ) (x : A) → AllByRecursion P xs → slice_get xs place ≡ Some x → P x
all_at P [] place x all is = cc
all_at P (y ∷ ys) zero x all is = subst P (same_inside y x is) all.0
all_at P (y ∷ ys) (suc place) x all is = all_at P ys place x all.1 is

pub all_put : {A : Type 0} (P : A → Type 0) (xs : List A) (place : ℕ) (x : A) → AllByRecursion P xs → P x → AllByRecursion P (slice_set xs place x)
all_put P [] place x all p = tt
all_put P (y ∷ ys) zero x all p = (p, all.1)
all_put P (y ∷ ys) (suc place) x all p = (all.0, all_put P ys place x all.1 p)

-- ---- all places

pub pairs_length : {A : Type 0} (P : A → A → Type 0) (xs ys : List A) → Pairwise P xs ys → length ys ≡ length xs
pairs_length P [] [] p = refl
pairs_length P [] (y ∷ ys) p = absurd p
pairs_length P (x ∷ xs) [] p = absurd p
pairs_length P (x ∷ xs) (y ∷ ys) p = ap suc (pairs_length P xs ys p.1)

pub all_pairs : {A : Type 0} (P : A → A → Type 0) (Q : A → Type 0) → ((x y : A) → P x y → Q y) → (xs ys : List A) → Pairwise P xs ys → AllByRecursion Q ys
all_pairs P Q f [] [] p = tt
all_pairs P Q f [] (y ∷ ys) p = absurd p
all_pairs P Q f (x ∷ xs) [] p = absurd p
all_pairs P Q f (x ∷ xs) (y ∷ ys) p = (f x y p.0, all_pairs P Q f xs ys p.1)

-- of so many of the items this holds, and the others are as they were
abbrev pub DoneTo : {A : Type 0} → (A → A → Type 0) → ℕ → List A → List A → Type 0
DoneTo P n [] [] = Unit {0}
DoneTo P zero (x ∷ xs) ys = ys ≡ x ∷ xs
DoneTo P (suc n) (x ∷ xs) (y ∷ ys) = P x y × DoneTo P n xs ys
DoneTo P _ _ _ = ⊥

pub done_none : {A : Type 0} (P : A → A → Type 0) (xs : List A) → DoneTo P 0 xs xs
done_none P [] = tt
done_none P (x ∷ xs) = refl

pub done_at : {A : Type 0} (P : A → A → Type 0) (n : ℕ) (xs ys : List A) (x : A) → DoneTo P n xs ys → slice_get ys n ≡ Some x → slice_get xs n ≡ Some x
done_at P n [] [] x p is = is
done_at P n [] (y ∷ ys) x p is = absurd p
done_at P zero (z ∷ xs) ys x p is = subst (λ zs. slice_get zs 0 ≡ Some x) p is
done_at P (suc n) (z ∷ xs) [] x p is = absurd p
done_at P (suc n) (z ∷ xs) (y ∷ ys) x p is = done_at P n xs ys x p.1 is

done_next : {A : Type 0} (P : A → A → Type 0) (n : ℕ) (xs ys : List A) (x y : A) → DoneTo P n xs ys → slice_get ys n ≡ Some x → P x y → DoneTo P (suc n) xs (slice_set ys n y)
done_next P n [] [] x y p is q = tt
done_next P n [] (z ∷ ys) x y p is q = absurd p
done_next P zero (z ∷ xs) ys x y p is q =
    subst (λ zs. DoneTo P 1 (z ∷ xs) (slice_set zs 0 y)) (sym p) (subst (λ w. P w y) (sym (same_inside z x (subst (λ zs. slice_get zs 0 ≡ Some x) p is))) q, done_none P xs)
done_next P (suc n) (z ∷ xs) [] x y p is q = absurd p
done_next P (suc n) (z ∷ xs) (w ∷ ys) x y p is q = (p.0, done_next P n xs ys x y p.1 is q)

pub done_more : {A : Type 0} (P : A → A → Type 0) (n : ℕ) (xs ys : List A) (x y : A) → DoneTo P n xs ys → slice_get ys n ≡ Some x → P x y → DoneTo P (n + 1) xs (slice_set ys n y)
done_more P n xs ys x y p found q = let e : suc n ≡ n + 1 = omega arith in subst (λ m. DoneTo P m xs (slice_set ys n y)) e (done_next P n xs ys x y p found q)

pub done_all : {A : Type 0} (P : A → A → Type 0) (xs ys : List A) → DoneTo P (length xs) xs ys → Pairwise P xs ys
done_all P [] [] p = tt
done_all P [] (y ∷ ys) p = absurd p
done_all P (x ∷ xs) [] p = absurd p
done_all P (x ∷ xs) (y ∷ ys) p = (p.0, done_all P xs ys p.1)

-- ---- the holds of each

-- none of any volume
abbrev pub no_holds : {A : Type 0} → List A → List (List Hold)
no_holds [] = []
no_holds (x ∷ xs) = [] ∷ no_holds xs

-- these of the volume at this place
abbrev pub holds_at : {A : Type 0} → ℕ → List Hold → List A → List (List Hold)
holds_at place holds [] = []
holds_at zero holds (x ∷ xs) = holds ∷ no_holds xs
holds_at (suc place) holds (x ∷ xs) = [] ∷ holds_at place holds xs

-- of each those of one run and then those of another
abbrev pub holds_both : List (List Hold) → List (List Hold) → List (List Hold)
holds_both [] more = []
holds_both (holds ∷ all) [] = []
holds_both (holds ∷ all) (next ∷ more) = (holds ++ next) ∷ holds_both all more

pub each_none : {A : Type 0} (P : ℕ → A → A → List Hold → Type 0) (Q : A → Type 0) → ((n : ℕ) (x : A) → Q x → P n x x []) → (n : ℕ) (xs : List A) → AllByRecursion Q xs → EachVolume P n xs xs (no_holds xs)
each_none P Q f n [] all = tt
each_none P Q f n (x ∷ xs) all = (f n x all.0, each_none P Q f (n + 1) xs all.1)

pub each_length : {A : Type 0} (P : ℕ → A → A → List Hold → Type 0) (n : ℕ) (xs ys : List A) (all : List (List Hold)) → EachVolume P n xs ys all → length ys ≡ length xs
each_length P n [] [] all p = refl
each_length P n [] (y ∷ ys) all p = absurd p
each_length P n (x ∷ xs) [] all p = absurd p
each_length P n (x ∷ xs) (y ∷ ys) [] p = absurd p
each_length P n (x ∷ xs) (y ∷ ys) (holds ∷ all) p = ap suc (each_length P (n + 1) xs ys all p.1)

pub all_each : {A : Type 0} (P : ℕ → A → A → List Hold → Type 0) (Q : A → Type 0) → ((n : ℕ) (x y : A) (holds : List Hold) → P n x y holds → Q y) → (n : ℕ) (xs ys : List A) (all : List (List Hold)) → EachVolume P n xs ys all → AllByRecursion Q ys
all_each P Q f n [] [] all p = tt
all_each P Q f n [] (y ∷ ys) all p = absurd p
all_each P Q f n (x ∷ xs) [] all p = absurd p
all_each P Q f n (x ∷ xs) (y ∷ ys) [] p = absurd p
all_each P Q f n (x ∷ xs) (y ∷ ys) (holds ∷ all) p = (f n x y holds p.0, all_each P Q f (n + 1) xs ys all p.1)

module _ {A : Type 0} (P Q R : ℕ → A → A → List Hold → Type 0) (f : (n : ℕ) (x y z : A) (xs ys : List Hold) → P n x y xs → Q n y z ys → R n x z (xs ++ ys)) where
  pub each_both : (n : ℕ) (xs ys zs : List A) (all more : List (List Hold)) → EachVolume P n xs ys all → EachVolume Q n ys zs more → EachVolume R n xs zs (holds_both all more)
  each_both n [] [] [] [] more p q = tt
  each_both n [] [] (z ∷ zs) [] more p q = absurd q
  each_both n [] [] zs (h ∷ all) more p q = absurd p
  each_both n [] (y ∷ ys) zs all more p q = absurd p
  each_both n (x ∷ xs) [] zs all more p q = absurd p
  each_both n (x ∷ xs) (y ∷ ys) zs [] more p q = absurd p
  each_both n (x ∷ xs) (y ∷ ys) [] (h ∷ all) more p q = absurd q
  each_both n (x ∷ xs) (y ∷ ys) (z ∷ zs) (h ∷ all) [] p q = absurd q
  each_both n (x ∷ xs) (y ∷ ys) (z ∷ zs) (h ∷ all) (k ∷ more) p q = (f n x y z h k p.0 q.0, each_both (n + 1) xs ys zs all more p.1 q.1)

-- each went on, and then one of them alone
module _ {A : Type 0} (T Q : A → A → Type 0) (P : ℕ → A → A → List Hold → Type 0) (volume : ℕ) (holds : List Hold)
    (other : (n : ℕ) (x y : A) → n ≢ volume → T x y → P n x y []) (own : (x y z : A) → T x y → Q y z → P volume x z holds) where
  each_other : (n : ℕ) → volume < n → (xs ys : List A) → Pairwise T xs ys → EachVolume P n xs ys (no_holds xs)
  each_other n lt [] [] p = tt
  each_other n lt [] (y ∷ ys) p = absurd p
  each_other n lt (x ∷ xs) [] p = absurd p
  each_other n lt (x ∷ xs) (y ∷ ys) p = (other n x y (λ e. omega (arith, lt, e)) p.0, each_other (n + 1) (omega (arith, lt)) xs ys p.1)

  each_put : (n place : ℕ) → volume ≡ n + place → (xs ys : List A) (y z : A) → Pairwise T xs ys → slice_get ys place ≡ Some y → Q y z → EachVolume P n xs (slice_set ys place z) (holds_at place holds xs)
  each_put n place is [] [] y z p found q = tt
  each_put n place is [] (w ∷ ys) y z p found q = absurd p
  each_put n place is (x ∷ xs) [] y z p found q = absurd p
  each_put n zero is (x ∷ xs) (w ∷ ys) y z p found q =
      let at : volume ≡ n = omega (arith, is) in
      (subst (λ m. P m x z holds) at (own x y z (subst (λ v. T x v) (same_inside w y found) p.0) q), each_other (n + 1) (omega (arith, at)) xs ys p.1)
  each_put n (suc place) is (x ∷ xs) (w ∷ ys) y z p found q = (other n x w (λ e. omega (arith, is, e)) p.0, each_put (n + 1) place (omega (arith, is)) xs ys y z p.1 found q)

  pub each_alone : (xs ys zs : List A) → Pairwise T xs ys → OneAlone Q volume ys zs → EachVolume P 0 xs zs (holds_at volume holds xs)
  each_alone xs ys zs pairs alone = subst (λ ws. EachVolume P 0 xs ws (holds_at volume holds xs)) (sym alone.put) (each_put 0 volume (omega arith) xs ys alone.old alone.new pairs alone.found alone.went)
