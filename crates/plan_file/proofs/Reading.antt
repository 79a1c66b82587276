-- The places of a file, by those that are read of its inode.
use Rattle.std.proofs.Common.{◌≡◌, ℕ, ◌+◌, ◌-◌, ◌<◌, ◌≤◌, Bool, true, false, cond, ◌&&◌, ◌==◌, List, get_or, refl, sym, ap, ◌∙◌, arith, ⊎_elim, eqb, leb, ltb}
use Rattle.std.proofs.lemmas.Bool.{cases_lt, ne_eqb, lt-ltb, le-ltb, lt-leb, le-leb}
use Rattle.stable.specs.Store.{Image}
use Rattle.v7_layout.specs.declared.inode.Inode.{Inode}
use Rattle.v7_map.specs.Damage.{place_at}
use Rattle.v7_map.specs.Frame.{Body, Single, Double, head_of, address_of}
use Rattle.v7_read.specs.Places as map
use Rattle.plan_file.specs.declared.places.Places.{Places}
use Rattle.plan_file.specs.Places.{place_within, stored_place, map_place, body_place, ArePlaces}

place_direct : (k : ℕ) → k < 10 → place_at k ≡ Body k
place_direct k lt z = cond (lt-ltb k 10 lt z) (Body k) (cond (eqb k 10) Single (cond (ltb k 139) (Body (k - 1)) Double))

place_through : (k : ℕ) → 10 ≤ k → k < 138 → place_at (k + 1) ≡ Body k
place_through k ge lt =
    let a : ltb (k + 1) 10 ≡ false = le-ltb (k + 1) 10 (omega arith) in
    let b : eqb (k + 1) 10 ≡ false = ne_eqb (k + 1) 10 (λ q. omega arith) in
    let c : ltb (k + 1) 139 ≡ true = lt-ltb (k + 1) 139 (omega arith) in
    let d : (k + 1) - 1 ≡ k = omega arith in
    (λ z. cond (a z) (Body (k + 1)) (cond (b z) Single (cond (c z) (Body (d z)) Double)))

none_zero : (t : Bool) → ◌≡◌ {A = ℕ} (cond t 0 0) 0
none_zero true = refl
none_zero false = refl

module _ (image : Image) (n : Inode) (sectors : ℕ) (listed : List ℕ) (places : Places) (are : map.ArePlaces image n listed)
    (single : places.single ≡ place_within sectors (get_or listed 10 0))
    (body : (k : ℕ) → k < 138 → get_or places.body k 0 ≡ place_within sectors (stored_place listed places.single k)) where
  map_is : places.single ≡ map_place image sectors n
  map_is = single ∙ ap (place_within sectors) (are.each 10 (omega arith))

  direct : (k : ℕ) → k < 10 → place_within sectors (stored_place listed places.single k) ≡ body_place image sectors n k
  direct k lt =
      (λ z. place_within sectors (cond (lt-ltb k 10 lt z) (get_or listed k 0) (cond (places.single == 0) 0 (get_or listed (k + 1) 0))))
      ∙ ap (place_within sectors) (are.each k (omega arith) ∙ ap (address_of image (head_of n)) (place_direct k lt))
      ∙ (λ z. cond (sym (lt-leb 10 k lt) z && (map_place image sectors n == 0)) 0 (place_within sectors (address_of image (head_of n) (Body k))))

  by_map : (x y : ℕ) (t : Bool) → x ≡ y → place_within sectors (cond t 0 x) ≡ cond t 0 (place_within sectors y)
  by_map x y true e = none_zero (leb 2 0 && ltb 0 sectors)
  by_map x y false e = ap (place_within sectors) e

  through : (k : ℕ) → 10 ≤ k → k < 138 → place_within sectors (stored_place listed places.single k) ≡ body_place image sectors n k
  through k ge lt =
      (λ z. place_within sectors (cond (le-ltb k 10 ge z) (get_or listed k 0) (cond (map_is z == 0) 0 (get_or listed (k + 1) 0))))
      ∙ by_map (get_or listed (k + 1) 0) (address_of image (head_of n) (Body k)) (map_place image sectors n == 0) (are.each (k + 1) (omega arith) ∙ ap (address_of image (head_of n)) (place_through k ge lt))
      ∙ (λ z. cond (sym (le-leb 10 k ge) z && (map_place image sectors n == 0)) 0 (place_within sectors (address_of image (head_of n) (Body k))))

  pub places-read : ArePlaces image sectors n places
  places-read = record { body = λ k lt. body k lt ∙ ⊎_elim (direct k) (λ ge. through k ge lt) (cases_lt k 10); single = map_is }
