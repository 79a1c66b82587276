-- A put of a held sector of a file or link that changes nothing below its size doesn't show.
use Rattle.std.proofs.Common.{◌≡◌, ◌≢◌, ℕ, ◌<◌, ◌≤◌, false, cond, List, [], length, set, sym, ap, subst, ◌∙◌, arith, ⊎_elim, eqb, Some, None, get_or-set_same, get_or-set_other}
use Rattle.std.proofs.lemmas.Bool.{cases_eq}
use Rattle.std.specs.FinMap.{empty}
use Rattle.files_model.specs.Files.{clipped}
use Rattle.files_model.proofs.Maps.{tabulated_same}
use Rattle.stable.specs.Store.{Image}
use Rattle.v7_map.specs.Image.{sector_at, isize_of, inode_at}
use Rattle.v7_map.specs.Frame.{Place, Body, Single, Double, is_directory, frame}
use Rattle.v7_map.specs.View.{held, body_of, body_at}
use Rattle.v7_map.specs.Weak.{IsWeak}
use Rattle.v7_map.proofs.Data.{same_inode, data-below, data-frame}
use Rattle.v7_plans.specs.Quiet.{IsQuiet}

module _ (old : Image) (i k a : ℕ) (bytes : List ℕ) (weak : IsWeak (frame old)) (file : is_directory ((frame old).head i) ≡ false) (is : (frame old).address i (Body k) ≡ a) (there : a ≢ 0)
    (same : clipped ((frame old).head i).size k bytes ≡ clipped ((frame old).head i).size k (sector_at old a)) (long : length bytes ≡ 512) where
  new : Image
  new = set old a bytes

  nonzero : (frame old).address i (Body k) ≢ 0
  nonzero z = there (sym is ∙ z)

  inside : (3 ≤ a) × (a < length old)
  unfolding frame
  inside = let d = weak.data_block i (Body k) nonzero in let low = weak.sizes.low in let within = weak.sizes.within in
      let l : (frame old).isize ≤ a = subst (λ b. (frame old).isize ≤ b) is d.0 in
      let h : a < (frame old).fsize = subst (λ b. b < (frame old).fsize) is d.1 in (omega arith, omega arith)

  first : sector_at new 1 ≡ sector_at old 1
  unfolding new frame
  first = let low : 3 ≤ isize_of old = weak.sizes.low in data-below old i k a bytes weak file is there 1 (omega arith)

  inodes_same : (j : ℕ) → inode_at new j ≡ inode_at old j
  unfolding new
  inodes_same j = same_inode old new first (λ s _ lt. data-below old i k a bytes weak file is there s lt) j

  abbrev number_of_place : Place → ℕ
  number_of_place (Body q) = q
  number_of_place Single = 0
  number_of_place Double = 0

  here : held new ((frame old).head i).size k ((frame old).address i (Body k)) ≡ held old ((frame old).head i).size k ((frame old).address i (Body k))
  unfolding new
  here = subst (λ b. held new ((frame old).head i).size k b ≡ held old ((frame old).head i).size k b) (sym is)
      (ap (λ s. cond (eqb a 0) None (Some s)) (ap (clipped ((frame old).head i).size k) (get_or-set_same old a bytes [] inside.1) ∙ same))

  held_same : (j q : ℕ) → held new ((frame old).head j).size q ((frame old).address j (Body q)) ≡ held old ((frame old).head j).size q ((frame old).address j (Body q))
  unfolding new
  held_same j q = ⊎_elim
      (λ (e : (frame old).address j (Body q) ≡ a).
      let u = weak.unshared i j (Body k) (Body q) nonzero (is ∙ sym e) in
      let same_number : k ≡ q = ap number_of_place u.1 in
      subst (λ y. held (set old a bytes) ((frame old).head y).size q ((frame old).address y (Body q)) ≡ held old ((frame old).head y).size q ((frame old).address y (Body q))) u.0
      (subst (λ y. held (set old a bytes) ((frame old).head i).size y ((frame old).address i (Body y)) ≡ held old ((frame old).head i).size y ((frame old).address i (Body y))) same_number here))
      (λ (ne : (frame old).address j (Body q) ≢ a).
      ap (λ s. cond (eqb ((frame old).address j (Body q)) 0) None (Some (clipped ((frame old).head j).size q s))) (get_or-set_other old a ((frame old).address j (Body q)) bytes [] ne))
      (cases_eq ((frame old).address j (Body q)) a)

  bodies_same : (j : ℕ) → body_at new (frame old) j ≡ body_at old (frame old) j
  unfolding body_of
  bodies_same j = ap (cond (is_directory ((frame old).head j)) empty) (tabulated_same _ _ _ (λ q lt. held_same j q))

  pub cut-quiet : IsQuiet old (a, bytes)
  unfolding new
  cut-quiet = let low : 3 ≤ a = inside.0 in record {
    past = omega arith;
    inside = inside.1;
    whole = long;
    same_frame = data-frame old i k a bytes weak file is there;
    same_first = first;
    same_inodes = inodes_same;
    same_bodies = λ j. ap (λ f. body_at new f j) (data-frame old i k a bytes weak file is there) ∙ bodies_same j;
  }
