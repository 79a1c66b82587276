-- The block of addresses that an inode names, as it is read.
use Rattle.std.proofs.Common.{◌≡◌, ◌≢◌, ℕ, ◌<◌, ◌≤◌, min, Bool, true, false, cond, not, ◌==◌, ◌&&◌, ◌||◌, List, [], length, set, refl, sym, ap, subst, ◌∙◌, arith, ⊎_elim, ltb, leb, eq-eqb}
use Rattle.std.proofs.lemmas.Bool.{cases_Bool, ne_eqb, le-ltb}
use Rattle.v7_layout.specs.declared.inode.Inode.{Inode}
use Rattle.v7_layout.specs.Numbers.{part}
use Rattle.v7_layout.specs.Records.{inode_of}
use Rattle.files_model.specs.Files.{sectors_of}
use Rattle.stable.specs.Store.{Image}
use Rattle.v7_map.specs.Image.{sector_at, is_inode, inode_at, inode_sector, inode_offset}
use Rattle.v7_map.specs.Frame.{Single, frame}
use Rattle.v7_map.specs.Weak.{IsWeak}
use Rattle.v7_map.proofs.Frames.{and_left, and_right}
use Rattle.v7_map.proofs.Ranges.{address-inside}
use Rattle.v7_mend.specs.Settled.{holds_below, holds_in, trimmed}
use Rattle.v7_mend.specs.Trims.{has_map, map_within, trimmed_block, trimmed_at}
use Rattle.v7_mend.proofs.Trimming.{address_single}

-- the inode that is read in its sector
pub read_inode : (image : Image) (i : ℕ) (sector : List ℕ) (n : Inode) → is_inode image i ≡ true → sector ≡ sector_at image (inode_sector i) → n ≡ inode_of (part sector (inode_offset i) 64) → n ≡ inode_at image i
unfolding inode_at
read_inode image i sector n inside here is =
    is ∙ ap (λ b. inode_of (part b (inode_offset i) 64)) here ∙ sym (ap (λ b. cond b (inode_of (part (sector_at image (inode_sector i)) (inode_offset i) 64)) (inode_of [])) inside)

-- an inode whose mode isn't 0 is used
pub used_of : (image : Image) (i : ℕ) → not ((inode_at image i).mode == 0) ≡ true → ((frame image).head i).is_used ≡ true
unfolding frame
used_of image i e = e

-- a used inode has at most 138 sectors
pub most_sectors : (image : Image) (i : ℕ) → IsWeak (frame image) → ((frame image).head i).is_used ≡ true → sectors_of (inode_at image i).size ≤ 138
unfolding frame
most_sectors image i weak used = let g = (weak.good i used).length in omega arith

pub leb_false : (a b : ℕ) → b < a → leb a b ≡ false
leb_false a b lt = grind arith

-- what a choice that isn't 0 tells of its tests
pub record Chosen (a b c d : Bool) (x : ℕ) : Type 0 where
  pub first : a ≡ false
  pub second : b ≡ false
  pub third : c ≡ false
  pub fourth : d ≡ false
  pub is : cond (a || (b || (c || d))) 0 x ≡ x

pub chosen : (a b c d : Bool) (x : ℕ) → cond (a || (b || (c || d))) 0 x ≢ 0 → Chosen a b c d x
chosen true b c d x ne = absurd (ne refl)
chosen false true c d x ne = absurd (ne refl)
chosen false false true d x ne = absurd (ne refl)
chosen false false false true x ne = absurd (ne refl)
chosen false false false false x ne = record { first = refl; second = refl; third = refl; fourth = refl; is = refl }

module _ (image : Image) (i links sectors : ℕ) (weak : IsWeak (frame image)) (long : length image ≡ sectors) where
  abbrev m : Inode
  m = inode_at image i

  parts : has_map image m links ≡ true → (not (m.mode == 0) ≡ true) × (m.single ≢ 0)
  unfolding holds_in
  parts h = (by_or (m.mode == 0) (links == 0) (and_left _ _ h), λ z. clash (m.single == 0) (eq-eqb m.single 0 z) (and_left _ _ (and_right _ _ h)))
    where
      by_or : (a b : Bool) → not (a || b) ≡ true → not a ≡ true
      by_or true b e = e
      by_or false b e = refl

      clash : (b : Bool) → b ≡ true → not b ≡ true → ⊥
      clash true t u = absurd (cc)
      clash false t u = absurd (cc)

  -- where none is named, nothing is to be trimmed
  pub no_map : map_within m links sectors ≡ 0 → trimmed_at image i links ≡ image
  unfolding trimmed_at
  no_map none = ap (λ b. cond b (set image m.single (trimmed (sector_at image m.single) (sectors_of m.size))) image) (⊎_elim
      (λ (yes' : has_map image m links ≡ true). absurd (clash yes'))
      (λ (no' : has_map image m links ≡ false). no')
      (cases_Bool (has_map image m links)))
    where
      tests : (a b : Bool) → not (a || b) ≡ true → (c d : Bool) → c ≡ false → d ≡ false → (x : ℕ) → cond (a || (b || (c || d))) 0 x ≡ x
      tests true b e c d f g x = absurd (cc)
      tests false true e c d f g x = absurd (cc)
      tests false false e c d f g x = λ z. cond (f z || g z) 0 x

      clash : has_map image m links ≡ true → ⊥
      clash h =
          let p = parts h in
          let at : (frame image).address i Single ≡ m.single = address_single image i (used_of image i p.0) in
          let in' = address-inside image weak i Single (λ z. p.1 (sym at ∙ z)) in
          let low : 3 ≤ m.single = subst (λ s. 3 ≤ s) at in'.0 in
          let high : m.single < length image = subst (λ s. s < length image) at in'.2 in
          let l : ltb m.single 2 ≡ false = le-ltb m.single 2 (omega arith) in
          let r : leb sectors m.single ≡ false = leb_false sectors m.single (omega arith) in
          p.1 (sym (tests (m.mode == 0) (links == 0) (and_left _ _ h) (ltb m.single 2) (leb sectors m.single) l r m.single) ∙ none)

  -- where one is named, it is trimmed as it stands
  pub a_map : map_within m links sectors ≢ 0 → (map count : ℕ) → map ≡ map_within m links sectors → count ≡ min (sectors_of m.size) 138 → trimmed_block image map count ≡ trimmed_at image i links
  unfolding trimmed_at trimmed_block holds_in
  a_map some map count is few =
      let c = chosen (m.mode == 0) (links == 0) (ltb m.single 2) (leb sectors m.single) m.single some in
      let single : map ≡ m.single = is ∙ c.is in
      let used : not (m.mode == 0) ≡ true = ap not c.first in
      let most : sectors_of m.size ≤ 138 = most_sectors image i weak (used_of image i used) in
      let n : count ≡ sectors_of m.size = omega arith in
      let nz : (m.single == 0) ≡ false = ne_eqb m.single 0 (λ z. some (c.is ∙ z)) in
      (λ z. cond (holds_below (sector_at image (single z)) (n z)) (set image (single z) (trimmed (sector_at image (single z)) (n z))) image)
      ∙ (λ z. cond (not (sym c.first z || sym c.second z) && (not (sym nz z) && holds_below (sector_at image m.single) (sectors_of m.size)))
      (set image m.single (trimmed (sector_at image m.single) (sectors_of m.size))) image)

pub map_single : (m : Inode) (links sectors : ℕ) → map_within m links sectors ≢ 0 → map_within m links sectors ≡ m.single
map_single m links sectors some = let c = chosen (m.mode == 0) (links == 0) (ltb m.single 2) (leb sectors m.single) m.single some in c.is

pub map_parts : (image : Image) (m : Inode) (links : ℕ) → has_map image m links ≡ true → (not (m.mode == 0) ≡ true) × (m.single ≢ 0)
unfolding holds_in
map_parts image m links h = (by_or (m.mode == 0) (links == 0) (and_left _ _ h), λ z. clash (m.single == 0) (eq-eqb m.single 0 z) (and_left _ _ (and_right _ _ h)))
  where
    by_or : (a b : Bool) → not (a || b) ≡ true → not a ≡ true
    by_or true b e = e
    by_or false b e = refl

    clash : (b : Bool) → b ≡ true → not b ≡ true → ⊥
    clash true t u = absurd (cc)
    clash false t u = absurd (cc)

pub trimmed_is_same : (image : Image) (i links : ℕ) → has_map image (inode_at image i) links ≡ false → trimmed_at image i links ≡ image
unfolding trimmed_at
trimmed_is_same image i links h = ap (λ b. cond b (set image (inode_at image i).single (trimmed (sector_at image (inode_at image i).single) (sectors_of (inode_at image i).size))) image) h

-- of an inode that was read
module _ (image : Image) (i links sectors : ℕ) (weak : IsWeak (frame image)) (long : length image ≡ sectors) (n : Inode) (read : n ≡ inode_at image i) (map : ℕ) (is : map ≡ map_within n links sectors) where
  map_is : map ≡ map_within (inode_at image i) links sectors
  map_is = is ∙ ap (λ (m : Inode). map_within m links sectors) read

  pub no_map_read : map ≡ 0 → trimmed_at image i links ≡ image
  no_map_read none = no_map image i links sectors weak long (sym map_is ∙ none)

  pub a_map_read : map ≢ 0 → (count : ℕ) → count ≡ min (sectors_of n.size) 138 → trimmed_block image map count ≡ trimmed_at image i links
  a_map_read some count few = a_map image i links sectors weak long (λ z. some (map_is ∙ z)) map count map_is (few ∙ ap (λ (m : Inode). min (sectors_of m.size) 138) read)

  pub single_read : map ≢ 0 → map ≡ (inode_at image i).single
  single_read some = map_is ∙ map_single (inode_at image i) links sectors (λ z. some (map_is ∙ z))
