-- What a block of addresses lists, and the blocks at the places of an inode.
use Rattle.std.proofs.Common.{◌≡◌, ◌≢◌, ◌⊎◌, inl, inr, ℕ, ◌+◌, ◌-◌, ◌*◌, ◌<◌, ◌≤◌, cond, not, ◌==◌, List, [], length, get_or, take, sym, ap, ◌∙◌, arith, eqb, ltb, eq-eqb}
use Rattle.std.specs.Prelude.{replicate}
use Rattle.std.proofs.lemmas.Bool.{lt-ltb, le-ltb, ne_eqb}
use Rattle.std.proofs.lemmas.List.{drop-replicate, take-replicate, drop_all, get_or_past}
use Rattle.stable.specs.Store.{Image}
use Rattle.v7_layout.specs.declared.inode.Inode.{Inode}
use Rattle.v7_layout.specs.Numbers.{part, field, little}
use Rattle.v7_map.specs.Image.{sector_at}
use Rattle.v7_map.specs.Frame.{head_of, place_of, address_of, listed, Body, Single, Double}
use Rattle.v7_map.specs.Damage.{place_at}
use Rattle.v7_read.specs.Places.{IsListing, block_in}
use Rattle.v7_map.proofs.PlaceIndex.{place_index}
use Rattle.v7_map.proofs.SectorOf.{cond_none}

pub field-zeros : (n at : ℕ) → at + 4 ≤ n → field (replicate n 0) at 4 ≡ 0
unfolding field part
field-zeros n at le = ap (λ l. little (take 4 l)) (drop-replicate at n 0) ∙ ap little (take-replicate 4 (n - at) 0 (omega arith))

pub field-nil : (at : ℕ) → field [] at 4 ≡ 0
unfolding field part
field-nil at = ap (λ l. little (take 4 l)) (drop_all at [] (omega arith))

-- without such a block in the image there are no addresses
pub listing_none : (image : Image) (block : ℕ) (bytes : List ℕ) → bytes ≡ replicate 512 0 → length image ≤ block → IsListing image block bytes
listing_none image block bytes are past = record {
  each = λ n lt.
      let zeros : field bytes (4 * n) 4 ≡ 0 = ap (λ l. field l (4 * n) 4) are ∙ field-zeros 512 (4 * n) (omega arith) in
      zeros ∙ sym ((λ z. cond (block == 0) 0 (field (get_or_past image block [] past z) (4 * n) 4)) ∙ (λ z. cond (block == 0) 0 (field-nil (4 * n) z)) ∙ cond_none (block == 0));
}

pub listing_zero : (image : Image) (block : ℕ) (bytes : List ℕ) → bytes ≡ replicate 512 0 → block ≡ 0 → IsListing image block bytes
listing_zero image block bytes are none = record {
  each = λ n lt.
      let zeros : field bytes (4 * n) 4 ≡ 0 = ap (λ l. field l (4 * n) 4) are ∙ field-zeros 512 (4 * n) (omega arith) in
      zeros ∙ sym (λ z. cond (eq-eqb block 0 none z) 0 (field (sector_at image block) (4 * n) 4));
}

module _ (image : Image) (n : Inode) where
  -- a free inode has no blocks
  pub free_places : (k : ℕ) → n.mode ≡ 0 → address_of image (head_of n) (place_at k) ≡ 0
  unfolding address_of
  free_places k free = λ z. cond (not (eq-eqb n.mode 0 free z)) (place_of image (head_of n) (place_at k)) 0

  -- those of a used one
  pub used_places : (bytes : List ℕ) (k : ℕ) → n.mode ≢ 0 → IsListing image n.single bytes → k < 140 → block_in n bytes k ≡ address_of image (head_of n) (place_at k)
  unfolding address_of
  used_places bytes k used list lt = by_place (place_index k lt) ∙ sym (λ z. cond (not (ne_eqb n.mode 0 used z)) (place_of image (head_of n) (place_at k)) 0)
    where
      by_place : ((k < 10) × (place_at k ≡ Body k)) ⊎ (((k ≡ 10) × (place_at k ≡ Single)) ⊎ (((10 < k) × (k < 139) × (place_at k ≡ Body (k - 1))) ⊎ ((k ≡ 139) × (place_at k ≡ Double))))
          → block_in n bytes k ≡ place_of image (head_of n) (place_at k)
      by_place (inl (low, at)) =
          (λ z. cond (lt-ltb k 10 low z) (get_or n.direct k 0) (cond (eqb k 10) n.single (cond (ltb k 139) (field bytes (4 * (k - 11)) 4) n.double)))
          ∙ sym (ap (place_of image (head_of n)) at ∙ (λ z. cond (lt-ltb k 10 low z) (get_or n.direct k 0) (cond (ltb k 138) (listed image n.single (k - 10)) 0)))
      by_place (inr (inl (ten, at))) =
          (λ z. cond (le-ltb k 10 (omega (arith, ten)) z) (get_or n.direct k 0) (cond (eq-eqb k 10 ten z) n.single (cond (ltb k 139) (field bytes (4 * (k - 11)) 4) n.double)))
          ∙ sym (ap (place_of image (head_of n)) at)
      by_place (inr (inr (inl (more, inner, at)))) =
          let same : k - 11 ≡ (k - 1) - 10 = omega arith in
          (λ z. cond (le-ltb k 10 (omega (arith, more)) z) (get_or n.direct k 0) (cond (ne_eqb k 10 (λ e. omega (arith, more, e)) z) n.single (cond (lt-ltb k 139 inner z) (field bytes (4 * (k - 11)) 4) n.double)))
          ∙ list.each (k - 11) (omega (arith, more, inner)) ∙ ap (listed image n.single) same
          ∙ sym (ap (place_of image (head_of n)) at
          ∙ (λ z. cond (le-ltb (k - 1) 10 (omega (arith, more)) z) (get_or n.direct (k - 1) 0) (cond (lt-ltb (k - 1) 138 (omega (arith, more, inner)) z) (listed image n.single ((k - 1) - 10)) 0)))
      by_place (inr (inr (inr (last, at)))) =
          (λ z. cond (le-ltb k 10 (omega (arith, last)) z) (get_or n.direct k 0) (cond (ne_eqb k 10 (λ e. omega (arith, last, e)) z) n.single (cond (le-ltb k 139 (omega (arith, last)) z) (field bytes (4 * (k - 11)) 4) n.double)))
          ∙ sym (ap (place_of image (head_of n)) at)
