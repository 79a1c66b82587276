-- Zeros past a size that grows, as puts.
use Rattle.std.proofs.Common.{◌≡◌, ◌≢◌, ℕ, ◌/◌, ◌%◌, ◌<◌, ◌≤◌, Bool, true, false, cond, not, ◌&&◌, ◌==◌, [], refl, ap, ◌∙◌, ltb, eq-eqb}
use Rattle.std.proofs.lemmas.Bool.{ne_eqb, lt-ltb, le-ltb}
use Rattle.stable.specs.Store.{Image}
use Rattle.v7_layout.specs.declared.inode.Inode.{Inode}
use Rattle.v7_map.specs.Stored.{sector_in, stored_sector}
use Rattle.plan_file.specs.Set.{held_put, zero_puts}

module _ (image : Image) (n : Inode) (size : ℕ) where
  pub zeros-lower : size ≤ n.size → zero_puts image n size ≡ []
  unfolding zero_puts
  zeros-lower le = ap (λ t. cond (t && not (n.size % 512 == 0)) (held_put (sector_in image n (n.size / 512)) (stored_sector image n (n.size / 512))) []) (le-ltb n.size size le)

  no_both : (t : Bool) → (t && false) ≡ false
  no_both true = refl
  no_both false = refl

  pub zeros-even : n.size % 512 ≡ 0 → zero_puts image n size ≡ []
  unfolding zero_puts
  zeros-even z = ap (λ t. cond (ltb n.size size && not t) (held_put (sector_in image n (n.size / 512)) (stored_sector image n (n.size / 512))) []) (eq-eqb (n.size % 512) 0 z)
      ∙ ap (λ t. cond t (held_put (sector_in image n (n.size / 512)) (stored_sector image n (n.size / 512))) []) (no_both (ltb n.size size))

  pub zeros-cut : n.size < size → n.size % 512 ≢ 0 → zero_puts image n size ≡ held_put (sector_in image n (n.size / 512)) (stored_sector image n (n.size / 512))
  unfolding zero_puts
  zeros-cut lt nz = λ z. cond (lt-ltb n.size size lt z && not (ne_eqb (n.size % 512) 0 nz z)) (held_put (sector_in image n (n.size / 512)) (stored_sector image n (n.size / 512))) []
