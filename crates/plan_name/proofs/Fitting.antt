-- Puts that a store can take.
use Rattle.std.proofs.Common.{ℕ, suc, zero, ◌+◌, ◌-◌, ◌<◌, ◌≤◌, true, false, cond, List, [], ◌∷◌, ◌++◌, length, set, Option, Some, None, IfSome, arith}
use Rattle.std.specs.List.{AllByRecursion}
use Rattle.stable.specs.Puts.{with_put, ends_with}
use Rattle.v7_map.proofs.Puts.{all_append}
use Rattle.v7_map.specs.Image.{inode_sector}
use Rattle.v7_strokes.proofs.Merging.{length-with_put}
use Rattle.plan_name.specs.Creating.{StandWithin, MapWithin, CanBePut, map_puts}
use Rattle.plan_name.specs.declared.creating_puts.Entry.{Entry}
use Rattle.plan_name.specs.declared.creating_puts.Listing.{Listing}
use Rattle.plan_name.specs.declared.creating_puts.Longer.{Longer}

all-set : {X : Type 0} (P : X → Type 0) (xs : List X) (i : ℕ) (x : X) → AllByRecursion P xs → P x → AllByRecursion P (set xs i x)
all-set P [] i x h p = h
all-set P (y ∷ ys) zero x h p = (p, h.1)
all-set P (y ∷ ys) (suc i) x h p = (h.0, all-set P ys i x h.1 p)

pub all-with_put : (P : ℕ × List ℕ → Type 0) (puts : List (ℕ × List ℕ)) (put : ℕ × List ℕ) → AllByRecursion P puts → P put → AllByRecursion P (with_put puts put)
all-with_put P puts put h p = elim (ends_with puts put.0) as (λ b. AllByRecursion P (cond b (set puts (length puts - 1) put) (puts ++ put ∷ []))) [
  | true ↦ all-set P puts (length puts - 1) put h p
  | false ↦ all_append P puts (put ∷ []) h (p, tt)
]

-- the puts of a creation
module _ (sectors i : ℕ) (entry : Entry) (within : StandWithin sectors i entry) (b1 b2 b3 : List ℕ) where
  listed : (longer : Longer) → MapWithin sectors longer → AllByRecursion (λ (p : ℕ × List ℕ). (2 ≤ p.0) × (p.0 < sectors)) (map_puts longer.map)
  listed longer h = by_map longer.map h
    where
      by_map : (o : Option Listing) → IfSome o (λ l. (2 ≤ l.block) × (l.block < sectors)) → AllByRecursion (λ (p : ℕ × List ℕ). (2 ≤ p.0) × (p.0 < sectors)) (map_puts o)
      by_map None h = tt
      by_map (Some l) h = (h, tt)

  both : (puts : List (ℕ × List ℕ)) → AllByRecursion (λ (p : ℕ × List ℕ). (2 ≤ p.0) × (p.0 < sectors)) puts → AllByRecursion (λ (p : ℕ × List ℕ). 2 ≤ p.0) puts × AllByRecursion (λ (p : ℕ × List ℕ). p.0 < sectors) puts
  both [] h = (tt, tt)
  both (p ∷ puts) h = let r = both puts h.1 in ((h.0.0, r.0), (h.0.1, r.1))

  few_map : (o : Option Listing) → length (map_puts o) ≤ 1
  few_map None = omega arith
  few_map (Some l) = omega arith

  pub fits-in_place : CanBePut sectors 3 (with_put ((inode_sector i, b1) ∷ (entry.sector, b2) ∷ []) (inode_sector entry.directory, b3))
  fits-in_place =
      let puts : List (ℕ × List ℕ) = (inode_sector i, b1) ∷ (entry.sector, b2) ∷ [] in
      let l : length (with_put ((inode_sector i, b1) ∷ (entry.sector, b2) ∷ []) (inode_sector entry.directory, b3)) ≤ 2 + 1 = length-with_put ((inode_sector i, b1) ∷ (entry.sector, b2) ∷ []) (inode_sector entry.directory, b3) in record {
        few = omega arith;
        stand = all-with_put (λ (p : ℕ × List ℕ). p.0 < sectors) ((inode_sector i, b1) ∷ (entry.sector, b2) ∷ []) (inode_sector entry.directory, b3) (within.node, (within.slot, tt)) within.directory;
        past = all-with_put (λ (p : ℕ × List ℕ). 2 ≤ p.0) ((inode_sector i, b1) ∷ (entry.sector, b2) ∷ []) (inode_sector entry.directory, b3) (omega arith, (within.past, tt)) (omega arith);
      }

  pub fits-at_end : (longer : Longer) → MapWithin sectors longer → CanBePut sectors 4 (with_put ((inode_sector i, b1) ∷ (entry.sector, b2) ∷ map_puts longer.map) (inode_sector entry.directory, b3))
  fits-at_end longer h =
      let l : length (with_put ((inode_sector i, b1) ∷ (entry.sector, b2) ∷ map_puts longer.map) (inode_sector entry.directory, b3)) ≤ length ((inode_sector i, b1) ∷ (entry.sector, b2) ∷ map_puts longer.map) + 1 = length-with_put ((inode_sector i, b1) ∷ (entry.sector, b2) ∷ map_puts longer.map) (inode_sector entry.directory, b3) in
      let f = few_map longer.map in let r = both (map_puts longer.map) (listed longer h) in record {
        few = omega arith;
        stand = all-with_put (λ (p : ℕ × List ℕ). p.0 < sectors) ((inode_sector i, b1) ∷ (entry.sector, b2) ∷ map_puts longer.map) (inode_sector entry.directory, b3) (within.node, (within.slot, r.1)) within.directory;
        past = all-with_put (λ (p : ℕ × List ℕ). 2 ≤ p.0) ((inode_sector i, b1) ∷ (entry.sector, b2) ∷ map_puts longer.map) (inode_sector entry.directory, b3) (omega arith, (within.past, r.0)) (omega arith);
      }
