-- Puts of a new directory that a store can take.
use Rattle.std.proofs.Common.{ℕ, ◌+◌, ◌<◌, ◌≤◌, List, [], ◌∷◌, ◌++◌, length, Option, Some, None, IfSome, arith, length-append}
use Rattle.std.specs.List.{AllByRecursion}
use Rattle.stable.specs.Puts.{with_put}
use Rattle.v7_map.proofs.Puts.{all_append}
use Rattle.v7_map.specs.Image.{inode_sector}
use Rattle.v7_strokes.proofs.Merging.{length-with_put}
use Rattle.plan_name.specs.Creating.{MapWithin, CanBePut, map_puts}
use Rattle.plan_name.specs.declared.creating_puts.Listing.{Listing}
use Rattle.plan_name.specs.declared.creating_puts.Longer.{Longer}
use Rattle.plan_name.specs.declared.making.Spot.{Spot}
use Rattle.plan_name.proofs.Fitting.{all-with_put}
use Rattle.plan_mkdir.specs.Making.{NewWithin, SpotWithin}
use Rattle.plan_mkdir.specs.declared.directories.NewDirectory.{NewDirectory}

module _ (sectors : ℕ) (new : NewDirectory) (spot : Spot) (n : NewWithin sectors new) (s : SpotWithin sectors spot) (b0 b1 b2 b3 : List ℕ) where
  first : List (ℕ × List ℕ)
  first = with_put ((new.block, b0) ∷ []) (inode_sector new.ino, b1)

  -- the first sector and the inode
  module _ (P : ℕ × List ℕ → Type 0) (block : P (new.block, b0)) (number : P (inode_sector new.ino, b1)) (slot : P (spot.sector, b2)) (parent : P (inode_sector spot.directory.ino, b3)) where
    all_three : AllByRecursion P (first ++ (spot.sector, b2) ∷ [])
    unfolding first
    all_three = all_append P (with_put ((new.block, b0) ∷ []) (inode_sector new.ino, b1)) ((spot.sector, b2) ∷ []) (all-with_put P ((new.block, b0) ∷ []) (inode_sector new.ino, b1) (block, tt) number) (slot, tt)

    all_four : AllByRecursion P (with_put (first ++ (spot.sector, b2) ∷ []) (inode_sector spot.directory.ino, b3))
    all_four = all-with_put P (first ++ (spot.sector, b2) ∷ []) (inode_sector spot.directory.ino, b3) all_three parent

    all_five : (maps : List (ℕ × List ℕ)) → AllByRecursion P maps → AllByRecursion P (with_put ((first ++ (spot.sector, b2) ∷ []) ++ maps) (inode_sector spot.directory.ino, b3))
    all_five maps h = all-with_put P ((first ++ (spot.sector, b2) ∷ []) ++ maps) (inode_sector spot.directory.ino, b3) (all_append P (first ++ (spot.sector, b2) ∷ []) maps all_three h) parent

  three : length (first ++ (spot.sector, b2) ∷ []) ≤ 3
  unfolding first
  three = let a = length-append (with_put ((new.block, b0) ∷ []) (inode_sector new.ino, b1)) ((spot.sector, b2) ∷ []) in let l : length (with_put ((new.block, b0) ∷ []) (inode_sector new.ino, b1)) ≤ 1 + 1 = length-with_put ((new.block, b0) ∷ []) (inode_sector new.ino, b1) in omega arith

  map_past : (o : Option Listing) → IfSome o (λ l. (2 ≤ l.block) × (l.block < sectors)) → AllByRecursion (λ (p : ℕ × List ℕ). 2 ≤ p.0) (map_puts o)
  map_past None h = tt
  map_past (Some l) h = (h.0, tt)

  map_below : (o : Option Listing) → IfSome o (λ l. (2 ≤ l.block) × (l.block < sectors)) → AllByRecursion (λ (p : ℕ × List ℕ). p.0 < sectors) (map_puts o)
  map_below None h = tt
  map_below (Some l) h = (h.1, tt)

  few_map : (o : Option Listing) → length (map_puts o) ≤ 1
  few_map None = omega arith
  few_map (Some l) = omega arith

  block_below : new.block < sectors
  block_below = let b = n.below in omega arith

  pub fits-in_place : CanBePut sectors 4 (with_put (with_put ((new.block, b0) ∷ []) (inode_sector new.ino, b1) ++ (spot.sector, b2) ∷ []) (inode_sector spot.directory.ino, b3))
  unfolding first
  fits-in_place = record {
    few = let l = length-with_put (first ++ (spot.sector, b2) ∷ []) (inode_sector spot.directory.ino, b3) in let t = three in omega arith;
    stand = all_four (λ (p : ℕ × List ℕ). p.0 < sectors) block_below n.number.stands s.slot s.parent.stands;
    past = all_four (λ (p : ℕ × List ℕ). 2 ≤ p.0) n.past (omega arith) s.past (omega arith);
  }

  pub fits-at_end : (longer : Longer) → MapWithin sectors longer → CanBePut sectors 5 (with_put ((with_put ((new.block, b0) ∷ []) (inode_sector new.ino, b1) ++ (spot.sector, b2) ∷ []) ++ map_puts longer.map) (inode_sector spot.directory.ino, b3))
  unfolding first
  fits-at_end longer h = record {
    few = let l = length-with_put ((first ++ (spot.sector, b2) ∷ []) ++ map_puts longer.map) (inode_sector spot.directory.ino, b3) in let a = length-append (first ++ (spot.sector, b2) ∷ []) (map_puts longer.map) in let t = three in let m = few_map longer.map in omega arith;
    stand = all_five (λ (p : ℕ × List ℕ). p.0 < sectors) block_below n.number.stands s.slot s.parent.stands (map_puts longer.map) (map_below longer.map h);
    past = all_five (λ (p : ℕ × List ℕ). 2 ≤ p.0) n.past (omega arith) s.past (omega arith) (map_puts longer.map) (map_past longer.map h);
  }
