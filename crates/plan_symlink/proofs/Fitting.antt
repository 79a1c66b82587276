-- The puts of a new link, which a store can take.
use Rattle.std.proofs.Common.{◌≡◌, ℕ, suc, ◌+◌, ◌<◌, ◌≤◌, min, List, [], ◌∷◌, ◌++◌, length, Option, Some, None, IfSome, refl, ap, ◌∙◌, arith}
use Rattle.std.proofs.lemmas.List.{length-append}
use Rattle.std.specs.List.{AllByRecursion}
use Rattle.stable.specs.Puts.{with_put}
use Rattle.v7_map.specs.Image.{inode_sector}
use Rattle.v7_map.proofs.Puts.{all_append}
use Rattle.v7_strokes.proofs.Merging.{length-with_put}
use Rattle.longer_plans.specs.SymlinkPuts.{text_puts}
use Rattle.plan_name.specs.Creating.{StandWithin, MapWithin, CanBePut, map_puts}
use Rattle.plan_name.specs.declared.creating_puts.Entry.{Entry}
use Rattle.plan_name.specs.declared.creating_puts.Listing.{Listing}
use Rattle.plan_name.specs.declared.creating_puts.Longer.{Longer}
use Rattle.plan_name.proofs.Fitting.{all-with_put}
use Rattle.plan_symlink.specs.TextBlocks.{AreWithin, text_list}
use Rattle.plan_symlink.specs.declared.text_blocks.TextBlocks.{TextBlocks}
use Rattle.plan_symlink.specs.declared.text_blocks.TextBlocks.TheVariants as blocks

pub at-most_two : (held : TextBlocks) → length (text_list held) ≤ 2
at-most_two blocks.Empty = omega arith
at-most_two (blocks.One first) = omega arith
at-most_two (blocks.Two first second) = omega arith

length-text : (text : List ℕ) (k : ℕ) (held : List ℕ) → length (text_puts text k held) ≡ length held
length-text text k [] = refl
length-text text k (a ∷ rest) = ap suc (length-text text (k + 1) rest)

-- a put past the super-block, within so many sectors
abbrev IsInside : ℕ → ℕ × List ℕ → Type 0
IsInside sectors put = (2 ≤ put.0) × (put.0 < sectors)

inside-text : (sectors : ℕ) (text : List ℕ) (k : ℕ) (held : List ℕ) → AreWithin sectors held → AllByRecursion (IsInside sectors) (text_puts text k held)
inside-text sectors text k [] h = tt
inside-text sectors text k (a ∷ rest) h = let low = h.0.0 in let high = h.0.1 in ((low, omega arith), inside-text sectors text (k + 1) rest h.1)

inside-map : (sectors : ℕ) (o : Option Listing) → IfSome o (λ l. (2 ≤ l.block) × (l.block < sectors)) → AllByRecursion (IsInside sectors) (map_puts o)
inside-map sectors None h = tt
inside-map sectors (Some l) h = (h, tt)

few-map : (o : Option Listing) → length (map_puts o) ≤ 1
few-map None = omega arith
few-map (Some l) = omega arith

all-fit : (sectors most : ℕ) (puts : List (ℕ × List ℕ)) → length puts ≤ most → AllByRecursion (IsInside sectors) puts → CanBePut sectors most puts
all-fit sectors most puts few h = record { few = few; stand = (parts puts h).1; past = (parts puts h).0 }
  where
    parts : (ps : List (ℕ × List ℕ)) → AllByRecursion (IsInside sectors) ps → AllByRecursion (λ (p : ℕ × List ℕ). 2 ≤ p.0) ps × AllByRecursion (λ (p : ℕ × List ℕ). p.0 < sectors) ps
    parts [] h = (tt, tt)
    parts (p ∷ ps) h = let r = parts ps h.1 in ((h.0.0, r.0), (h.0.1, r.1))

module _ (sectors i : ℕ) (entry : Entry) (within : StandWithin sectors i entry) (text : List ℕ) (held : TextBlocks) (short : AreWithin sectors (text_list held)) (b1 b2 b3 : List ℕ) where
  abbrev begun : List (ℕ × List ℕ)
  begun = with_put (text_puts text 0 (text_list held)) (inode_sector i, b1)

  begun-inside : AllByRecursion (IsInside sectors) (begun ++ (entry.sector, b2) ∷ [])
  begun-inside = all_append (IsInside sectors) begun ((entry.sector, b2) ∷ [])
      (all-with_put (IsInside sectors) (text_puts text 0 (text_list held)) (inode_sector i, b1) (inside-text sectors text 0 (text_list held) short) (omega arith, within.node))
      ((within.past, within.slot), tt)

  begun-few : length (begun ++ (entry.sector, b2) ∷ []) ≤ 4
  begun-few =
      let a = at-most_two held in let b = length-text text 0 (text_list held) in
      let c : length begun ≤ length (text_puts text 0 (text_list held)) + 1 = length-with_put (text_puts text 0 (text_list held)) (inode_sector i, b1) in
      let e = length-append begun ((entry.sector, b2) ∷ []) in omega arith

  pub fits-link : CanBePut sectors 5 (with_put (begun ++ (entry.sector, b2) ∷ []) (inode_sector entry.directory, b3))
  fits-link =
      let f = begun-few in
      let l : length (with_put (begun ++ (entry.sector, b2) ∷ []) (inode_sector entry.directory, b3)) ≤ length (begun ++ (entry.sector, b2) ∷ []) + 1 = length-with_put (begun ++ (entry.sector, b2) ∷ []) (inode_sector entry.directory, b3) in
      all-fit sectors 5 (with_put (begun ++ (entry.sector, b2) ∷ []) (inode_sector entry.directory, b3)) (omega arith)
      (all-with_put (IsInside sectors) (begun ++ (entry.sector, b2) ∷ []) (inode_sector entry.directory, b3) begun-inside (omega arith, within.directory))

  pub fits-link_at_end : (longer : Longer) → MapWithin sectors longer → CanBePut sectors 6 (with_put ((begun ++ (entry.sector, b2) ∷ []) ++ map_puts longer.map) (inode_sector entry.directory, b3))
  fits-link_at_end longer h =
      let puts : List (ℕ × List ℕ) = (begun ++ (entry.sector, b2) ∷ []) ++ map_puts longer.map in
      let f = begun-few in let m = few-map longer.map in let e = length-append (begun ++ (entry.sector, b2) ∷ []) (map_puts longer.map) in
      let l : length (with_put ((begun ++ (entry.sector, b2) ∷ []) ++ map_puts longer.map) (inode_sector entry.directory, b3)) ≤ length ((begun ++ (entry.sector, b2) ∷ []) ++ map_puts longer.map) + 1 =
      length-with_put ((begun ++ (entry.sector, b2) ∷ []) ++ map_puts longer.map) (inode_sector entry.directory, b3) in
      all-fit sectors 6 (with_put ((begun ++ (entry.sector, b2) ∷ []) ++ map_puts longer.map) (inode_sector entry.directory, b3)) (omega arith)
      (all-with_put (IsInside sectors) ((begun ++ (entry.sector, b2) ∷ []) ++ map_puts longer.map) (inode_sector entry.directory, b3)
      (all_append (IsInside sectors) (begun ++ (entry.sector, b2) ∷ []) (map_puts longer.map) begun-inside (inside-map sectors longer.map h)) (omega arith, within.directory))
