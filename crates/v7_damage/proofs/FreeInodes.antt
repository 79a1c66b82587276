-- Free inodes: their tests, and their entries in the tables.
use Rattle.std.proofs.Common.{◌≡◌, ◌≢◌, ℕ, ◌+◌, ◌/◌, ◌≤◌, Bool, true, false, not, ◌==◌, List, [], ◌∷◌, ◌++◌, sym, ap, subst, ◌∙◌, arith, eq-eqb, Some, None}
use Rattle.std.specs.Option.{option_map}
use Rattle.stable.specs.Store.{Image}
use Rattle.v7_map.specs.Image.{inode_at, inode_sector}
use Rattle.v7_map.specs.Frame.{Frame, frame, is_directory}
use Rattle.v7_map.specs.Damage.{Kind, place_at}
use Rattle.v7_read.proofs.Listings.{free_places}
use Rattle.v7_damage.specs.declared.bodies.Bodies.{Bodies}
use Rattle.v7_damage.specs.declared.damage.Damage.TheVariants as kind
use Rattle.v7_damage.specs.Marks.{AreSeen}
use Rattle.v7_damage.specs.Tables.{AreBodies, HasTables, IsNext}
use Rattle.v7_damage.specs.Summaries.{no_summary}
use Rattle.v7_damage.specs.Tests.{first_failing, kind_of_test, earlier_blocks, tests_of, told}
use Rattle.v7_damage.proofs.Failing.{fails_here, none_fails}
use Rattle.v7_damage.proofs.FrameInodes.{bodies_more}
use Rattle.v7_damage.proofs.InodeTests.{tests_root, tests_free, root_fails, earlier_next, seen_free, told_inode}

module _ (image : Image) (i : ℕ) (free : (inode_at image i).mode ≡ 0) where
  abbrev f : Frame
  f = frame image

  head-free : (f.head i).is_used ≡ false
  unfolding frame
  head-free = ap not (eq-eqb (inode_at image i).mode 0 free)

  pub type_free : 0 ≡ (f.head i).type
  unfolding frame
  type_free = let e : (inode_at image i).mode / 4096 ≡ 0 = omega arith in sym e

  none-free : (k : ℕ) → f.address i (place_at k) ≡ 0
  unfolding frame
  none-free k = free_places image (inode_at image i) k free

  pub root_told : i ≡ 2 → told f (first_failing f (tests_of f i)) ≡ Some (inode_sector i, kind.Kind)
  root_told root = told_inode f i kind.Kind (ap (option_map kind_of_test) (sym (ap (first_failing f) (tests_root f i head-free root) ∙ fails_here f (Kind i) [] (root_fails f i root (sym type_free)))))

  pub none_told : i ≢ 2 → first_failing f (tests_of f i) ≡ None
  none_told other = ap (first_failing f) (tests_free f i head-free other) ∙ none_fails f

  pub seen_next : (seen : List Bool) → 1 ≤ i → AreSeen seen (earlier_blocks f i 0) → AreSeen seen (earlier_blocks f (i + 1) 0)
  seen_next seen some was = subst (AreSeen seen) (sym (earlier_next f i some)) (seen_free f i seen none-free 140 was)

  -- the tables with a free inode more
  pub bodies_free : (types types' : List ℕ) (old new : Bodies) (at : ℕ → ℕ) → HasTables i types old → 1 ≤ i → types' ≡ types ++ 0 ∷ [] → IsNext old new 0 at no_summary → AreBodies image old i → AreBodies image new (i + 1)
  bodies_free types types' old new at was some pushed next had = bodies_more i types types' old new 0 0 at no_summary was some pushed next image
      (λ dir. let no : is_directory (f.head i) ≡ false = ap (λ t. t == 4) (sym type_free) in let clash : true ≡ false = sym dir ∙ no in absurd (cc))
      (λ used. let clash : true ≡ false = sym used ∙ head-free in absurd (cc))
      had
