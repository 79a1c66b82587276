-- What all tests tell.
use Rattle.std.proofs.Common.{◌≡◌, ℕ, ◌+◌, ◌-◌, ◌∷◌, length, append-nil, ap, ◌∙◌, arith, None}
use Rattle.std.specs.Prelude.{count_by}
use Rattle.std.specs.List.{range_with_len, flat_map}
use Rattle.stable.specs.Store.{Image}
use Rattle.v7_map.specs.Frame.{Frame, frame}
use Rattle.v7_map.specs.Tree.{Tree, tree, is_slot_of, links, seen_in}
use Rattle.v7_map.specs.Damage.{Sizes, damage, tests}
use Rattle.v7_map.proofs.AnyFrame.{frame-IsFrame}
use Rattle.v7_damage.specs.declared.damage.RepairFault.{RepairFault}
use Rattle.v7_damage.specs.declared.damage.RepairFault.TheVariants.{Damaged, Failed, NoMemory}
use Rattle.v7_damage.specs.declared.listed.Listed.{Listed}
use Rattle.v7_damage.specs.declared.tested.Names.{Names}
use Rattle.v7_damage.specs.Listed.{IsListed}
use Rattle.v7_damage.specs.Names.{AreTypes, slots_until, tests_of_directories}
use Rattle.v7_damage.specs.Tests.{IsFaultTold, first_failing, tests_of_inodes}
use Rattle.v7_damage.specs.Undamaged.{AreNames, IsFaultOf, IsUndamaged}
use Rattle.v7_damage.specs.Walk.{CanWalk}
use Rattle.v7_damage.proofs.Failing.{first-append_none}
use Rattle.v7_damage.proofs.Passed.{are_types, can_walk, tests_split}
use Rattle.v7_damage.proofs.Supers.{told_same}

pub fault-of : (image : Image) (e : RepairFault) → IsFaultTold (frame image) (tests (frame image)) e → IsFaultOf image e
unfolding first_failing
fault-of image (Damaged sector which) is = is
fault-of image Failed is = tt
fault-of image NoMemory is = tt

none-of : (image : Image) → first_failing (frame image) (tests (frame image)) ≡ None → damage (frame image) ≡ None
unfolding first_failing
none-of image is = is

-- the slots before a directory past the last are all
links-are : (t : Tree) (i : ℕ) → count_by (is_slot_of i) (slots_until t 0 (t.inodes + 1) 0) ≡ links t i
unfolding links slots_until
links-are t i =
    let e : (t.inodes + 1) - 1 ≡ t.inodes = omega arith in
    ap (count_by (is_slot_of i)) (append-nil (flat_map (seen_in t 0) (range_with_len 1 ((t.inodes + 1) - 1))) ∙ ap (λ n. flat_map (seen_in t 0) (range_with_len 1 n)) e)

module _ (image : Image) (listed : Listed) (is : IsListed image listed) (none : first_failing (frame image) (Sizes ∷ tests_of_inodes (frame image) 1 (tree (frame image)).inodes) ≡ None) where
  abbrev f : Frame
  f = frame image

  pub listed-types : AreTypes f listed.types.items
  listed-types = are_types image none listed.types.items is.types_are

  pub listed-walk : CanWalk image listed.types.items listed.bodies
  listed-walk = can_walk image none listed.types.items listed.bodies is.types_are is.bodies_are

  rest : first_failing f (tests f) ≡ first_failing f (tests_of_directories (tree f) 1 (length listed.types.items - 1))
  rest =
      let count = is.count in
      let inodes : (tree f).inodes ≡ length listed.types.items - 1 = omega arith in
      ap (first_failing f) (tests_split f) ∙ first-append_none f (Sizes ∷ tests_of_inodes f 1 (tree f).inodes) (tests_of_directories (tree f) 1 (tree f).inodes) none
      ∙ ap (λ n. first_failing f (tests_of_directories (tree f) 1 n)) inodes

  pub names-fault : (e : RepairFault) → IsFaultTold f (tests_of_directories (tree f) 1 (length listed.types.items - 1)) e → IsFaultOf image e
  names-fault e told = fault-of image e (told_same f (tests_of_directories (tree f) 1 (length listed.types.items - 1)) (tests f) e rest told)

  pub known-by : (names : Names) → length names.counts.items ≡ length listed.types.items → AreNames image (length listed.types.items) names
      → first_failing f (tests_of_directories (tree f) 1 (length listed.types.items - 1)) ≡ None
      → IsUndamaged image (record { super_block = listed.super_block; types = listed.types; walked = names.walked; counts = names.counts; summaries = listed.bodies.summaries })
  known-by names long are passes = record {
    undamaged = none-of image (rest ∙ passes);
    super_is = is.super_is;
    count = is.count;
    types_are = listed-types;
    walked_are = are.walked;
    summaries_are = λ i used. let r = (frame-IsFrame image).numbers i used in let high = r.1 in is.bodies_are.summed.each i (omega arith) used;
    counts_are = λ i low lt. are.counted.each i low lt ∙ ap (λ n. count_by (is_slot_of i) (slots_until (tree f) 0 n 0)) is.count ∙ links-are (tree f) i;
  }
