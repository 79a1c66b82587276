-- The first test of a directory that fails, by what was noted.
use Rattle.std.proofs.Common.{◌≡◌, ℕ, ◌/◌, ◌<◌, ◌≤◌, Bool, true, false, ◌&&◌, List, length, refl, sym, ap, subst, ◌∙◌, Some, None}
use Rattle.std.specs.Prelude.{Option}
use Rattle.stable.specs.Store.{Image}
use Rattle.v7_map.specs.Image.{inode_sector}
use Rattle.v7_map.specs.Frame.{Frame, Body, frame}
use Rattle.v7_map.specs.Tree.{Tree, tree, is_walked}
use Rattle.v7_map.specs.Damage.{Dots, Entry, has_dots}
use Rattle.v7_damage.specs.declared.bodies.Bodies.{Bodies}
use Rattle.v7_damage.specs.declared.damage.Damage.TheVariants as kind
use Rattle.v7_damage.specs.declared.names.Kept.{Kept}
use Rattle.v7_damage.specs.declared.names.WrongSlot.{WrongSlot}
use Rattle.v7_damage.specs.declared.parents.Parents.{Parents}
use Rattle.v7_damage.specs.declared.walk.Walks.{Walks}
use Rattle.v7_damage.specs.Marks.{mark_at}
use Rattle.v7_damage.specs.Names.{HasNoted, begins_with_dots, is_held, tests_of_directory, tests_of_slots}
use Rattle.v7_damage.specs.Tests.{first_failing, told}
use Rattle.v7_damage.proofs.DirectoryTests.{dir_none, dir_some}
use Rattle.v7_damage.proofs.Failing.{fails_here, passes_on, none_fails}

and_again : (a b c : Bool) → (a && (b && c)) ≡ ((a && b) && c)
and_again true b c = refl
and_again false b c = refl

dots-split : (t : Tree) (d : ℕ) → has_dots t d ≡ (begins_with_dots t d && is_held t d)
dots-split t d = and_again _ _ (is_held t d)

and_false_right : (a b : Bool) → b ≡ false → (a && b) ≡ false
and_false_right true b e = e
and_false_right false b e = refl

pub none_left : (o : Option WrongSlot) → ((wrong : WrongSlot) → o ≡ Some wrong → ⊥) → o ≡ None
none_left None never = refl
none_left (Some wrong) never = absurd (never wrong refl)

module _ (image : Image) (types : List ℕ) (bodies : Bodies) (walks : Walks) (parents : Parents) (kept : Kept) (n d : ℕ) (has : HasNoted image types bodies walks parents kept n) (some : 1 ≤ d) (below : d < n) where
  abbrev f : Frame
  f = frame image

  pub walked-by : (b : Bool) → mark_at walks.found d ≡ b → is_walked (tree f) d ≡ b
  walked-by b marked = sym (has.walks_are.marks d) ∙ marked

  pub other_none : mark_at walks.found d ≡ false → first_failing f (tests_of_directory (tree f) d) ≡ None
  other_none marked = ap (first_failing f) (dir_none (tree f) d (walked-by false marked)) ∙ none_fails f

  module _ (marked : mark_at walks.found d ≡ true) where
    walks' : is_walked (tree f) d ≡ true
    walks' = walked-by true marked

    dots-fail : has_dots (tree f) d ≡ false → told f (first_failing f (tests_of_directory (tree f) d)) ≡ Some (inode_sector d, kind.Dots)
    dots-fail fails = ap (told f) (ap (first_failing f) (dir_some (tree f) d walks') ∙ fails_here f (Dots d) (tests_of_slots (tree f) d 0 (length (f.slots d))) fails)

    pub no_dots : mark_at parents.dotted d ≡ false → told f (first_failing f (tests_of_directory (tree f) d)) ≡ Some (inode_sector d, kind.Dots)
    no_dots dotted = dots-fail (dots-split (tree f) d ∙ ap (λ b. b && is_held (tree f) d) (sym (has.dotted.each d below walks') ∙ dotted))

    pub not_held : is_held (tree f) d ≡ false → told f (first_failing f (tests_of_directory (tree f) d)) ≡ Some (inode_sector d, kind.Dots)
    not_held held = dots-fail (dots-split (tree f) d ∙ and_false_right (begins_with_dots (tree f) d) _ held)

    after_dots : mark_at parents.dotted d ≡ true → is_held (tree f) d ≡ true → first_failing f (tests_of_directory (tree f) d) ≡ first_failing f (tests_of_slots (tree f) d 0 (length (f.slots d)))
    after_dots dotted held =
        ap (first_failing f) (dir_some (tree f) d walks')
        ∙ passes_on f (Dots d) (tests_of_slots (tree f) d 0 (length (f.slots d))) (dots-split (tree f) d ∙ (λ z. (sym (has.dotted.each d below walks') ∙ dotted) z && held z))

    module _ (dotted : mark_at parents.dotted d ≡ true) (held : is_held (tree f) d ≡ true) where
      pub no_wrong : kept.wrong ≡ None → first_failing f (tests_of_directory (tree f) d) ≡ None
      no_wrong none = after_dots dotted held ∙ (has.tested.passed none).each d some below walks'

      pub wrong_later : (wrong : WrongSlot) → kept.wrong ≡ Some wrong → d < wrong.ino → first_failing f (tests_of_directory (tree f) d) ≡ None
      wrong_later wrong is lt = after_dots dotted held ∙ (has.tested.failed wrong is).before.each d some lt walks'

      pub wrong_here : (wrong : WrongSlot) → kept.wrong ≡ Some wrong → wrong.ino ≡ d → (sector : ℕ) → sector ≡ wrong.sector
          → told f (first_failing f (tests_of_directory (tree f) d)) ≡ Some (sector, kind.Slot)
      wrong_here wrong is same sector at =
          let w = has.tested.failed wrong is in
          let fails : first_failing f (tests_of_slots (tree f) d 0 (length (f.slots d))) ≡ Some (Entry d wrong.index) =
          subst (λ i. first_failing f (tests_of_slots (tree f) i 0 (length (f.slots i))) ≡ Some (Entry i wrong.index)) same w.fails in
          let block : f.address d (Body (wrong.index / 32)) ≡ sector = sym (at ∙ w.stands ∙ ap (λ i. f.address i (Body (wrong.index / 32))) same) in
          ap (told f) (after_dots dotted held ∙ fails) ∙ (λ z. Some (block z, kind.Slot))
