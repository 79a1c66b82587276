use Rattle.std.proofs.Common.{rules, ◌≡◌, ℕ, ◌∷◌, true, false, sym, ap, subst, ◌∙◌}
use Rattle.std.specs.Option.{option_map}
use Rattle.v7_map.specs.Damage.{Kind, Length, passes, has_kind, has_length}
use Rattle.v7_map.specs.Frame.{Head}
use Rattle.v7_damage.specs.Marks.{AreSeen}
use Rattle.v7_damage.specs.Tests.{first_failing, kind_of_test, place_tests}
use Rattle.v7_damage.proofs.Failing.{fails_here, passes_on}
use Rattle.v7_damage.proofs.InodeTests.{tests_used, earlier_next}
use Rattle.v7_damage.proofs.inodes.test_inode.Goals as goal

pub returns-then-not-has_kind-clause-tested : goal.returns-then-not-has_kind-clause-tested
returns-then-not-has_kind-clause-tested c = λ f has used was.
    let i : ℕ = c.args.ino in
    let no : passes f (Kind i) ≡ false = ap (λ (h : Head). has_kind i h) has.head ∙ sym c.has_kind.ensures ∙ search rules in
    ap (option_map kind_of_test) (sym (ap (first_failing f) (tests_used f i used) ∙ fails_here f (Kind i) (Length i ∷ place_tests i 0 140) no))

pub returns-then-not-has_length-clause-tested : goal.returns-then-not-has_length-clause-tested
returns-then-not-has_length-clause-tested c = λ f has used was.
    let i : ℕ = c.args.ino in
    let yes : passes f (Kind i) ≡ true = ap (λ (h : Head). has_kind i h) has.head ∙ sym c.has_kind.ensures ∙ search rules in
    let no : passes f (Length i) ≡ false = ap (λ (h : Head). has_length h) has.head ∙ sym c.has_length.ensures ∙ search rules in
    ap (option_map kind_of_test) (sym (ap (first_failing f) (tests_used f i used) ∙ passes_on f (Kind i) (Length i ∷ place_tests i 0 140) yes ∙ fails_here f (Length i) (place_tests i 0 140) no))

pub returns-clause-tested : goal.returns-clause-tested
returns-clause-tested c = λ f has used was.
    let i : ℕ = c.args.ino in
    let yes : passes f (Kind i) ≡ true = ap (λ (h : Head). has_kind i h) has.head ∙ sym c.has_kind.ensures ∙ search rules in
    let long : passes f (Length i) ≡ true = ap (λ (h : Head). has_length h) has.head ∙ sym c.has_length.ensures ∙ search rules in
    c.test_places.ensures.tested f i has was
    ∙ ap (option_map kind_of_test) (sym (ap (first_failing f) (tests_used f i used) ∙ passes_on f (Kind i) (Length i ∷ place_tests i 0 140) yes ∙ passes_on f (Length i) (place_tests i 0 140) long))

pub returns-clause-seen : goal.returns-clause-seen
returns-clause-seen c = λ f has was none.
    subst (AreSeen c.test_places.new.seen) (sym (earlier_next f c.args.ino c.requires.number)) (c.test_places.ensures.seen f c.args.ino has was none)
