use Rattle.std.proofs.Common.{rules, ◌≡◌, ◌≢◌, ◌<◌, ◌+◌, Bool, List, length, [], ◌∷◌, ◌++◌, not, true, false, sym, ap, subst, ◌∙◌}
use Rattle.std.specs.Prelude.{set}
use Rattle.std.specs.Option.{option_map}
use Rattle.v7_map.specs.Damage.{Address, Shared, place_at, has_address}
use Rattle.v7_damage.specs.Marks.{AreSeen, is_among}
use Rattle.v7_damage.specs.Tests.{kind_of_test, earlier_blocks}
use Rattle.v7_damage.proofs.Failing.{fails_here, passes_on, none_fails, earlier_more, unshared-none, unshared-some}
use Rattle.v7_damage.proofs.MarkLists.{seen_none, seen_more}
use Rattle.v7_damage.proofs.places.test_place.Goals as goal

pub returns-then-not-has_address-clause-tested : goal.returns-then-not-has_address-clause-tested
returns-then-not-has_address-clause-tested c = λ f i starts ends head at was.
    let no : has_address f i (place_at c.args.place) ≡ false = sym (c.has_address.ensures.tested f i starts ends head at) ∙ search rules in
    ap (option_map kind_of_test) (sym (fails_here f (Address i c.args.place) (Shared i c.args.place ∷ []) no))

pub returns-then-block-eq0-clause-tested : goal.returns-then-block-eq0-clause-tested
returns-then-block-eq0-clause-tested c = λ f i starts ends head at was.
    let yes : has_address f i (place_at c.args.place) ≡ true = sym (c.has_address.ensures.tested f i starts ends head at) ∙ search rules in
    ap (option_map kind_of_test) (sym (passes_on f (Address i c.args.place) (Shared i c.args.place ∷ []) yes ∙ passes_on f (Shared i c.args.place) [] (unshared-none f i c.args.place (at ∙ c.if-block-eq0.true)) ∙ none_fails f))

pub returns-then-block-eq0-clause-seen : goal.returns-then-block-eq0-clause-seen
returns-then-block-eq0-clause-seen c = λ f i at was none.
    subst (λ l. AreSeen c.args.seen.now l) (sym (earlier_more f i c.args.place)) (seen_none c.args.seen.now (earlier_blocks f i c.args.place) _ (at ∙ c.if-block-eq0.true) was)

pub returns-then-has-clause-tested : goal.returns-then-has-clause-tested
returns-then-has-clause-tested c = λ f i starts ends head at was.
    let yes : has_address f i (place_at c.args.place) ≡ true = sym (c.has_address.ensures.tested f i starts ends head at) ∙ search rules in
    let some : c.args.block ≢ 0 = c.if-block-eq0.false in
    let lt : c.args.block < length c.args.seen.now = search rules in
    let before : is_among (earlier_blocks f i c.args.place) c.args.block ≡ true = sym (was.each c.args.block some lt) ∙ search rules in
    let shared : is_among (earlier_blocks f i c.args.place) (f.address i (place_at c.args.place)) ≡ true = ap (is_among (earlier_blocks f i c.args.place)) at ∙ before in
    ap (option_map kind_of_test) (sym (passes_on f (Address i c.args.place) (Shared i c.args.place ∷ []) yes ∙ fails_here f (Shared i c.args.place) [] (unshared-some f i c.args.place (λ z. some (sym at ∙ z)) ∙ ap not shared)))

pub returns-clause-tested : goal.returns-clause-tested
returns-clause-tested c = λ f i starts ends head at was.
    let yes : has_address f i (place_at c.args.place) ≡ true = sym (c.has_address.ensures.tested f i starts ends head at) ∙ search rules in
    let some : c.args.block ≢ 0 = c.if-block-eq0.false in
    let lt : c.args.block < length c.args.seen.now = search rules in
    let before : is_among (earlier_blocks f i c.args.place) c.args.block ≡ false = sym (was.each c.args.block some lt) ∙ search rules in
    let shared : is_among (earlier_blocks f i c.args.place) (f.address i (place_at c.args.place)) ≡ false = ap (is_among (earlier_blocks f i c.args.place)) at ∙ before in
    ap (option_map kind_of_test) (sym (passes_on f (Address i c.args.place) (Shared i c.args.place ∷ []) yes ∙ passes_on f (Shared i c.args.place) [] (unshared-some f i c.args.place (λ z. some (sym at ∙ z)) ∙ ap not shared) ∙ none_fails f))

pub returns-clause-seen : goal.returns-clause-seen
returns-clause-seen c = λ f i at was none.
    let lt : c.args.block < length c.args.seen.now = search rules in
    subst (λ (m : List Bool). AreSeen m (earlier_blocks f i (c.args.place + 1))) (sym c.mark.ensures) (subst (λ l. AreSeen (set c.args.seen.now c.args.block true) l) (sym (earlier_more f i c.args.place ∙ ap (λ b. earlier_blocks f i c.args.place ++ b ∷ []) at)) (seen_more c.args.seen.now (earlier_blocks f i c.args.place) c.args.block lt was))
