use Rattle.std.proofs.Common.{rules, arith, ◌≡◌, ◌<◌, ℕ, ◌+◌, ◌-◌, [], ◌∷◌, None, sym, ap, ◌∙◌}
use Rattle.std.specs.Option.{option_map}
use Rattle.v7_map.specs.Damage.{Address, Shared}
use Rattle.v7_damage.specs.Tests.{first_failing, kind_of_test, place_tests}
use Rattle.v7_damage.proofs.Failing.{told-some, told-none, first-append_none, place_more, place_end, none_fails, none_from}
use Rattle.v7_damage.proofs.places.test_places.Goals as goal

pub returns-then-is_some-clause-tested : goal.returns-then-is_some-clause-tested
returns-then-is_some-clause-tested c = λ f i has was.
    let n : ℕ = c.loop-place.place in
    let lt : n < 140 = c.loop-place-test.true in
    let step = c.test_place-failing.ensures.tested f i has.starts has.ends has.head (has.blocks n lt) (c.loop-place.invariant.seen f i has was) in
    told-some f c.test_place-failing.result (Address i n ∷ Shared i n ∷ []) (place_tests i (n + 1) (140 - (n + 1))) (search rules) step
    ∙ ap (option_map kind_of_test) (ap (first_failing f) (sym (place_more i n lt)) ∙ sym (c.loop-place.invariant.rest f i has was))

pub loop-place-preserved : goal.loop-place-preserved
loop-place-preserved c =
    let n : ℕ = c.loop-place.place in
    let lt : n < 140 = c.loop-place-test.true in
    let none : c.test_place-failing.result ≡ None = none_from c.test_place-failing.result (search rules) in
    record {
      rest = λ f i has was.
          let step = c.test_place-failing.ensures.tested f i has.starts has.ends has.head (has.blocks n lt) (c.loop-place.invariant.seen f i has was) in
          c.loop-place.invariant.rest f i has was ∙ ap (first_failing f) (place_more i n lt)
          ∙ first-append_none f (Address i n ∷ Shared i n ∷ []) (place_tests i (n + 1) (140 - (n + 1))) (told-none f c.test_place-failing.result (Address i n ∷ Shared i n ∷ []) none step);
      seen = λ f i has was. c.test_place-failing.ensures.seen f i (has.blocks n lt) (c.loop-place.invariant.seen f i has was) none;
      length = search rules;
    }

pub returns-clause-tested : goal.returns-clause-tested
returns-clause-tested c = λ f i has was.
    let n : ℕ = c.loop-place.place in
    let end : 140 - n ≡ 0 = omega arith in
    sym (ap (option_map kind_of_test) (c.loop-place.invariant.rest f i has was ∙ ap (first_failing f) (place_end i n (140 - n) end) ∙ none_fails f))
