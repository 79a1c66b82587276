use Rattle.std.proofs.Common.{rules, arith, ◌/◌, ◌≡◌, ◌<◌, ◌∙◌, ℕ, length, sym, ap, subst}
use Rattle.std.specs.Option.{option_map}
use Rattle.std.proofs.lemmas.List.{length-map}
use Rattle.v7_map.specs.Damage.{Entry}
use Rattle.v7_map.specs.Tree.{tree}
use Rattle.v7_damage.specs.Names.{tests_of_slots}
use Rattle.v7_damage.specs.Slots.{seen_slot}
use Rattle.v7_damage.specs.Tests.{first_failing}
use Rattle.v7_damage.proofs.DirectoryTests.{kept_walked}
use Rattle.v7_damage.proofs.Failing.{none_from}
use Rattle.v7_damage.proofs.Noting.{tested_on, tested_more, tested_wrong}
use Rattle.v7_damage.proofs.names.keep_slots.Goals as goal

pub returns-then-is_some-clause-tested : goal.returns-then-is_some-clause-tested
returns-then-is_some-clause-tested c = λ f seen stand walks was. tested_on f c.args.ino c.args.types.now c.requires.some c.args.kept.now (search rules) was

pub returns-in-None-clause-tested : goal.returns-in-None-clause-tested
returns-in-None-clause-tested c = λ f seen stand walks was.
    let d : ℕ = c.args.ino in
    let had = was.counted (none_from c.args.kept.now.wrong (search rules)) in
    let long : length c.args.slots.now ≡ length (f.slots d) = sym (length-map c.args.slots.now seen_slot) ∙ ap length seen in
    tested_more f d c.args.types.now c.requires.some c.args.kept.now c.test_slots.new.kept (search rules) c.test_slots.ensures.wrong was
    (ap (λ n. first_failing f (tests_of_slots (tree f) d 0 n)) (sym long) ∙ c.test_slots.ensures.told f d had seen ∙ ap (option_map (λ k. Entry d k)) c.in-None.is)
    (kept_walked f c.args.types.now c.test_slots.new.kept.counts.items c.test_slots.new.kept.named d c.requires.some (length c.args.slots.now) long walks (c.test_slots.ensures.kept f d had seen c.in-None.is))

pub returns-in-Some-clause-tested : goal.returns-in-Some-clause-tested
returns-in-Some-clause-tested c = λ f seen stand walks was.
    let d : ℕ = c.args.ino in
    let k : ℕ = c.in-Some.index in
    let none = none_from c.args.kept.now.wrong (search rules) in
    let had = was.counted none in
    let long : length c.args.slots.now ≡ length (f.slots d) = sym (length-map c.args.slots.now seen_slot) ∙ ap length seen in
    let within : k < length c.args.slots.now = c.in-Some.ensures.within in
    tested_wrong f d c.args.types.now c.requires.some c.args.kept.now _ k c.block_of-sector.result none (search rules) (c.block_of-sector.ensures (let few = stand.few in omega (arith, few, within, long)) ∙ stand.each (k / 32) (omega (arith, within, long))) walks was (subst (λ n. k < n) long within)
    (ap (λ n. first_failing f (tests_of_slots (tree f) d 0 n)) (sym long) ∙ c.test_slots.ensures.told f d had seen ∙ ap (option_map (λ k. Entry d k)) c.in-Some.is)
