use Rattle.std.proofs.Common.{rules, arith, ◌≡◌, ◌∙◌, ◌-◌, ℕ, List, true, false, None, take, drop, min, length, sym, ap}
use Rattle.std.proofs.lemmas.List.{drop_min, take_rest, length-map}
use Rattle.v7_layout.specs.declared.slot.Slot.{Slot}
use Rattle.v7_map.specs.Tree.{tree}
use Rattle.v7_damage.specs.Marks.{mark_at}
use Rattle.v7_damage.specs.Names.{begins_with_dots}
use Rattle.v7_damage.specs.Slots.{seen_slot}
use Rattle.v7_damage.specs.Tallied.{slots_read}
use Rattle.v7_damage.proofs.Failing.{none_from}
use Rattle.v7_damage.proofs.TallyEnd.{read_on}
use Rattle.v7_damage.proofs.tally.is_noted.Goals as goal

pub returns-clause-read : goal.returns-clause-read
returns-clause-read c = λ f are seen was yes.
    let d : ℕ = c.args.ino in
    let types : List ℕ = c.args.types.now in
    let slots : List Slot = c.args.slots.now in
    let past : List Slot = take (length slots - c.min-first.result) (drop c.min-first.result slots) in
    let first : c.min-first.result ≡ min 2 (length slots) = omega arith in
    let fresh : mark_at c.args.tally.now.read d ≡ false = sym c.has.ensures ∙ search rules in
    let begins : begins_with_dots (tree f) d ≡ true = sym (c.begins_with_dots.ensures (tree f) seen) ∙ search rules in
    let none : c.test_slots.result ≡ None = none_from c.test_slots.result (search rules) in
    read_on f types c.args.tally.now (record { read = c.mark.new.self; kept = c.test_slots.new.kept; holders = c.note_holders.new.holders; fine = c.args.tally.now.fine }) d slots past seen
    (take_rest slots c.min-first.result ∙ ap (λ n. drop n slots) first ∙ drop_min 2 slots) c.requires.some c.requires.within c.requires.room.read fresh c.mark.ensures was
    (c.test_slots.ensures.tallied (slots_read (tree f) 0 c.args.tally.now.read (length types - 1)) (slots_read (tree f) 2 c.args.tally.now.read (length types - 1)) was.kept none)
    (λ k lt. c.test_slots.ensures.good f are none k lt) begins (λ i some lt. c.note_holders.ensures.each i some lt) c.note_holders.ensures.length (sym (length-map slots seen_slot) ∙ ap length seen)
