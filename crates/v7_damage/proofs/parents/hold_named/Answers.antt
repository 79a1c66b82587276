use Rattle.std.proofs.Common.{rules, ◌≡◌, ◌+◌, ◌||◌, ◌&&◌, ◌==◌, ◌∙◌, Bool, ℕ, [], take, true, ap, get_or}
use Rattle.v7_damage.specs.Marks.{mark_at}
use Rattle.v7_damage.specs.Slots.{names}
use Rattle.v7_damage.proofs.Walking.{names_more, marks_more, marks_start}
use Rattle.v7_damage.proofs.parents.hold_named.Goals as goal

pub loop-slot-init : goal.loop-slot-init
loop-slot-init c = record {
  marks = λ i some. marks_start c.args.slots.now (mark_at c.args.held.now i) (get_or c.args.ups.now i 0 == c.args.parent) i;
  length = search rules;
}

pub loop-slot-preserved : goal.loop-slot-preserved
loop-slot-preserved c =
    let k : ℕ = c.loop-slot.slot-index in
    record {
      marks = λ i some.
          let leads : Bool = get_or c.args.ups.now i 0 == c.args.parent in
          let here : Bool = (get_or c.args.slots.now k (record { ino = 0; name = [] })).ino == i in
          c.hold_one.ensures.marks i ∙ ap (λ a. a || (leads && here)) (c.loop-slot.invariant.marks i some)
          ∙ marks_more (mark_at c.args.held.now i) leads (names (take k c.args.slots.now) i) here (names (take (k + 1) c.args.slots.now) i)
          (λ (yes : leads ≡ true). names_more c.args.slots.now k (record { ino = 0; name = [] }) i c.loop-slot-test.true some);
      length = search rules;
    }
