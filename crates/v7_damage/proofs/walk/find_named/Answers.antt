use Rattle.std.proofs.Common.{rules, arith, ◌≡◌, ◌+◌, ◌||◌, ◌&&◌, ◌==◌, ◌∙◌, Bool, ℕ, take, length, true, ap, get_or, []}
use Rattle.std.proofs.lemmas.List.{take_all}
use Rattle.v7_damage.specs.Marks.{mark_at}
use Rattle.v7_damage.specs.Slots.{names}
use Rattle.v7_damage.specs.Walk.{is_dir_in}
use Rattle.v7_damage.proofs.Walking.{names_more, marks_more, marks_start, front_stays, some_number}
use Rattle.v7_damage.proofs.walk.find_named.Goals as goal

pub loop-slot-init : goal.loop-slot-init
loop-slot-init c = record {
  marks = λ i. marks_start c.args.slots.now (mark_at c.args.found.now i) (is_dir_in c.args.types.now i) i;
  listed = λ was. was;
  front = take_all (length c.args.list.now.items) c.args.list.now.items (omega arith);
  longer = search rules;
  length = search rules;
}

pub loop-slot-preserved : goal.loop-slot-preserved
loop-slot-preserved c =
    let k : ℕ = c.loop-slot.slot-index in
    record {
      marks = λ i.
          let dir : Bool = is_dir_in c.args.types.now i in
          let here : Bool = (get_or c.args.slots.now k (record { ino = 0; name = [] })).ino == i in
          c.in_ok-find_one.ensures.marks i ∙ ap (λ a. a || (dir && here)) (c.loop-slot.invariant.marks i)
          ∙ marks_more (mark_at c.args.found.now i) dir (names (take k c.args.slots.now) i) here (names (take (k + 1) c.args.slots.now) i)
          (λ (yes : dir ≡ true). names_more c.args.slots.now k (record { ino = 0; name = [] }) i c.loop-slot-test.true (some_number c.args.types.now i c.requires.none yes));
      listed = λ was. c.in_ok-find_one.ensures.listed (c.loop-slot.invariant.listed was);
      front = front_stays c.args.list.now.items c.loop-slot.list.items c.find_one.new.list.items c.loop-slot.invariant.longer c.loop-slot.invariant.front c.in_ok-find_one.ensures.front;
      longer = let a = c.loop-slot.invariant.longer in let b = c.in_ok-find_one.ensures.longer in omega arith;
      length = search rules;
    }
