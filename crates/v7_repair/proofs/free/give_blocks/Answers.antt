use Rattle.std.proofs.Common.{rules, arith, ◌≡◌, ◌∙◌, ◌+◌, ℕ, Bool, List, true, false, length, set, sym, ap, subst}
use Rattle.std.proofs.lemmas.List.{length-set, length-replicate}
use Rattle.v7_damage.specs.Marks.{mark_at}
use Rattle.v7_repair.specs.Free.{is_left}
use Rattle.v7_repair.proofs.Giving.{HasBelow, given_none, given_one, given_all, passed_by, left_above, left_below, left_marked, left_unmarked}
use Rattle.v7_repair.proofs.free.give_blocks.Goals as goal
use Rattle.v7_repair.proofs.free.give_blocks.Goals.{then-not-has, else-not-has}

pub loop-block-init : goal.loop-block-init
loop-block-init c =
    let p : ℕ → Bool = is_left c.args.isize c.args.needed.now in
    record {
      has = subst (λ (x : List Bool). HasBelow p x c.args.isize) (sym c.requires.none) (given_none p (length c.args.needed.now) c.args.isize (left_above c.args.isize c.args.needed.now));
      long = ap (λ (x : List Bool). length x) c.requires.none ∙ length-replicate (length c.args.needed.now) false;
      inodes = search rules;
    }

pub loop-block-preserved : goal.loop-block-preserved
loop-block-preserved c =
    let i = c.loop-block.invariant in
    let k : ℕ = c.loop-block.block in
    let needed : List Bool = c.args.needed.now in
    let p : ℕ → Bool = is_left c.args.isize needed in
    let long = i.long in
    let low = c.loop-block.auto.block in
    let end = c.size-block-end.ensures in
    let test = c.loop-block-test.true in
    elim c.if-not-has.branch [
      | then-not-has w ↦
          let none : mark_at needed k ≡ false = sym c.has.ensures ∙ search rules in
          let given : c.if-not-has.sets.blocks ≡ set c.loop-block.sets.blocks k true = search rules in
          record {
            has = subst (λ (x : List Bool). HasBelow p x (k + 1)) (sym given) (given_one p c.loop-block.sets.blocks k (omega arith) (left_unmarked c.args.isize needed k (omega arith) (omega arith) none) i.has);
            long = ap (λ (x : List Bool). length x) given ∙ length-set c.loop-block.sets.blocks k true ∙ i.long;
            inodes = search rules;
          }
      | else-not-has w ↦
          let some : mark_at needed k ≡ true = sym c.has.ensures ∙ search rules in
          let same : c.if-not-has.sets.blocks ≡ c.loop-block.sets.blocks = search rules in
          record {
            has = subst (λ (x : List Bool). HasBelow p x (k + 1)) (sym same) (passed_by p c.loop-block.sets.blocks k (left_marked c.args.isize needed k some) i.has);
            long = ap (λ (x : List Bool). length x) same ∙ i.long;
            inodes = search rules;
          }
    ]

pub returns-clause-blocks : goal.returns-clause-blocks
returns-clause-blocks c = λ b.
    let needed : List Bool = c.args.needed.now in
    given_all (is_left c.args.isize needed) c.loop-block.sets.blocks c.loop-block.block (λ b e. let lt = left_below c.args.isize needed b e in omega (arith, lt)) c.loop-block.invariant.has b
