use Rattle.std.proofs.Common.{rules, arith, ◌≡◌, ◌≢◌, ◌<◌, ◌+◌, ◌++◌, ◌∷◌, [], ℕ, List, not, ◌==◌, Some, None, length, get_or, sym, ap, subst, ◌∙◌}
use Rattle.std.specs.Prelude.{set}
use Rattle.std.specs.List.{take_while}
use Rattle.std.proofs.lemmas.List.{get_or_read}
use Rattle.v7_map.specs.Tree.{tree}
use Rattle.v7_map.specs.Weak.{slot_at}
use Rattle.v7_damage.specs.Names.{AreCounts, slots_until}
use Rattle.v7_damage.proofs.Naming.{until_all, counts_empty, counts_more, seen-some, seen-none, has_name, used-by, passes-many, passes-few, empty_until}
use Rattle.v7_damage.proofs.Tallying.{tallied_empty, tallied_more, good_empty, good_slot}
use Rattle.v7_damage.specs.Slots.{seen_slot}
use Rattle.v7_damage.specs.Tallied.{AreTallied, past_more}
use Rattle.v7_damage.proofs.names.test_slot.Goals as goal

pub returns-then-slot-eq0-clause-kept : goal.returns-then-slot-eq0-clause-kept
returns-then-slot-eq0-clause-kept c = λ f d was at lt yes.
    let none : slot_at (tree f) d c.args.index ≡ None = at ∙ seen-none c.args.slot.now c.if-slot-eq0.true in
    record {
      types_are = was.types_are;
      counts_are = subst (AreCounts c.args.kept.now.counts.items) (sym (until_all (tree f) d c.args.index lt ∙ ap (λ s. slots_until (tree f) 0 d c.args.index ++ s ∷ []) none)) (counts_empty c.args.kept.now.counts.items (slots_until (tree f) 0 d c.args.index) was.counts_are);
      named_are = empty_until (tree f) d c.args.index c.args.types.now c.args.kept.now.named lt none was.named_are;
    }

pub returns-then-count-clause-passes : goal.returns-then-count-clause-passes
returns-then-count-clause-passes c = λ f d was at.
    let ino : ℕ = c.args.slot.now.ino in
    let some : ino ≢ 0 = c.if-slot-eq0.false in
    let name : List ℕ = take_while (λ b. not (b == 0)) c.args.slot.now.name in
    let is : slot_at (tree f) d c.args.index ≡ Some (ino, name) = at ∙ seen-some c.args.slot.now some in
    let inside : ino < length c.args.kept.now.counts.items = omega (arith, c.requires.counts, c.if-ino-types.false) in
    let read : c.index-count.result.now ≡ get_or c.args.kept.now.counts.items ino 0 = get_or_read c.args.kept.now.counts.items ino _ inside c.index-count.ensures 0 in
    let count = read ∙ was.counts_are.each ino (omega arith) inside in
    sym (passes-many f d c.args.index ino name is (used-by f c.args.types.now ino was.types_are c.if-types-ino-eq0.false) (has_name ino c.args.slot.now.name c.if-slot-eq0-2.false) c.index-count.result.now count (omega arith))

pub returns-clause-passes : goal.returns-clause-passes
returns-clause-passes c = λ f d was at.
    let ino : ℕ = c.args.slot.now.ino in
    let some : ino ≢ 0 = c.if-slot-eq0.false in
    let name : List ℕ = take_while (λ b. not (b == 0)) c.args.slot.now.name in
    let is : slot_at (tree f) d c.args.index ≡ Some (ino, name) = at ∙ seen-some c.args.slot.now some in
    let inside : ino < length c.args.kept.now.counts.items = omega (arith, c.requires.counts, c.if-ino-types.false) in
    let read : c.index-count.result.now ≡ get_or c.args.kept.now.counts.items ino 0 = get_or_read c.args.kept.now.counts.items ino _ inside c.index-count.ensures 0 in
    let count = read ∙ was.counts_are.each ino (omega arith) inside in
    let fits : c.index-count.result.now < 65536 = search rules in
    let few : c.index-count.result.now < 65535 = omega arith in
    sym (passes-few f d c.args.index ino name is (used-by f c.args.types.now ino was.types_are c.if-types-ino-eq0.false) (has_name ino c.args.slot.now.name c.if-slot-eq0-2.false) c.index-count.result.now count few
    ∙ sym (c.take_child.ensures.only f d was.types_are was.named_are) ∙ search rules)

pub returns-clause-kept : goal.returns-clause-kept
returns-clause-kept c = λ f d was at lt yes.
    let ino : ℕ = c.args.slot.now.ino in
    let some : ino ≢ 0 = c.if-slot-eq0.false in
    let name : List ℕ = take_while (λ b. not (b == 0)) c.args.slot.now.name in
    let is : slot_at (tree f) d c.args.index ≡ Some (ino, name) = at ∙ seen-some c.args.slot.now some in
    let inside : ino < length c.args.kept.now.counts.items = omega (arith, c.requires.counts, c.if-ino-types.false) in
    let read : c.index-count.result.now ≡ get_or c.args.kept.now.counts.items ino 0 = get_or_read c.args.kept.now.counts.items ino _ inside c.index-count.ensures 0 in
    record {
      types_are = was.types_are;
      counts_are = subst (λ (l : List ℕ). AreCounts l (slots_until (tree f) 0 d (c.args.index + 1))) (ap (λ l. set l ino (c.index-count.result.now + 1)) (sym c.take_child.ensures.counts)) (subst (AreCounts (set c.args.kept.now.counts.items ino (c.index-count.result.now + 1))) (sym (until_all (tree f) d c.args.index lt ∙ ap (λ s. slots_until (tree f) 0 d c.args.index ++ s ∷ []) is))
          (counts_more c.args.kept.now.counts.items (slots_until (tree f) 0 d c.args.index) ino c.index-count.result.now name inside read was.counts_are));
      named_are = c.take_child.ensures.kept f d name was.named_are lt is (search rules);
    }

pub returns-then-slot-eq0-clause-good : goal.returns-then-slot-eq0-clause-good
returns-then-slot-eq0-clause-good c = λ f are yes. good_empty f c.args.slot.now c.if-slot-eq0.true

pub returns-then-slot-eq0-clause-tallied : goal.returns-then-slot-eq0-clause-tallied
returns-then-slot-eq0-clause-tallied c = λ all past was yes. tallied_empty c.args.types.now c.args.kept.now.counts.items c.args.kept.now.named all past c.args.index (seen_slot c.args.slot.now) (seen-none c.args.slot.now c.if-slot-eq0.true) was

pub returns-clause-good : goal.returns-clause-good
returns-clause-good c = λ f are yes. good_slot f c.args.types.now c.args.slot.now are c.if-slot-eq0.false c.if-types-ino-eq0.false c.if-slot-eq0-2.false

pub returns-clause-tallied : goal.returns-clause-tallied
returns-clause-tallied c = λ all past was yes.
    let ino : ℕ = c.args.slot.now.ino in
    let some : ino ≢ 0 = c.if-slot-eq0.false in
    let name : List ℕ = take_while (λ b. not (b == 0)) c.args.slot.now.name in
    let inside : ino < length c.args.kept.now.counts.items = omega (arith, c.requires.counts, c.if-ino-types.false) in
    let read : c.index-count.result.now ≡ get_or c.args.kept.now.counts.items ino 0 = get_or_read c.args.kept.now.counts.items ino _ inside c.index-count.ensures 0 in
    let fits : c.index-count.result.now < 65536 = search rules in
    let few : c.index-count.result.now < 65535 = omega arith in
    subst (λ (l : List ℕ). AreTallied c.args.types.now l c.take_child.new.kept.named (all ++ seen_slot c.args.slot.now ∷ []) (past_more c.args.index past (seen_slot c.args.slot.now))) (ap (λ l. set l ino (c.index-count.result.now + 1)) (sym c.take_child.ensures.counts))
    (tallied_more c.args.types.now c.args.kept.now.counts.items c.args.kept.now.named c.take_child.new.kept.named all past c.args.index ino c.index-count.result.now name (seen_slot c.args.slot.now) (seen-some c.args.slot.now some) (omega arith) inside read few was
    (c.take_child.ensures.once name past was.once (search rules)))
