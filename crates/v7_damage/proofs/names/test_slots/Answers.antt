use Rattle.std.proofs.Common.{rules, arith, ◌≡◌, ◌<◌, ◌+◌, ◌-◌, ℕ, List, [], map, length, get_or, true, false, None, sym, ap, ◌∙◌}
use Rattle.std.proofs.lemmas.List.{length-map}
use Rattle.v7_layout.specs.declared.slot.Slot.{Slot as Stored}
use Rattle.files_model.specs.Files.{Slot}
use Rattle.v7_map.specs.Frame.{Frame}
use Rattle.v7_map.specs.Tree.{tree}
use Rattle.v7_map.specs.Weak.{slot_at}
use Rattle.v7_damage.specs.Slots.{seen_slot}
use Rattle.v7_damage.specs.Names.{slot_passes, tests_of_slots}
use Rattle.v7_damage.specs.Tests.{first_failing}
use Rattle.v7_damage.proofs.Failing.{none_fails}
use Rattle.v7_damage.proofs.SlotTests.{seen-at, slots_more, slots_end, slot_passed, slot_failed}
use Rattle.std.proofs.Common.{◌++◌, ◌∷◌, ◌≤◌, append-nil, subst, ⊎_elim, drop, take}
use Rattle.std.proofs.lemmas.Bool.{cases_lt}
use Rattle.std.proofs.lemmas.List.{take_all}
use Rattle.v7_damage.specs.Tallied.{AreTallied, is_good, past_more}
use Rattle.v7_damage.proofs.Tallying.{all_step, past_step}
use Rattle.v7_damage.proofs.names.test_slots.Goals as goal

at-here : (f : Frame) (d k : ℕ) (slots : List Stored) → k < length slots → map seen_slot slots ≡ f.slots d → slot_at (tree f) d k ≡ seen_slot (get_or slots k (record { ino = 0; name = [] }))
at-here f d k slots lt are = ap (λ (l : List Slot). get_or l k None) (sym are) ∙ seen-at slots k (record { ino = 0; name = [] }) lt

pub returns-then-not-test_slot-clause-told : goal.returns-then-not-test_slot-clause-told
returns-then-not-test_slot-clause-told c = λ f d was are.
    let k : ℕ = c.loop-index.index in
    let n : ℕ = length c.args.slots.now in
    let kept = c.loop-index.invariant.kept f d was are in
    let no : slot_passes f d k ≡ false = sym (c.test_slot.ensures.passes f d kept (at-here f d k c.args.slots.now c.loop-index-test.true are)) ∙ search rules in
    c.loop-index.invariant.rest f d was are ∙ ap (first_failing f) (slots_more (tree f) d k n c.loop-index-test.true) ∙ slot_failed f d k (tests_of_slots (tree f) d (k + 1) (n - (k + 1))) no

pub loop-index-preserved : goal.loop-index-preserved
loop-index-preserved c =
    let k : ℕ = c.loop-index.index in
    let n : ℕ = length c.args.slots.now in
    let passed : c.test_slot.result ≡ true = search rules in
    record {
      rest = λ f d was are.
          let kept = c.loop-index.invariant.kept f d was are in
          let yes : slot_passes f d k ≡ true = sym (c.test_slot.ensures.passes f d kept (at-here f d k c.args.slots.now c.loop-index-test.true are)) ∙ passed in
          c.loop-index.invariant.rest f d was are ∙ ap (first_failing f) (slots_more (tree f) d k n c.loop-index-test.true) ∙ slot_passed f d k (tests_of_slots (tree f) d (k + 1) (n - (k + 1))) yes;
      kept = λ f d was are.
          let kept = c.loop-index.invariant.kept f d was are in
          let long : n ≡ length (f.slots d) = sym (length-map c.args.slots.now seen_slot) ∙ ap length are in
          c.test_slot.ensures.kept f d kept (at-here f d k c.args.slots.now c.loop-index-test.true are) (let t = c.loop-index-test.true in omega arith) passed;
      good = λ f are j lt. ⊎_elim
          (λ (before : j < k). c.loop-index.invariant.good f are j before)
          (λ (here : k ≤ j).
          let same : j ≡ k = omega arith in
          subst (λ m. is_good f (get_or (map seen_slot c.args.slots.now) m None) ≡ true) (sym same)
          (ap (is_good f) (seen-at c.args.slots.now k (record { ino = 0; name = [] }) c.loop-index-test.true) ∙ c.test_slot.ensures.good f are passed))
          (cases_lt j k);
      tallied = λ all past was.
          let S : List Slot = map seen_slot c.args.slots.now in
          let lt : k < length S = (let long = length-map c.args.slots.now seen_slot in let t = c.loop-index-test.true in omega arith) in
          let at : seen_slot (get_or c.args.slots.now k (record { ino = 0; name = [] })) ≡ get_or S k None = sym (seen-at c.args.slots.now k (record { ino = 0; name = [] }) c.loop-index-test.true) in
          let next = c.test_slot.ensures.tallied (all ++ take k S) (past ++ drop 2 (take k S)) (c.loop-index.invariant.tallied all past was) passed in
          subst (λ (l : List Slot). AreTallied c.args.types.now c.test_slot.new.kept.counts.items c.test_slot.new.kept.named l (past ++ drop 2 (take (k + 1) S))) (all_step all past S k lt)
          (subst (λ (l : List Slot). AreTallied c.args.types.now c.test_slot.new.kept.counts.items c.test_slot.new.kept.named ((all ++ take k S) ++ get_or S k None ∷ []) l) (past_step all past S k lt)
          (subst (λ (x : Slot). AreTallied c.args.types.now c.test_slot.new.kept.counts.items c.test_slot.new.kept.named ((all ++ take k S) ++ x ∷ []) (past_more k (past ++ drop 2 (take k S)) x)) at next));
      counts = search rules;
      named = search rules;
      wrong = search rules;
    }

pub returns-clause-told : goal.returns-clause-told
returns-clause-told c = λ f d was are.
    let k : ℕ = c.loop-index.index in
    let n : ℕ = length c.args.slots.now in
    c.loop-index.invariant.rest f d was are ∙ ap (first_failing f) (slots_end (tree f) d k (n - k) (omega arith)) ∙ none_fails f

pub loop-index-init : goal.loop-index-init
loop-index-init c = record {
  rest = λ f d was are. search rules;
  kept = λ f d was are. was;
  good = λ f are k lt. absurd (omega arith);
  tallied = λ all past was. subst (λ (l : List Slot). AreTallied c.args.types.now c.args.kept.now.counts.items c.args.kept.now.named l (past ++ [])) (sym (append-nil all))
      (subst (λ (l : List Slot). AreTallied c.args.types.now c.args.kept.now.counts.items c.args.kept.now.named all l) (sym (append-nil past)) was);
  counts = search rules;
  named = search rules;
  wrong = search rules;
}

pub returns-clause-tallied : goal.returns-clause-tallied
returns-clause-tallied c = λ all past was none.
    let S : List Slot = map seen_slot c.args.slots.now in
    let whole : take c.loop-index.index S ≡ S = take_all c.loop-index.index S (let long = length-map c.args.slots.now seen_slot in omega arith) in
    subst (λ (l : List Slot). AreTallied c.args.types.now c.loop-index.kept.counts.items c.loop-index.kept.named (all ++ l) (past ++ drop 2 l)) whole (c.loop-index.invariant.tallied all past was)
