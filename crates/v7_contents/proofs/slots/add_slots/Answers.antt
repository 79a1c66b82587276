use Rattle.std.proofs.Common.{rules, ◌≡◌, ◌+◌, ◌≤◌, ℕ, ◌∷◌, Bool, ap, sym, subst, ◌∙◌}
use Rattle.v7_entries.proofs.Directories.{none_of}
use Rattle.v7_contents.specs.Pages.{GoesOn, IsOpen, with_entry}
use Rattle.v7_contents.specs.declared.page.Page.{Page}
use Rattle.v7_contents.proofs.slots.add_slots.Goals as goal
use Rattle.v7_contents.proofs.slots.add_slots.Goals.{in-Some+in_ok-add+else-not-branch, in_default}

pub returns-then-not-branch-clause-goes_on : goal.returns-then-not-branch-clause-goes_on
returns-then-not-branch-clause-goes_on c = λ room left rest steps is.
    let k : ℕ = c.loop-slot.slot in
    let low : c.args.from ≤ k = search rules in
    let at : rest k ≡ c.in-Some.entry ∷ rest (k + 1) = steps k low c.loop-slot-test.true ∙ ap (λ o. with_entry o (rest (k + 1))) (sym c.entry_in.ensures.entry ∙ c.in-Some.is) in
    subst (λ (b : Bool). GoesOn b room left c.add.new.self (rest (k + 1))) c.if-not-branch.true
    (c.in_ok-add.ensures.goes_on room left (rest (k + 1)) (subst (IsOpen room left c.loop-slot.page) at (c.loop-slot.invariant.goes_on room left rest steps is)))

pub loop-slot-preserved : goal.loop-slot-preserved
loop-slot-preserved c =
    let k : ℕ = c.loop-slot.slot in
    record {
      goes_on = λ room left rest steps is.
          let low : c.args.from ≤ k = search rules in
          let before : IsOpen room left c.loop-slot.page (rest k) = c.loop-slot.invariant.goes_on room left rest steps is in
          let at : rest k ≡ with_entry c.entry_in.result (rest (k + 1)) = steps k low c.loop-slot-test.true ∙ ap (λ o. with_entry o (rest (k + 1))) (sym c.entry_in.ensures.entry) in
          elim c.match-entry_in.branch [
            | in-Some+in_ok-add+else-not-branch w ↦
                let entry : rest k ≡ w.in-Some.entry ∷ rest (k + 1) = at ∙ ap (λ o. with_entry o (rest (k + 1))) w.in-Some.is in
                subst (λ (p : Page). IsOpen room left p (rest (k + 1))) (sym w.page-is)
                (subst (λ (b : Bool). GoesOn b room left w.add.new.self (rest (k + 1))) w.if-not-branch.false
                (w.in_ok-add.ensures.goes_on room left (rest (k + 1)) (subst (IsOpen room left c.loop-slot.page) entry before)))
            | in_default w ↦
                let none : rest k ≡ rest (k + 1) = at ∙ ap (λ o. with_entry o (rest (k + 1))) (none_of c.entry_in.result w.in_default.not-Some) in
                subst (λ (p : Page). IsOpen room left p (rest (k + 1))) (sym w.page-is) (subst (IsOpen room left c.loop-slot.page) none before)
          ];
      fits = λ fits. elim c.match-entry_in.branch [
        | in-Some+in_ok-add+else-not-branch w ↦ search rules
        | in_default w ↦ search rules
      ];
    }

pub returns-clause-goes_on : goal.returns-clause-goes_on
returns-clause-goes_on c = λ room left rest steps is.
    let at : c.loop-slot.slot ≡ c.args.end = search rules in
    subst (λ (k : ℕ). IsOpen room left c.loop-slot.page (rest k)) at (c.loop-slot.invariant.goes_on room left rest steps is)
