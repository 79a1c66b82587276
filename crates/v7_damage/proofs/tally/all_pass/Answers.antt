use Rattle.std.proofs.Common.{rules, arith, ◌≡◌, ◌<◌, ◌≤◌, ◌∙◌, true, sym, subst, ⊎_elim}
use Rattle.std.proofs.lemmas.Bool.{cases_lt}
use Rattle.v7_damage.specs.Tallied.{IsCovered}
use Rattle.v7_damage.proofs.TallyEnd.{all_counted, all_passed}
use Rattle.v7_damage.proofs.tally.all_pass.Goals as goal

pub loop-ino-init : goal.loop-ino-init
loop-ino-init c = record { covered = λ i lt. absurd (omega arith) }

pub loop-ino-preserved : goal.loop-ino-preserved
loop-ino-preserved c = record {
  covered = λ i lt. ⊎_elim
      (λ (before : i < c.loop-ino.ino). c.loop-ino.invariant.covered i before)
      (λ (here : c.loop-ino.ino ≤ i). let same : c.loop-ino.ino ≡ i = omega arith in subst (IsCovered c.args.walks.now c.args.tally.now) same (c.is_covered.ensures (search rules)))
      (cases_lt i c.loop-ino.ino);
}

pub returns-clause-pass : goal.returns-clause-pass
returns-clause-pass c = λ image types long are walks has yes.
    let fine : c.args.tally.now.fine ≡ true = search rules in
    all_passed image types c.args.walks.now c.args.tally.now walks (has fine) (c.requires.room.read ∙ sym c.requires.found) (λ i lt. c.loop-ino.invariant.covered i (let found = c.requires.found in omega arith)) are

pub returns-clause-counted : goal.returns-clause-counted
returns-clause-counted c = λ image types long walks has yes.
    let fine : c.args.tally.now.fine ≡ true = search rules in
    all_counted image types c.args.walks.now c.args.tally.now walks (has fine) (c.requires.room.read ∙ sym c.requires.found) (λ i lt. c.loop-ino.invariant.covered i (let found = c.requires.found in omega arith))
