use Rattle.std.proofs.Common.{rules, arith, ◌≡◌, ◌+◌, ◌-◌, ◌*◌, [], get_or, sym, ap, subst, ◌∙◌}
use Rattle.v7_mend.specs.Settles.{settled_here, AreSettledHere}
use Rattle.v7_mend.proofs.settle.settle_eight.Goals as goal

pub returns-clause-done : goal.returns-clause-done
returns-clause-done g c = λ tells.
    let image = g.S.Stable.image c.args.store.now in
    let held : c.args.held.now ≡ get_or image c.args.sector [] = c.requires.held tells in
    let past = c.requires.past in
    let over : c.loop-ino.ino ≡ 8 * (c.args.sector - 2) + 1 + 8 = search rules in
    record {
      long = c.loop-ino.invariant.long;
      same = λ all. c.loop-ino.invariant.same tells (subst (λ b. AreSettledHere image b c.args.sector c.args.links.now) (sym held) all) ∙ held;
      each = λ i low at. c.loop-ino.invariant.done tells i low at (omega (arith, low, at, past, over)) ∙ ap (λ b. settled_here image b c.args.links.now i) held;
    }
