use Rattle.std.proofs.Common.{rules, arith, ◌≡◌, ◌<◌, ◌≤◌, ℕ, true, length, set, get_or, refl, sym, subst, ap, ◌∙◌}
use Rattle.index_sets.specs.Free.{is_free}
use Rattle.volume.proofs.GivenBack.{given_next, given_past, set_within}
use Rattle.volume.proofs.giving.give_back.Goals as goal

pub loop-block-preserved-then-block-sectors : goal.loop-block-preserved-then-block-sectors
loop-block-preserved-then-block-sectors c =
    let i = c.loop-block.invariant in
    let n : ℕ = c.loop-block.block-index in
    let lt : n < length c.args.freed.now = search rules in
    let ge : c.args.sectors ≤ get_or c.args.freed.now n 0 = search rules in
    record {
      given = λ le. i.given le ∙ sym (given_past c.args.freed.now n (get_or c.args.freed.now n 0) c.args.blocks.now lt refl (omega (arith, le, ge)));
      within = i.within;
    }

pub loop-block-preserved : goal.loop-block-preserved
loop-block-preserved c =
    let i = c.loop-block.invariant in
    let n : ℕ = c.loop-block.block-index in
    let lt : n < length c.args.freed.now = search rules in
    let low : get_or c.args.freed.now n 0 < c.args.sectors = search rules in
    let is = c.give.ensures in
    record {
      given = λ le. is ∙ ap (λ l. set l (get_or c.args.freed.now n 0) true) (i.given le) ∙ sym (given_next c.args.freed.now n (get_or c.args.freed.now n 0) c.args.blocks.now lt refl);
      within = λ fit b free. set_within c.loop-block.blocks (get_or c.args.freed.now n 0) c.args.sectors low (i.within fit) b (subst (λ l. is_free l b ≡ true) is free);
    }
