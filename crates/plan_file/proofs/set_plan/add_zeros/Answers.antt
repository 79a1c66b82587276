use Rattle.std.proofs.Common.{rules, arith, ℕ, subst, ◌++◌, sym, ap, ◌∙◌}
use Rattle.std.proofs.lemmas.List.{append-nil}
use Rattle.plan_file.specs.Set.{held_put}
use Rattle.plan_file.specs.Contents.{Fits}
use Rattle.plan_file.proofs.Adding.{fits-none}
use Rattle.plan_file.proofs.SetPuts.{one-grows}
use Rattle.plan_file.proofs.Zeros.{zeros-lower, zeros-even, zeros-cut}
use Rattle.plan_file.proofs.set_plan.add_zeros.Goals as goal

pub returns-then-new_size-inode-clause-added : goal.returns-then-new_size-inode-clause-added
returns-then-new_size-inode-clause-added g c = λ tells.
    sym (append-nil c.args.plan.now.puts) ∙ ap (λ l. c.args.plan.now.puts ++ l) (sym (zeros-lower (g.S.Stable.image c.args.store.now) c.args.inode.now c.args.new_size c.if-new_size-inode.true))

pub returns-then-inode-eq0-clause-added : goal.returns-then-inode-eq0-clause-added
returns-then-inode-eq0-clause-added g c = λ tells.
    sym (append-nil c.args.plan.now.puts) ∙ ap (λ l. c.args.plan.now.puts ++ l) (sym (zeros-even (g.S.Stable.image c.args.store.now) c.args.inode.now c.args.new_size c.if-inode-eq0.true))

pub returns-clause-added : goal.returns-clause-added
returns-clause-added g c = λ tells.
    c.add_held.ensures.added
    ∙ (λ z. c.args.plan.now.puts ++ held_put (c.in_ok-sector.ensures.address tells z) (c.in_ok-sector.ensures.bytes tells z))
    ∙ ap (λ l. c.args.plan.now.puts ++ l) (sym (zeros-cut (g.S.Stable.image c.args.store.now) c.args.inode.now c.args.new_size c.if-new_size-inode.false c.if-inode-eq0.false))

pub returns-clause-fits : goal.returns-clause-fits
returns-clause-fits g c =
    let sectors : ℕ = g.S.Stable.sector_count c.args.store.now in
    subst (λ (n : ℕ). Fits sectors n c.args.plan.now c.add_held.new.plan) (sym (one-grows c.args.inode.now.size c.args.new_size (omega (arith, c.if-new_size-inode.false)))) (c.add_held.ensures.fits sectors (search rules))

pub returns-then-new_size-inode-clause-fits : goal.returns-then-new_size-inode-clause-fits
returns-then-new_size-inode-clause-fits g c = fits-none (g.S.Stable.sector_count c.args.store.now) _ c.args.plan.now

pub returns-then-inode-eq0-clause-fits : goal.returns-then-inode-eq0-clause-fits
returns-then-inode-eq0-clause-fits g c = fits-none (g.S.Stable.sector_count c.args.store.now) _ c.args.plan.now
