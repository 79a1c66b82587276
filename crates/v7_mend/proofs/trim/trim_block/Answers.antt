use Rattle.std.proofs.Common.{rules, arith, ◌≡◌, [], get_or, inl, true, false, refl, sym, ap, ◌∙◌}
use Rattle.std.proofs.lemmas.Result.{IfOk-equal}
use Rattle.v7_mend.specs.Settled.{holds_below}
use Rattle.v7_mend.proofs.Running.{look_fails, look_puts, answers, looks_first}
use Rattle.v7_mend.proofs.Steps.{either_put}
use Rattle.v7_mend.proofs.Trimming.{trimmed_block-is, trimmed_block-same}
use Rattle.v7_mend.proofs.trim.trim_block.Goals as goal

pub returns-in_err-block-clause-puts : goal.returns-in_err-block-clause-puts
returns-in_err-block-clause-puts g c =
    let S = g.S.Stable in
    look_fails S g.met.S.Stable.clocked g.met.S.Stable.counted 1 c.in_err-block.ensures.looked c.in_err-block.ensures.cause.failed (λ tells. inl refl) c.from_residual.result c.from_residual.ensures.0

pub returns-then-not-holds_address-clause-done : goal.returns-then-not-holds_address-clause-done
returns-then-not-holds_address-clause-done g c = λ tells.
    let image = g.S.Stable.image c.args.store.now in
    let read : c.in_ok-block.block ≡ get_or image c.args.sector [] = c.in_ok-block.ensures.done tells in
    let none : holds_below c.in_ok-block.block c.args.sectors ≡ false = search rules in
    c.in_ok-block.ensures.looked.image ∙ sym (trimmed_block-same image c.args.sector c.args.sectors (ap (λ b. holds_below b c.args.sectors) (sym read) ∙ none))

pub returns-then-not-holds_address-clause-puts : goal.returns-then-not-holds_address-clause-puts
returns-then-not-holds_address-clause-puts g c =
    let S = g.S.Stable in
    answers S 1 (omega arith) (look_puts S g.met.S.Stable.clocked g.met.S.Stable.counted c.in_ok-block.ensures.looked (λ tells. inl refl))

pub returns-clause-done : goal.returns-clause-done
returns-clause-done g c = λ tells.
    let image = g.S.Stable.image c.args.store.now in
    let read : c.in_ok-block.block ≡ get_or image c.args.sector [] = c.in_ok-block.ensures.done tells in
    let some : holds_below c.in_ok-block.block c.args.sectors ≡ true = search rules in
    IfOk-equal c.put_changed.result _ _ _ (c.put_changed.ensures.done tells)
    (trimmed_block-is image c.args.sector c.args.sectors (g.S.Stable.image c.get_sector.new.store) c.trim.result
    (ap (λ b. holds_below b c.args.sectors) (sym read) ∙ some) c.in_ok-block.ensures.looked.image (c.trim.ensures) read)

pub returns-clause-puts : goal.returns-clause-puts
returns-clause-puts g c =
    let S = g.S.Stable in
    let image = S.image c.args.store.now in
    looks_first S g.met.S.Stable.clocked g.met.S.Stable.counted c.in_ok-block.ensures.looked (λ tells. inl refl) c.put_changed.ensures.puts (λ d left cut.
    let tells = g.met.S.Stable.clocked.told _ _ d left in
    let read : c.in_ok-block.block ≡ get_or image c.args.sector [] = c.in_ok-block.ensures.done tells in
    let some : holds_below c.in_ok-block.block c.args.sectors ≡ true = search rules in
    either_put image (S.image c.get_sector.new.store) _ d c.args.sector c.trim.result c.in_ok-block.ensures.looked.image
    (trimmed_block-is image c.args.sector c.args.sectors (S.image c.get_sector.new.store) c.trim.result
    (ap (λ b. holds_below b c.args.sectors) (sym read) ∙ some) c.in_ok-block.ensures.looked.image (c.trim.ensures) read) cut)
