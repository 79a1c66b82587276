use Rattle.std.proofs.Common.{◌≡◌, ◌/◌, ◌∷◌, ◌++◌, [], get_or, sym, ap, ◌∙◌, true, false, ℕ}
use Rattle.std.proofs.lemmas.List.{append-nil}
use Rattle.stable.specs.Puts.{Reserved}
use Rattle.stable.specs.Store.{Image}
use Rattle.plan_file.specs.Accepted.{kept_of}
use Rattle.plan_file.specs.Contents.{cuts}
use Rattle.plan_file.proofs.Adding.{fits-none, fits-one}
use Rattle.plan_file.proofs.DataSteps.{cut-none, cut-some, cut-stands}
use Rattle.plan_file.proofs.filling.add_cut.Goals as goal

pub returns-then-not-cuts_sector-clause-added : goal.returns-then-not-cuts_sector-clause-added
returns-then-not-cuts_sector-clause-added g c = λ tells.
    let body = c.args.places.now.body in
    let none : cuts c.args.size c.args.new_size body (kept_of c.args.batch.now c.args.replies.now) ≡ false = sym c.cuts_sector.ensures ∙ c.if-not-cuts_sector.true in
    sym (append-nil c.args.plan.now.puts) ∙ ap (λ l. c.args.plan.now.puts ++ l) (sym (cut-none (g.S.Stable.image c.args.store.now) c.args.size c.args.new_size body (kept_of c.args.batch.now c.args.replies.now) none))

pub returns-then-not-cuts_sector-clause-fits : goal.returns-then-not-cuts_sector-clause-fits
returns-then-not-cuts_sector-clause-fits g c = fits-none (g.S.Stable.sector_count c.args.store.now) 1 c.args.plan.now

pub returns-clause-added : goal.returns-clause-added
returns-clause-added g c = λ tells.
    let image : Image = g.S.Stable.image c.args.store.now in
    let body = c.args.places.now.body in
    let some : cuts c.args.size c.args.new_size body (kept_of c.args.batch.now c.args.replies.now) ≡ true = sym c.cuts_sector.ensures ∙ c.if-not-cuts_sector.false in
    let a : ℕ = get_or body (c.args.size / 512) 0 in
    ap (λ (p : Reserved). p.puts) c.add.ensures ∙ ap (λ b. c.args.plan.now.puts ++ (a, b) ∷ []) (c.in_ok-bytes.ensures.content tells)
    ∙ ap (λ l. c.args.plan.now.puts ++ l) (sym (cut-some image c.args.size c.args.new_size body (kept_of c.args.batch.now c.args.replies.now) some))

pub returns-clause-fits : goal.returns-clause-fits
returns-clause-fits g c =
    let sectors : ℕ = g.S.Stable.sector_count c.args.store.now in
    let body = c.args.places.now.body in
    let some : cuts c.args.size c.args.new_size body (kept_of c.args.batch.now c.args.replies.now) ≡ true = sym c.cuts_sector.ensures ∙ c.if-not-cuts_sector.false in
    let at = c.requires.places.body (c.args.size / 512) (cut-stands (g.S.Stable.image c.args.store.now) c.args.size c.args.new_size body (kept_of c.args.batch.now c.args.replies.now) some) in
    fits-one sectors 0 c.args.plan.now c.args.plan.now c.add.new.self (get_or body (c.args.size / 512) 0) c.in_ok-bytes.bytes (fits-none sectors 0 c.args.plan.now) at.0 at.1 c.add.ensures
