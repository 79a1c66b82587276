use Rattle.std.proofs.Common.{rules, ◌≡◌, ◌≢◌, ◌<◌, [], length, set, sym, ap, subst, ◌∙◌}
use Rattle.v7_mend.proofs.Differing.{puts_one}
use Rattle.v7_map.proofs.Whole.{as_long}
use Rattle.std.proofs.lemmas.List.{set-get_or}
use Rattle.v7_mend.proofs.put.put_changed.Goals as goal

pub returns-then-eq-clause-done : goal.returns-then-eq-clause-done
returns-then-eq-clause-done g c = λ tells.
    let image = g.S.Stable.image c.args.store.now in
    let same : c.args.held.now ≡ c.args.bytes.now = search rules in
    sym (ap (set image c.args.sector) (sym same ∙ c.requires.held tells) ∙ set-get_or image c.args.sector [])

pub returns-clause-needed : goal.returns-clause-needed
returns-clause-needed g c = λ tells.
    let S = g.S.Stable in
    let shape = as_long S.sector_count g.met.S.Stable.clocked g.met.S.Stable.shape c.args.store.now tells in
    let place : c.args.sector < length (S.image c.args.store.now) = subst (λ n. c.args.sector < n) (sym shape.size) c.requires.place in
    let other : c.args.held.now ≢ c.args.bytes.now = search rules in
    puts_one (S.image c.args.store.now) (S.image c.put.new.self) c.args.sector c.args.bytes.now place (c.in_ok-put.ensures.done tells) (λ e. other (c.requires.held tells ∙ sym e))
