use Rattle.std.proofs.Common.{arith, ◌≡◌, ℕ, List, [], get_or, set, inl, refl, sym, subst, ap, ◌∙◌}
use Rattle.std.proofs.lemmas.Result.{on_ok_weaker}
use Rattle.stable.specs.Store.{Image}
use Rattle.stable.proofs.Looking.{looks_again}
use Rattle.v7_mend.specs.Settles.{inode_here, MapStands, SettledBytes}
use Rattle.v7_mend.proofs.Running.{look_fails, looks_first}
use Rattle.v7_mend.proofs.Steps.{may_settle}
use Rattle.v7_mend.proofs.settle.settle_sector.Goals as goal

pub returns-in_err-held-clause-puts : goal.returns-in_err-held-clause-puts
returns-in_err-held-clause-puts g c =
    let S = g.S.Stable in
    look_fails S g.met.S.Stable.clocked g.met.S.Stable.counted 1 c.in_err-held.ensures.looked c.in_err-held.ensures.cause.failed (λ tells. inl refl) c.from_residual.result c.from_residual.ensures.0

pub returns-in_err-bytes-clause-puts : goal.returns-in_err-bytes-clause-puts
returns-in_err-bytes-clause-puts g c =
    let S = g.S.Stable in
    let later = c.in_ok-held.ensures.looked.later in
    let rose = c.in_err-bytes.ensures.cause.failed in
    look_fails S g.met.S.Stable.clocked g.met.S.Stable.counted 1 (looks_again S g.met.S.Stable.clocked c.in_ok-held.ensures.looked c.in_err-bytes.ensures.looked) (omega (arith, later, rose)) (λ tells. inl refl)
    c.from_residual-in_err-bytes.result c.from_residual-in_err-bytes.ensures.0

pub returns-clause-done : goal.returns-clause-done
returns-clause-done g c = λ tells.
    let S = g.S.Stable in
    let image = S.image c.args.store.now in
    let settled : SettledBytes image c.args.sector c.args.links.now c.in_ok-bytes.bytes =
    subst (λ x. SettledBytes x c.args.sector c.args.links.now c.in_ok-bytes.bytes) c.in_ok-held.ensures.looked.image (c.in_ok-bytes.ensures.done tells) in
    on_ok_weaker c.put_changed.result (λ done. record {
      bytes = c.in_ok-bytes.bytes;
      settled = settled;
      is = done ∙ ap (λ x. set x c.args.sector c.in_ok-bytes.bytes) (c.in_ok-bytes.ensures.looked.image ∙ c.in_ok-held.ensures.looked.image);
    }) (c.put_changed.ensures.done tells)

pub returns-clause-puts : goal.returns-clause-puts
returns-clause-puts g c =
    let S = g.S.Stable in
    let image = S.image c.args.store.now in
    looks_first S g.met.S.Stable.clocked g.met.S.Stable.counted (looks_again S g.met.S.Stable.clocked c.in_ok-held.ensures.looked c.in_ok-bytes.ensures.looked) (λ tells. inl refl) c.put_changed.ensures.puts (λ d left cut.
    let tells = g.met.S.Stable.clocked.told _ _ d left in
    may_settle image _ d c.args.sector c.args.links.now c.in_ok-bytes.bytes (c.in_ok-bytes.ensures.looked.image ∙ c.in_ok-held.ensures.looked.image)
    (subst (λ x. SettledBytes x c.args.sector c.args.links.now c.in_ok-bytes.bytes) c.in_ok-held.ensures.looked.image (c.in_ok-bytes.ensures.done tells)) cut)

pub settle_eight-requires-clause-maps : goal.settle_eight-requires-clause-maps
settle_eight-requires-clause-maps g c = λ tells i low at.
    let image = g.S.Stable.image c.args.store.now in
    let held : c.in_ok-held.held ≡ get_or image c.args.sector [] = c.in_ok-held.ensures.done tells in
    subst (λ (x : Image). MapStands x (inode_here c.in_ok-held.held i)) (sym c.in_ok-held.ensures.looked.image)
    (subst (λ (b : List ℕ). MapStands image (inode_here b i)) (sym held) (c.requires.maps tells i low at))
