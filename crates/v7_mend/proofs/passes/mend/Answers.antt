use Rattle.std.proofs.Common.{arith, ◌-◌, ◌*◌}
use Rattle.v7_mend.proofs.KeptFiles.{keeps_same, keeps_then, keeps_volume}
use Rattle.v7_mend.proofs.Mending.{exact_then, links_still, mended, weak_trimmed}
use Rattle.v7_mend.proofs.Running.{answers, answered, few_answered, fails, none_put, puts_then, weaker_put}
use Rattle.v7_mend.proofs.Whole.{long_sectors}
use Rattle.v7_mend.proofs.passes.mend.Goals as goal

pub returns-in_err-trimmed-clause-puts : goal.returns-in_err-trimmed-clause-puts
returns-in_err-trimmed-clause-puts g c =
    let S = g.S.Stable in
    fails S (9 * (c.args.isize - 2)) (omega arith) (none_put S g.met.S.Stable.clocked g.met.S.Stable.counted c.args.store.now (λ tells. keeps_volume (S.image c.args.store.now) (S.image c.args.store.now) (c.requires.found tells).weak (keeps_same (S.image c.args.store.now))))
    c.in_err-trimmed.ensures.puts (λ d left kept. keeps_volume (S.image c.args.store.now) d (c.requires.found (g.met.S.Stable.clocked.told _ _ d left)).weak kept) c.from_residual.result c.from_residual.ensures.0

pub settle_all-requires-clause-links : goal.settle_all-requires-clause-links
settle_all-requires-clause-links g c = λ tells.
    let S = g.S.Stable in
    let found = c.requires.found tells in
    links_still (S.image c.args.store.now) (S.image c.trim_all.new.store) c.args.links.now c.args.isize found.ends found.weak (c.in_ok-trimmed.ensures.done tells) found.links

pub settle_all-requires-clause-weak : goal.settle_all-requires-clause-weak
settle_all-requires-clause-weak g c = λ tells.
    let S = g.S.Stable in
    let found = c.requires.found tells in
    weak_trimmed (S.image c.args.store.now) (S.image c.trim_all.new.store) c.args.links.now c.args.isize found.ends found.weak (c.in_ok-trimmed.ensures.done tells)

pub returns-in_err-settled-clause-puts : goal.returns-in_err-settled-clause-puts
returns-in_err-settled-clause-puts g c =
    let S = g.S.Stable in
    let few = few_answered S c.in_ok-trimmed.ensures.puts in
    fails S (9 * (c.args.isize - 2)) (omega (arith, few))
    (weaker_put S (answered S c.in_ok-trimmed.ensures.puts) (λ d left kept. keeps_volume (S.image c.args.store.now) d (c.requires.found (g.met.S.Stable.clocked.told _ _ d left)).weak kept))
    c.in_err-settled.ensures.puts (λ d left kept.
    let tells = g.met.S.Stable.clocked.told _ _ d left in
    let weak = (c.requires.found tells).weak in
    keeps_volume (S.image c.args.store.now) d weak (keeps_then (S.image c.args.store.now) (S.image c.trim_all.new.store) d weak (c.in_ok-trimmed.ensures.done tells).files kept))
    c.from_residual-in_err-settled.result c.from_residual-in_err-settled.ensures.0

pub returns-clause-puts : goal.returns-clause-puts
returns-clause-puts g c =
    let S = g.S.Stable in
    let few = few_answered S c.in_ok-trimmed.ensures.puts in
    let more = few_answered S c.in_ok-settled.ensures.puts in
    answers S (9 * (c.args.isize - 2)) (omega (arith, few, more))
    (puts_then S (weaker_put S (answered S c.in_ok-trimmed.ensures.puts) (λ d left kept. keeps_volume (S.image c.args.store.now) d (c.requires.found (g.met.S.Stable.clocked.told _ _ d left)).weak kept))
    (answered S c.in_ok-settled.ensures.puts) (λ d left kept.
    let tells = g.met.S.Stable.clocked.told _ _ d left in
    let weak = (c.requires.found tells).weak in
    keeps_volume (S.image c.args.store.now) d weak (keeps_then (S.image c.args.store.now) (S.image c.trim_all.new.store) d weak (c.in_ok-trimmed.ensures.done tells).files kept)))

pub returns-clause-mended : goal.returns-clause-mended
returns-clause-mended g c = λ tells.
    let S = g.S.Stable in
    let found = c.requires.found tells in
    mended (S.image c.args.store.now) (S.image c.trim_all.new.store) c.args.links.now c.args.isize found.ends found.weak (c.in_ok-trimmed.ensures.done tells) (S.image c.settle_all.new.store) (c.in_ok-settled.ensures.done tells) found.links
    (long_sectors S.sector_count g.met.S.Stable.clocked g.met.S.Stable.shape c.args.store.now tells)

pub returns-clause-exact : goal.returns-clause-exact
returns-clause-exact g c = λ tells.
    let S = g.S.Stable in
    let found = c.requires.found tells in
    exact_then (S.image c.args.store.now) (S.image c.trim_all.new.store) c.args.links.now c.args.isize found.ends found.weak (c.in_ok-trimmed.ensures.done tells) (S.image c.settle_all.new.store) (c.in_ok-settled.ensures.done tells)
    c.in_ok-trimmed.trimmed c.in_ok-settled.settled (c.in_ok-trimmed.ensures.exact tells) (c.in_ok-settled.ensures.exact tells)
