use Rattle.std.proofs.Common.{arith, ◌≡◌, ◌∙◌, ◌+◌, ◌≤◌, ℕ, List, length, map, Option, Some, None, slice_get, refl, sym, ap, subst}
use Rattle.std.specs.Option.{option_to_list}
use Rattle.std.proofs.lemmas.List.{length-map}
use Rattle.run_lines.specs.Naming.{named_of}
use Rattle.run_lines.specs.declared.naming.Named.{Named}
use Rattle.server_words.specs.Reading.{words_read}
use Rattle.nfs_server.proofs.Names.{named_at, place_within}
use Rattle.nfs_server.proofs.Outcomes.{hindered_length, outcome_refused, outcome_served}
use Rattle.server_volumes.specs.declared.opening.OpenOptions.{OpenOptions}
use Rattle.server_volumes.proofs.Lists.{open_rest, open_rigs}
use Rattle.nfs_server.proofs.running.serve_asked.Goals as goal

pub returns-in-Err : goal.returns-in-Err
returns-in-Err g c =
    let asked = c.args.asked.now in
    let unopened = c.in-Err.unopened in
    outcome_refused g.H.Host g.H.Say g.H.R.Rig g.H.L.Link g.H.C.Clock (words_read asked) (map (λ (named : Named). named.word.now) c.deref.result.now) unopened.volumes.items (option_to_list unopened.rig) unopened.refusal c.stop_unopened.result
    (λ word is. named_at asked.volumes.items (length unopened.volumes.items) word (subst (λ (all : List Named). slice_get (map (λ (named : Named). named.word.now) all) (length unopened.volumes.items) ≡ Some word) c.deref.ensures.value is)) c.in-Err.ensures.refused c.stop_unopened.ensures

pub returns-in-Ok : goal.returns-in-Ok
returns-in-Ok g c =
    let asked = c.args.asked.now in
    outcome_served g.H.Host g.H.Say g.H.R.Rig g.H.L.Link g.H.C.Clock (words_read asked) c.in-Ok.opened.volumes.items c.serve_open.result
    (c.in-Ok.ensures.all ∙ ap length c.deref.ensures.value ∙ sym (length-map asked.volumes.items named_of)) c.in-Ok.ensures.opened c.serve_open.ensures

option_few : {A : Type 0} (x : Option A) → length (option_to_list x) ≤ 1
option_few None = omega arith
option_few (Some x) = omega arith

pub stop_unopened-requires-clause-few : goal.stop_unopened-requires-clause-few
stop_unopened-requires-clause-few g c κs within =
    let some = c.in-Err.ensures.refused in
    let below = place_within (map (λ (named : Named). named.word.now) c.deref.result.now) (length c.in-Err.unopened.volumes.items) some.word some.next in
    let same = length-map c.deref.result.now (λ (named : Named). named.word.now) ∙ ap length c.deref.ensures.value in
    let few = c.requires.volumes.few in
    omega (arith, below, same, few)

pub serve_open-requires-clause-out : goal.serve_open-requires-clause-out
serve_open-requires-clause-out g c κs within =
    let options : OpenOptions = record { down = c.args.asked.now.options.down; accept_loss = c.args.asked.now.options.accept_loss } in
    let all = c.in-Ok.ensures.opened in
    let out = all.given.out in
    let count : length all.rigs ≡ length c.in-Ok.opened.volumes.items = open_rigs g.H.R.Rig options all.rigs c.in-Ok.opened.volumes.items all.starts all.each in
    let whole = c.in-Ok.ensures.all ∙ ap length c.deref.ensures.value in
    let few = c.requires.volumes.few in
    omega (arith, out, count, whole, few)

pub serve_open-requires-clause-rest : goal.serve_open-requires-clause-rest
serve_open-requires-clause-rest g c κs within =
    let options : OpenOptions = record { down = c.args.asked.now.options.down; accept_loss = c.args.asked.now.options.accept_loss } in
    let all = c.in-Ok.ensures.opened in
    open_rest g.H.R.Rig options all.rigs c.in-Ok.opened.volumes.items all.starts all.each

pub stop_unopened-requires-clause-out : goal.stop_unopened-requires-clause-out
stop_unopened-requires-clause-out g c κs within =
    let options : OpenOptions = record { down = c.args.asked.now.options.down; accept_loss = c.args.asked.now.options.accept_loss } in
    let some = c.in-Err.ensures.refused in
    let all = some.opens in
    let none = some.none in
    let first = all.given.out in
    let then = none.given.out in
    let count : length all.rigs ≡ length c.in-Err.unopened.volumes.items = open_rigs g.H.R.Rig options all.rigs c.in-Err.unopened.volumes.items all.starts all.each in
    let last : length (option_to_list c.in-Err.unopened.rig) ≡ length none.rigs = hindered_length g.H.R.Rig options none.obstacle none.rigs (option_to_list c.in-Err.unopened.rig) none.hinders in
    let below = place_within (map (λ (named : Named). named.word.now) c.deref.result.now) (length c.in-Err.unopened.volumes.items) some.word some.next in
    let same = length-map c.deref.result.now (λ (named : Named). named.word.now) ∙ ap length c.deref.ensures.value in
    let few = c.requires.volumes.few in
    let one = option_few c.in-Err.unopened.rig in
    omega (arith, first, then, count, last, below, same, few, one)

pub stop_unopened-requires-clause-rest : goal.stop_unopened-requires-clause-rest
stop_unopened-requires-clause-rest g c κs within =
    let options : OpenOptions = record { down = c.args.asked.now.options.down; accept_loss = c.args.asked.now.options.accept_loss } in
    let all = c.in-Err.ensures.refused.opens in
    open_rest g.H.R.Rig options all.rigs c.in-Err.unopened.volumes.items all.starts all.each
