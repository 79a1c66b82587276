use Rattle.std.proofs.Common.{◌∷◌, [], sym, ap}
use Rattle.stable.specs.Puts.{Reserved}
use Rattle.std.proofs.lemmas.List.{append-nil}
use Rattle.plan_file.specs.Contents.{none, one}
use Rattle.plan_file.proofs.Adding.{fits-none, fits-one}
use Rattle.plan_file.proofs.filling.add_map.Goals as goal

pub returns-in-Some-clause-added : goal.returns-in-Some-clause-added
returns-in-Some-clause-added c =
    let f = c.in-Some.ensures.found in
    ((c.args.new.now.single, c.map_block.result) ∷ [], ap (λ (p : Reserved). p.puts) c.add.ensures, one c.map_block.result c.in-Some.field-0 c.map_block.ensures.long f.0 f.1 f.2 c.map_block.ensures.reads)

pub returns-in-Some-clause-fits : goal.returns-in-Some-clause-fits
returns-in-Some-clause-fits c = λ sectors within.
    let f = c.in-Some.ensures.found in
    let at = within c.in-Some.field-0 f.0 f.1 f.2 in
    fits-one sectors 0 c.args.plan.now c.args.plan.now c.add.new.self c.args.new.now.single c.map_block.result (fits-none sectors 0 c.args.plan.now) at.0 at.1 c.add.ensures

pub returns-in-None-clause-added : goal.returns-in-None-clause-added
returns-in-None-clause-added c = ([], sym (append-nil c.args.plan.now.puts), none c.in-None.ensures.none)

pub returns-in-None-clause-fits : goal.returns-in-None-clause-fits
returns-in-None-clause-fits c = λ sectors within. fits-none sectors 1 c.args.plan.now
