use Rattle.plan_name.proofs.ChosenBlocks.{lacks-sector, lacks-map}
use Rattle.plan_name.proofs.choosing.choose.Goals as goal

pub returns-in_default-clause-none : goal.returns-in_default-clause-none
returns-in_default-clause-none c = λ spare. let r = c.in_default.ensures.none spare in lacks-sector c.args.blocks.now c.args.places.now c.args.index r.0 r.1

pub returns-in_default-choose_single-clause-none : goal.returns-in_default-choose_single-clause-none
returns-in_default-choose_single-clause-none c = λ spare.
    let r = c.in_default-choose_single.ensures.none spare in
    lacks-map c.args.blocks.now c.args.places.now c.args.index c.requires.through c.in-Some.sector c.in-Some.ensures.chosen r.0 r.1 r.2
