use Rattle.run_lines.proofs.telling.tell.Goals as goal

pub returns : goal.returns
returns g c =
    let only = c.offer.ensures.only in
    record {
      same = record { rigs = g.met.H.Host.say_keeps_rigs _ _ only; posts = g.met.H.Host.say_keeps_posts _ _ only; faults = g.met.H.Host.say_keeps_faults _ _ only };
      said = c.offer.ensures.said;
    }
