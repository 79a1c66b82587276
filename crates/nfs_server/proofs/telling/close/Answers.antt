use Rattle.std.proofs.Common.{[], ◌∷◌, List, ℕ, Option, ap, ◌∙◌}
use Rattle.nfs_server.specs.Course.{first_failed, last_lines, stopped_lines}
use Rattle.run_lines.proofs.Sayings.{told_both, told_as}
use Rattle.nfs_server.proofs.telling.close.Goals as goal

pub returns-clause-told : goal.returns-clause-told
returns-clause-told g c =
    let all = c.args.all.now in
    let failed = first_failed 0 all in
    let then = told_as g.H.Host g.H.Say (ap (λ (line : List ℕ). line ∷ []) (c.as_str.ensures.value ∙ c.numbers_line.ensures)) c.tell.ensures in
    let last = told_as g.H.Host g.H.Say (ap (λ (number : Option ℕ). last_lines c.args.ended number) c.first_failed.ensures) c.tell_end.ensures.told in
    told_both g.H.Host g.H.Say (stopped_lines 0 all) (_ ∷ last_lines c.args.ended failed) c.tell_stopped.ensures (told_both g.H.Host g.H.Say (_ ∷ []) (last_lines c.args.ended failed) then last)
