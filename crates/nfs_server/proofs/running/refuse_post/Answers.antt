use Rattle.std.proofs.Common.{◌∙◌, ◌++◌, [], ◌∷◌, List, ℕ, ap}
use Rattle.std.specs.Option.{option_map}
use Rattle.run_lines.specs.Refusals.{host_line}
use Rattle.run_lines.proofs.Sayings.{loans_both, said_later, told_as}
use Rattle.server_volumes.proofs.Runs.{each_unused}
use Rattle.nfs_server.proofs.running.refuse_post.Goals as goal

pub returns : goal.returns
returns g c =
    let r = g.H.R.Rig in
    let asked = c.now-now.ensures in
    let ends = c.stop_all-stopped.ensures in
    let refused = c.host_refusal.ensures in
    let line = refused.line_is ∙ ap (λ (missing : List ℕ). host_line missing c.args.fault) c.no_port_line.ensures in
    let told = told_as g.H.Host g.H.Say (ap (λ (l : List ℕ). l ∷ []) line) c.refuse.ensures.told in
    record {
      stops = c.stop_all-stopped.result.items;
      backs = ends.backs;
      left = told.same.rigs.left ∙ ends.left ∙ asked.rigs.left;
      returned = told.same.rigs.back ∙ ends.returned ∙ ap (option_map (λ before. before ++ ends.backs)) asked.rigs.back;
      posts = loans_both asked.posts (loans_both ends.posts told.same.posts);
      faults = told.same.faults ∙ ends.faults ∙ asked.faults;
      served = λ options rigs starts opens. each_unused r options 0 rigs c.args.volumes.items ends.backs starts c.stop_all-stopped.result.items opens ends.each;
      status = c.refuse.ensures.status ∙ refused.status_is;
      said = said_later g.H.Say asked.lines (said_later g.H.Say ends.lines told.said);
    }
