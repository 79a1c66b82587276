use Rattle.std.proofs.Common.{arith, ◌≡◌, ◌∙◌, ◌++◌, ℕ, length, ap}
use Rattle.std.specs.Option.{option_map, option_to_list}
use Rattle.run_lines.proofs.Loans.{took_both}
use Rattle.run_lines.proofs.Sayings.{loans_both, said_later}
use Rattle.server_volumes.proofs.Runs.{each_unused}
use Rattle.nfs_server.specs.Run.{numbered}
use Rattle.nfs_server.proofs.running.stop_unopened.Goals as goal

pub returns : goal.returns
returns g c =
    let r = g.H.R.Rig in
    let number : c.len-number.result ≡ length c.args.unopened.volumes.items = let long = c.len-number.ensures in omega (arith, long) in
    let asked = c.now-now.ensures in
    let ends = c.stop_all-stopped.ensures in
    let gave = c.give_back.ensures in
    let told = c.refuse.ensures.told in
    let rest = numbered c.len-number.result (option_to_list c.args.unopened.rig) in
    record {
      stops = c.stop_all-stopped.result.items;
      backs = ends.backs;
      left = told.same.rigs.left ∙ gave.left ∙ ends.left ∙ asked.rigs.left;
      returned = told.same.rigs.back ∙ took_both ends.backs rest _ _ _ (ends.returned ∙ ap (option_map (λ before. before ++ ends.backs)) asked.rigs.back) gave.returned
          ∙ ap (λ (n : ℕ). option_map (λ before. before ++ (ends.backs ++ numbered n (option_to_list c.args.unopened.rig))) (g.H.Host.rigs_back c.args.host.now)) number;
      posts = loans_both asked.posts (loans_both ends.posts (loans_both gave.posts told.same.posts));
      faults = told.same.faults ∙ gave.faults ∙ ends.faults ∙ asked.faults;
      served = λ options rigs starts opens. each_unused r options 0 rigs c.args.unopened.volumes.items ends.backs starts c.stop_all-stopped.result.items opens ends.each;
      status = c.refuse.ensures.status;
      said = said_later g.H.Say asked.lines (said_later g.H.Say ends.lines (said_later g.H.Say gave.lines told.said));
    }
