use Rattle.std.proofs.Common.{arith, ◌≡◌, ◌∙◌, [], ◌∷◌, List, ℕ, Err, refl, sym, ap}
use Rattle.std.specs.Option.{option_map}
use Rattle.run_lines.specs.Refusals.{host_line}
use Rattle.run_lines.proofs.Loans.{lent_none}
use Rattle.run_lines.proofs.Sayings.{loans_both, said_later, said_none}
use Rattle.run_lines.proofs.Statuses.{host_failed}
use Rattle.server_volumes.specs.Obstacles.{NoRig}
use Rattle.server_volumes.proofs.Obstacles.{hindered_not}
use Rattle.server_volumes.proofs.opening.open_one.Goals as goal

pub returns-in-Err : goal.returns-in-Err
returns-in-Err g c =
    let refused = c.in-Err.ensures in
    let refusal = c.host_refusal.ensures in
    let word = c.args.named.now.word.now in
    let later = refused.cause.later in
    record {
      opened = tt;
      refused = record {
        obstacle = NoRig word c.in-Err.fault;
        refuses = record { status_is = refusal.status_is; line_is = refusal.line_is ∙ ap (λ (missing : List ℕ). host_line missing c.in-Err.fault) c.no_volume_line.ensures };
        of_word = refl;
        rigs = [];
        given = record {
          lent = sym refused.refused.left ∙ lent_none _;
          back = refused.refused.back;
          out = (let same = refused.refused.out in omega (arith, same));
          posts = refused.posts;
          later = later;
        };
        hinders = tt;
        host = λ is. refused.cause.failed (ap Err (host_failed c.in-Err.fault is));
        said = said_later g.H.Say refused.lines (said_none g.H.Say);
      };
    }

pub returns-in-Err-open_rig : goal.returns-in-Err-open_rig
returns-in-Err-open_rig g c =
    let gives = c.in-Ok.ensures.gives in
    let hindered = c.in-Err-open_rig.ensures.refused in
    let same = hindered.told.same in
    let first = c.in-Ok.ensures.cause.later in
    let last = same.faults in
    record {
      opened = tt;
      refused = record {
        obstacle = hindered.obstacle;
        refuses = hindered.refuses;
        of_word = (hindered_not g.H.R.Rig c.args.options hindered.obstacle c.in-Ok.rig c.in-Err-open_rig.rig hindered.hinders).0 _;
        rigs = c.in-Ok.rig ∷ [];
        given = record {
          lent = gives.left ∙ ap (option_map (λ rest. c.in-Ok.rig ∷ rest)) (sym same.rigs.left);
          back = same.rigs.back ∙ gives.back;
          out = (let given = gives.out in let then = same.rigs.out in omega (arith, given, then));
          posts = loans_both c.in-Ok.ensures.posts same.posts;
          later = omega (arith, first, last);
        };
        hinders = hindered.hinders;
        host = λ is. absurd ((hindered_not g.H.R.Rig c.args.options hindered.obstacle c.in-Ok.rig c.in-Err-open_rig.rig hindered.hinders).1 is);
        said = said_later g.H.Say c.in-Ok.ensures.lines hindered.told.said;
      };
    }

pub returns-in-Ok-open_rig : goal.returns-in-Ok-open_rig
returns-in-Ok-open_rig g c =
    let gives = c.in-Ok.ensures.gives in
    let opened = c.in-Ok-open_rig.ensures.opened in
    let same = opened.told.same in
    let first = c.in-Ok.ensures.cause.later in
    let last = same.faults in
    record {
      opened = record {
        rig = c.in-Ok.rig;
        start = opened.start;
        given = record {
          lent = gives.left ∙ ap (option_map (λ rest. c.in-Ok.rig ∷ rest)) (sym same.rigs.left);
          back = same.rigs.back ∙ gives.back;
          out = (let given = gives.out in let then = same.rigs.out in omega (arith, given, then));
          posts = loans_both c.in-Ok.ensures.posts same.posts;
          later = omega (arith, first, last);
        };
        over = opened.over;
        said = said_later g.H.Say c.in-Ok.ensures.lines opened.told.said;
      };
      refused = tt;
    }
