use Rattle.std.proofs.Common.{arith, ◌≡◌, ◌∙◌, ℕ, [], ◌∷◌, List, Option, inl, inr, refl, sym, ap, subst}
use Rattle.run_lines.proofs.Loans.{loan_none}
use Rattle.run_lines.proofs.Sayings.{told_as}
use Rattle.std.specs.Option.{option_map}
use Rattle.server_words.specs.Reading.{words_read}
use Rattle.server_words.specs.Words.{Words}
use Rattle.nfs_server.specs.Course.{Unread, Usage}
use Rattle.nfs_server.specs.Outcome.{Outcome}
use Rattle.nfs_server.proofs.Endings.{asked_not_64, not_none}
use Rattle.nfs_server.proofs.running.serve.Goals as goal

pub returns-in-Err-clause-outcome : goal.returns-in-Err-clause-outcome
returns-in-Err-clause-outcome g c =
    let told = told_as g.H.Host g.H.Say (ap (λ (line : List ℕ). line ∷ []) c.no_memory.ensures.line_is) c.refuse.ensures.told in
    let status = c.refuse.ensures.status ∙ c.no_memory.ensures.status_is in
    record {
      course = Unread;
      rigs = [];
      rig_backs = [];
      volumes = [];
      posts = [];
      post_backs = [];
      rig_loan = loan_none told.same.rigs.left told.same.rigs.back;
      post_loan = loan_none told.same.posts.left told.same.posts.back;
      kept = tt;
      workers = tt;
      shared = tt;
      polled = tt;
      understood = tt;
      found = refl;
      roots = λ tells. tt;
      status = status;
      said = told.said;
      device = λ is. absurd (omega (arith, status, is));
      host = λ is. absurd (omega (arith, status, is));
    }

pub returns-in-Ok-None-clause-outcome : goal.returns-in-Ok-None-clause-outcome
returns-in-Ok-None-clause-outcome g c =
    let told = c.tell.ensures in
    record {
      course = Usage;
      rigs = [];
      rig_backs = [];
      volumes = [];
      posts = [];
      post_backs = [];
      rig_loan = loan_none told.same.rigs.left told.same.rigs.back;
      post_loan = loan_none told.same.posts.left told.same.posts.back;
      kept = tt;
      workers = tt;
      shared = tt;
      polled = tt;
      understood = sym c.in-Ok-None.ensures.read ∙ ap (option_map words_read) c.in-Ok-None.field-0-is;
      found = refl;
      roots = λ tells. tt;
      status = refl;
      said = told.said;
      device = λ is. absurd (omega (arith, is));
      host = λ is. absurd (omega (arith, is));
    }

pub returns-in-Ok-Some-clause-outcome : goal.returns-in-Ok-Some-clause-outcome
returns-in-Ok-Some-clause-outcome g c =
    subst (λ (asked : Option Words). Outcome g.H.Host g.H.Say g.H.R.Rig g.H.L.Link g.H.C.Clock asked c.args.host.now c.serve_asked.new.host c.serve_asked.result)
    (sym (ap (option_map words_read) c.in-Ok-Some.field-0-is) ∙ c.in-Ok-Some.ensures.read) c.serve_asked.ensures

pub returns-in-Err-clause-usage : goal.returns-in-Err-clause-usage
returns-in-Err-clause-usage g c is = let status = c.refuse.ensures.status ∙ c.no_memory.ensures.status_is in absurd (omega (arith, status, is))

pub returns-in-Err-clause-refused : goal.returns-in-Err-clause-refused
returns-in-Err-clause-refused g c none = inr (c.refuse.ensures.status ∙ c.no_memory.ensures.status_is)

pub returns-in-Ok-None-clause-usage : goal.returns-in-Ok-None-clause-usage
returns-in-Ok-None-clause-usage g c is = sym c.in-Ok-None.ensures.read ∙ ap (option_map words_read) c.in-Ok-None.field-0-is

pub returns-in-Ok-None-clause-refused : goal.returns-in-Ok-None-clause-refused
returns-in-Ok-None-clause-refused g c none = inl refl

pub returns-in-Ok-Some-clause-usage : goal.returns-in-Ok-Some-clause-usage
returns-in-Ok-Some-clause-usage g c is =
    let outcome = c.serve_asked.ensures in
    absurd (asked_not_64 (words_read c.in-Ok-Some.asked) outcome.course outcome.understood (sym outcome.status ∙ is))

pub returns-in-Ok-Some-clause-refused : goal.returns-in-Ok-Some-clause-refused
returns-in-Ok-Some-clause-refused g c none =
    absurd (not_none (words_read c.in-Ok-Some.asked) (sym (ap (option_map words_read) c.in-Ok-Some.field-0-is) ∙ c.in-Ok-Some.ensures.read ∙ none))
