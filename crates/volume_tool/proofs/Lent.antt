-- What a run did, by what it did on the rig that it was given, if any.
use Rattle.std.proofs.Common.{arith, ◌≡◌, ◌≢◌, ◌∙◌, ℕ, ◌<◌, ◌≤◌, Bool, true, false, Option, Some, None, refl, sym, ap, subst}
use Rattle.std.specs.Prelude.{nat_eq}
use Rattle.std.proofs.lemmas.Bool.{eqb-true, eqb-false}
use Rattle.stable.specs.Counts.{Rose}
use Rattle.rig.specs.Hosts.{Gives, SameLoans, SameLines, TakesBack}
use Rattle.rig.specs.Links.{gains}
use Rattle.rig.specs.declared.host.Host.{Ghosts}
use Rattle.rig.specs.declared.host.HostFault.{HostFault}
use Rattle.rig.specs.declared.host.HostFault.TheVariants as host_fault
use Rattle.rig.specs.declared.rig.Rig.{Ghosts as RigGhosts}
use Rattle.rig.specs.declared.say.Say.{Ghosts as SayGhosts}
use Rattle.presto_recover.specs.Refused.{IsReason}
use Rattle.presto_recover.specs.declared.fault.OpenFault.{OpenFault as UnitFault}
use Rattle.presto_recover.specs.declared.fault.OpenFault.TheVariants as unit
use Rattle.nvram_map.specs.declared.fault.BoardFault.TheVariants as board
use Rattle.v7_make.specs.declared.fault.MakeFault.{MakeFault}
use Rattle.v7_make.specs.declared.fault.MakeFault.TheVariants as make
use Rattle.run_lines.specs.Lines.{no_volume_line}
use Rattle.run_lines.specs.Naming.{Named}
use Rattle.run_lines.specs.Refusals.{host_status, host_line, unit_status}
use Rattle.run_lines.proofs.Loans.{loan_one}
use Rattle.run_lines.proofs.Sayings.{loans_both}
use Rattle.run_lines.proofs.Statuses.{host_failed, host_not, unit_not, volume_failed, volume_not}
use Rattle.volume_tool.specs.Checked.{ChecksAs}
use Rattle.volume_tool.specs.Course.{Course, Usage, Unfit, NoRig, NotMade, Made, NoUnit, NoVolume, Checked, NotStopped, Recovered, make_status, status_of, line_of, has_rig}
use Rattle.volume_tool.specs.Made.{IsNotMade, MakesAs}
use Rattle.volume_tool.specs.Recovered.{RecoversAs}
use Rattle.volume_tool.specs.Run.{FoundAs, IsFit, KeptAs, Lends, Outcome, Understood, volume_of}
use Rattle.volume_tool.specs.Told.{Runs, Tells}
use Rattle.volume_tool.specs.Words.{Asked, Plan, Make, Check, Recover}
use Rattle.volume_tool.proofs.Tellings.{answers_before, answers_later, answers_not}

pub positive : (n : ℕ) → n ≢ 0 → 0 < n
positive n some = omega (arith, some)

-- ---- statuses

pub make_not : (fault : MakeFault) (n : ℕ) → n ≤ 64 → make_status fault ≢ n
make_not (make.TooSmall need have) n le is = omega (arith, le, is)
make_not make.TooLarge n le is = omega (arith, le, is)
make_not make.Failed n le is = omega (arith, le, is)
make_not make.NoMemory n le is = omega (arith, le, is)

pub make_not_host : (fault : MakeFault) → make_status fault ≢ 66
make_not_host (make.TooSmall need have) is = omega (arith, is)
make_not_host make.TooLarge is = omega (arith, is)
make_not_host make.Failed is = omega (arith, is)
make_not_host make.NoMemory is = omega (arith, is)

-- none but the usage has its status
not_usage : (asked : Option Asked) (course : Course) → Understood asked course → status_of course ≡ 64 → asked ≡ None
not_usage asked Usage understood is = understood
not_usage asked (Unfit fault) understood is = absurd (make_not fault 64 (omega arith) is)
not_usage asked (NoRig word fault) understood is = absurd (host_not fault 64 (λ e. omega (arith, e)) (λ e. omega (arith, e)) is)
not_usage asked (NotMade fault) understood is = absurd (make_not fault 64 (omega arith) is)
not_usage asked (Made sectors inodes free) understood is = absurd (omega (arith, is))
not_usage asked (NoUnit fault) understood is = absurd (unit_not fault 64 (omega arith) is)
not_usage asked (NoVolume fault) understood is = absurd (volume_not fault 64 (omega arith) is)
not_usage asked (Checked seen) understood is = absurd (omega (arith, is))
not_usage asked NotStopped understood is = absurd (omega (arith, is))
not_usage asked (Recovered recovered repaired) understood is = absurd (omega (arith, is))

-- ---- what was found on a rig

-- what follows from it
pub record IsOfRig {R : Type 0} (r : RigGhosts R) (given : Asked) (rig back : R) (course : Course) : Type 0 where
  pub found : FoundAs r given rig back course
  pub has : has_rig course ≡ true
  pub device : status_of course ≡ 74 → Rose (r.faults rig) (r.faults back)
  pub understood : Understood (Some given) course
  pub not_host : status_of course ≢ 66

module _ {R : Type 0} (r : RigGhosts R) (rig back : R) where
  not_made : (fault : MakeFault) → IsNotMade r rig back fault → make_status fault ≡ 74 → Rose (r.faults rig) (r.faults back)
  not_made make.Failed found is = found
  not_made make.NoMemory found is = absurd (omega (arith, is))
  not_made make.TooLarge found is = absurd found
  not_made (make.TooSmall need have) found is = absurd found

  unit_failed : (accepted : Bool) (fault : UnitFault) → IsReason r accepted rig back fault → unit_status fault ≡ 74 → Rose (r.faults rig) (r.faults back)
  unit_failed accepted (unit.Board board.Lost) why is = absurd (omega (arith, is))
  unit_failed accepted (unit.Board (board.NotFormatted word)) why is = absurd (omega (arith, is))
  unit_failed accepted (unit.Board (board.WrongVolume name title)) why is = absurd (omega (arith, is))
  unit_failed accepted (unit.Board (board.BadEntry index word)) why is = absurd (omega (arith, is))
  unit_failed accepted (unit.Board board.Failed) why is = absurd why.1
  unit_failed accepted (unit.Board board.NoMemory) why is = absurd why.1
  unit_failed accepted (unit.NoSuper sectors) why is = absurd (omega (arith, is))
  unit_failed accepted unit.Failed why is = why.1
  unit_failed accepted unit.NoMemory why is = absurd (omega (arith, is))

  pub of_made : (volume : Named) (plan : Plan) (course : Course) → MakesAs r plan rig back course → IsOfRig r (Make volume plan) rig back course
  of_made volume plan (NotMade fault) found = record { found = found; has = refl; device = not_made fault found.1; understood = refl; not_host = make_not_host fault }
  of_made volume plan (Made sectors inodes left) found = record { found = found; has = refl; device = λ is. absurd (omega (arith, is)); understood = refl; not_host = λ is. omega (arith, is) }
  of_made volume plan Usage found = absurd found
  of_made volume plan (Unfit fault) found = absurd found
  of_made volume plan (NoRig word fault) found = absurd found
  of_made volume plan (NoUnit fault) found = absurd found
  of_made volume plan (NoVolume fault) found = absurd found
  of_made volume plan (Checked seen) found = absurd found
  of_made volume plan NotStopped found = absurd found
  of_made volume plan (Recovered recovered repaired) found = absurd found

  pub of_checked : (volume : Named) (course : Course) → ChecksAs r rig back course → IsOfRig r (Check volume) rig back course
  of_checked volume (NoUnit fault) found = record { found = found; has = refl; device = unit_failed false fault found; understood = refl; not_host = unit_not fault 66 (omega arith) }
  of_checked volume (NoVolume fault) found = record { found = found; has = refl; device = λ is. found.failed (volume_failed fault is); understood = refl; not_host = volume_not fault 66 (omega arith) }
  of_checked volume (Checked seen) found = record { found = found; has = refl; device = λ is. absurd (omega (arith, is)); understood = refl; not_host = λ is. omega (arith, is) }
  of_checked volume Usage found = absurd found
  of_checked volume (Unfit fault) found = absurd found
  of_checked volume (NoRig word fault) found = absurd found
  of_checked volume (NotMade fault) found = absurd found
  of_checked volume (Made sectors inodes free) found = absurd found
  of_checked volume NotStopped found = absurd found
  of_checked volume (Recovered recovered repaired) found = absurd found

  pub of_recovered : (volume : Named) (accepted : Bool) (course : Course) → RecoversAs r accepted rig back course → IsOfRig r (Recover volume accepted) rig back course
  of_recovered volume accepted (NoUnit fault) found = record { found = found; has = refl; device = unit_failed accepted fault found; understood = refl; not_host = unit_not fault 66 (omega arith) }
  of_recovered volume accepted (NoVolume fault) found = record { found = found; has = refl; device = λ is. found.failed (volume_failed fault is); understood = refl; not_host = volume_not fault 66 (omega arith) }
  of_recovered volume accepted NotStopped found = record { found = found; has = refl; device = λ _. found.1; understood = refl; not_host = λ is. omega (arith, is) }
  of_recovered volume accepted (Recovered recovered repaired) found = record { found = found; has = refl; device = λ is. absurd (omega (arith, is)); understood = refl; not_host = λ is. omega (arith, is) }
  of_recovered volume accepted Usage found = absurd found
  of_recovered volume accepted (Unfit fault) found = absurd found
  of_recovered volume accepted (NoRig word fault) found = absurd found
  of_recovered volume accepted (NotMade fault) found = absurd found
  of_recovered volume accepted (Made sectors inodes free) found = absurd found
  of_recovered volume accepted (Checked seen) found = absurd found

-- ---- runs

module _ {S R L C P : Type 0} (h : Ghosts S R L C P) (say : SayGhosts S) (r : RigGhosts R) where
  -- without a call of the host but for the line
  pub outcome_told : (asked : Option Asked) (course : Course) {old new : S} {result : ℕ} → Understood asked course → has_rig course ≡ false → status_of course ≢ 66 → Tells h say (status_of course) (line_of course) old new result → Outcome h say r asked old new result
  outcome_told asked course {old} {new} {result} understood none not tells = record {
    course = course;
    understood = understood;
    rigs = subst (λ (b : Bool). Lends h r asked old new course b) (sym none) tells.same.rigs;
    posts = tells.same.posts;
    answers = tells.answers;
    host = λ is. absurd (answers_not say (status_of course) 66 (line_of course) old new result tells.answers not (λ e. omega (arith, e)) (λ e. omega (arith, e)) is);
  }

  -- the host gave no rig
  pub outcome_norig : (given : Asked) (fault : HostFault) {old mid new : S} {result : ℕ} → IsFit given → SameLoans h.rigs_left h.rigs_back h.rigs_out old mid → SameLoans h.posts_left h.posts_back h.posts_out old mid
      → SameLines say.lines say.say_faults old mid → (fault ≡ host_fault.Failed → Rose (h.host_faults old) (h.host_faults mid)) → result ≡ host_status fault
      → Tells h say (host_status fault) (host_line (no_volume_line (volume_of given).word) fault) mid new result → Outcome h say r (Some given) old new result
  outcome_norig given fault {old} {mid} {new} {result} fit rigs posts lines failed status tells = record {
    course = NoRig (volume_of given).word fault;
    understood = (given, refl, fit, refl);
    rigs = loans_both rigs tells.same.rigs;
    posts = loans_both posts tells.same.posts;
    answers = answers_later say (host_status fault) (host_line (no_volume_line (volume_of given).word) fault) old mid new result lines tells.answers;
    host = λ is. subst (λ (n : ℕ). Rose (h.host_faults old) n) (sym tells.same.faults) (failed (host_failed fault (sym status ∙ is)));
  }

  -- on a rig that was given and came back
  pub outcome_rig : (given : Asked) (Found : Course → Type 0) {old mid last new : S} {rig back : R} {result : ℕ} → Gives h.rigs_left h.rigs_back h.rigs_out old mid rig → SameLoans h.posts_left h.posts_back h.posts_out old mid
      → SameLines say.lines say.say_faults old mid → Runs h say Found mid last result → TakesBack h.rigs_left h.rigs_back h.rigs_out last new 0 back → SameLoans h.posts_left h.posts_back h.posts_out last new
      → SameLines say.lines say.say_faults last new → ((course : Course) → Found course → IsOfRig r given rig back course) → KeptAs r given rig back → Outcome h say r (Some given) old new result
  outcome_rig given Found {old} {mid} {last} {new} {rig} {back} {result} gave posts lines runs takes posts' lines' of_rig kept =
      let course = runs.course in
      let is = of_rig course runs.found in
      let same = runs.tells.same in
      let out : 0 < h.rigs_out last = (let given_out = gave.out in let same_out = same.rigs.out in omega (arith, given_out, same_out)) in
      let said = answers_later say (status_of course) (line_of course) old mid last result lines runs.tells.answers in
      let answers = answers_before say (status_of course) (line_of course) old last new result said lines' in
      record {
        course = course;
        understood = is.understood;
        rigs = subst (λ (b : Bool). Lends h r (Some given) old new course b) (sym is.has) record {
          rig = rig;
          back = back;
          loan = loan_one mid gave.left gave.back (takes.left ∙ same.rigs.left) (takes.back out ∙ ap (λ told. gains told (0, back)) same.rigs.back);
          given = given;
          asked_for = refl;
          found = is.found;
          kept = kept;
          device = is.device;
        };
        posts = loans_both posts (loans_both same.posts posts');
        answers = answers;
        host = λ sixty_six. absurd (answers_not say (status_of course) 66 (line_of course) old new result answers is.not_host (λ e. omega (arith, e)) (λ e. omega (arith, e)) sixty_six);
      }

  -- a run with the status of the usage is one without words
  pub outcome_usage : {asked : Option Asked} {old new : S} {result : ℕ} → Outcome h say r asked old new result → result ≡ 64 → asked ≡ None
  outcome_usage {asked} {old} {new} {result} outcome is = case (nat_eq (status_of outcome.course) 64) refl
    where
      case : (b : Bool) → nat_eq (status_of outcome.course) 64 ≡ b → asked ≡ None
      case true e = not_usage asked outcome.course outcome.understood (eqb-true (status_of outcome.course) 64 e)
      case false e = absurd (answers_not say (status_of outcome.course) 64 (line_of outcome.course) old new result outcome.answers (λ same. eqb-false (status_of outcome.course) 64 e same) (λ e. omega (arith, e)) (λ e. omega (arith, e)) is)
