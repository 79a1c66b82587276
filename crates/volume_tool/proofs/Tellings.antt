-- The status and the line of a run, and what was asked of the host before and after it.
use Rattle.std.proofs.Common.{arith, ◌≡◌, ◌≢◌, ◌∙◌, inl, inr, ⊎_elim, ℕ, zero, suc, ◌<◌, List, [], ◌∷◌, sym, ap, subst}
use Rattle.stable.specs.Counts.{Rose}
use Rattle.rig.specs.Hosts.{SameLines}
use Rattle.rig.specs.Links.{gains}
use Rattle.rig.specs.declared.host.Host.{Ghosts}
use Rattle.rig.specs.declared.say.Say.{Ghosts as SayGhosts}
use Rattle.run_lines.specs.Refusals.{Refuses}
use Rattle.run_lines.specs.Told.{SameHost, Told}
use Rattle.run_lines.specs.declared.refusing.Refusal.{Refusal}
use Rattle.run_lines.proofs.Sayings.{loans_both, said_before, said_later, told_as}
use Rattle.volume_tool.specs.Told.{Answers, Tells}

module _ {S : Type 0} (say : SayGhosts S) where
  -- nothing was said before
  pub answers_later : (status : ℕ) (line : List ℕ) (a b c : S) (result : ℕ) → SameLines say.lines say.say_faults a b → Answers say status line b c result → Answers say status line a c result
  answers_later zero line a b c result same p = ⊎_elim
      (λ said. inl (said.0, record { gained = said.1.gained ∙ ap (λ had. gains had line) same.lines; later = (let later = said.1.later in let faults = same.faults in omega (arith, later, faults)) }))
      (λ unsaid. inr (unsaid.0, record { same = unsaid.1.same ∙ same.lines; failed = subst (λ (n : ℕ). Rose n (say.say_faults c)) same.faults unsaid.1.failed }))
      p
  answers_later (suc n) line a b c result same p = (p.0, said_later say same p.1)

  -- nothing was said after
  pub answers_before : (status : ℕ) (line : List ℕ) (a b c : S) (result : ℕ) → Answers say status line a b result → SameLines say.lines say.say_faults b c → Answers say status line a c result
  answers_before zero line a b c result p same = ⊎_elim
      (λ said. inl (said.0, record { gained = same.lines ∙ said.1.gained; later = (let later = said.1.later in let faults = same.faults in omega (arith, later, faults)) }))
      (λ unsaid. inr (unsaid.0, record { same = same.lines ∙ unsaid.1.same; failed = subst (λ (n : ℕ). Rose (say.say_faults a) n) (sym same.faults) unsaid.1.failed }))
      p
  answers_before (suc n) line a b c result p same = (p.0, said_before say p.1 same)

  -- a status that isn't that of the course
  pub answers_not : (status n : ℕ) (line : List ℕ) (a b : S) (result : ℕ) → Answers say status line a b result → status ≢ n → n ≢ 0 → n ≢ 74 → result ≢ n
  answers_not zero n line a b result p not some other is = ⊎_elim (λ said. some (sym is ∙ said.0)) (λ unsaid. other (sym is ∙ unsaid.0)) p
  answers_not (suc m) n line a b result p not some other is = not (sym p.0 ∙ is)

module _ {S R L C P : Type 0} (h : Ghosts S R L C P) (say : SayGhosts S) where
  -- a run that was refused
  tells_told : (status : ℕ) {line : List ℕ} {a b : S} {result : ℕ} → 0 < status → Told h say a b (line ∷ []) → result ≡ status → Tells h say status line a b result
  tells_told zero some told is = absurd (omega (arith, some))
  tells_told (suc n) some told is = record { same = told.same; answers = (is, told.said) }

  pub tells_refused : (status : ℕ) {line : List ℕ} {refusal : Refusal} {a b : S} {result : ℕ} → 0 < status → Refuses status line refusal → Told h say a b (refusal.line.bytes ∷ []) → result ≡ refusal.status → Tells h say status line a b result
  tells_refused status some refuses told is = tells_told status some (told_as h say (ap (λ (bytes : List ℕ). bytes ∷ []) refuses.line_is) told) (is ∙ refuses.status_is)

  -- by the same line
  pub tells_as : {status : ℕ} {line other : List ℕ} {a b : S} {result : ℕ} → line ≡ other → Tells h say status line a b result → Tells h say status other a b result
  tells_as {status} {line} {other} {a} {b} {result} same tells = subst (λ (bytes : List ℕ). Tells h say status bytes a b result) same tells

  same_both : {a b c : S} → SameHost h a b → SameHost h b c → SameHost h a c
  same_both p q = record { rigs = loans_both p.rigs q.rigs; posts = loans_both p.posts q.posts; faults = q.faults ∙ p.faults }

  -- nothing but the second was asked before
  pub tells_later : {status : ℕ} {line : List ℕ} {a b c : S} {result : ℕ} → SameHost h a b → SameLines say.lines say.say_faults a b → Tells h say status line b c result → Tells h say status line a c result
  tells_later {status} {line} {a} {b} {c} {result} same lines tells = record { same = same_both same tells.same; answers = answers_later say status line a b c result lines tells.answers }
