-- What was said, and what was lent.
use Rattle.std.specs.Prelude.{◌≡◌, ◌⊎◌, ◌≤◌, ℕ, List, ◌++◌, Option}
use Rattle.std.specs.Option.{option_map}
use Rattle.stable.specs.Counts.{Rose}
use Rattle.rig.specs.Hosts.{SameLoans}
use Rattle.rig.specs.Links.{gains}
use Rattle.rig.specs.declared.host.Host.{Ghosts}
use Rattle.rig.specs.declared.say.Say.{Ghosts as SayGhosts}
use Rattle.rig.specs.Offers.{Offers}

-- These lines were to be said. Those that are missing are no more than the failures.
pub record Said {S : Type 0} (say : SayGhosts S) (old new : S) (wanted : List (List ℕ)) : Type 0 where
  pub said : List (List ℕ)
  pub offers : Offers (say.lines old) (say.lines new) (say.say_faults old) (say.say_faults new) wanted said

-- the line was said
pub record IsSaid {S : Type 0} (say : SayGhosts S) (old new : S) (line : List ℕ) : Type 0 where
  pub gained : say.lines new ≡ gains (say.lines old) line
  pub later : say.say_faults old ≤ say.say_faults new

-- it could not be said
pub record IsUnsaid {S : Type 0} (say : SayGhosts S) (old new : S) : Type 0 where
  pub same : say.lines new ≡ say.lines old
  pub failed : Rose (say.say_faults old) (say.say_faults new)

-- the line of a run that came to its end: the status is this one where it was said, and else 74
abbrev pub Prints : {S : Type 0} → SayGhosts S → ℕ → List ℕ → S → S → ℕ → Type 0
Prints say status line old new result = ((result ≡ status) × IsSaid say old new line) ⊎ ((result ≡ 74) × IsUnsaid say old new)

-- The host gave and took back nothing, and none of its calls failed.
pub record SameHost {S R L C P : Type 0} (h : Ghosts S R L C P) (old new : S) : Type 0 where
  pub rigs : SameLoans h.rigs_left h.rigs_back h.rigs_out old new
  pub posts : SameLoans h.posts_left h.posts_back h.posts_out old new
  pub faults : h.host_faults new ≡ h.host_faults old

-- These lines were to be said, and nothing else was asked of the host.
pub record Told {S R L C P : Type 0} (h : Ghosts S R L C P) (say : SayGhosts S) (old new : S) (wanted : List (List ℕ)) : Type 0 where
  pub same : SameHost h old new
  pub said : Said say old new wanted

-- The things that a host gave since, in order, and those that came back to it.
pub record Loan {S A : Type 0} (left_of : S → Option (List A)) (back_of : S → Option (List (ℕ × A))) (old new : S) (given : List A) (back : List (ℕ × A)) : Type 0 where
  pub lent : left_of old ≡ option_map (λ rest. given ++ rest) (left_of new)
  pub returned : back_of new ≡ option_map (λ before. before ++ back) (back_of old)
