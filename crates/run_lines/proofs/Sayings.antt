-- What was said, one line after another.
use Rattle.std.proofs.Common.{arith, ◌≡◌, ◌∙◌, ℕ, List, [], ◌∷◌, ◌++◌, Result, Ok, Err, OnOk, OnErr, refl, sym, subst}
use Rattle.stable.specs.Counts.{HasCause}
use Rattle.rig.specs.Hosts.{SameLoans, SameLines}
use Rattle.rig.specs.Links.{gains}
use Rattle.rig.specs.declared.host.Host.{Ghosts}
use Rattle.rig.specs.declared.say.Say.{Ghosts as SayGhosts}
use Rattle.rig.specs.Offers.{Offers}
use Rattle.rig.proofs.Offers.{offers_nothing, offers_one, offers_fails, offers_both}
use Rattle.run_lines.specs.Told.{Said, Told}

pub loans_both : {S A B : Type 0} {left_of : S → A} {back_of : S → B} {out_of : S → ℕ} {a b c : S} → SameLoans left_of back_of out_of a b → SameLoans left_of back_of out_of b c → SameLoans left_of back_of out_of a c
loans_both p q = record { left = q.left ∙ p.left; back = q.back ∙ p.back; out = q.out ∙ p.out }

module _ {S : Type 0} (say : SayGhosts S) where
  pub said_one : {E : Type 0} {old new : S} (line : List ℕ) (result : Result (Unit {0}) E) → OnOk result (say.lines new ≡ gains (say.lines old) line) → OnErr result (say.lines new ≡ say.lines old)
      → HasCause (say.say_faults old) (say.say_faults new) result → Said say old new (line ∷ [])
  said_one line (Ok _) said unsaid cause = record { said = line ∷ []; offers = offers_one line said cause.later }
  said_one line (Err _) said unsaid cause = record { said = []; offers = offers_fails line unsaid cause.failed }

  -- nothing was to be said
  pub said_none : {a : S} → Said say a a []
  said_none {a} = record { said = []; offers = offers_nothing refl (omega arith) }

  pub said_both : {a b c : S} (xs ys : List (List ℕ)) → Said say a b xs → Said say b c ys → Said say a c (xs ++ ys)
  said_both xs ys p q = record { said = p.said ++ q.said; offers = offers_both xs ys p.said q.said p.offers q.offers }

  -- nothing was said before
  pub said_later : {a b c : S} {xs : List (List ℕ)} → SameLines say.lines say.say_faults a b → Said say b c xs → Said say a c xs
  said_later {a} {b} {c} {xs} same p = record {
    said = p.said;
    offers = subst (λ (n : ℕ). Offers (say.lines a) (say.lines c) n (say.say_faults c) xs p.said) same.faults
        (subst (λ lines. Offers lines (say.lines c) (say.say_faults b) (say.say_faults c) xs p.said) same.lines p.offers);
  }

  -- nothing was said after
  pub said_before : {a b c : S} {xs : List (List ℕ)} → Said say a b xs → SameLines say.lines say.say_faults b c → Said say a c xs
  said_before {a} {b} {c} {xs} p same = record {
    said = p.said;
    offers = subst (λ (n : ℕ). Offers (say.lines a) (say.lines c) (say.say_faults a) n xs p.said) (sym same.faults)
        (subst (λ lines. Offers (say.lines a) lines (say.say_faults a) (say.say_faults b) xs p.said) (sym same.lines) p.offers);
  }

module _ {S R L C P : Type 0} (h : Ghosts S R L C P) (say : SayGhosts S) where
  pub told_none : {a : S} → Told h say a a []
  told_none = record { same = record { rigs = record { left = refl; back = refl; out = refl }; posts = record { left = refl; back = refl; out = refl }; faults = refl }; said = said_none say }

  pub told_both : {a b c : S} (xs ys : List (List ℕ)) → Told h say a b xs → Told h say b c ys → Told h say a c (xs ++ ys)
  told_both xs ys p q = record {
    same = record { rigs = loans_both p.same.rigs q.same.rigs; posts = loans_both p.same.posts q.same.posts; faults = q.same.faults ∙ p.same.faults };
    said = said_both say xs ys p.said q.said;
  }

  -- by the same lines
  pub told_as : {a b : S} {xs ys : List (List ℕ)} → xs ≡ ys → Told h say a b xs → Told h say a b ys
  told_as {a} {b} same p = subst (λ (lines : List (List ℕ)). Told h say a b lines) same p

  -- nothing was said before, and nothing else asked of the host
  pub told_after : {a b c : S} {xs : List (List ℕ)} → SameLoans h.rigs_left h.rigs_back h.rigs_out a b → SameLoans h.posts_left h.posts_back h.posts_out a b → h.host_faults b ≡ h.host_faults a
      → SameLines say.lines say.say_faults a b → Told h say b c xs → Told h say a c xs
  told_after rigs posts faults lines p = record {
    same = record { rigs = loans_both rigs p.same.rigs; posts = loans_both posts p.same.posts; faults = p.same.faults ∙ faults };
    said = said_later say lines p.said;
  }
