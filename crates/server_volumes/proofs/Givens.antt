-- What a host gave, one rig after another, and took back.
use Rattle.std.proofs.Common.{arith, ◌≡◌, ◌∙◌, ℕ, zero, suc, ◌+◌, ◌-◌, ◌<◌, ◌≤◌, List, [], ◌∷◌, ◌++◌, length, map, get_or, slice_get, Some, refl, sym, ap, subst}
use Rattle.std.proofs.lemmas.List.{length-append}
use Rattle.rig.specs.Hosts.{SameLines, SameLoans, TakesBack}
use Rattle.rig.specs.declared.host.Host.{Ghosts as HostGhosts}
use Rattle.rig.specs.declared.rig.Rig.{Ghosts}
use Rattle.rig.specs.declared.say.Say.{Ghosts as SayGhosts}
use Rattle.presto_unit.specs.declared.presto.Presto.{Presto}
use Rattle.volume.specs.declared.mounted.Volume.{Volume}
use Rattle.run_lines.specs.Told.{Said}
use Rattle.run_lines.specs.declared.refusing.Refusal.{Refusal}
use Rattle.run_lines.proofs.Loans.{lent_both, lent_none, took_both, took_none}
use Rattle.run_lines.proofs.Sayings.{loans_both, said_both, said_none}
use Rattle.server_volumes.specs.Ends.{EachEnds, Ends, EndsAll}
use Rattle.server_volumes.specs.Lines.{start_lines, starts_lines}
use Rattle.server_volumes.specs.Opens.{HasGiven, OpensAll, OpensNone, OpensOne, OpensSome}
use Rattle.server_volumes.specs.declared.opening.OpenOptions.{OpenOptions}
use Rattle.server_volumes.specs.declared.stopping.Stopped.{Stopped}
use Rattle.server_volumes.proofs.Lists.{ends_more, lines_more, open_more, open_starts}

pub nothing_left : {A : Type 0} (xs : List A) → length xs ≡ 0 → xs ≡ []
nothing_left [] none = refl
nothing_left (x ∷ xs) none = absurd (omega (arith, none))

-- what stands at a place
pub item_at : {A B : Type 0} (f : A → B) (xs : List A) (n : ℕ) → n < length xs → (y : B) × (slice_get (map f xs) n ≡ Some y)
item_at f [] n lt = absurd (omega (arith, lt))
item_at f (x ∷ xs) zero lt = (f x, refl)
item_at f (x ∷ xs) (suc n) lt = item_at f xs n (omega (arith, lt))

-- and what a loop reads there
pub item_read : {A B : Type 0} (f : A → B) (xs : List A) (n : ℕ) → n < length xs → (default : A) → slice_get (map f xs) n ≡ Some (f (get_or xs n default))
item_read f [] n lt default = absurd (omega (arith, lt))
item_read f (x ∷ xs) zero lt default = refl
item_read f (x ∷ xs) (suc n) lt default = item_read f xs n (omega (arith, lt)) default

-- one that isn't the last has others after it
pub before_last : {A : Type 0} (xs ys zs : List A) (x : A) → xs ++ (x ∷ ys) ≡ zs → length xs < length zs
before_last xs ys zs x is =
    let both = length-append xs (x ∷ ys) in
    let same = ap length is in
    omega (arith, both, same)

module _ {S R L C P : Type 0} (h : HostGhosts S R L C P) where
  loans_same : {a : S} → SameLoans h.posts_left h.posts_back h.posts_out a a
  loans_same = record { left = refl; back = refl; out = refl }

  pub given_none : {a : S} → HasGiven h a a []
  given_none {a} = record { lent = lent_none (h.rigs_left a); back = refl; out = omega arith; posts = loans_same; later = omega arith }

  pub given_both : {a b c : S} (xs ys : List R) → HasGiven h a b xs → HasGiven h b c ys → HasGiven h a c (xs ++ ys)
  given_both xs ys p q = record {
    lent = lent_both xs ys _ _ _ p.lent q.lent;
    back = q.back ∙ p.back;
    out = (let first = p.out in let then = q.out in let both = length-append xs ys in omega (arith, first, then, both));
    posts = loans_both p.posts q.posts;
    later = (let first = p.later in let then = q.later in omega (arith, first, then));
  }

  module _ (say : SayGhosts S) (r : Ghosts R) where
    pub opens_none : (options : OpenOptions) (a : S) → OpensAll h say r options a a []
    opens_none options a = record { rigs = []; starts = []; given = given_none; each = tt; said = said_none say }

    -- one volume more was opened
    pub opens_more : (options : OpenOptions) {a b c : S} (volumes : List (Volume (Presto R r))) (volume : Volume (Presto R r)) (number : ℕ) → number ≡ length volumes
        → OpensAll h say r options a b volumes → OpensOne h say r options number b c volume → OpensAll h say r options a c (volumes ++ volume ∷ [])
    opens_more options {a} {b} {c} volumes volume number is all one =
        let starts = open_starts r options all.rigs volumes all.starts all.each in
        let count : 0 + length all.starts ≡ number = omega (arith, starts, is) in
        record {
          rigs = all.rigs ++ one.rig ∷ [];
          starts = all.starts ++ one.start ∷ [];
          given = given_both all.rigs (one.rig ∷ []) all.given one.given;
          each = open_more r options all.rigs volumes all.starts one.rig volume one.start all.each one.over;
          said = subst (λ (lines : List (List ℕ)). Said say a c lines) (ap (λ n. starts_lines 0 all.starts ++ start_lines n one.start) (sym count) ∙ sym (lines_more 0 all.starts one.start))
              (said_both say (starts_lines 0 all.starts) (start_lines number one.start) all.said one.said);
        }

    -- the one of the next word wasn't
    pub opens_some : (options : OpenOptions) {a b c : S} (words : List (List ℕ)) {word : List ℕ} (volumes : List (Volume (Presto R r))) (number : ℕ) {back : List R} {refusal : Refusal} → number ≡ length volumes
        → OpensAll h say r options a b volumes → OpensNone h say r options number word b c back refusal → slice_get words number ≡ Some word → OpensSome h say r options words a c volumes back refusal
    opens_some options {a} {b} {c} words {word} volumes number {back} {refusal} is all none next = record {
      mid = b;
      opens = all;
      word = word;
      next = subst (λ (n : ℕ). slice_get words n ≡ Some word) is next;
      none = subst (λ (n : ℕ). OpensNone h say r options n word b c back refusal) is none;
    }

    pub ends_none : (a : S) → EndsAll h say r a a [] []
    ends_none a = record { backs = []; left = refl; returned = took_none (h.rigs_back a); out = omega arith; posts = loans_same; lines = record { lines = refl; faults = refl }; faults = refl; each = tt }

    -- one volume more was stopped, and its rig given back
    pub ends_one : {a b c : S} (volumes : List (Volume (Presto R r))) (more : List Stopped) (volume : Volume (Presto R r)) (rig : R) (stopped : Stopped) (number : ℕ) → number ≡ length volumes
        → 0 < h.rigs_out b → EndsAll h say r a b volumes more → Ends r volume rig stopped → TakesBack h.rigs_left h.rigs_back h.rigs_out b c number rig
        → SameLoans h.posts_left h.posts_back h.posts_out b c → SameLines say.lines say.say_faults b c → h.host_faults c ≡ h.host_faults b
        → EndsAll h say r a c (volumes ++ volume ∷ []) (more ++ stopped ∷ [])
    ends_one {a} {b} {c} volumes more volume rig stopped number is some all ends back posts lines faults =
        let here : 0 + length volumes ≡ number = omega (arith, is) in
        record {
          backs = all.backs ++ (number, rig) ∷ [];
          left = back.left ∙ all.left;
          returned = took_both all.backs ((number, rig) ∷ []) _ _ _ all.returned (back.back some);
          out = (let one = back.out in let before = all.out in let many = length-append volumes (volume ∷ []) in omega (arith, one, before, many));
          posts = loans_both all.posts posts;
          lines = record { lines = lines.lines ∙ all.lines.lines; faults = lines.faults ∙ all.lines.faults };
          faults = faults ∙ all.faults;
          each = subst (λ (n : ℕ). EachEnds r 0 (volumes ++ volume ∷ []) (all.backs ++ (n, rig) ∷ []) (more ++ stopped ∷ [])) here (ends_more r 0 volumes all.backs more volume rig stopped all.each ends);
        }
