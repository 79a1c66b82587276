-- One worker's own events are the whole histories.
use Rattle.std.proofs.Common.{arith, ◌≡◌, ℕ, ◌+◌, Bool, true, false, List, [], ◌∷◌, ◌++◌, Some, cond, refl, sym, ap, ◌∙◌, subst}
use Rattle.std.specs.Prelude.{nat_eq}
use Rattle.std.specs.List.{AllByRecursion}
use Rattle.std.proofs.lemmas.Bool.{eq-eqb}
use Rattle.files_model.specs.History.{Event}
use Rattle.files_model.specs.History.Event.{Done, Failed, Cut}
use Rattle.nfs_worker.specs.Account.{Hold, history}
use Rattle.nfs_worker.specs.Sharing.{IsOfOne, IsShared, SharedFrom}
use Rattle.nfs_worker.specs.Turns.{Did}
use Rattle.nfs_worker.specs.Volumes.{EachVolume}
use Rattle.nfs_worker.specs.Worker.{Own, worker_at, is_by, events_by, events_on}
use Rattle.nfs_worker.proofs.Workers.{all-append}

same_number : (m n : ℕ) → Some m ≡ Some n → m ≡ n
same_number m n is = cc

is_by_at : (number : ℕ) (event : Event) → worker_at event ≡ Some number → is_by number event ≡ true
is_by_at number (Done worker item now reply) is = eq-eqb worker number (same_number worker number is)
is_by_at number (Failed worker items now left) is = eq-eqb worker number (same_number worker number is)
is_by_at number (Cut calls now left) is = cc

by_all : (number : ℕ) (events : List Event) → AllByRecursion (λ event. worker_at event ≡ Some number) events → events_by number events ≡ events
by_all number [] mine = refl
by_all number (event ∷ events) mine =
    ap (λ (b : Bool). (cond b (event ∷ []) []) ++ events_by number events) (is_by_at number event mine.0) ∙ ap (λ (es : List Event). event ∷ es) (by_all number events mine.1)

on_mine : (number volume : ℕ) (own : List Own) → AllByRecursion (λ (one : Own). worker_at one.event ≡ Some number) own → AllByRecursion (λ event. worker_at event ≡ Some number) (events_on volume own)
on_mine number volume [] mine = tt
on_mine number volume (one ∷ own) mine = all-append (λ event. worker_at event ≡ Some number) (cond (nat_eq one.volume volume) (one.event ∷ []) []) (events_on volume own) (case (nat_eq one.volume volume)) (on_mine number volume own mine.1)
  where
    case : (b : Bool) → AllByRecursion (λ event. worker_at event ≡ Some number) (cond b (one.event ∷ []) [])
    case true = (mine.0, tt)
    case false = tt

of_first : (events : List Event) → AllByRecursion (λ event. worker_at event ≡ Some 0) events → AllByRecursion (IsOfOne 1) events
of_first [] mine = tt
of_first (event ∷ events) mine = (record { number = 0; worker = mine.0; within = omega arith }, of_first events mine.1)

pub shared_alone : (volume : ℕ) (did : Did) (holds : List Hold) → events_on volume did.own ≡ history holds → AllByRecursion (λ (one : Own). worker_at one.event ≡ Some 0) did.own → IsShared volume (history holds) (did ∷ [])
shared_alone volume did holds shared mine =
    let all = subst (λ (es : List Event). AllByRecursion (λ event. worker_at event ≡ Some 0) es) shared (on_mine 0 volume did.own mine) in
    record { lists = (shared ∙ sym (by_all 0 (history holds) all), tt); whole = of_first (history holds) all }

-- on each volume
pub shared_each : {A : Type 0} (P : ℕ → A → A → List Hold → Type 0) (did : Did) → ((n : ℕ) (x y : A) (holds : List Hold) → P n x y holds → events_on n did.own ≡ history holds)
    → AllByRecursion (λ (one : Own). worker_at one.event ≡ Some 0) did.own → (n : ℕ) (xs ys : List A) (all : List (List Hold)) → EachVolume P n xs ys all → SharedFrom n all (did ∷ [])
shared_each P did f mine n [] [] [] p = tt
shared_each P did f mine n [] [] (holds ∷ all) p = absurd p
shared_each P did f mine n [] (y ∷ ys) all p = absurd p
shared_each P did f mine n (x ∷ xs) [] all p = absurd p
shared_each P did f mine n (x ∷ xs) (y ∷ ys) [] p = absurd p
shared_each P did f mine n (x ∷ xs) (y ∷ ys) (holds ∷ all) p = (shared_alone n did holds (f n x y holds p.0) mine, shared_each P did f mine (n + 1) xs ys all p.1)
