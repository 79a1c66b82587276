-- The account of a worker, over one run after another.
use Rattle.std.proofs.Common.{arith, ◌≡◌, ◌≢◌, ℕ, Bool, true, false, List, [], ◌∷◌, ◌++◌, Some, cond, refl, sym, ap, ◌∙◌, append_assoc}
use Rattle.std.specs.Prelude.{nat_eq}
use Rattle.std.proofs.lemmas.Bool.{eq-eqb, eqb-true}
use Rattle.std.specs.List.{flat_map, AllByRecursion}
use Rattle.std.proofs.lemmas.List.Elements.{filter_map-append}
use Rattle.files_model.specs.declared.address.Address.{Address}
use Rattle.files_model.specs.History.{Event}
use Rattle.rig.specs.Links.{Heard}
use Rattle.rig.specs.Offers.LeavesOut.{none}
use Rattle.nfs_worker.specs.Worker.{worker_at, Worker, Own, owned, events_on, Works, request_in, requests_of, replies_of}
use Rattle.nfs_worker.specs.Worker.Mixes.{neither}
use Rattle.nfs_worker.specs.declared.desk.Desk.{Desk}
use Rattle.nfs_worker.proofs.Desks.{answered_none, answered_both}
use Rattle.nfs_worker.proofs.Lists.{mixes_both, hears_both}
use Rattle.rig.proofs.Offers.{leaves_both, offers_both, offers_nothing}

flat_map-append : {A B : Type 0} (f : A → List B) (xs ys : List A) → flat_map f (xs ++ ys) ≡ flat_map f xs ++ flat_map f ys
flat_map-append f [] ys = refl
flat_map-append f (x ∷ xs) ys = ap (λ zs. f x ++ zs) (flat_map-append f xs ys) ∙ sym (append_assoc (f x) (flat_map f xs) (flat_map f ys))

pub all-append : {A : Type 0} (P : A → Type 0) (xs ys : List A) → AllByRecursion P xs → AllByRecursion P ys → AllByRecursion P (xs ++ ys)
all-append P [] ys p q = q
all-append P (x ∷ xs) ys p q = (p.0, all-append P xs ys p.1 q)

pub owned-append : (volume : ℕ) (xs ys : List Event) → owned volume (xs ++ ys) ≡ owned volume xs ++ owned volume ys
owned-append volume [] ys = refl
owned-append volume (x ∷ xs) ys = ap (λ (own : List Own). record { volume = volume; event = x } ∷ own) (owned-append volume xs ys)

pub works_both : (volumes number : ℕ) {desk mid then : Desk} (a b c : Worker) (heard heard' : List Heard) (own own' : List Own) (rs rs' : List (Address × List ℕ))
    → Works volumes number desk mid a b heard own rs → Works volumes number mid then b c heard' own' rs' → Works volumes number desk then a c (heard ++ heard') (own ++ own') (rs ++ rs')
works_both volumes number {desk} {mid} {then} a b c heard heard' own own' rs rs' p q = record {
  taken = hears_both a.left b.left c.left heard heard' p.taken q.taken;
  asked = rw (flat_map-append requests_of own own', filter_map-append (request_in volumes) heard heard') (leaves_both _ _ _ _ p.asked q.asked);
  outside = p.outside ++ q.outside;
  answered = answered_both volumes desk mid then heard heard' p.outside q.outside p.answered q.answered;
  offered = p.offered ++ q.offered;
  mixed = rw (flat_map-append replies_of own own') (mixes_both _ _ _ _ _ _ p.mixed q.mixed);
  sends = offers_both p.offered q.offered rs rs' p.sends q.sends;
  mine = all-append (λ (o : Own). worker_at o.event ≡ Some number) own own' p.mine q.mine;
}

-- ---- the events of a volume

pub on-append : (volume : ℕ) (xs ys : List Own) → events_on volume (xs ++ ys) ≡ events_on volume xs ++ events_on volume ys
on-append volume xs ys = flat_map-append (λ (one : Own). cond (nat_eq one.volume volume) (one.event ∷ []) []) xs ys

-- those of the volume itself
pub on_own : (volume : ℕ) (events : List Event) → events_on volume (owned volume events) ≡ events
on_own volume [] = refl
on_own volume (event ∷ events) = ap (λ (b : Bool). (cond b (event ∷ []) []) ++ events_on volume (owned volume events)) (eq-eqb volume volume refl) ∙ ap (λ (es : List Event). event ∷ es) (on_own volume events)

-- of another there are none
other_one : (n volume : ℕ) (event : Event) (events : List Event) (b : Bool) → nat_eq volume n ≡ b → n ≢ volume → cond (nat_eq volume n) (event ∷ []) [] ++ events ≡ events
other_one n volume event events true is other = absurd (other (sym (eqb-true volume n is)))
other_one n volume event events false is other = ap (λ (b : Bool). cond b (event ∷ []) [] ++ events) is

pub on_other : (n volume : ℕ) (events : List Event) → n ≢ volume → events_on n (owned volume events) ≡ []
on_other n volume [] other = refl
on_other n volume (event ∷ events) other = other_one n volume event (events_on n (owned volume events)) (nat_eq volume n) refl other ∙ on_other n volume events other

-- nothing was heard and nothing done
pub works_nothing : (volumes number : ℕ) (desk : Desk) (a : Worker) → Works volumes number desk desk a a [] [] []
works_nothing volumes number desk a = record {
  taken = refl;
  asked = none;
  outside = [];
  answered = answered_none volumes desk [];
  offered = [];
  mixed = neither;
  sends = offers_nothing refl (omega arith);
  mine = tt;
}
