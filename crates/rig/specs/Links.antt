-- What a link hands over and what it sends.
use Rattle.std.specs.Prelude.{◌≡◌, ℕ, List, [], ◌∷◌, ◌++◌, Option, Some, None}
use Rattle.std.specs.Option.{option_map}
use Rattle.files_model.specs.declared.address.Address.{Address}
use Rattle.rig.specs.declared.link.Event.{Event}
use Rattle.rig.specs.declared.link.Event.TheVariants as event

-- what a link may hand over: a datagram's sender and bytes, or an event without any
pub data Heard : Type 0 where
  Datagram : Address → List ℕ → Heard
  Idle : Heard
  Closed : Heard
  Failed : Heard

-- what a call of recv answered, with the bytes that it put in place
abbrev pub heard_from : Event → List ℕ → Heard
heard_from (event.Datagram from) packet = Datagram from packet
heard_from event.Idle packet = Idle
heard_from event.Closed packet = Closed
heard_from event.Failed packet = Failed

-- the first event that is left is heard and taken; where none is left, Closed is heard
abbrev pub Takes : Option (List Heard) → Heard → Option (List Heard) → Type 0
Takes None heard now = now ≡ None
Takes (Some []) heard now = (heard ≡ Closed) × (now ≡ Some [])
Takes (Some (next ∷ rest)) heard now = (heard ≡ next) × (now ≡ Some rest)

-- where a list is told, it has gained this at its end
abbrev pub gains : {A : Type 0} → Option (List A) → A → Option (List A)
gains told x = option_map (λ xs. xs ++ x ∷ []) told
