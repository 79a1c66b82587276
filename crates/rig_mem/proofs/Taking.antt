-- The next of the events that a link in memory keeps.
use Rattle.std.proofs.Common.{◌≡◌, ℕ, ◌+◌, ◌<◌, List, ◌∷◌, Some, length, drop, map, get_or, sym, ◌∙◌, ap, subst, refl, add-one}
use Rattle.std.proofs.lemmas.List.{drop-map}
use Rattle.std.proofs.Math.Seq.{drop-cons}
use Rattle.rig.specs.Links.{Heard, Takes}
use Rattle.rig_mem.specs.Links.{heard_of}
use Rattle.rig_mem.specs.declared.event.MemEvent.{MemEvent}

-- from one place on there are the event at the place and those from the next place on
pub rest_of : (es : List MemEvent) (n : ℕ) (e : MemEvent) → n < length es → drop n (map heard_of es) ≡ heard_of (get_or es n e) ∷ drop (n + 1) (map heard_of es)
rest_of es n e h =
    drop-map heard_of n es
    ∙ ap (map heard_of) (drop-cons es n e h)
    ∙ ap (λ rest. heard_of (get_or es n e) ∷ rest) (sym (drop-map heard_of (n + 1) es ∙ rw add-one))

pub takes_next : (es : List MemEvent) (n : ℕ) (e : MemEvent) (heard : Heard) → n < length es → heard ≡ heard_of (get_or es n e) → Takes (Some (drop n (map heard_of es))) heard (Some (drop (n + 1) (map heard_of es)))
takes_next es n e heard h is =
    let P : List Heard → Type 0 = λ left. Takes (Some left) heard (Some (drop (n + 1) (map heard_of es))) in
    subst P (sym (rest_of es n e h)) (is, refl)
