use Rattle.std.proofs.Common.{◌≡◌, min, ap, get_or, ◌∙◌, subst, ℕ}
use Rattle.plan_file.specs.Places.{ArePlaces, AreWithin}
use Rattle.plan_file.proofs.Listed.{within_low, none-through}
use Rattle.plan_file.proofs.Reading.{places-read}
use Rattle.plan_file.proofs.places.file_places.Goals as goal

pub returns-clause-places : goal.returns-clause-places
returns-clause-places g c = λ tells.
    let S = g.S.Stable in
    let sectors : c.min-sectors.result ≡ min (S.sector_count c.args.store.now) 1048576 = c.min-sectors.ensures ∙ ap (λ m. min m 1048576) c.sectors.ensures in
    subst (λ (m : ℕ). ArePlaces (S.image c.args.store.now) m c.args.inode.now (record { body = c.body_places.result; single = c.within-single.result })) sectors
    (places-read (S.image c.args.store.now) c.args.inode.now c.min-sectors.result c.in_ok-places.places (record { body = c.body_places.result; single = c.within-single.result })
    (c.in_ok-places.ensures.places tells) c.within-single.ensures c.body_places.ensures.places)

pub returns-clause-within : goal.returns-clause-within
returns-clause-within g c =
    let S = g.S.Stable in
    let sectors : c.min-sectors.result ≡ min (S.sector_count c.args.store.now) 1048576 = c.min-sectors.ensures ∙ ap (λ m. min m 1048576) c.sectors.ensures in
    subst (λ (m : ℕ). AreWithin m (record { body = c.body_places.result; single = c.within-single.result })) sectors
    (record {
      body = c.body_places.ensures.within;
      single = λ nz. within_low c.min-sectors.result (get_or c.in_ok-places.places 10 0) (λ z. nz (c.within-single.ensures ∙ z)) c.within-single.result c.within-single.ensures;
    })

pub returns-clause-through : goal.returns-clause-through
returns-clause-through g c = none-through c.min-sectors.result c.in_ok-places.places c.within-single.result c.body_places.result c.body_places.ensures.long c.body_places.ensures.places
