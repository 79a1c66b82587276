use Rattle.std.proofs.Common.{◌≡◌, ◌<◌, ◌*◌, ◌≤◌, ◌∙◌, length, take, Option, Some, None, sym, subst, arith}
use Rattle.std.specs.Option.{is_none}
use Rattle.std.specs.List.{position}
use Rattle.v7_dir.specs.Slots.{slots_in}
use Rattle.v7_entries.specs.declared.sector.Hit.{Hit}
use Rattle.v7_entries.specs.Hits.{HitsIn}
use Rattle.v7_entries.proofs.SectorSlots.{first_passes, none_passes}
use Rattle.v7_entries.proofs.sector.empty_hit.Goals as goal

pub number_in-ino-requires : goal.number_in-ino-requires
number_in-ino-requires c =
    let long : 16 * c.args.count ≤ length c.args.bytes.now = omega (arith, c.told-bytes, c.requires) in
    let first = first_passes is_none c.args.bytes.now c.args.count long c.in_ok-index.index (sym c.first_empty.ensures ∙ c.in_ok-index.was) in
    let below = first.0 in omega (arith, c.requires)

pub returns : goal.returns
returns c =
    let long : 16 * c.args.count ≤ length c.args.bytes.now = omega (arith, c.told-bytes, c.requires) in
    let first = first_passes is_none c.args.bytes.now c.args.count long c.in_ok-index.index (sym c.first_empty.ensures ∙ c.in_ok-index.was) in
    record { within = first.0; here = first.1; before = first.2; number = c.number_in-ino.ensures }

pub returns-in_err-index : goal.returns-in_err-index
returns-in_err-index c =
    let long : 16 * c.args.count ≤ length c.args.bytes.now = omega (arith, c.told-bytes, c.requires) in
    subst (HitsIn is_none c.args.bytes.now c.args.count) (sym c.from_residual.ensures)
    (none_passes is_none c.args.bytes.now c.args.count long (sym c.first_empty.ensures ∙ c.in_err-index.was))
