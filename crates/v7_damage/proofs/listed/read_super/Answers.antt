use Rattle.std.proofs.Common.{rules, arith, ◌≡◌, ◌∙◌, sym}
use Rattle.stable.specs.Store.{Image}
use Rattle.v7_map.specs.Frame.{frame}
use Rattle.v7_map.specs.Damage.{Sizes, passes}
use Rattle.v7_map.proofs.Whole.{as_long}
use Rattle.v7_damage.proofs.Supers.{sizes_short, sizes_fail, sizes_hold, sizes_read}
use Rattle.v7_damage.proofs.listed.read_super.Goals as goal

pub returns-then-sectors-lt2-clause-told : goal.returns-then-sectors-lt2-clause-told
returns-then-sectors-lt2-clause-told g c = λ tells.
    let image : Image = g.S.Stable.image c.args.store.now in
    let size = (as_long g.S.Stable.sector_count g.met.S.Stable.clocked g.met.S.Stable.shape c.args.store.now tells).size in
    sizes_fail (frame image) (sizes_short image (omega (arith, size, c.sectors-sectors.ensures, c.if-sectors-lt2.true)))

pub returns-then-not-has_sizes-clause-told : goal.returns-then-not-has_sizes-clause-told
returns-then-not-has_sizes-clause-told g c = λ tells.
    let image : Image = g.S.Stable.image c.args.store.now in
    let size = (as_long g.S.Stable.sector_count g.met.S.Stable.clocked g.met.S.Stable.shape c.args.store.now tells).size in
    let no : passes (frame image) Sizes ≡ c.has_sizes.result = sizes_read image c.read-super_block.result c.in_ok-bytes.bytes c.sectors-sectors.result c.has_sizes.result c.read-super_block.ensures.record_of (c.in_ok-bytes.ensures.done tells) (c.sectors-sectors.ensures ∙ sym size) c.has_sizes.ensures in
    sizes_fail (frame image) (no ∙ search rules)

pub returns-clause-told : goal.returns-clause-told
returns-clause-told g c = λ tells.
    let image : Image = g.S.Stable.image c.args.store.now in
    let size = (as_long g.S.Stable.sector_count g.met.S.Stable.clocked g.met.S.Stable.shape c.args.store.now tells).size in
    let yes : passes (frame image) Sizes ≡ c.has_sizes.result = sizes_read image c.read-super_block.result c.in_ok-bytes.bytes c.sectors-sectors.result c.has_sizes.result c.read-super_block.ensures.record_of (c.in_ok-bytes.ensures.done tells) (c.sectors-sectors.ensures ∙ sym size) c.has_sizes.ensures in
    sizes_hold (frame image) (yes ∙ search rules)
