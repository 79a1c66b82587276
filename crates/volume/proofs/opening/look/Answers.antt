use Rattle.std.proofs.Common.{rules, true, ◌≡◌, arith, sym, ap, get_or, [], ◌∙◌}
use Rattle.v7_layout.specs.Records.{super_of}
use Rattle.v7_map.specs.Damage.{has_sizes}
use Rattle.v7_map.specs.Image.{sector_at}
use Rattle.v7_map.proofs.Whole.{as_long}
use Rattle.volume.proofs.HasVolume.{opens_short, opens_read, name_read, root_read}
use Rattle.volume.proofs.opening.look.Goals as goal

pub returns-then-sectors-lt2-clause-found : goal.returns-then-sectors-lt2-clause-found
returns-then-sectors-lt2-clause-found g c told =
    let shape = as_long g.S.Stable.sector_count g.met.S.Stable.clocked g.met.S.Stable.shape c.args.store.now told in
    let long = shape.size in
    let few = c.if-sectors-lt2.true in
    let sectors = c.sectors-sectors.ensures in
    opens_short (g.S.Stable.image c.args.store.now) (omega (arith, long, few, sectors))

pub returns-then-not-has_sizes-clause-found : goal.returns-then-not-has_sizes-clause-found
returns-then-not-has_sizes-clause-found g c told =
    let shape = as_long g.S.Stable.sector_count g.met.S.Stable.clocked g.met.S.Stable.shape c.args.store.now told in
    let is = c.read-super_block.ensures.record_of ∙ ap super_of (c.in_ok-get_sector.ensures.done told) in
    opens_read (g.S.Stable.image c.args.store.now) c.sectors-sectors.result c.read-super_block.result (shape.size ∙ sym c.sectors-sectors.ensures) is ∙ sym c.has_sizes.ensures ∙ search rules

pub returns-clause-found : goal.returns-clause-found
returns-clause-found g c told =
    let S = g.S.Stable in
    let image = S.image c.args.store.now in
    let shape = as_long S.sector_count g.met.S.Stable.clocked g.met.S.Stable.shape c.args.store.now told in
    let is : c.read-super_block.result ≡ super_of (sector_at image 1) = c.read-super_block.ensures.record_of ∙ ap super_of (c.in_ok-get_sector.ensures.done told) in
    let can : has_sizes c.read-super_block.result.mark c.read-super_block.result.s_isize c.read-super_block.result.s_fsize c.sectors-sectors.result ≡ true = sym c.has_sizes.ensures ∙ search rules in
    record {
      sizes = opens_read image c.sectors-sectors.result c.read-super_block.result (shape.size ∙ sym c.sectors-sectors.ensures) is ∙ can;
      name_is = name_read image c.read-super_block.result is;
      root_is = λ z. record { ino = 2; generation = root_read c.sectors-sectors.result c.read-super_block.result can image is _ (c.in_ok-sector.ensures.done told ∙ (λ z. get_or (c.in_ok-get_sector.ensures.looked.image z) (c.inode_sector_of.ensures z) [])) c.inode_in.result c.inode_in.ensures.inode z };
    }
