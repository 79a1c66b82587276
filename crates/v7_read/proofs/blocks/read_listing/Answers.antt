use Rattle.std.proofs.Common.{◌≤◌, length, sym, subst, ◌∙◌}
use Rattle.stable.proofs.Looking.{no_look}
use Rattle.v7_map.proofs.Whole.{as_long}
use Rattle.v7_read.proofs.Listings.{listing_none, listing_zero}
use Rattle.v7_read.proofs.blocks.read_listing.Goals as goal

pub returns-then-block-eq0-clause-listing : goal.returns-then-block-eq0-clause-listing
returns-then-block-eq0-clause-listing g c = λ tells. listing_zero (g.S.Stable.image c.args.store.now) c.args.block _ c.empty_sector.ensures c.if-block-eq0.true

pub returns-then-block-sectors-clause-listing : goal.returns-then-block-sectors-clause-listing
returns-then-block-sectors-clause-listing g c = λ tells.
    let size = (as_long g.S.Stable.sector_count g.met.S.Stable.clocked g.met.S.Stable.shape c.args.store.now tells).size in
    let past : length (g.S.Stable.image c.args.store.now) ≤ c.args.block = subst (λ n. n ≤ c.args.block) (c.sectors.ensures ∙ sym size) c.if-block-sectors.true in
    listing_none (g.S.Stable.image c.args.store.now) c.args.block _ c.empty_sector-then-block-sectors.ensures past

pub returns-then-block-eq0-clause-looked : goal.returns-then-block-eq0-clause-looked
returns-then-block-eq0-clause-looked g c = no_look g.S.Stable g.met.S.Stable.clocked c.args.store.now

pub returns-then-block-sectors-clause-looked : goal.returns-then-block-sectors-clause-looked
returns-then-block-sectors-clause-looked g c = no_look g.S.Stable g.met.S.Stable.clocked c.args.store.now

pub returns-clause-looked : goal.returns-clause-looked
returns-clause-looked g c = c.get_sector.ensures.looked
