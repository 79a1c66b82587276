use Rattle.std.proofs.Common.{◌∙◌, sym, ap, get_or}
use Rattle.std.proofs.lemmas.List.{get_or-replicate}
use Rattle.stable.proofs.Looking.{no_look}
use Rattle.v7_read.proofs.Listings.{free_places, used_places}
use Rattle.v7_read.proofs.blocks.read_places.Goals as goal

pub returns-then-inode-eq0-clause-places : goal.returns-then-inode-eq0-clause-places
returns-then-inode-eq0-clause-places g c = λ tells. record {
  each = λ k lt. ap (λ l. get_or l k 0) c.no_blocks.ensures ∙ get_or-replicate 140 k 0 0 lt
      ∙ sym (free_places (g.S.Stable.image c.args.store.now) c.args.inode.now k c.if-inode-eq0.true);
}

pub returns-clause-places : goal.returns-clause-places
returns-clause-places g c = λ tells. record {
  each = λ k lt. c.blocks_by.ensures k lt ∙ used_places (g.S.Stable.image c.args.store.now) c.args.inode.now c.in_ok-listing.listing k c.if-inode-eq0.false (c.in_ok-listing.ensures.listing tells) lt;
}

pub returns-then-inode-eq0-clause-looked : goal.returns-then-inode-eq0-clause-looked
returns-then-inode-eq0-clause-looked g c = no_look g.S.Stable g.met.S.Stable.clocked c.args.store.now

pub returns-in_err-listing-clause-looked : goal.returns-in_err-listing-clause-looked
returns-in_err-listing-clause-looked g c = c.in_err-listing.ensures.looked

pub returns-clause-looked : goal.returns-clause-looked
returns-clause-looked g c = c.in_ok-listing.ensures.looked
