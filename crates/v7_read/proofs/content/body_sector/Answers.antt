use Rattle.std.proofs.Common.{◌≡◌, ◌<◌, sym, ap, subst, ◌∙◌}
use Rattle.files_model.specs.Files.{clipped}
use Rattle.stable.proofs.Looking.{looks_again}
use Rattle.v7_map.specs.Stored.{sector_in}
use Rattle.v7_read.proofs.Holes.{sector_at_or_zeros, clipped_sector}
use Rattle.v7_read.proofs.content.body_sector.Goals as goal

pub returns-clause-bytes : goal.returns-clause-bytes
returns-clause-bytes g c = λ tells.
    let image = g.S.Stable.image c.args.store.now in
    let at : c.in_ok-address.address ≡ sector_in image c.args.inode.now c.args.index = c.in_ok-address.ensures.found tells in
    c.clip.ensures
    ∙ ap (clipped c.args.inode.now.size c.args.index) (c.in_ok-bytes.ensures.done tells ∙ (λ z. sector_at_or_zeros (c.in_ok-address.ensures.looked.image z) (at z)))
    ∙ clipped_sector image c.args.inode.now c.args.index

pub returns-in_err-address-clause-looked : goal.returns-in_err-address-clause-looked
returns-in_err-address-clause-looked g c = c.in_err-address.ensures.looked

pub returns-in_err-bytes-clause-looked : goal.returns-in_err-bytes-clause-looked
returns-in_err-bytes-clause-looked g c = looks_again g.S.Stable g.met.S.Stable.clocked c.in_ok-address.ensures.looked c.in_err-bytes.ensures.looked

pub returns-clause-looked : goal.returns-clause-looked
returns-clause-looked g c = looks_again g.S.Stable g.met.S.Stable.clocked c.in_ok-address.ensures.looked c.in_ok-bytes.ensures.looked

pub returns-clause-address : goal.returns-clause-address
returns-clause-address g c = λ tells. c.in_ok-address.ensures.found tells

pub returns-clause-within : goal.returns-clause-within
returns-clause-within g c = c.in_ok-address.ensures.within

pub sector_or_hole-requires : goal.sector_or_hole-requires
sector_or_hole-requires g c = λ some. subst (λ n. c.in_ok-address.address < n) (sym c.in_ok-address.ensures.looked.sectors) (c.in_ok-address.ensures.within some)
