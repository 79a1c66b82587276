use Rattle.v7_layout.proofs.inode.InodeRecord.read.Goals as goal

pub returns-clause-again : goal.returns-clause-again
returns-clause-again c =
    record { direct = c.addresses_at.ensures.fit; single = c.address_at.ensures.fits; double = c.address_at-2.ensures.fits }
