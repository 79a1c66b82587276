use Rattle.std.proofs.Common.{subst, Option, refl}
use Rattle.files_model.specs.declared.call.Call.TheVariants.{Statfs}
use Rattle.files_model.specs.declared.reply.Reply.TheVariants as reply
use Rattle.files_model.specs.declared.reply.Stat.TheVariants as stat
use Rattle.v7_read.specs.declared.found.Found.{Found}
use Rattle.v7_read.specs.Found.{Finds}
use Rattle.volume.proofs.Applying.{answered_looking}
use Rattle.volume.proofs.Idling.{statfs_idle}
use Rattle.volume.proofs.Spaces.{finds_stands, statfs_stale, statfs_found}
use Rattle.volume.proofs.statfs.statfs.Goals as goal

pub returns-in-Ok-Some-clause-applied : goal.returns-in-Ok-Some-clause-applied
returns-in-Ok-Some-clause-applied g c =
    let S = g.S.Stable in
    let old = S.image c.args.store.now in
    answered_looking S (Statfs c.args.file) c.args.cred.now c.args.now (reply.Space c.data_blocks.result c.count.result) c.args.store.now c.find.new.store c.in-Ok-Some.ensures.looked tt
    (λ files. statfs_idle files c.args.file)
    (λ tells strong. statfs_found old strong c.args.file c.args.cred.now c.args.now (finds_stands old c.args.file _ _ c.in-Ok-Some.field-0-is (c.in-Ok-Some.ensures.found tells strong))
    c.args.sets.now.blocks c.args.sets.now.inodes (c.requires.rest.are_sets tells refl) c.data_blocks.result c.count.result c.data_blocks.ensures c.count.ensures)

pub returns-in-Ok-None-clause-applied : goal.returns-in-Ok-None-clause-applied
returns-in-Ok-None-clause-applied g c =
    let S = g.S.Stable in
    let old = S.image c.args.store.now in
    answered_looking S (Statfs c.args.file) c.args.cred.now c.args.now (reply.Refused stat.Stale) c.args.store.now c.find.new.store c.in-Ok-None.ensures.looked tt
    (λ files. statfs_idle files c.args.file)
    (λ tells strong. statfs_stale old strong c.args.file c.args.cred.now c.args.now (subst (λ (o : Option Found). Finds old c.args.file o) c.in-Ok-None.field-0-is (c.in-Ok-None.ensures.found tells strong)))
