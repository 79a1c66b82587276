use Rattle.std.proofs.Common.{rules, arith, ◌≡◌, ℕ, List, Option, Some, None, sym, ap, subst, ◌∙◌}
use Rattle.files_model.specs.declared.call.Call.TheVariants.{Readdir}
use Rattle.files_model.specs.declared.reply.Reply.TheVariants as reply
use Rattle.files_model.specs.declared.reply.Stat.TheVariants as stat
use Rattle.stable.specs.Store.{Image}
use Rattle.stable.proofs.Looking.{looks_again}
use Rattle.v7_layout.specs.declared.inode.Inode.{Inode}
use Rattle.v7_read.specs.declared.found.Found.{Found}
use Rattle.v7_read.specs.Found.{Finds, IsFile}
use Rattle.v7_entries.proofs.Directories.{none_of}
use Rattle.v7_entries.specs.Bodies.{HasBody, slots_at}
use Rattle.v7_contents.specs.Answers.{readdir_refusal_by, entries_past}
use Rattle.v7_contents.specs.Listings.{IsListing}
use Rattle.v7_contents.specs.declared.listing.Listing.{Listing}
use Rattle.v7_contents.proofs.Found.{readdir_stale, readdir_refused, listed_body, readdir_found}
use Rattle.volume.proofs.Applying.{answered_looking}
use Rattle.volume.proofs.Idling.{readdir_idle}
use Rattle.volume.proofs.readdir.readdir.Goals as goal

pub returns-in-Ok-None-clause-applied : goal.returns-in-Ok-None-clause-applied
returns-in-Ok-None-clause-applied g c =
    let S = g.S.Stable in
    let old : Image = S.image c.args.store.now in
    answered_looking S (Readdir c.args.dir c.args.cookie c.args.count) c.args.cred.now c.args.now (reply.Refused stat.Stale) c.args.store.now c.find.new.store c.in-Ok-None.ensures.looked tt
    (λ files. readdir_idle files c.args.dir c.args.cookie c.args.count c.args.cred.now)
    (λ tells strong.
    readdir_stale old strong c.args.dir c.args.cookie c.args.count c.args.cred.now (subst (λ (o : Option Found). Finds old c.args.dir o) c.in-Ok-None.field-0-is (c.in-Ok-None.ensures.found tells strong)))

pub returns-in-Some-clause-applied : goal.returns-in-Some-clause-applied
returns-in-Some-clause-applied g c =
    let S = g.S.Stable in
    let old : Image = S.image c.args.store.now in
    answered_looking S (Readdir c.args.dir c.args.cookie c.args.count) c.args.cred.now c.args.now (reply.Refused c.in-Some.status) c.args.store.now c.find.new.store c.in-Ok-Some.ensures.looked tt
    (λ files. readdir_idle files c.args.dir c.args.cookie c.args.count c.args.cred.now)
    (λ tells strong.
    let is : IsFile old c.args.dir c.in-Ok-Some.found = subst (λ (o : Option Found). Finds old c.args.dir o) c.in-Ok-Some.field-0-is (c.in-Ok-Some.ensures.found tells strong) in
    readdir_refused old strong c.args.dir c.args.cookie c.args.count c.args.cred.now c.in-Ok-Some.found is c.in-Some.status (sym c.in-Some.ensures))

pub returns-in-Ok-clause-applied : goal.returns-in-Ok-clause-applied
returns-in-Ok-clause-applied g c =
    let S = g.S.Stable in
    let old : Image = S.image c.args.store.now in
    let found : Found = c.in-Ok-Some.found in
    let listing : Listing = c.in-Ok.listing in
    let first : S.image c.find.new.store ≡ old = c.in-Ok-Some.ensures.looked.image in
    answered_looking S (Readdir c.args.dir c.args.cookie c.args.count) c.args.cred.now c.args.now (reply.Entries listing.list listing.end) c.args.store.now c.list_entries.new.store
    (looks_again S g.met.S.Stable.clocked c.in-Ok-Some.ensures.looked c.in-Ok.ensures.looked) c.in-Ok.ensures.fits
    (λ files. readdir_idle files c.args.dir c.args.cookie c.args.count c.args.cred.now)
    (λ tells strong.
    let is : IsFile old c.args.dir found = subst (λ (o : Option Found). Finds old c.args.dir o) c.in-Ok-Some.field-0-is (c.in-Ok-Some.ensures.found tells strong) in
    let accepted : readdir_refusal_by c.args.dir.ino found.inode c.args.cred.now ≡ None = sym c.readdir_refusal_of.ensures ∙ none_of c.readdir_refusal_of.result c.in_default.not-Some in
    let body : HasBody old found.inode = listed_body old strong c.args.dir c.args.cookie c.args.count c.args.cred.now found is accepted in
    let lists : IsListing (entries_past (slots_at old found.inode) c.args.cookie) c.args.count listing =
    subst (λ (x : Image). IsListing (entries_past (slots_at x found.inode) c.args.cookie) c.args.count listing) first (c.in-Ok.ensures.listed tells (subst (λ (x : Image). HasBody x found.inode) (sym first) body)) in
    readdir_found old strong c.args.dir c.args.cookie c.args.count c.args.cred.now found is accepted listing lists)
