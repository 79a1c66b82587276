use Rattle.std.proofs.Common.{rules, arith, ◌≡◌, length, ℕ, List, Option, Some, None, sym, ap, subst, ◌∙◌}
use Rattle.files_model.specs.declared.call.Call.TheVariants.{Readlink}
use Rattle.files_model.specs.declared.reply.Reply.TheVariants as reply
use Rattle.files_model.specs.declared.reply.Stat.TheVariants as stat
use Rattle.stable.specs.Store.{Image}
use Rattle.stable.proofs.Looking.{looks_again}
use Rattle.v7_layout.specs.declared.inode.Inode.{Inode}
use Rattle.v7_read.specs.declared.found.Found.{Found}
use Rattle.v7_read.specs.Found.{Finds, IsFile}
use Rattle.v7_entries.proofs.Directories.{none_of}
use Rattle.v7_map.specs.Frame.{frame}
use Rattle.v7_map.specs.Stored.{read_bytes}
use Rattle.v7_map.specs.Weak.{IsStrong}
use Rattle.v7_map.proofs.Whole.{whole_image}
use Rattle.v7_contents.specs.Answers.{readlink_refusal_by}
use Rattle.v7_contents.proofs.Found.{readlink_stale, readlink_refused, readlink_found}
use Rattle.volume.proofs.Applying.{answered_looking}
use Rattle.volume.proofs.Idling.{readlink_idle}
use Rattle.volume.proofs.readlink.readlink.Goals as goal

pub returns-in-Ok-None-clause-applied : goal.returns-in-Ok-None-clause-applied
returns-in-Ok-None-clause-applied g c =
    let S = g.S.Stable in
    let old : Image = S.image c.args.store.now in
    answered_looking S (Readlink c.args.file) c.args.cred.now c.args.now (reply.Refused stat.Stale) c.args.store.now c.find.new.store c.in-Ok-None.ensures.looked tt
    (λ files. readlink_idle files c.args.file)
    (λ tells strong. readlink_stale old strong c.args.file (subst (λ (o : Option Found). Finds old c.args.file o) c.in-Ok-None.field-0-is (c.in-Ok-None.ensures.found tells strong)))

pub returns-in-Some-clause-applied : goal.returns-in-Some-clause-applied
returns-in-Some-clause-applied g c =
    let S = g.S.Stable in
    let old : Image = S.image c.args.store.now in
    answered_looking S (Readlink c.args.file) c.args.cred.now c.args.now (reply.Refused c.in-Some.status) c.args.store.now c.find.new.store c.in-Ok-Some.ensures.looked tt
    (λ files. readlink_idle files c.args.file)
    (λ tells strong.
    let is : IsFile old c.args.file c.in-Ok-Some.found = subst (λ (o : Option Found). Finds old c.args.file o) c.in-Ok-Some.field-0-is (c.in-Ok-Some.ensures.found tells strong) in
    readlink_refused old strong c.args.file c.in-Ok-Some.found is c.in-Some.status (sym c.in-Some.ensures))

pub returns-in-Ok-clause-applied : goal.returns-in-Ok-clause-applied
returns-in-Ok-clause-applied g c =
    let S = g.S.Stable in
    let old : Image = S.image c.args.store.now in
    let found : Found = c.in-Ok-Some.found in
    let bytes : List ℕ = c.new.result in
    let first : S.image c.find.new.store ≡ old = c.in-Ok-Some.ensures.looked.image in
    answered_looking S (Readlink c.args.file) c.args.cred.now c.args.now (reply.Text bytes) c.args.store.now c.read_content.new.store
    (looks_again S g.met.S.Stable.clocked c.in-Ok-Some.ensures.looked c.in-Ok.ensures.looked) (let same = ap length c.new.ensures in let few = c.in-Ok.ensures.few in let ok = c.in-Ok.bytes.ok in search rules)
    (λ files. readlink_idle files c.args.file)
    (λ tells strong.
    let is : IsFile old c.args.file found = subst (λ (o : Option Found). Finds old c.args.file o) c.in-Ok-Some.field-0-is (c.in-Ok-Some.ensures.found tells strong) in
    let accepted : readlink_refusal_by found.inode ≡ None = sym c.readlink_refusal_of.ensures ∙ none_of c.readlink_refusal_of.result c.in_default.not-Some in
    let are : bytes ≡ read_bytes old found.inode 0 1024 =
    c.new.ensures ∙ c.in-Ok.ensures.read tells (subst (λ (x : Image). IsStrong (frame x)) (sym first) strong) c.args.file (subst (λ (x : Image). IsFile x c.args.file found) (sym first) is)
    ∙ ap (λ (x : Image). read_bytes x found.inode 0 1024) first in
    readlink_found old strong c.args.file found is (whole_image S.sector_count g.met.S.Stable.clocked g.met.S.Stable.shape c.args.store.now tells) accepted bytes are)
