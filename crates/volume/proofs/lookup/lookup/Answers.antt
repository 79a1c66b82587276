use Rattle.std.proofs.Common.{arith, true, ◌≡◌, Option, Some, None, ap, sym, subst, ◌∙◌}
use Rattle.files_model.specs.declared.attributes.Attr.{Attr}
use Rattle.files_model.specs.declared.call.Call.TheVariants.{Lookup}
use Rattle.files_model.specs.declared.reply.Reply.TheVariants as reply
use Rattle.files_model.specs.declared.reply.Stat.TheVariants as stat
use Rattle.stable.specs.Looked.{Looked}
use Rattle.stable.specs.Store.{Image}
use Rattle.stable.proofs.Looking.{looks_again}
use Rattle.v7_layout.specs.declared.inode.Inode.{Inode}
use Rattle.v7_map.specs.Frame.{frame}
use Rattle.v7_map.specs.Image.{inode_at, is_inode}
use Rattle.v7_map.specs.Weak.{IsWeak}
use Rattle.v7_read.specs.declared.found.Found.{Found}
use Rattle.v7_read.specs.Found.{Finds, IsFile}
use Rattle.v7_entries.specs.Answers.{lookup_refusal_by, search_refusal_by}
use Rattle.v7_entries.specs.Bodies.{HasBody}
use Rattle.v7_entries.specs.Found.{FindsName, IsNamedSlot}
use Rattle.v7_entries.specs.declared.named.NamedSlot.{NamedSlot}
use Rattle.v7_entries.proofs.Directories.{none_of}
use Rattle.volume.proofs.Applying.{answered_looking, failed_looking}
use Rattle.volume.proofs.Idling.{lookup_idle}
use Rattle.volume.proofs.LookingUp.{lookup_stale, lookup_refused, found_body, lookup_none, lookup_unsearched, inode_named, lookup_found}
use Rattle.volume.proofs.lookup.lookup.Goals as goal

pub returns-in-Ok-None-clause-applied : goal.returns-in-Ok-None-clause-applied
returns-in-Ok-None-clause-applied g c =
    let S = g.S.Stable in
    let old : Image = S.image c.args.store.now in
    answered_looking S (Lookup c.args.dir c.args.name.now) c.args.cred.now c.args.now (reply.Refused stat.Stale) c.args.store.now c.find.new.store c.in-Ok-None.ensures.looked tt
    (λ files. lookup_idle files c.args.dir c.args.name.now c.args.cred.now)
    (λ tells strong. lookup_stale old strong c.args.dir c.args.name.now c.args.cred.now c.args.now (subst (λ (o : Option Found). Finds old c.args.dir o) c.in-Ok-None.field-0-is (c.in-Ok-None.ensures.found tells strong)))

pub returns-in-Some-clause-applied : goal.returns-in-Some-clause-applied
returns-in-Some-clause-applied g c =
    let S = g.S.Stable in
    let old : Image = S.image c.args.store.now in
    answered_looking S (Lookup c.args.dir c.args.name.now) c.args.cred.now c.args.now (reply.Refused c.in-Some.status) c.args.store.now c.find.new.store c.in-Ok-Some.ensures.looked tt
    (λ files. lookup_idle files c.args.dir c.args.name.now c.args.cred.now)
    (λ tells strong.
    let is : IsFile old c.args.dir c.in-Ok-Some.found = subst (λ (o : Option Found). Finds old c.args.dir o) c.in-Ok-Some.field-0-is (c.in-Ok-Some.ensures.found tells strong) in
    lookup_refused old strong c.args.dir c.args.name.now c.args.cred.now c.args.now c.in-Ok-Some.found is c.in-Some.status (sym c.in-Some.ensures))

pub returns-in-Ok-None-find_entry-clause-applied : goal.returns-in-Ok-None-find_entry-clause-applied
returns-in-Ok-None-find_entry-clause-applied g c =
    let S = g.S.Stable in
    let old : Image = S.image c.args.store.now in
    let n : Inode = c.in-Ok-Some.found.inode in
    let first : S.image c.find.new.store ≡ old = c.in-Ok-Some.ensures.looked.image in
    let looked : Looked S c.args.store.now c.find_entry.new.store = looks_again S g.met.S.Stable.clocked c.in-Ok-Some.ensures.looked c.in-Ok-None-find_entry.ensures.looked in
    answered_looking S (Lookup c.args.dir c.args.name.now) c.args.cred.now c.args.now (reply.Refused stat.Noent) c.args.store.now c.find_entry.new.store looked tt
    (λ files. lookup_idle files c.args.dir c.args.name.now c.args.cred.now)
    (λ tells strong.
    let is : IsFile old c.args.dir c.in-Ok-Some.found = subst (λ (o : Option Found). Finds old c.args.dir o) c.in-Ok-Some.field-0-is (c.in-Ok-Some.ensures.found tells strong) in
    let accepted : lookup_refusal_by n c.args.name.now ≡ None = sym c.lookup_refusal_of.ensures ∙ none_of c.lookup_refusal_of.result c.in_default.not-Some in
    let body : HasBody old n = found_body old strong c.args.dir c.args.name.now c.args.cred.now c.args.now c.in-Ok-Some.found is accepted in
    let none : FindsName (S.image c.find.new.store) n c.args.name.now None =
    subst (λ (o : Option NamedSlot). FindsName (S.image c.find.new.store) n c.args.name.now o) c.in-Ok-None-find_entry.field-0-is (c.in-Ok-None-find_entry.ensures.found tells (subst (λ (x : Image). HasBody x n) (sym first) body)) in
    lookup_none old strong c.args.dir c.args.name.now c.args.cred.now c.args.now c.in-Ok-Some.found is accepted (subst (λ (x : Image). FindsName x n c.args.name.now None) first none))

pub returns-in-Some-search_refusal_of-clause-applied : goal.returns-in-Some-search_refusal_of-clause-applied
returns-in-Some-search_refusal_of-clause-applied g c =
    let S = g.S.Stable in
    let old : Image = S.image c.args.store.now in
    let n : Inode = c.in-Ok-Some.found.inode in
    let first : S.image c.find.new.store ≡ old = c.in-Ok-Some.ensures.looked.image in
    let looked : Looked S c.args.store.now c.find_entry.new.store = looks_again S g.met.S.Stable.clocked c.in-Ok-Some.ensures.looked c.in-Ok-Some-find_entry.ensures.looked in
    answered_looking S (Lookup c.args.dir c.args.name.now) c.args.cred.now c.args.now (reply.Refused c.in-Some-search_refusal_of.why) c.args.store.now c.find_entry.new.store looked tt
    (λ files. lookup_idle files c.args.dir c.args.name.now c.args.cred.now)
    (λ tells strong.
    let is : IsFile old c.args.dir c.in-Ok-Some.found = subst (λ (o : Option Found). Finds old c.args.dir o) c.in-Ok-Some.field-0-is (c.in-Ok-Some.ensures.found tells strong) in
    let accepted : lookup_refusal_by n c.args.name.now ≡ None = sym c.lookup_refusal_of.ensures ∙ none_of c.lookup_refusal_of.result c.in_default.not-Some in
    let body : HasBody old n = found_body old strong c.args.dir c.args.name.now c.args.cred.now c.args.now c.in-Ok-Some.found is accepted in
    let named : IsNamedSlot (S.image c.find.new.store) n c.args.name.now c.in-Ok-Some-find_entry.entry =
    subst (λ (o : Option NamedSlot). FindsName (S.image c.find.new.store) n c.args.name.now o) c.in-Ok-Some-find_entry.field-0-is (c.in-Ok-Some-find_entry.ensures.found tells (subst (λ (x : Image). HasBody x n) (sym first) body)) in
    lookup_unsearched old strong c.args.dir c.args.name.now c.args.cred.now c.args.now c.in-Ok-Some.found is accepted c.in-Ok-Some-find_entry.entry
    (subst (λ (x : Image). IsNamedSlot x n c.args.name.now c.in-Ok-Some-find_entry.entry) first named) c.in-Some-search_refusal_of.why (sym c.in-Some-search_refusal_of.ensures))

pub returns-in-Ok-Some-read_inode-clause-applied : goal.returns-in-Ok-Some-read_inode-clause-applied
returns-in-Ok-Some-read_inode-clause-applied g c =
    let S = g.S.Stable in
    let old : Image = S.image c.args.store.now in
    let n : Inode = c.in-Ok-Some.found.inode in
    let entry : NamedSlot = c.in-Ok-Some-find_entry.entry in
    let first : S.image c.find.new.store ≡ old = c.in-Ok-Some.ensures.looked.image in
    let second : S.image c.find_entry.new.store ≡ old = c.in-Ok-Some-find_entry.ensures.looked.image ∙ first in
    let looked : Looked S c.args.store.now c.read_inode.new.store =
    looks_again S g.met.S.Stable.clocked (looks_again S g.met.S.Stable.clocked c.in-Ok-Some.ensures.looked c.in-Ok-Some-find_entry.ensures.looked) c.in-Ok-Some-read_inode.ensures.looked in
    let inode : Inode = c.in-Ok-Some-read_inode.inode in
    answered_looking S (Lookup c.args.dir c.args.name.now) c.args.cred.now c.args.now (reply.Handle (record { ino = entry.ino; generation = inode.generation }) c.attributes_of-attr.result) c.args.store.now c.read_inode.new.store looked tt
    (λ files. lookup_idle files c.args.dir c.args.name.now c.args.cred.now)
    (λ tells strong.
    let is : IsFile old c.args.dir c.in-Ok-Some.found = subst (λ (o : Option Found). Finds old c.args.dir o) c.in-Ok-Some.field-0-is (c.in-Ok-Some.ensures.found tells strong) in
    let accepted : lookup_refusal_by n c.args.name.now ≡ None = sym c.lookup_refusal_of.ensures ∙ none_of c.lookup_refusal_of.result c.in_default.not-Some in
    let body : HasBody old n = found_body old strong c.args.dir c.args.name.now c.args.cred.now c.args.now c.in-Ok-Some.found is accepted in
    let read : IsNamedSlot (S.image c.find.new.store) n c.args.name.now entry =
    subst (λ (o : Option NamedSlot). FindsName (S.image c.find.new.store) n c.args.name.now o) c.in-Ok-Some-find_entry.field-0-is (c.in-Ok-Some-find_entry.ensures.found tells (subst (λ (x : Image). HasBody x n) (sym first) body)) in
    let named : IsNamedSlot old n c.args.name.now entry = subst (λ (x : Image). IsNamedSlot x n c.args.name.now entry) first read in
    let weak : IsWeak (frame (S.image c.find_entry.new.store)) = subst (λ (x : Image). IsWeak (frame x)) (sym second) strong.weak in
    let there : is_inode (S.image c.find_entry.new.store) entry.ino ≡ true =
    subst (λ (x : Image). is_inode x entry.ino ≡ true) (sym second) (inode_named old strong c.args.dir c.args.name.now c.args.cred.now c.args.now c.in-Ok-Some.found is accepted entry named) in
    let same : Some inode ≡ Some (inode_at (S.image c.find_entry.new.store) entry.ino) = sym c.in-Ok-Some-read_inode.field-0-is ∙ c.in-Ok-Some-read_inode.ensures.inode tells weak there in
    let at : inode ≡ inode_at (S.image c.find_entry.new.store) entry.ino = cc in
    let allowed : search_refusal_by c.args.dir.ino n c.args.cred.now ≡ None = sym c.search_refusal_of.ensures ∙ none_of c.search_refusal_of.result c.in_default-search_refusal_of.not-Some in
    ap (λ (a : Attr). reply.Handle (record { ino = entry.ino; generation = inode.generation }) a) c.attributes_of-attr.ensures
    ∙ lookup_found old strong c.args.dir c.args.name.now c.args.cred.now c.args.now c.in-Ok-Some.found is accepted entry named allowed inode (at ∙ ap (λ (x : Image). inode_at x entry.ino) second))

pub returns-in-Ok-None-read_inode-clause-applied : goal.returns-in-Ok-None-read_inode-clause-applied
returns-in-Ok-None-read_inode-clause-applied g c =
    let S = g.S.Stable in
    let old : Image = S.image c.args.store.now in
    let n : Inode = c.in-Ok-Some.found.inode in
    let entry : NamedSlot = c.in-Ok-Some-find_entry.entry in
    let first : S.image c.find.new.store ≡ old = c.in-Ok-Some.ensures.looked.image in
    let second : S.image c.find_entry.new.store ≡ old = c.in-Ok-Some-find_entry.ensures.looked.image ∙ first in
    let looked : Looked S c.args.store.now c.read_inode.new.store =
    looks_again S g.met.S.Stable.clocked (looks_again S g.met.S.Stable.clocked c.in-Ok-Some.ensures.looked c.in-Ok-Some-find_entry.ensures.looked) c.in-Ok-None-read_inode.ensures.looked in
    answered_looking S (Lookup c.args.dir c.args.name.now) c.args.cred.now c.args.now (reply.Refused stat.Noent) c.args.store.now c.read_inode.new.store looked tt
    (λ files. lookup_idle files c.args.dir c.args.name.now c.args.cred.now)
    (λ tells strong.
    let is : IsFile old c.args.dir c.in-Ok-Some.found = subst (λ (o : Option Found). Finds old c.args.dir o) c.in-Ok-Some.field-0-is (c.in-Ok-Some.ensures.found tells strong) in
    let accepted : lookup_refusal_by n c.args.name.now ≡ None = sym c.lookup_refusal_of.ensures ∙ none_of c.lookup_refusal_of.result c.in_default.not-Some in
    let body : HasBody old n = found_body old strong c.args.dir c.args.name.now c.args.cred.now c.args.now c.in-Ok-Some.found is accepted in
    let read : IsNamedSlot (S.image c.find.new.store) n c.args.name.now entry =
    subst (λ (o : Option NamedSlot). FindsName (S.image c.find.new.store) n c.args.name.now o) c.in-Ok-Some-find_entry.field-0-is (c.in-Ok-Some-find_entry.ensures.found tells (subst (λ (x : Image). HasBody x n) (sym first) body)) in
    let named : IsNamedSlot old n c.args.name.now entry = subst (λ (x : Image). IsNamedSlot x n c.args.name.now entry) first read in
    let weak : IsWeak (frame (S.image c.find_entry.new.store)) = subst (λ (x : Image). IsWeak (frame x)) (sym second) strong.weak in
    let there : is_inode (S.image c.find_entry.new.store) entry.ino ≡ true =
    subst (λ (x : Image). is_inode x entry.ino ≡ true) (sym second) (inode_named old strong c.args.dir c.args.name.now c.args.cred.now c.args.now c.in-Ok-Some.found is accepted entry named) in
    let clash : None ≡ Some (inode_at (S.image c.find_entry.new.store) entry.ino) = sym c.in-Ok-None-read_inode.field-0-is ∙ c.in-Ok-None-read_inode.ensures.inode tells weak there in
    absurd (cc))

pub returns-in-Err-read_inode-clause-applied : goal.returns-in-Err-read_inode-clause-applied
returns-in-Err-read_inode-clause-applied g c =
    let S = g.S.Stable in
    let before = c.in-Ok-Some.ensures.looked.later in
    let later = c.in-Ok-Some-find_entry.ensures.looked.later in
    let looked : Looked S c.args.store.now c.read_inode.new.store =
    looks_again S g.met.S.Stable.clocked (looks_again S g.met.S.Stable.clocked c.in-Ok-Some.ensures.looked c.in-Ok-Some-find_entry.ensures.looked) c.in-Err-read_inode.ensures.looked in
    let cause = c.in-Err-read_inode.ensures.cause.failed in
    failed_looking S (Lookup c.args.dir c.args.name.now) c.args.cred.now c.args.now c.args.store.now c.read_inode.new.store looked (omega (arith, before, later, cause))
