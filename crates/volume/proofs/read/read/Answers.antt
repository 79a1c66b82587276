use Rattle.std.proofs.Common.{rules, ℕ, length, List, [], ◌∷◌, subst, sym, Option, None, ap, ◌∙◌, ◌≡◌}
use Rattle.files_model.specs.declared.call.Call.{Call}
use Rattle.files_model.specs.declared.call.Call.TheVariants.{Read}
use Rattle.files_model.specs.declared.attributes.Attr.{Attr}
use Rattle.files_model.specs.declared.reply.Reply.TheVariants as reply
use Rattle.files_model.specs.declared.reply.Stat.TheVariants as stat
use Rattle.stable.specs.Store.{Image}
use Rattle.stable.proofs.Clocked.{weaker}
use Rattle.stable.proofs.Looking.{looks_again}
use Rattle.v7_map.specs.Frame.{frame}
use Rattle.v7_map.specs.Stored.{read_bytes}
use Rattle.v7_map.specs.Weak.{IsStrong}
use Rattle.v7_read.specs.declared.found.Found.{Found}
use Rattle.v7_read.specs.Found.{Finds, IsFile}
use Rattle.volume.proofs.Applying.{torn_same, done_refused, answered_looking}
use Rattle.volume.proofs.Reading.{read-idle, read_stale, read_refused, read_found}
use Rattle.volume.proofs.read.read.Goals as goal

pub returns-in-Ok-None-clause-applied : goal.returns-in-Ok-None-clause-applied
returns-in-Ok-None-clause-applied g c =
    let S = g.S.Stable in
    let old = S.image c.args.store.now in
    let call : Call = Read c.args.file c.args.offset c.args.count in
    record {
      leaves = λ tells strong.
          let found : Finds old c.args.file None = subst (λ (o : Option Found). Finds old c.args.file o) c.in-Ok-None.field-0-is (c.in-Ok-None.ensures.found tells strong) in
          done_refused call c.args.cred.now c.args.now old (S.image c.find.new.store) stat.Stale c.in-Ok-None.ensures.looked.image strong
          (read_stale old strong c.args.file c.args.cred.now c.args.now c.args.offset c.args.count found);
      form = tt;
      cause = search rules;
      crash = weaker c.in-Ok-None.ensures.looked.crash (λ i left is strong. torn_same ((call, c.args.cred.now) ∷ []) c.args.now old i is strong.weak);
    }

pub returns-in-Some-clause-applied : goal.returns-in-Some-clause-applied
returns-in-Some-clause-applied g c =
    let S = g.S.Stable in
    let old = S.image c.args.store.now in
    let call : Call = Read c.args.file c.args.offset c.args.count in
    record {
      leaves = λ tells strong.
          let found : IsFile old c.args.file c.in-Ok-Some.found = subst (λ (o : Option Found). Finds old c.args.file o) c.in-Ok-Some.field-0-is (c.in-Ok-Some.ensures.found tells strong) in
          done_refused call c.args.cred.now c.args.now old (S.image c.find.new.store) c.in-Some.status c.in-Ok-Some.ensures.looked.image strong
          (read_refused old strong c.args.file c.args.cred.now c.args.now c.args.offset c.args.count c.in-Ok-Some.found found c.in-Some.status (sym c.in-Some.ensures));
      form = tt;
      cause = search rules;
      crash = weaker c.in-Ok-Some.ensures.looked.crash (λ i left is strong. torn_same ((call, c.args.cred.now) ∷ []) c.args.now old i is strong.weak);
    }

pub returns-in-Ok-clause-applied : goal.returns-in-Ok-clause-applied
returns-in-Ok-clause-applied g c =
    let S = g.S.Stable in
    let old = S.image c.args.store.now in
    let found = c.in-Ok-Some.found in
    let bytes : List ℕ = c.new.result in
    let first : S.image c.find.new.store ≡ old = c.in-Ok-Some.ensures.looked.image in
    answered_looking S (Read c.args.file c.args.offset c.args.count) c.args.cred.now c.args.now (reply.Data c.attributes_of.result bytes) c.args.store.now c.read_content.new.store
    (looks_again S g.met.S.Stable.clocked c.in-Ok-Some.ensures.looked c.in-Ok.ensures.looked) (let same = ap length c.new.ensures in let few = c.in-Ok.ensures.few in let ok = c.in-Ok.bytes.ok in search rules)
    (λ files. read-idle files c.args.file c.args.offset c.args.count c.args.cred.now)
    (λ tells strong.
    let is : IsFile old c.args.file found = subst (λ (o : Option Found). Finds old c.args.file o) c.in-Ok-Some.field-0-is (c.in-Ok-Some.ensures.found tells strong) in
    let are : bytes ≡ read_bytes old found.inode c.args.offset c.args.count =
    c.new.ensures ∙ c.in-Ok.ensures.read tells (subst (λ (x : Image). IsStrong (frame x)) (sym first) strong) c.args.file (subst (λ (x : Image). IsFile x c.args.file found) (sym first) is)
    ∙ ap (λ (x : Image). read_bytes x found.inode c.args.offset c.args.count) first in
    ap (λ (a : Attr). reply.Data a bytes) c.attributes_of.ensures
    ∙ read_found old strong c.args.file c.args.cred.now c.args.now c.args.offset c.args.count found is (search rules) bytes are)
