use Rattle.std.proofs.Common.{rules, [], ◌∷◌, subst, Option, None, ap, ◌∙◌}
use Rattle.files_model.specs.declared.call.Call.TheVariants.{Getattr}
use Rattle.files_model.specs.declared.attributes.Attr.{Attr}
use Rattle.files_model.specs.declared.reply.Reply.TheVariants as reply
use Rattle.files_model.specs.declared.reply.Stat.TheVariants as stat
use Rattle.stable.proofs.Clocked.{weaker}
use Rattle.v7_map.specs.View.{view}
use Rattle.v7_read.specs.declared.found.Found.{Found}
use Rattle.v7_read.specs.Found.{Finds, IsFile}
use Rattle.volume.proofs.Applying.{torn_same, done_same, done_refused}
use Rattle.volume.proofs.Reading.{getattr-idle, getattr_stale, getattr_found}
use Rattle.volume.proofs.getattr.getattr.Goals as goal

pub returns-in-Ok-Some-clause-applied : goal.returns-in-Ok-Some-clause-applied
returns-in-Ok-Some-clause-applied g c =
    let S = g.S.Stable in
    let old = S.image c.args.store.now in
    record {
      leaves = λ tells strong.
          let found : IsFile old c.args.file c.in-Ok-Some.found = subst (λ (o : Option Found). Finds old c.args.file o) c.in-Ok-Some.field-0-is (c.in-Ok-Some.ensures.found tells strong) in
          done_same (Getattr c.args.file) c.args.cred.now c.args.now old (S.image c.find.new.store) (reply.Attr c.attributes_of.result) c.in-Ok-Some.ensures.looked.image strong
          (ap (λ (a : Attr). reply.Attr a) c.attributes_of.ensures ∙ getattr_found old strong c.args.file c.args.cred.now c.args.now c.in-Ok-Some.found found) (getattr-idle (view old) c.args.file);
      form = tt;
      cause = search rules;
      crash = weaker c.in-Ok-Some.ensures.looked.crash (λ i left is strong. torn_same ((Getattr c.args.file, c.args.cred.now) ∷ []) c.args.now old i is strong.weak);
    }

pub returns-in-Ok-None-clause-applied : goal.returns-in-Ok-None-clause-applied
returns-in-Ok-None-clause-applied g c =
    let S = g.S.Stable in
    let old = S.image c.args.store.now in
    record {
      leaves = λ tells strong.
          let found : Finds old c.args.file None = subst (λ (o : Option Found). Finds old c.args.file o) c.in-Ok-None.field-0-is (c.in-Ok-None.ensures.found tells strong) in
          done_refused (Getattr c.args.file) c.args.cred.now c.args.now old (S.image c.find.new.store) stat.Stale c.in-Ok-None.ensures.looked.image strong
          (getattr_stale old strong c.args.file c.args.cred.now c.args.now found);
      form = tt;
      cause = search rules;
      crash = weaker c.in-Ok-None.ensures.looked.crash (λ i left is strong. torn_same ((Getattr c.args.file, c.args.cred.now) ∷ []) c.args.now old i is strong.weak);
    }
