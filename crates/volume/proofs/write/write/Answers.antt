use Rattle.std.proofs.Common.{false, true, subst}
use Rattle.files_model.specs.declared.call.Call.{Call}
use Rattle.files_model.specs.declared.call.Call.TheVariants.{Write}
use Rattle.files_model.specs.declared.call.WriteItem.{WriteItem}
use Rattle.files_model.specs.declared.credential.Cred.{Cred}
use Rattle.volume.specs.declared.outcome.Outcome.TheVariants as outcome
use Rattle.volume.specs.Applied.{Applies}
use Rattle.volume.proofs.Committing.{one_failed}
use Rattle.volume.proofs.write.write.Goals as goal

pub returns-in-Io-clause-applied : goal.returns-in-Io-clause-applied
returns-in-Io-clause-applied g c =
    let S = g.S.Stable in
    let item : WriteItem = record { cred = c.copied-cred.result; offset = c.args.offset; bytes = c.in-Ok.bytes } in
    let made = one_failed S c.args.store.now c.make_batch.new.store c.args.file item c.args.now c.in-Io.ensures.committed in
    subst (λ (x : Call × Cred). Applies S c.args.store.now c.make_batch.new.store false true x.0 x.1 c.args.now outcome.Io)
    (λ z. (Write c.args.file c.args.offset (c.in-Ok.ensures z), c.copied-cred.ensures z)) made
