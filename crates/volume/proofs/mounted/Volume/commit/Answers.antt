use Rattle.std.proofs.Common.{Bool, false, ap, sym, subst}
use Rattle.files_model.specs.Batch.{cost}
use Rattle.plan_file.specs.Planned.{plan_puts}
use Rattle.v7_map.specs.View.{view}
use Rattle.volume.specs.Committed.{Commits}
use Rattle.volume.specs.Rests.{RestsOn}
use Rattle.volume.proofs.Counting.{cost_then}
use Rattle.volume.proofs.Committing.{commits_then, cause_of}
use Rattle.volume.proofs.mounted.Volume.commit.Goals as goal

pub returns-clause-rest : goal.returns-clause-rest
returns-clause-rest g c =
    let made = c.make_batch-outcome in
    subst (λ (is : Bool). RestsOn g.S.Stable made.new.store is made.new.sets) (sym c.is_hurt_after-self.ensures) made.ensures.rest

pub returns-clause-committed : goal.returns-clause-committed
returns-clause-committed g c =
    let S = g.S.Stable in
    let made = c.make_batch-outcome in
    let mid = c.mend.new.self in
    let mended = c.in-Reply.ensures.mended in
    commits_then S g.met.S.Stable.clocked c.args.file c.args.batch.now c.args.now c.args.self.now.store mid.store made.new.store c.args.self.now.hurt c.is_hurt_after-self.result made.result mended.crash mended.cause
    (subst (λ (is : Bool). Commits S mid.store made.new.store false is c.args.file c.args.batch.now c.args.now made.result) (sym c.is_hurt_after-self.ensures) made.ensures.committed)

pub returns-clause-snapshot : goal.returns-clause-snapshot
returns-clause-snapshot g c =
    let S = g.S.Stable in
    let made = c.make_batch-outcome in
    let mid = c.mend.new.self in
    cost_then S c.args.self.now.store mid.store made.new.store c.args.self.now.hurt plan_puts (λ x. cost (view (S.image x)) c.args.file c.args.batch.now c.args.now)
    (λ sound. ap (λ v. v.store) (c.in-Reply.ensures.idle sound)) c.in-Reply.ensures.mended.cause (cause_of made.result _ _ made.ensures.committed.cause) c.in-Reply.ensures.snapshot made.ensures.snapshot
