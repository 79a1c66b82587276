use Rattle.std.proofs.Common.{Bool, false, ap, sym, subst}
use Rattle.v7_map.specs.View.{view}
use Rattle.volume.specs.Applied.{Applies}
use Rattle.volume.specs.Costs.{call_cost, most_puts}
use Rattle.volume.specs.Rests.{RestsOn}
use Rattle.volume.proofs.Counting.{cost_then}
use Rattle.volume.proofs.Resting.{applies_then, cause_later}
use Rattle.volume.proofs.mounted.Volume.apply.Goals as goal

pub returns-clause-rest : goal.returns-clause-rest
returns-clause-rest g c =
    let made = c.make_call-outcome in
    subst (λ (is : Bool). RestsOn g.S.Stable made.new.store is made.new.sets) (sym c.is_hurt_by-self.ensures) made.ensures.rest

pub returns-clause-applied : goal.returns-clause-applied
returns-clause-applied g c =
    let S = g.S.Stable in
    let made = c.make_call-outcome in
    let mid = c.mend.new.self in
    let mended = c.in-Reply.ensures.mended in
    applies_then S g.met.S.Stable.clocked c.args.self.now.store mid.store made.new.store c.args.self.now.hurt c.is_hurt_by-self.result c.args.call.now c.args.cred.now c.args.now made.result mended.crash mended.cause
    (subst (λ (is : Bool). Applies S mid.store made.new.store false is c.args.call.now c.args.cred.now c.args.now made.result) (sym c.is_hurt_by-self.ensures) made.ensures.applied)

pub returns-clause-snapshot : goal.returns-clause-snapshot
returns-clause-snapshot g c =
    let S = g.S.Stable in
    let made = c.make_call-outcome in
    let mid = c.mend.new.self in
    cost_then S c.args.self.now.store mid.store made.new.store c.args.self.now.hurt (most_puts c.args.call.now) (λ x. call_cost (view (S.image x)) c.args.call.now c.args.cred.now c.args.now)
    (λ sound. ap (λ v. v.store) (c.in-Reply.ensures.idle sound)) c.in-Reply.ensures.mended.cause (cause_later made.result _ _ made.ensures.applied.cause) c.in-Reply.ensures.snapshot made.ensures.snapshot
