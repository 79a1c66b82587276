use Rattle.std.proofs.Common.{arith, ◌≡◌, ◌<◌, ◌∙◌, ℕ, length, refl, subst}
use Rattle.std.proofs.lemmas.List.{length-set}
use Rattle.std.proofs.lemmas.Option.{slice_get_read}
use Rattle.volume.specs.Rests.{Rests}
use Rattle.nfs_worker.specs.Turns.{Tends}
use Rattle.nfs_worker.proofs.Places.{DoneTo, all_at, done_none, done_at, done_more, done_all}
use Rattle.nfs_worker.proofs.tending.tend_all.Goals as goal

pub loop-at-init : goal.loop-at-init
loop-at-init g c = record { done = done_none _ c.args.volumes.now.items; same = refl }

pub tend-requires : goal.tend-requires
tend-requires g c =
    let within : c.loop-at.at < length c.loop-at.volumes.items = let less = c.loop-at-test.true in let long = c.len-at-end.ensures in let same = c.loop-at.invariant.same in omega (arith, less, long, same) in
    let found = slice_get_read c.loop-at.volumes.items (length c.loop-at.volumes.items) c.loop-at.at c.index_mut.result.now refl within c.index_mut.ensures.value in
    record { rest = all_at (Rests g.S.Stable) c.args.volumes.now.items c.loop-at.at c.index_mut.result.now c.requires.rest (done_at _ c.loop-at.at c.args.volumes.now.items c.loop-at.volumes.items c.index_mut.result.now c.loop-at.invariant.done found) }

pub loop-at-preserved : goal.loop-at-preserved
loop-at-preserved g c =
    let within : c.loop-at.at < length c.loop-at.volumes.items = let less = c.loop-at-test.true in let long = c.len-at-end.ensures in let same = c.loop-at.invariant.same in omega (arith, less, long, same) in
    let found = slice_get_read c.loop-at.volumes.items (length c.loop-at.volumes.items) c.loop-at.at c.index_mut.result.now refl within c.index_mut.ensures.value in
    record {
      done = done_more _ c.loop-at.at c.args.volumes.now.items c.loop-at.volumes.items c.index_mut.result.now c.tend.new.volume c.loop-at.invariant.done found c.tend.ensures;
      same = length-set c.loop-at.volumes.items c.loop-at.at c.tend.new.volume ∙ c.loop-at.invariant.same;
    }

pub returns : goal.returns
returns g c =
    let whole : c.loop-at.at ≡ length c.args.volumes.now.items = let past = c.loop-at-test.false in let most = c.loop-at.auto.at-end in let long = c.len-at-end.ensures in omega (arith, past, most, long) in
    done_all _ c.args.volumes.now.items c.loop-at.volumes.items (subst (λ (n : ℕ). DoneTo (Tends g.S.Stable c.args.is_new_second) n c.args.volumes.now.items c.loop-at.volumes.items) whole c.loop-at.invariant.done)
