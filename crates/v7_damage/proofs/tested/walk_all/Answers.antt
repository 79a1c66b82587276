use Rattle.std.proofs.Common.{ℕ, List, sym, subst}
use Rattle.stable.specs.Store.{Image}
use Rattle.v7_map.specs.Frame.{Frame, frame}
use Rattle.v7_damage.specs.Names.{AreTypes}
use Rattle.v7_damage.specs.Tallied.{HasTally}
use Rattle.v7_damage.specs.Walk.{CanWalk}
use Rattle.v7_damage.proofs.tested.walk_all.Goals as goal

pub returns-clause-tally : goal.returns-clause-tally
returns-clause-tally g c = λ tells are can was.
    let image : Image = g.S.Stable.image c.args.store.now in
    let f : Frame = frame image in
    subst (λ (l : List ℕ). HasTally f l c.walk.new.tally) c.deref.ensures.value
    (c.in_ok-found.ensures.tally tells (subst (λ (l : List ℕ). AreTypes f l) (sym c.deref.ensures.value) are) (subst (λ (l : List ℕ). CanWalk image l c.args.listed.now.bodies) (sym c.deref.ensures.value) can)
    (subst (λ (l : List ℕ). HasTally f l c.args.tally.now) (sym c.deref.ensures.value) was))
