use Rattle.std.proofs.Common.{arith, ◌≡◌, ◌<◌, ◌≤◌, ◌∷◌, [], ◌++◌, ◌∙◌, List, length, refl, sym, ap, subst, append_assoc, append-nil}
use Rattle.std.proofs.lemmas.List.{length-append}
use Rattle.std.specs.List.{AllByRecursion}
use Rattle.std.specs.Vec.Iter.{into_iter_items}
use Rattle.volume.specs.Rests.{Rests}
use Rattle.run_lines.specs.Overlays.{unit_store}
use Rattle.server_volumes.specs.Ends.{EndsAll}
use Rattle.server_volumes.specs.declared.stopping.Stopped.{Stopped}
use Rattle.server_volumes.proofs.Givens.{ends_none, ends_one, before_last, nothing_left}
use Rattle.server_volumes.proofs.Lists.{ends_length}
use Rattle.server_volumes.proofs.ending.stop_all.Goals as goal

pub loop-volume-init : goal.loop-volume-init
loop-volume-init g c = record {
  ends = subst (λ (all : List Stopped). EndsAll g.H.Host g.H.Say g.H.R.Rig c.args.host.now c.args.host.now [] all) (sym c.new-all.ensures) (ends_none g.H.Host g.H.Say g.H.R.Rig c.args.host.now);
  rest = subst (AllByRecursion (Rests (unit_store g.H.R.Rig))) (sym c.into_iter-volume-iterator.ensures.into_iter_gives.0) c.requires.rest;
  whole = refl;
  left = (
      let counted = c.into_iter-volume-iterator.ensures.into_iter_gives.1 in
      let same = ap length c.into_iter-volume-iterator.ensures.into_iter_gives.0 in
      let whole = c.args.volumes.ok in
      omega (arith, counted, same, whole)
      );
}

pub push-requires : goal.push-requires
push-requires g c =
    let at = c.loop-volume in
    let x = c.in-Some.volume in
    let steps : into_iter_items at.volume-iterator ≡ x ∷ into_iter_items c.next.new.self = c.in-Some.ensures.steps.0 in
    let whole = at.invariant.whole ∙ c.into_iter-volume-iterator.ensures.into_iter_gives.0 in
    let before = before_last at.yielded (into_iter_items c.next.new.self) c.args.volumes.items x (rw (← steps) whole) in
    let same = ends_length g.H.R.Rig 0 at.yielded at.invariant.ends.backs at.all.items at.invariant.ends.each in
    let few = c.requires.few in
    omega (arith, before, same, few)

pub loop-volume-preserved : goal.loop-volume-preserved
loop-volume-preserved g c =
    let at = c.loop-volume in
    let x = c.in-Some.volume in
    let steps : into_iter_items at.volume-iterator ≡ x ∷ into_iter_items c.next.new.self = c.in-Some.ensures.steps.0 in
    let rests = subst (AllByRecursion (Rests (unit_store g.H.R.Rig))) steps at.invariant.rest in
    let gave = c.give_back_rig.ensures in
    let whole = at.invariant.whole ∙ c.into_iter-volume-iterator.ensures.into_iter_gives.0 in
    let before = before_last at.yielded (into_iter_items c.next.new.self) c.args.volumes.items x (rw (← steps) whole) in
    let some : 0 < g.H.Host.rigs_out at.host = (let out = c.requires.out in let left = at.invariant.ends.out in omega (arith, before, out, left)) in
    record {
      ends = subst (λ (all : List Stopped). EndsAll g.H.Host g.H.Say g.H.R.Rig c.args.host.now c.give_back_rig.new.self (at.yielded ++ x ∷ []) all) (sym c.push.ensures.items)
          (ends_one g.H.Host g.H.Say g.H.R.Rig at.yielded at.all.items x c.stop_rig-rig.result.0 c.stop_rig-rig.result.1 c.len.result (c.len.ensures.value ∙ ends_length g.H.R.Rig 0 at.yielded at.invariant.ends.backs at.all.items at.invariant.ends.each) some at.invariant.ends c.stop_rig-rig.ensures
          gave.back gave.posts gave.lines gave.faults);
      rest = rests.1;
      whole = append_assoc at.yielded (x ∷ []) _ ∙ rw (← steps) at.invariant.whole;
      left = (
          let was = at.invariant.left in
          let gone = c.in-Some.ensures.steps.1 in
          let short = ap length steps in
          omega arith
          );
    }

pub returns : goal.returns
returns g c =
    let at = c.loop-volume in
    let none = c.in-None.ensures.steps in
    let empty : into_iter_items at.volume-iterator ≡ [] = nothing_left _ (sym at.invariant.left ∙ none.0) in
    let all = sym (append-nil at.yielded) ∙ rw empty at at.invariant.whole ∙ c.into_iter-volume-iterator.ensures.into_iter_gives.0 in
    subst (λ l. EndsAll g.H.Host g.H.Say g.H.R.Rig c.args.host.now at.host l at.all.items) all at.invariant.ends
