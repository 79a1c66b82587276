-- What is said of a rig whose unit was opened, by how the volume was started and stopped.
use Rattle.std.proofs.Common.{arith, ◌≡◌, ◌≢◌, ◌∙◌, ℕ, ◌+◌, ◌≤◌, Bool, true, false, List, [], Option, Some, None, IsSome, refl, sym, subst}
use Rattle.stable.specs.Counts.{Rose, RoseBy}
use Rattle.stable.specs.Moments.{IsClocked}
use Rattle.stable.specs.Store.{Image}
use Rattle.stable.specs.declared.state.Cause.{Cause}
use Rattle.stable.specs.declared.state.State.{State}
use Rattle.stable.specs.declared.state.State.TheVariants.{Up, Down}
use Rattle.rig.specs.declared.rig.Rig.{Ghosts}
use Rattle.nvram_map.specs.Overlay.{NoEntry}
use Rattle.presto_recover.specs.Boards.{IsAccepted, IsLoss}
use Rattle.presto_recover.specs.Opened.{IsOpened, starts_after}
use Rattle.presto_recover.specs.declared.parts.Opened.{Opened}
use Rattle.presto_recover.proofs.Shown.{same_overlay}
use Rattle.presto_unit.specs.Parts.{rig_of, cache_of, state_of}
use Rattle.presto_unit.specs.Shown.{dirty_in}
use Rattle.presto_unit.specs.declared.presto.Presto.{Presto}
use Rattle.v7_map.specs.Frame.{frame}
use Rattle.v7_map.specs.Weak.{IsWeak}
use Rattle.v7_damage.specs.Undamaged.{IsFaultOf}
use Rattle.v7_damage.specs.declared.damage.RepairFault.{RepairFault}
use Rattle.volume.specs.Opens.{name_in}
use Rattle.volume.specs.declared.mounted.Volume.{Volume}
use Rattle.nfs_worker.specs.Tending.{IsError}
use Rattle.run_lines.specs.Overlays.{overlay_of, unit_store}
use Rattle.server_volumes.specs.Kept.{IsFound, HasNone}
use Rattle.server_volumes.specs.Opens.{IsOpenOn, IsRefusedAs, recovery_of}
use Rattle.server_volumes.specs.Starts.{Start}
use Rattle.server_volumes.specs.Stopped.{StopsAs}
use Rattle.server_volumes.specs.declared.opening.OpenOptions.{OpenOptions}
use Rattle.server_volumes.specs.declared.stopping.Stopped.{Stopped}

starts_down : (first : Option Cause) (n : ℕ) → (IsSome first → 1 ≤ n) → n ≡ 0 → starts_after first ≡ Down
starts_down None n some none = refl
starts_down (Some why) n some none = let at = some refl in absurd (omega (arith, at, none))

starts_error : (first : Option Cause) (n : ℕ) → (first ≡ None → n ≡ 0) → 1 ≤ n → IsError (starts_after first)
starts_error None n none some = let zero_is = none refl in absurd (omega (arith, zero_is, some))
starts_error (Some why) n none some = tt

starts_not_up : (first : Option Cause) → starts_after first ≢ Up
starts_not_up None is = cc
starts_not_up (Some why) is = cc

module _ {R : Type 0} (r : Ghosts R) (clocked : IsClocked r.tells r.contents r.moment r.left_since) (options : OpenOptions) {rig : R} (opened : Opened R r) (is : IsOpened r options.accept_loss rig opened) (unit' : Presto R r) where
  same : r.tells → overlay_of r (rig_of opened.presto) ≡ overlay_of r rig
  same = same_overlay r clocked is.sizes is.crash

  risen : Rose (r.faults (rig_of opened.presto)) (r.faults (rig_of unit')) → Rose (r.faults rig) (r.faults (rig_of unit'))
  risen rose = let later = is.starts.flushed.later in omega (arith, later, rose)

  -- there is no volume on it
  pub none_found : (fault : RepairFault) → IsRefusedAs (unit_store r) opened.presto unit' fault → HasNone r options rig (rig_of unit') fault
  none_found fault refused = record {
    lost = opened.lost;
    accepted = is.accepted_as;
    damage = λ tells. subst (λ (i : Image). IsFaultOf i fault) (same tells) (refused.damage tells);
    same = λ tells not. refused.same tells not ∙ same tells;
    failed = λ failed. risen (refused.failed failed);
  }

  -- it was opened, started so, and stopped since it was as this last store
  pub found : (first : Volume (Presto R r)) (start : Start) (last : Presto R r) (hurt : Bool) (stopped : Stopped) → IsOpenOn (unit_store r) options.down (recovery_of opened) opened.presto first start
      → RoseBy 0 (r.faults (rig_of opened.presto)) (r.faults (rig_of last)) → (hurt ≡ true → Rose (r.faults (rig_of opened.presto)) (r.faults (rig_of unit')))
      → StopsAs (unit_store r) hurt last unit' stopped → (r.tells → state_of unit' ≡ Down → NoEntry (r.contents (rig_of unit'))) → IsFound r options rig (rig_of unit') start stopped
  found first start last hurt stopped on before was stops bare =
      let starts = is.starts in
      let not_up : state_of opened.presto ≢ Up = λ up. starts_not_up starts.first (sym starts.state ∙ up) in
      let state : start.opened ≡ starts_after starts.first = on.opened not_up ∙ starts.state in
      record {
        accepted = λ tells. subst (λ (b : Bool). IsAccepted (r.sizes rig) options.accept_loss (r.contents rig) b) (sym on.lost) (is.accepted_as tells);
        loss = subst (λ (b : Bool). IsLoss b (r.is_kept rig) options.accept_loss) (sym on.lost) is.loss;
        weak = λ tells. subst (λ (i : Image). IsWeak (frame i)) (same tells) (on.weak tells);
        named = λ tells. subst (λ (i : Image). start.name ≡ name_in i) (same tells) (on.named tells);
        left = dirty_in (cache_of opened.presto);
        counted = λ tells.
            let counted = starts.recovered in
            let number = is.has_found.number tells in
            let had = on.recovered in
            omega (arith, counted, number, had);
        opened_down = λ none. state ∙ starts_down starts.first (dirty_in (cache_of opened.presto)) starts.flushed.some none;
        opened_error = λ some. subst (λ (s : State). IsError s) (sym state) (starts_error starts.first (dirty_in (cache_of opened.presto)) starts.flushed.none some);
        started = on.started;
        down = stops.down;
        bare = λ tells down. bare tells (sym stops.state ∙ down);
        dirty = λ some. (stops.error some, risen (let rose = stops.left some in omega (arith, before, rose)));
        hurt = hurt;
        was_hurt = λ is_so. risen (was is_so);
        unwritten = λ unwritten. risen (let rose = stops.unwritten unwritten in omega (arith, before, rose));
        clean = stops.clean;
      }
