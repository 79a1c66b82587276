-- What is so of a volume from its opening to its end.
use Rattle.std.proofs.Common.{arith, ◌≡◌, ◌∙◌, ℕ, ◌^◌, ◌≤◌, Bool, true, false, List, [], refl, sym, subst}
use Rattle.stable.specs.Counts.{Rose, RoseBy}
use Rattle.stable.specs.Moments.{IsClocked}
use Rattle.stable.specs.declared.state.State.TheVariants.{Down}
use Rattle.rig.specs.Devices.{Devices, HasShape, IsBoard}
use Rattle.rig.specs.declared.rig.Rig.{Ghosts}
use Rattle.nvram_map.specs.Overlay.{NoEntry}
use Rattle.presto_unit.specs.Parts.{rig_of, state_of}
use Rattle.presto_unit.specs.declared.presto.Presto.{Presto}
use Rattle.volume.specs.Mounted.{store_of, is_hurt}
use Rattle.volume.specs.declared.mounted.Volume.{Volume}
use Rattle.run_lines.specs.Overlays.{unit_store}
use Rattle.nfs_worker.specs.Account.{Hold, Grew}
use Rattle.server_volumes.specs.Ends.{Ends, EndsOn, IsServed, IsUsed}
use Rattle.server_volumes.specs.Opens.{IsOpenOver}
use Rattle.server_volumes.specs.Starts.{Start}
use Rattle.server_volumes.specs.declared.opening.OpenOptions.{OpenOptions}
use Rattle.server_volumes.specs.declared.stopping.Stopped.{Stopped}
use Rattle.server_volumes.proofs.Founds.{found}
use Rattle.server_volumes.proofs.Overlays.{kept_opened}

module _ {R : Type 0} (r : Ghosts R) (clocked : IsClocked r.tells r.contents r.moment r.left_since)
    (shape : (rig : R) (t : ℕ) (d : Devices) → r.left_since rig t d → HasShape (r.sizes rig) d) (board : (rig : R) → IsBoard (r.sizes rig) (r.is_kept rig))
    (volume : Volume (Presto R r)) (unit' : Presto R r) (stopped : Stopped) (ends : EndsOn (unit_store r) volume unit' stopped)
    (few : (r.sizes (rig_of unit')).sectors ≤ 2 ^ 32) (bare : r.tells → state_of unit' ≡ Down → NoEntry (r.contents (rig_of unit'))) where
  -- however the volume came to be as it was stopped
  served : (options : OpenOptions) (times : ℕ) (rig : R) (first : Volume (Presto R r)) (start : Start) (holds : List Hold) → (over : IsOpenOver r options rig first start)
      → RoseBy 0 (r.faults (rig_of (store_of first))) (r.faults (rig_of (store_of volume)))
      → (is_hurt volume ≡ true → Rose (r.faults (rig_of (store_of first))) (r.faults (rig_of (store_of volume))))
      → RoseBy times ((unit_store r).snapshot_of (store_of first)).polls ((unit_store r).snapshot_of (store_of volume)).polls
      → Grew (unit_store r) over.opened.presto unit' holds → IsServed r options times rig (rig_of unit') start stopped holds
  served options times rig first start holds over later hurt polled grew =
      let on = over.on in
      let io = on.grows.io in
      let last = ends.grows.io in
      record {
        kept = kept_opened r clocked shape board options.accept_loss over.opened over.is unit' few holds grew;
        found = found r clocked options over.opened over.is unit' first start (store_of volume) (is_hurt volume) stopped on
            (omega (arith, io, later)) (λ is. let rose = hurt is in omega (arith, io, rose, last)) ends.stops bare;
        polled = (
            let none = over.is.starts.tally.polls in
            let begun = on.polls in
            let ended = ends.polls in
            let read = unit'.polled in
            omega (arith, none, begun, polled, ended, read)
            );
      }

  pub ends_over : Ends r volume (rig_of unit') stopped
  ends_over = record {
    used = λ options times rig first start holds over used.
        let io = used.grows.io in
        served options times rig first start holds over (omega (arith, io)) (λ is. used.hurt is over.on.sound) used.polled
        (ends.since over.opened.presto (store_of first) holds over.on.grows used.grows);
    unused = λ options rig start over.
        served options 0 rig volume start [] over (omega arith) (λ is. absurd (no_hurt is over.on.sound)) (omega arith) (ends.unused over.opened.presto over.on.grows);
  }
    where
      no_hurt : is_hurt volume ≡ true → is_hurt volume ≡ false → ⊥
      no_hurt is not = let e = sym is ∙ not in cc
