-- What is found on a rig, by what is found on its unit.
use Rattle.std.proofs.Common.{arith, ◌≡◌, Bool, false, subst}
use Rattle.stable.specs.Counts.{Rose}
use Rattle.stable.specs.Moments.{IsClocked}
use Rattle.stable.specs.Store.{Image}
use Rattle.stable.specs.declared.state.State.TheVariants.{Down}
use Rattle.rig.specs.declared.rig.Rig.{Ghosts}
use Rattle.nvram_map.specs.Overlay.{NoEntry}
use Rattle.presto_recover.specs.Opened.{IsOpened}
use Rattle.presto_recover.specs.declared.parts.Opened.{Opened}
use Rattle.presto_recover.proofs.Shown.{same_overlay}
use Rattle.presto_unit.specs.Parts.{rig_of, cache_of, state_of}
use Rattle.presto_unit.specs.Shown.{dirty_in}
use Rattle.presto_unit.specs.declared.presto.Presto.{Presto}
use Rattle.v7_damage.specs.Undamaged.{IsFaultOf}
use Rattle.v7_inspect.specs.SeenNumbers.{IsSeen}
use Rattle.run_lines.specs.Overlays.{overlay_of, unit_store}
use Rattle.volume_tool.specs.Checked.{Accepts, ChecksAs, ChecksStore}
use Rattle.volume_tool.specs.Course.{Course, Usage, Unfit, NoRig, NotMade, Made, NoUnit, NoVolume, Checked, NotStopped, Recovered}
use Rattle.volume_tool.specs.Recovered.{IsStoppedClean, RecoversAs, RecoversStore}

module _ {R : Type 0} (r : Ghosts R) (clocked : IsClocked r.tells r.contents r.moment r.left_since) (accepted : Bool) {rig : R} (opened : Opened R r) (is : IsOpened r accepted rig opened) (unit' : Presto R r) where
  abbrev back : R
  back = rig_of unit'

  as_found : r.tells → overlay_of r (rig_of opened.presto) ≡ overlay_of r rig
  as_found = same_overlay r clocked is.sizes is.crash

  risen : Rose (r.faults (rig_of opened.presto)) (r.faults back) → Rose (r.faults rig) (r.faults back)
  risen rose = let later = is.starts.flushed.later in omega (arith, later, rose)

  accepts : Accepts r accepted rig
  accepts = record { lost = opened.lost; accepted_as = is.accepted_as; loss = is.loss }

  pub recovers_as : (bare : r.tells → state_of unit' ≡ Down → NoEntry (r.contents back)) (course : Course) → RecoversStore (unit_store r) opened.recovered opened.presto unit' course → RecoversAs r accepted rig back course
  recovers_as bare (NoVolume fault) found = record {
    accepts = accepts;
    damage = λ tells. subst (λ (i : Image). IsFaultOf i fault) (as_found tells) (found.0 tells);
    failed = λ failed. risen (found.1 failed);
  }
  recovers_as bare NotStopped found = (accepts, risen found)
  recovers_as bare (Recovered recovered repaired) found = record {
    accepts = accepts;
    left = dirty_in (cache_of opened.presto);
    counted = λ tells.
        let had = found.0 in
        let counted = is.starts.recovered in
        let number = is.has_found.number tells in
        omega (arith, had, counted, number);
    volume = λ tells. subst (λ (i : Image). IsStoppedClean i (overlay_of r back) repaired) (as_found tells) (found.1 tells);
    bare = λ tells. bare tells found.2;
  }
  recovers_as bare Usage found = absurd found
  recovers_as bare (Unfit fault) found = absurd found
  recovers_as bare (NoRig word fault) found = absurd found
  recovers_as bare (NotMade fault) found = absurd found
  recovers_as bare (Made sectors inodes free) found = absurd found
  recovers_as bare (NoUnit fault) found = absurd found
  recovers_as bare (Checked seen) found = absurd found

-- nothing is accepted where a volume is inspected
module _ {R : Type 0} (r : Ghosts R) (clocked : IsClocked r.tells r.contents r.moment r.left_since) {rig : R} (opened : Opened R r) (is : IsOpened r false rig opened) (unit' : Presto R r) where
  pub checks_as : (course : Course) → ChecksStore (unit_store r) opened.presto unit' course → ChecksAs r rig (rig_of unit') course
  checks_as (NoVolume fault) found = record {
    accepts = accepts r clocked false opened is unit';
    damage = λ tells. subst (λ (i : Image). IsFaultOf i fault) (as_found r clocked false opened is unit' tells) (found.0 tells);
    failed = λ failed. risen r clocked false opened is unit' (found.1 failed);
  }
  checks_as (Checked seen) found = (accepts r clocked false opened is unit', λ tells. subst (λ (i : Image). IsSeen i seen) (as_found r clocked false opened is unit' tells) (found tells))
  checks_as Usage found = absurd found
  checks_as (Unfit fault) found = absurd found
  checks_as (NoRig word fault) found = absurd found
  checks_as (NotMade fault) found = absurd found
  checks_as (Made sectors inodes free) found = absurd found
  checks_as (NoUnit fault) found = absurd found
  checks_as NotStopped found = absurd found
  checks_as (Recovered recovered repaired) found = absurd found
