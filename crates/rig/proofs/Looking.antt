-- Looks at a rig, one after the other.
use Rattle.std.proofs.Common.{refl, ◌∙◌, arith}
use Rattle.stable.specs.Moments.{IsClocked}
use Rattle.stable.proofs.Clocked.{started, idles}
use Rattle.rig.specs.Devices.{Unchanged}
use Rattle.rig.specs.Looked.{Looked, Stays, StaysOffDisk}
use Rattle.rig.specs.declared.rig.Rig.{Ghosts}

module _ {R : Type 0} (r : Ghosts R) (clocked : IsClocked r.tells r.contents r.moment r.left_since) where
  -- a look of nothing
  pub no_look : (rig : R) → Looked r rig rig
  no_look rig = record {
    contents = refl;
    crash = started clocked rig (Unchanged (r.contents rig)) (λ tells. refl);
    later = omega arith;
    sizes = refl;
    is_kept = refl;
    disk_writes = refl;
    readings = refl;
  }

  -- a look and a look
  pub looks_again : {old mid new : R} → Looked r old mid → Looked r mid new → Looked r old new
  looks_again first then_on = record {
    contents = then_on.contents ∙ first.contents;
    crash = idles clocked first.crash then_on.crash;
    later = omega (arith, first.later, then_on.later);
    sizes = then_on.sizes ∙ first.sizes;
    is_kept = then_on.is_kept ∙ first.is_kept;
    disk_writes = then_on.disk_writes ∙ first.disk_writes;
    readings = then_on.readings ∙ first.readings;
  }

module _ {R : Type 0} (r : Ghosts R) where
  -- what a look leaves alone
  pub looked_stays : {old new : R} → Looked r old new → StaysOffDisk r old new
  looked_stays looked = record { later = looked.later; sizes = looked.sizes; is_kept = looked.is_kept; disk_writes = looked.disk_writes; readings = looked.readings }

  -- what stays off the disk stays
  pub off_disk : {old new : R} → StaysOffDisk r old new → Stays r old new
  off_disk stays = record { later = stays.later; sizes = stays.sizes; is_kept = stays.is_kept; readings = stays.readings }

  pub stays_again : {old mid new : R} → Stays r old mid → Stays r mid new → Stays r old new
  stays_again first then_on = record {
    later = omega (arith, first.later, then_on.later);
    sizes = then_on.sizes ∙ first.sizes;
    is_kept = then_on.is_kept ∙ first.is_kept;
    readings = then_on.readings ∙ first.readings;
  }

  pub off_disk_again : {old mid new : R} → StaysOffDisk r old mid → StaysOffDisk r mid new → StaysOffDisk r old new
  off_disk_again first then_on = record {
    later = omega (arith, first.later, then_on.later);
    sizes = then_on.sizes ∙ first.sizes;
    is_kept = then_on.is_kept ∙ first.is_kept;
    disk_writes = then_on.disk_writes ∙ first.disk_writes;
    readings = then_on.readings ∙ first.readings;
  }
