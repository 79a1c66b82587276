-- A volume at rest, over one call after another.
use Rattle.std.proofs.Common.{arith, ◌≡◌, ◌∙◌, ◌≤◌, Bool, true, false, refl, sym, ap}
use Rattle.stable.specs.Counts.{Rose, RoseBy}
use Rattle.stable.specs.declared.store.Stable.{Ghosts}
use Rattle.volume.specs.Mounted.{store_of, is_hurt, SameButStore}
use Rattle.volume.specs.Rests.{Rests}
use Rattle.volume.specs.declared.mounted.Volume.{Volume}
use Rattle.nfs_worker.specs.Resting.{StaysAtRest}

module _ {S : Type 0} (s : Ghosts S) where
  -- nothing was done
  pub stays_so : (volume : Volume S) → Rests s volume → StaysAtRest s volume volume
  stays_so volume rest = record { rest = rest; hurt = λ hurt sound. let none = sym hurt ∙ sound in cc }

  -- its store was tended
  pub stays_tended : {a b : Volume S} → Rests s b → SameButStore a b → StaysAtRest s a b
  stays_tended {a} {b} rest kept = record { rest = rest; hurt = λ hurt sound. let same = ap (λ (v : Volume S). is_hurt v) kept in let none = sym hurt ∙ same ∙ sound in cc }

  -- its store was tended before
  pub stays_after : {a b c : Volume S} → SameButStore a b → s.faults (store_of a) ≤ s.faults (store_of b) → StaysAtRest s b c → StaysAtRest s a c
  stays_after {a} {b} {c} kept later q = record {
    rest = q.rest;
    hurt = λ hurt sound. let rose = q.hurt hurt (ap (λ (v : Volume S). is_hurt v) kept ∙ sound) in omega (arith, rose, later);
  }

  -- one call after another
  pub stays_both : {a b c : Volume S} → RoseBy 0 (s.faults (store_of a)) (s.faults (store_of b)) → RoseBy 0 (s.faults (store_of b)) (s.faults (store_of c))
      → StaysAtRest s a b → StaysAtRest s b c → StaysAtRest s a c
  stays_both {a} {b} {c} first then p q = record { rest = q.rest; hurt = λ hurt sound. case (is_hurt b) refl hurt sound }
    where
      case : (mid : Bool) → is_hurt b ≡ mid → is_hurt c ≡ true → is_hurt a ≡ false → Rose (s.faults (store_of a)) (s.faults (store_of c))
      case true e hurt sound = let rose = p.hurt e sound in omega (arith, rose, then)
      case false e hurt sound = let rose = q.hurt hurt e in omega (arith, rose, first)
