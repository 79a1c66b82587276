-- Why a unit isn't opened, told of an earlier rig; and what is accepted.
use Rattle.std.proofs.Common.{◌≡◌, ◌⊎◌, ◌≤◌, inl, inr, ℕ, Bool, ◌∙◌, sym, ap, subst, arith}
use Rattle.rig.specs.Devices.{Devices, Sizes}
use Rattle.rig.specs.declared.rig.Rig.{Ghosts}
use Rattle.nvram_map.specs.Overlay.{overlay}
use Rattle.nvram_map.specs.Words.{IsBoardOf}
use Rattle.presto_cache.specs.declared.cache.Cache.{Cache}
use Rattle.presto_unit.specs.Opening.{IsNamed, title_of}
use Rattle.presto_recover.specs.Opened.{StartsBy}
use Rattle.presto_recover.specs.Refused.{IsReason, IsBoardRefused, HasBoard, name_bytes}
use Rattle.presto_recover.specs.declared.fault.OpenFault.{OpenFault}
use Rattle.presto_recover.specs.declared.fault.OpenFault.TheVariants as fault
use Rattle.presto_recover.specs.declared.parts.Opened.{Opened}

module _ {R : Type 0} (r : Ghosts R) (accepted : Bool) {old mid : R} (new : R) (sizes : r.sizes mid ≡ r.sizes old) (kept : r.is_kept mid ≡ r.is_kept old) (contents : r.contents mid ≡ r.contents old) (later : r.faults old ≤ r.faults mid) where
  pub reason_before : (why : OpenFault) → IsReason r accepted mid new why → IsReason r accepted old new why
  reason_before (fault.NoSuper sectors) why = (why.0 ∙ ap (λ (z : Sizes). z.sectors) sizes, why.1)
  reason_before (fault.Board is) why = (
    subst HasBoard sizes why.0,
    subst (λ (z : Sizes). IsBoardRefused r.tells z (r.is_kept old) accepted (r.contents old) is) sizes
        (subst (λ (k : Bool). IsBoardRefused r.tells (r.sizes mid) k accepted (r.contents old) is) kept
        (subst (λ (d : Devices). IsBoardRefused r.tells (r.sizes mid) (r.is_kept mid) accepted d is) contents why.1)),
  )
  reason_before fault.Failed why = (subst (λ (z : Sizes). 2 ≤ z.sectors) sizes why.0, omega (arith, later, why.1))
  reason_before fault.NoMemory why = subst (λ (z : Sizes). 2 ≤ z.sectors) sizes why

-- the board is the volume's, with one name
pub named_by : (sizes : Sizes) (old mid : Devices) → mid ≡ old → (sizes.buffers ≡ 0) ⊎ IsBoardOf sizes (title_of old.disk) mid → name_bytes (overlay mid) ≡ name_bytes mid.disk → (sizes.buffers ≡ 0) ⊎ IsNamed sizes old
named_by sizes old mid same (inl none) title = inl none
named_by sizes old mid same (inr board) title = inr record {
  board = subst (λ (e : Devices). IsBoardOf sizes (title_of old.disk) e) same board;
  same = subst (λ (e : Devices). name_bytes (overlay e) ≡ name_bytes e.disk) same title;
}

-- the same of a board whose disk has not changed
pub board_moved : (sizes new : Sizes) (old mid : Devices) → new ≡ sizes → mid.disk ≡ old.disk → (sizes.buffers ≡ 0) ⊎ IsBoardOf sizes (title_of old.disk) mid → (new.buffers ≡ 0) ⊎ IsBoardOf new (title_of mid.disk) mid
board_moved sizes new old mid same disk (inl none) = inl (ap (λ (z : Sizes). z.buffers) same ∙ none)
board_moved sizes new old mid same disk (inr board) = inr (subst (λ (z : Sizes). IsBoardOf z (title_of mid.disk) mid) (sym same) (subst (λ (n : ℕ). IsBoardOf sizes n mid) (ap title_of (sym disk)) board))

-- more faults were counted since an earlier moment
pub starts_earlier : {R : Type 0} {r : Ghosts R} (earlier before : ℕ) (cache : Cache) (opened : Opened R r) → earlier ≤ before → StartsBy before cache opened → StartsBy earlier cache opened
starts_earlier earlier before cache opened le starts = record {
  first = starts.first;
  flushed = record {
    tried = starts.flushed.tried;
    none = starts.flushed.none;
    some = starts.flushed.some;
    device = starts.flushed.device;
    rose = omega (arith, le, starts.flushed.rose);
    later = omega (arith, le, starts.flushed.later);
  };
  recovered = starts.recovered;
  state = starts.state;
  tally = starts.tally;
  changes = starts.changes;
}
