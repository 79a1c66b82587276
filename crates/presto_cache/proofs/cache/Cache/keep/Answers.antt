use Rattle.std.proofs.Common.{rules, ◌⊎◌, ◌≡◌, inl, inr, ⊎_elim, sym, subst, List, arith}
use Rattle.stable.proofs.Clocked.{started}
use Rattle.presto_cache.specs.Cache.{Becomes}
use Rattle.presto_cache.specs.Slots.{IsPlace, IsUnused, at}
use Rattle.presto_cache.specs.declared.slot.Slot.{Slot}
use Rattle.presto_cache.proofs.Known.{known_at}
use Rattle.presto_cache.proofs.Puts.{stay_step}
use Rattle.presto_cache.proofs.Filling.{doubt_for}
use Rattle.presto_cache.proofs.Keeping.{found, set_fits, told_fits}
use Rattle.presto_cache.proofs.Knowing.{stays}
use Rattle.presto_cache.proofs.cache.Cache.keep.Goals as goal

pub returns-in_default-clause-crash : goal.returns-in_default-clause-crash
returns-in_default-clause-crash g c =
    let law = g.met.R.Rig in
    started law.clocked _ _ (λ tells. stay_step (known_at g.R.Rig law.clocked law.shape law.kept_told law.board c.requires.knows tells) _ _)

pub fill-requires-clause-fill : goal.fill-requires-clause-fill
fill-requires-clause-fill g c =
    let is = found g.R.Rig c.requires.knows c.requires.sure c.requires.sector (omega arith) c.in-Some.ensures c.lowest_unused-buffer.ensures.lowest c.lowest_unused-buffer.ensures.in_range in
    let on_board = is.fill.on_board in
    record {
      place = subst (λ (l : List Slot). IsPlace l c.in-Some.index c.args.sector) (sym c.deref.ensures.value) is.fill.place;
      unused = subst (λ (l : List Slot). IsUnused l c.lowest_unused-buffer.result) (sym c.deref.ensures.value) is.fill.unused;
      on_board = search rules;
      on_disk = search rules;
      small = omega arith;
    }

pub know-requires-clause-slots : goal.know-requires-clause-slots
know-requires-clause-slots g c =
    let is = found g.R.Rig c.requires.knows c.requires.sure c.requires.sector (omega arith) c.in-Some.ensures c.lowest_unused-buffer.ensures.lowest c.lowest_unused-buffer.ensures.in_range in
    set_fits g.R.Rig c.requires.knows is.fill

pub know-requires-in-Err-clause-slots : goal.know-requires-in-Err-clause-slots
know-requires-in-Err-clause-slots g c =
    let is = found g.R.Rig c.requires.knows c.requires.sure c.requires.sector (omega arith) c.in-Some.ensures c.lowest_unused-buffer.ensures.lowest c.lowest_unused-buffer.ensures.in_range in
    told_fits g.R.Rig c.requires.knows is.fill c.in-Err.slot
    (subst (λ (l : List Slot). (c.in-Err.slot ≡ at l c.in-Some.index) ⊎ (c.in-Err.slot ≡ doubt_for l c.in-Some.index c.args.sector c.lowest_unused-buffer.result)) c.deref.ensures.value c.in-Err.ensures.failed)

pub returns-in-Err-clause-answers : goal.returns-in-Err-clause-answers
returns-in-Err-clause-answers g c =
    let self = c.args.self.now in
    let i = c.in-Some.index in
    let buffer = c.lowest_unused-buffer.result in
    let is = found g.R.Rig c.requires.knows c.requires.sure c.requires.sector (omega arith) c.in-Some.ensures c.lowest_unused-buffer.ensures.lowest c.lowest_unused-buffer.ensures.in_range in
    let told = subst (λ (l : List Slot). (c.in-Err.slot ≡ at l i) ⊎ (c.in-Err.slot ≡ doubt_for l i c.args.sector buffer)) c.deref.ensures.value c.in-Err.ensures.failed in
    record {
      says = record {
        cache = record {
          index = i;
          buffer = buffer;
          place = is.place;
          lowest = is.lowest;
          is = ⊎_elim
              (λ same. inl (stays self c.know-in-Err.new.self i c.in-Err.slot is.fill.place.in_range same c.know-in-Err.ensures.is))
              (λ doubt. inr (subst (λ (s : Slot). Becomes i s self c.know-in-Err.new.self) doubt c.know-in-Err.ensures.is)) told;
        };
        cause = search rules;
      };
      full = let place = is.place in search rules;
      disk = search rules;
    }
