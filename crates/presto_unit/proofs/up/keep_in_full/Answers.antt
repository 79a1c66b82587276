use Rattle.std.proofs.Common.{◌≢◌, arith, refl, inl, sym, ◌∙◌, ap, subst, set, rules, ℕ, List, None}
use Rattle.stable.proofs.Clocked.{weaker, ends}
use Rattle.presto_cache.specs.Slots.{place_in}
use Rattle.presto_cache.specs.declared.slot.Slot.{Slot}
use Rattle.presto_cache.proofs.Runs.{on_ok}
use Rattle.presto_unit.specs.Disk.{FlushesOne}
use Rattle.presto_unit.specs.Flushing.{oldest_sector}
use Rattle.presto_cache.specs.Cache.{entries_of}
use Rattle.presto_unit.proofs.Disk.{kept_with_room}
use Rattle.presto_unit.proofs.Room.{full_oldest, room_after, sector_of_oldest, sent_few}
use Rattle.presto_unit.proofs.Runs.{puts_on}
use Rattle.presto_unit.proofs.up.keep_in_full.Goals as goal

pub unreachable-requires : goal.unreachable-requires
unreachable-requires g c =
    let law = g.met.R.Rig in
    let some = (law.board c.args.rig.now).some_buffers c.requires.board in
    full_oldest c.args.cache.now c.args.sector (omega (arith, some, c.requires.knows.suits.buffers)) c.requires.full (sym c.oldest.ensures.oldest ∙ c.in-None.is)

pub returns-in_err-flush_oldest-in-Some-clause-kept : goal.returns-in_err-flush_oldest-in-Some-clause-kept
returns-in_err-flush_oldest-in-Some-clause-kept g c =
    let few = sent_few c.args.cache.now c.flush_oldest.new.cache c.in-Some.index c.flush_oldest.result c.in-Some.ensures.dirty.0 c.in-Some.ensures.dirty.1 (sym c.oldest.ensures.oldest ∙ c.in-Some.is) c.flush_oldest.ensures.tried in
    record { knows = c.flush_oldest.ensures.knows; done = search rules; few = omega (arith, few); device = search rules }

pub returns-in_err-flush_oldest-in-Some-clause-crash : goal.returns-in_err-flush_oldest-in-Some-clause-crash
returns-in_err-flush_oldest-in-Some-clause-crash g c =
    let cache = c.args.cache.now in
    let o = oldest_sector (entries_of cache) in
    weaker (subst (λ (n : ℕ). FlushesOne g.R.Rig n c.args.rig.now c.flush_oldest.new.rig) (sector_of_oldest cache c.in-Some.index (sym c.oldest.ensures.oldest ∙ c.in-Some.is)) c.flush_oldest.ensures.crash)
    (λ d left kept. kept_with_room o kept)

pub keep_now-requires-clause-room : goal.keep_now-requires-clause-room
keep_now-requires-clause-room g c =
    let slots = c.args.cache.now.slots.items in
    subst (λ (l : List Slot). place_in l c.args.sector ≢ None) (sym c.in_ok-flush_oldest-in-Some.ensures.tried.slots) (room_after slots c.args.sector c.in-Some.index c.in-Some.ensures.dirty.0)

pub returns-clause-kept : goal.returns-clause-kept
returns-clause-kept g c =
    let law = g.met.R.Rig in
    let slots = c.args.cache.now.slots.items in
    let oldest = sym c.oldest.ensures.oldest ∙ c.in-Some.is in
    let sent = c.in_ok-flush_oldest-in-Some.ensures.tried in
    let room : place_in c.flush_oldest.new.cache.slots.items c.args.sector ≢ None = subst (λ (l : List Slot). place_in l c.args.sector ≢ None) (sym sent.slots) (room_after slots c.args.sector c.in-Some.index c.in-Some.ensures.dirty.0) in
    let few = sent_few c.args.cache.now c.flush_oldest.new.cache c.in-Some.index c.flush_oldest.result c.in-Some.ensures.dirty.0 c.in-Some.ensures.dirty.1 oldest c.flush_oldest.ensures.tried in
    let kept = c.keep_now.ensures.kept in
    record {
      knows = kept.knows;
      done = on_ok (λ done. record {
        put = record {
          kept = λ place. absurd (place c.requires.full);
          full = λ _. record { index = c.in-Some.index; mid = c.flush_oldest.new.cache; oldest = oldest; sent = sent; kept = done.put.kept room };
        };
        stands = done.stands;
        sure = done.sure;
        image = λ tells. done.image tells ∙ ap (λ (l : List (List ℕ)). set l c.args.sector c.args.bytes.now) ((ends law.clocked c.flush_oldest.ensures.crash tells).keeps.image _ (inl refl));
      })
          c.keep_now.result kept.done;
      few = omega (arith, few, kept.few);
      device = search rules;
    }

pub returns-clause-crash : goal.returns-clause-crash
returns-clause-crash g c =
    let law = g.met.R.Rig in
    let cache = c.args.cache.now in
    let o = oldest_sector (entries_of cache) in
    puts_on g.R.Rig law.clocked c.args.sector o c.args.bytes.now c.flush_oldest.ensures.stays.sizes
    (weaker (subst (λ (n : ℕ). FlushesOne g.R.Rig n c.args.rig.now c.flush_oldest.new.rig) (sector_of_oldest cache c.in-Some.index (sym c.oldest.ensures.oldest ∙ c.in-Some.is)) c.flush_oldest.ensures.crash)
    (λ d left kept. kept_with_room o kept))
    (c.keep_now.ensures.crash o)
