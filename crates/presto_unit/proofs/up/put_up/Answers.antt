use Rattle.std.proofs.Common.{◌≢◌, ap, set, List, ℕ, ◌∙◌, ⊎_elim, refl, sym, arith}
use Rattle.std.proofs.lemmas.List.{set-set}
use Rattle.stable.proofs.Clocked.{ends, weaker}
use Rattle.stable.specs.declared.state.State.TheVariants.{Up}
use Rattle.nvram_map.specs.Overlay.{overlay}
use Rattle.presto_cache.specs.Cache.{entries_of}
use Rattle.presto_cache.proofs.Puts.{now_put}
use Rattle.presto_cache.proofs.Runs.{on_ok}
use Rattle.presto_states.specs.Table.{after}
use Rattle.presto_states.specs.declared.table.Happening.{Happening}
use Rattle.presto_unit.specs.Flushing.{oldest_sector}
use Rattle.presto_unit.proofs.Disk.{room_unused}
use Rattle.presto_unit.proofs.Happenings.{failed_leaves}
use Rattle.presto_unit.proofs.Runs.{puts_on}
use Rattle.presto_unit.proofs.up.put_up.Goals as goal

pub returns-in-Err-clause-done : goal.returns-in-Err-clause-done
returns-in-Err-clause-done g c tells =
    let law = g.met.R.Rig in
    let old = overlay (g.R.Rig.contents c.args.rig.now) in
    on_ok
    (λ done. done.image tells ∙ ⊎_elim (λ same. ap (λ (l : List (List ℕ)). set l c.args.sector c.args.bytes.now) same) (λ new. ap (λ (l : List (List ℕ)). set l c.args.sector c.args.bytes.now) new ∙ set-set old c.args.sector c.args.bytes.now c.args.bytes.now)
    (now_put (ends law.clocked c.keep_up.ensures.crash tells).puts))
    c.put_through.result c.put_through.ensures.done

pub returns-in-Err-clause-few : goal.returns-in-Err-clause-few
returns-in-Err-clause-few g c = omega (arith, c.keep_up.ensures.kept.few, c.put_through.ensures.adds.count)

pub returns-in-Err-clause-goes : goal.returns-in-Err-clause-goes
returns-in-Err-clause-goes g c =
    let law = g.met.R.Rig in
    let r = g.R.Rig in
    let s = c.args.sector in
    let bytes = c.args.bytes.now in
    let o = oldest_sector (entries_of c.args.cache.now) in
    let old = overlay (r.contents c.args.rig.now) in
    let left : c.happen.new.self.state ≢ Up = λ up. failed_leaves c.args.track.now.state c.in-Err.cause c.in-Err.ensures.kept.device.failed.0 (sym (c.happen.ensures.state ∙ ap (λ (h : Happening). after c.args.track.now.state h) c.failing.ensures) ∙ up) in
    record {
      up = λ from to. absurd (left to);
      quiet = λ from to room. absurd (left to);
      stays = λ from none. absurd (none (omega (arith, c.in-Err.ensures.kept.device.failed.1, c.put_through.ensures.cause.later)));
      past = λ not. on_ok (λ done. record {
        stands = done.stands;
        free = done.free;
        image = λ tells. done.image tells ∙ ⊎_elim (λ same. ap (λ (l : List (List ℕ)). set l s bytes) same) (λ new. ap (λ (l : List (List ℕ)). set l s bytes) new ∙ set-set old s bytes bytes)
            (now_put (ends law.clocked c.keep_up.ensures.crash tells).puts);
      }) c.put_through.result c.put_through.ensures.done;
      adds = λ not. absurd (not refl);
      crash = puts_on r law.clocked s o bytes c.keep_up.ensures.stays.sizes c.keep_up.ensures.crash (weaker c.put_through.ensures.crash (λ d left put. room_unused o put));
      only = λ not. absurd (not refl);
    }
