use Rattle.std.proofs.Common.{rules, arith, ◌≡◌, ◌<◌, ◌≤◌, ◌+◌, ◌*◌, ◌/◌, ◌++◌, ◌∙◌, ℕ, min, map, length, sym, ap}
use Rattle.std.specs.List.{range_with_len}
use Rattle.std.proofs.lemmas.List.{get_or_read}
use Rattle.stable.specs.Store.{Image}
use Rattle.stable.proofs.Looking.{looks_again}
use Rattle.v7_map.proofs.Whole.{as_long}
use Rattle.v7_map.specs.Image.{sector_at}
use Rattle.v7_damage.specs.Slots.{seen_slot}
use Rattle.v7_damage.specs.Stored.{slot_in_sector, body_slots}
use Rattle.v7_damage.specs.Tables.{block_by, count_kept}
use Rattle.v7_damage.proofs.SlotSectors.{body_more, body_none}
use Rattle.v7_damage.proofs.ReadSlots.{near, slots_seen}
use Rattle.v7_damage.proofs.slots.read_directory.Goals as goal

pub loop-index-init : goal.loop-index-init
loop-index-init g c = record {
  slots = λ tells can. c.clear.ensures.items ∙ body_none (g.S.Stable.image c.args.store.now) (block_by c.args.bodies.now c.in_ok-sectors.sectors) (min (32 * 0) c.index.result.now) (omega arith);
  looked = c.in_ok-sectors.ensures.looked;
}

pub loop-index-preserved : goal.loop-index-preserved
loop-index-preserved g c =
    let S = g.S.Stable in
    let i = c.loop-index.invariant in
    let image : Image = S.image c.args.store.now in
    let s : ℕ = c.loop-index.index in
    let count : ℕ = c.index.result.now in
    let kept : count ≡ count_kept c.args.bodies.now c.args.ino = get_or_read c.args.bodies.now.slots.items c.args.ino _ c.requires.counts c.index.ensures 0 in
    let below : s < (count + 31) / 32 = search rules in
    record {
      slots = λ tells can.
          let size = (as_long S.sector_count g.met.S.Stable.clocked g.met.S.Stable.shape c.args.store.now tells).size in
          let at : ℕ → ℕ = block_by c.args.bodies.now c.in_ok-sectors.sectors in
          let reach = near image c.args.bodies.now c.args.ino can c.in_ok-sectors.sectors (c.in_ok-sectors.ensures.sectors tells can) s (omega arith) in
          let block : c.block_of-block.result ≡ at s = c.block_of-block.ensures reach.0 in
          let within : at s < length image = reach.1 in
          let sectors = i.looked.sectors in
          let stands : c.block_of-block.result < S.sector_count c.loop-index.store = omega (arith, within, block, sectors, size) in
          let bytes : c.in_ok-bytes.bytes ≡ sector_at image (at s) = c.in_ok-bytes.ensures.done tells stands ∙ (λ z. sector_at (i.looked.image z) (block z)) in
          c.in_ok-add_slots.ensures ∙ (λ z. i.slots tells can z ++ map (slot_in_sector c.in_ok-bytes.bytes) (range_with_len 0 c.min.result))
          ∙ sym (body_more image at c.in_ok-bytes.bytes s count c.min.result bytes (omega arith) c.min.ensures);
      looked = looks_again S g.met.S.Stable.clocked i.looked c.in_ok-bytes.ensures.looked;
    }

pub returns-clause-slots : goal.returns-clause-slots
returns-clause-slots g c = λ tells can.
    let image : Image = g.S.Stable.image c.args.store.now in
    let count : ℕ = c.index.result.now in
    let kept : count ≡ count_kept c.args.bodies.now c.args.ino = get_or_read c.args.bodies.now.slots.items c.args.ino _ c.requires.counts c.index.ensures 0 in
    let above : (count + 31) / 32 ≤ c.loop-index.index = search rules in
    let all : min (32 * c.loop-index.index) count ≡ count_kept c.args.bodies.now c.args.ino = omega arith in
    ap (map seen_slot) (c.loop-index.invariant.slots tells can ∙ ap (body_slots image (block_by c.args.bodies.now c.in_ok-sectors.sectors)) all)
    ∙ slots_seen image c.args.bodies.now c.args.ino can c.in_ok-sectors.sectors (c.in_ok-sectors.ensures.sectors tells can)
