use Rattle.std.proofs.Common.{rules, arith, ◌≡◌, ℕ, ◌+◌, ◌-◌, ◌*◌, ◌/◌, ◌<◌, ◌≤◌, min, Bool, true, false, sym, subst, ◌∙◌, ap}
use Rattle.stable.specs.Store.{Image}
use Rattle.stable.proofs.Looking.{looks_again}
use Rattle.v7_map.specs.Image.{sector_at}
use Rattle.v7_map.proofs.Whole.{as_long}
use Rattle.v7_layout.specs.declared.inode.Inode.{Inode}
use Rattle.v7_entries.specs.Bodies.{block_at}
use Rattle.v7_entries.specs.Hits.{HasUsed}
use Rattle.v7_entries.proofs.Directories.{at_sector, used_there, unused_more, any_false}
use Rattle.v7_entries.proofs.entries.has_entries.Goals as goal

pub returns-then-branch-clause-found : goal.returns-then-branch-clause-found
returns-then-branch-clause-found g c = λ tells has.
    let S = g.S.Stable in
    let image : Image = S.image c.args.store.now in
    let n : Inode = c.args.inode.now in
    let s : ℕ = c.loop-index.index in
    let few : ℕ = c.slots_from.result in
    let short = has.short in
    let below : s < (n.size / 16 + 31) / 32 = search rules in
    let is_few : few ≡ min (n.size / 16 - 32 * s) 32 = omega (arith, c.slots_from.ensures, c.count_slots-count.ensures, short) in
    let size = (as_long S.sector_count g.met.S.Stable.clocked g.met.S.Stable.shape c.args.store.now tells).size in
    sym (used_there image n has s few is_few
    (at_sector (λ bytes. HasUsed bytes (2 - 32 * s) few true) image (S.image c.loop-index.store) n c.in_ok-places.places s c.body_block-block.result (S.sector_count c.loop-index.store) has (c.in_ok-places.ensures.places tells)
    (omega arith) c.body_block-block.ensures c.loop-index.invariant.looked.image (c.loop-index.invariant.looked.sectors ∙ sym size)
    (λ some within. subst (λ (b : Bool). HasUsed (sector_at (S.image c.loop-index.store) c.body_block-block.result) (2 - 32 * s) few b) c.if-branch.true (subst (λ (m : ℕ). HasUsed (sector_at (S.image c.loop-index.store) c.body_block-block.result) m few c.in_ok-has_used.field-0) c.saturating_sub-from.ensures (c.in_ok-has_used.ensures.found tells some within)))))

pub loop-index-preserved : goal.loop-index-preserved
loop-index-preserved g c =
    let S = g.S.Stable in
    record {
      none = λ tells has.
          let image : Image = S.image c.args.store.now in
          let n : Inode = c.args.inode.now in
          let s : ℕ = c.loop-index.index in
          let few : ℕ = c.slots_from.result in
          let short = has.short in
          let below : s < (n.size / 16 + 31) / 32 = search rules in
          let is_few : few ≡ min (n.size / 16 - 32 * s) 32 = omega (arith, c.slots_from.ensures, c.count_slots-count.ensures, short) in
          let size = (as_long S.sector_count g.met.S.Stable.clocked g.met.S.Stable.shape c.args.store.now tells).size in
          unused_more image n has s few is_few (c.loop-index.invariant.none tells has)
          (at_sector (λ bytes. HasUsed bytes (2 - 32 * s) few false) image (S.image c.loop-index.store) n c.in_ok-places.places s c.body_block-block.result (S.sector_count c.loop-index.store) has (c.in_ok-places.ensures.places tells)
          (omega arith) c.body_block-block.ensures c.loop-index.invariant.looked.image (c.loop-index.invariant.looked.sectors ∙ sym size)
          (λ some within. subst (λ (b : Bool). HasUsed (sector_at (S.image c.loop-index.store) c.body_block-block.result) (2 - 32 * s) few b) c.if-branch.false (subst (λ (m : ℕ). HasUsed (sector_at (S.image c.loop-index.store) c.body_block-block.result) m few c.in_ok-has_used.field-0) c.saturating_sub-from.ensures (c.in_ok-has_used.ensures.found tells some within))));
      looked = looks_again S g.met.S.Stable.clocked c.loop-index.invariant.looked c.in_ok-has_used.ensures.looked;
    }

pub returns-clause-found : goal.returns-clause-found
returns-clause-found g c = λ tells has.
    let image : Image = g.S.Stable.image c.args.store.now in
    let short = has.short in
    let past : (c.args.inode.now.size / 16 + 31) / 32 ≤ c.loop-index.index = search rules in
    sym (any_false image c.args.inode.now has (λ k low lt. c.loop-index.invariant.none tells has k low (omega arith) lt))
