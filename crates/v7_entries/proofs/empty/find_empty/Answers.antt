use Rattle.std.proofs.Common.{rules, arith, ◌≡◌, ◌≢◌, ℕ, ◌+◌, ◌-◌, ◌*◌, ◌/◌, ◌<◌, ◌≤◌, min, List, length, get_or, Option, Some, None, sym, ap, subst, ◌∙◌}
use Rattle.std.specs.Option.{is_none}
use Rattle.stable.specs.Store.{Image}
use Rattle.stable.proofs.Looking.{no_look, looks_again}
use Rattle.v7_map.specs.Image.{sector_at}
use Rattle.v7_map.proofs.Whole.{as_long}
use Rattle.v7_layout.specs.declared.inode.Inode.{Inode}
use Rattle.v7_entries.specs.Bodies.{block_at}
use Rattle.v7_entries.specs.Hits.{HitsIn}
use Rattle.v7_entries.specs.declared.sector.Hit.{Hit}
use Rattle.v7_entries.proofs.Directories.{at_sector, body_is, stands, first_at, number_there, sector_there, none_more, no_first, none_of}
use Rattle.v7_entries.proofs.empty.find_empty.Goals as goal

pub returns-in-Some-clause-found : goal.returns-in-Some-clause-found
returns-in-Some-clause-found g c = λ tells has.
    let S = g.S.Stable in
    let image : Image = S.image c.args.store.now in
    let n : Inode = c.args.inode.now in
    let s : ℕ = c.loop-index.index in
    let few : ℕ = c.slots_from.result in
    let short = has.short in
    let below : s < (n.size / 16 + 31) / 32 = search rules in
    let is_few : few ≡ min (n.size / 16 - 32 * s) 32 = omega (arith, c.slots_from.ensures, c.count_slots-count.ensures, short) in
    let so_far = c.loop-index.invariant.none tells has in
    let places = c.in_ok-places.ensures.places tells in
    let size = (as_long S.sector_count g.met.S.Stable.clocked g.met.S.Stable.shape c.args.store.now tells).size in
    let hit : HitsIn is_none (sector_at image (block_at image n s)) few (Some c.in-Some.hit) =
    at_sector (λ bytes. HitsIn is_none bytes few (Some c.in-Some.hit)) image (S.image c.loop-index.store) n c.in_ok-places.places s c.body_block-block.result (S.sector_count c.loop-index.store) has places
    (omega arith) c.body_block-block.ensures c.loop-index.invariant.looked.image (c.loop-index.invariant.looked.sectors ∙ sym size)
    (λ some within. subst (λ (o : Option Hit). HitsIn is_none (sector_at (S.image c.loop-index.store) c.body_block-block.result) few o) c.in-Some.is (c.in_ok-hit.ensures.found tells some within)) in
    record {
      first = first_at image n has is_none s few is_few so_far c.in-Some.hit hit;
      sector = c.body_block-block.ensures ∙ body_is image n c.in_ok-places.places places s (stands image n has s (omega arith)).0 ∙ sector_there image n has is_none s few is_few so_far c.in-Some.hit hit;
    }

pub loop-index-preserved : goal.loop-index-preserved
loop-index-preserved g c =
    let S = g.S.Stable in
    record {
      none = λ tells has.
          let image : Image = S.image c.args.store.now in
          let n : Inode = c.args.inode.now in
          let s : ℕ = c.loop-index.index in
          let few : ℕ = c.slots_from.result in
          let short = has.short in
          let below : s < (n.size / 16 + 31) / 32 = search rules in
          let is_few : few ≡ min (n.size / 16 - 32 * s) 32 = omega (arith, c.slots_from.ensures, c.count_slots-count.ensures, short) in
          let size = (as_long S.sector_count g.met.S.Stable.clocked g.met.S.Stable.shape c.args.store.now tells).size in
          none_more image n has is_none s few is_few (c.loop-index.invariant.none tells has)
          (at_sector (λ bytes. HitsIn is_none bytes few None) image (S.image c.loop-index.store) n c.in_ok-places.places s c.body_block-block.result (S.sector_count c.loop-index.store) has (c.in_ok-places.ensures.places tells)
          (omega arith) c.body_block-block.ensures c.loop-index.invariant.looked.image (c.loop-index.invariant.looked.sectors ∙ sym size)
          (λ some within. subst (λ (o : Option Hit). HitsIn is_none (sector_at (S.image c.loop-index.store) c.body_block-block.result) few o) (none_of c.in_ok-hit.field-0 c.in_default.not-Some) (c.in_ok-hit.ensures.found tells some within)));
      looked = looks_again S g.met.S.Stable.clocked c.loop-index.invariant.looked c.in_ok-hit.ensures.looked;
    }

pub returns-clause-found : goal.returns-clause-found
returns-clause-found g c = λ tells has.
    let image : Image = g.S.Stable.image c.args.store.now in
    let short = has.short in
    let past : (c.args.inode.now.size / 16 + 31) / 32 ≤ c.loop-index.index = search rules in
    no_first image c.args.inode.now has is_none c.loop-index.index (omega arith) (c.loop-index.invariant.none tells has)
