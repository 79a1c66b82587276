use Rattle.std.proofs.Common.{rules, arith, ◌≡◌, ◌≤◌, ◌+◌, ◌/◌, ◌∙◌, ◌++◌, ◌∷◌, [], refl, ap, map, length}
use Rattle.std.specs.List.{range_with_len}
use Rattle.v7_damage.specs.Stored.{body_at}
use Rattle.v7_damage.specs.Summaries.{summary_by}
use Rattle.v7_damage.specs.Tables.{slots_kept}
use Rattle.v7_damage.proofs.Keeping.{next_kept}
use Rattle.v7_damage.proofs.SlotSectors.{pushed}
use Rattle.v7_damage.proofs.bodies.keep_body.Goals as goal

pub loop-index-preserved : goal.loop-index-preserved
loop-index-preserved c =
    let i = c.loop-index.invariant in
    let push : c.push-in-loop-index.new.self.items ≡ c.loop-index.bodies.blocks.items ++ c.body_block.result ∷ [] = search rules in
    record {
      summaries = search rules;
      slots = search rules;
      starts = search rules;
      blocks = pushed (body_at c.args.places.now) c.push-in-loop-index.new.self.items c.loop-index.bodies.blocks.items c.args.bodies.now.blocks.items c.body_block.result c.loop-index.index push i.blocks (c.body_block.ensures (search rules));
    }

pub returns : goal.returns
returns c =
    let end : c.loop-index.index ≡ (slots_kept c.args.inode.now + 31) / 32 = search rules in
    let i = c.loop-index.invariant in
    next_kept c.args.bodies.now c.loop-index.bodies (slots_kept c.args.inode.now) (body_at c.args.places.now) (summary_by c.args.inode.now c.args.places.now) i.summaries i.slots (length c.args.bodies.now.blocks.items) i.starts
    refl (i.blocks ∙ ap (λ n. c.args.bodies.now.blocks.items ++ map (body_at c.args.places.now) (range_with_len 0 n)) end)
    (let sectors : c.div_ceil-sectors.result ≡ (slots_kept c.args.inode.now + 31) / 32 = search rules in let room : length c.args.bodies.now.blocks.items + c.div_ceil-sectors.result ≤ 150000 = search rules in omega (arith, sectors, room))
