use Rattle.plan_link.proofs.EntryJudged.{entry-small, entry-judged}
use Rattle.plan_link.proofs.refusals.judge_entry.Goals as goal

pub returns : goal.returns
returns c = λ image p d inodes told i now name.
    let small = entry-small image p d c.args.directory.now c.args.at_end c.args.blocks.now inodes told in
    entry-judged image p d c.args.directory.now c.args.at_end c.args.blocks.now inodes told i now name c.args.cred.now c.args.links c.growth_of-growth.result.size c.growth_of-growth.result.blocks c.count.result c.room_refusal.result
    (c.growth_of-growth.ensures.size small) c.growth_of-growth.ensures.blocks c.count.ensures c.room_refusal.ensures
