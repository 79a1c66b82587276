use Rattle.std.proofs.Common.{rules}
use Rattle.v7_layout.proofs.Parts.{put_mid-splice}
use Rattle.volume_tool.proofs.making.with_name.Goals as goal

pub returns : goal.returns
returns c = search (rules, put_mid-splice 434 6 c.args.sector.now c.args.name.now c.requires)
