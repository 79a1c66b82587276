use Rattle.std.proofs.Common.{rules, ◌∙◌, ap}
use Rattle.stable.specs.Store.{name_in}
use Rattle.volume_tool.proofs.Boards.{titled_name}
use Rattle.volume_tool.proofs.making.titled.Goals as goal

pub returns : goal.returns
returns c = ap name_in c.with_name.ensures ∙ titled_name c.no_bytes.result c.args.name c.no_bytes.ensures (search rules)
