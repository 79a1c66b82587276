use Rattle.std.proofs.Common.{rules}
use Rattle.rig_file.proofs.Octets.{canonical}
use Rattle.rig_file.proofs.address.ip_of_octets.Goals as goal

-- src/address.rt:38:1
pub returns : goal.returns
returns c = canonical c.from.result c.to_canonical.result c.args.octets c.from.ensures (search rules) (search rules) c.to_canonical.ensures
