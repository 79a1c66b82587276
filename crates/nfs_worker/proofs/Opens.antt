-- What a datagram asks is on a volume that is open.
use Rattle.std.proofs.Common.{◌≡◌, ℕ, ◌<◌, ◌≤◌, List, arith}
use Rattle.datagrams.specs.declared.datagram.Datagram.{Datagram as Meaning}
use Rattle.datagrams.specs.declared.datagram.Datagram.TheVariants.{NoMeaning, Outside, Asks, Mount, Command, Status, Halt}
use Rattle.datagrams.specs.Meaning.{meaning}
use Rattle.datagrams.proofs.Open.{IsOpenMeaning, open_meaning}
use Rattle.nfs_worker.specs.Turns.{place_of}

place_open : (volumes : ℕ) (means : Meaning) → 1 ≤ volumes → IsOpenMeaning volumes means → place_of means < volumes
place_open volumes (Asks xid volume cred call) some h = h
place_open volumes NoMeaning some h = omega (arith, some)
place_open volumes (Outside reply) some h = omega (arith, some)
place_open volumes (Mount rpc) some h = omega (arith, some)
place_open volumes (Command xid volume command) some h = h
place_open volumes (Status xid volume) some h = h
place_open volumes (Halt xid) some h = omega (arith, some)

pub place_within : (bytes : List ℕ) (volumes : ℕ) (means : Meaning) → means ≡ meaning bytes volumes → 1 ≤ volumes → place_of means < volumes
place_within bytes volumes means is some = place_open volumes means some (open_meaning bytes volumes means is)
