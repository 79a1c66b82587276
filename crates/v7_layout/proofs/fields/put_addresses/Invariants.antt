use Rattle.std.proofs.Common.{◌≡◌, ◌+◌, ◌*◌, ◌++◌, take, drop}
use Rattle.std.specs.List.{flat_map}
use Rattle.byteorder.specs.Endian.{little_bytes}
use Rattle.v7_layout.proofs.fields.put_addresses.Given as goal

abbrev pub invariant-loop-k : goal.invariant-loop-k
invariant-loop-k l =
    (take (l.at + 3 * l.k) l.bytes ≡ take l.at l.initial.bytes ++ flat_map (little_bytes 3) (take l.k l.addresses))
    × (drop (l.at + 30) l.bytes ≡ drop (l.at + 30) l.initial.bytes)
