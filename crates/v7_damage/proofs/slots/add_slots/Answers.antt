use Rattle.std.proofs.Common.{rules, ◌≡◌, ◌++◌, ◌∷◌, []}
use Rattle.v7_damage.specs.Stored.{slot_in_sector}
use Rattle.v7_damage.proofs.SlotSectors.{pushed}
use Rattle.v7_damage.proofs.slots.add_slots.Goals as goal

pub loop-index-preserved : goal.loop-index-preserved
loop-index-preserved c =
    let push : c.push.new.self.items ≡ c.loop-index.slots.items ++ c.slot_at.result ∷ [] = search rules in
    pushed (slot_in_sector c.args.bytes.now) c.push.new.self.items c.loop-index.slots.items c.args.slots.now.items c.slot_at.result c.loop-index.index push c.loop-index.invariant c.slot_at.ensures
