use Rattle.std.proofs.Common.{rules, ◌≡◌, set, if◌then◌else◌, ◌++◌, [], ◌∷◌, get_or, refl}
use Rattle.rig_mem.proofs.Recorded.{sector_changed}
use Rattle.rig_mem.specs.declared.change.Change.TheVariants.{Sector}
use Rattle.rig_mem.proofs.mem_rig.device_calls.MemRigRig.write.Goals as goal

pub returns-then-is_err-2-clause-crash : goal.returns-then-is_err-2-clause-crash
returns-then-is_err-2-clause-crash c =
    let a = c.args.self.now in
    let changes : c.put-kept.new.self.changes.items ≡ a.history.changes.items ++ Sector c.args.sector (get_or a.disk.items c.args.sector []) c.args.bytes.now ∷ [] = search rules in
    let disk : c.put-kept.new.items.items ≡ (if c.in-Some.takes then set a.disk.items c.args.sector c.args.bytes.now else a.disk.items) = search rules in
    sector_changed a _ c.args.sector c.args.bytes.now c.in-Some.takes changes c.put-kept.ensures.recorded.start disk refl refl refl

pub returns-clause-crash : goal.returns-clause-crash
returns-clause-crash c =
    let a = c.args.self.now in
    let changes : c.put-kept.new.self.changes.items ≡ a.history.changes.items ++ Sector c.args.sector (get_or a.disk.items c.args.sector []) c.args.bytes.now ∷ [] = search rules in
    let disk : c.put-kept.new.items.items ≡ (if c.in-Some.takes then set a.disk.items c.args.sector c.args.bytes.now else a.disk.items) = search rules in
    sector_changed a _ c.args.sector c.args.bytes.now c.in-Some.takes changes c.put-kept.ensures.recorded.start disk refl refl refl
