use Rattle.std.proofs.Common.{rules, ◌≡◌, set, if◌then◌else◌, ◌++◌, [], ◌∷◌, get_or, refl}
use Rattle.rig_mem.proofs.Recorded.{buffer_changed, buffer_unchanged}
use Rattle.rig_mem.specs.declared.change.Change.TheVariants.{Buffer}
use Rattle.rig_mem.proofs.mem_rig.device_calls.MemRigRig.store_buffer.Goals as goal

pub returns-then-is_err-2-clause-crash : goal.returns-then-is_err-2-clause-crash
returns-then-is_err-2-clause-crash c =
    let a = c.args.self.now in
    let changes : c.put-kept.new.self.changes.items ≡ a.history.changes.items ++ Buffer c.args.index (get_or a.buffers.items c.args.index []) ∷ [] = search rules in
    let buffers : c.put-kept.new.items.items ≡ (if c.in-Some.takes then set a.buffers.items c.args.index c.args.bytes.now else a.buffers.items) = search rules in
    buffer_changed a _ c.args.index c.args.bytes.now c.in-Some.takes changes c.put-kept.ensures.recorded.start buffers refl refl refl

pub returns-clause-crash : goal.returns-clause-crash
returns-clause-crash c =
    let a = c.args.self.now in
    let changes : c.put-kept.new.self.changes.items ≡ a.history.changes.items ++ Buffer c.args.index (get_or a.buffers.items c.args.index []) ∷ [] = search rules in
    let buffers : c.put-kept.new.items.items ≡ (if c.in-Some.takes then set a.buffers.items c.args.index c.args.bytes.now else a.buffers.items) = search rules in
    buffer_changed a _ c.args.index c.args.bytes.now c.in-Some.takes changes c.put-kept.ensures.recorded.start buffers refl refl refl

pub returns-in_default-clause-crash : goal.returns-in_default-clause-crash
returns-in_default-clause-crash c = buffer_unchanged c.args.self.now _ c.args.index refl refl refl refl refl refl

pub returns-then-is_err-clause-crash : goal.returns-then-is_err-clause-crash
returns-then-is_err-clause-crash c =
    let a = c.args.self.now in
    let buffers : c.put-kept.new.items.items ≡ a.buffers.items = search rules in
    let changes : c.put-kept.new.self.changes.items ≡ a.history.changes.items = search rules in
    buffer_unchanged a _ c.args.index buffers refl refl refl changes c.put-kept.ensures.recorded.start
