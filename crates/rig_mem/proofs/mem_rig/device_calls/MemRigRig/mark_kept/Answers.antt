use Rattle.std.proofs.Common.{rules, ◌≡◌, true, if◌then◌else◌, ◌++◌, [], ◌∷◌, refl}
use Rattle.rig_mem.proofs.Recorded.{kept_changed}
use Rattle.rig_mem.specs.declared.change.Change.TheVariants.{Kept}
use Rattle.rig_mem.proofs.mem_rig.device_calls.MemRigRig.mark_kept.Goals as goal

pub returns-then-is_err-2-clause-crash : goal.returns-then-is_err-2-clause-crash
returns-then-is_err-2-clause-crash c =
    let a = c.args.self.now in
    let changes : c.change_kept.new.history.changes.items ≡ a.history.changes.items ++ Kept a.kept ∷ [] = search rules in
    let kept : c.change_kept.new.kept ≡ (if c.in-Some.takes then true else a.kept) = search rules in
    kept_changed a _ c.in-Some.takes changes c.change_kept.ensures.recorded.start kept refl refl refl

pub returns-clause-crash : goal.returns-clause-crash
returns-clause-crash c =
    let a = c.args.self.now in
    let changes : c.change_kept.new.history.changes.items ≡ a.history.changes.items ++ Kept a.kept ∷ [] = search rules in
    let kept : c.change_kept.new.kept ≡ (if c.in-Some.takes then true else a.kept) = search rules in
    kept_changed a _ c.in-Some.takes changes c.change_kept.ensures.recorded.start kept refl refl refl
