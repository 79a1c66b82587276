use Rattle.std.proofs.Common.{rules, ◌≡◌, set, if◌then◌else◌, ◌++◌, [], ◌∷◌, get_or, refl}
use Rattle.rig_mem.proofs.Recorded.{word_changed}
use Rattle.rig_mem.specs.declared.change.Change.TheVariants.{Word}
use Rattle.rig_mem.proofs.mem_rig.device_calls.MemRigRig.store_word.Goals as goal

pub returns-then-is_err-2-clause-crash : goal.returns-then-is_err-2-clause-crash
returns-then-is_err-2-clause-crash c =
    let a = c.args.self.now in
    let changes : c.put-kept.new.self.changes.items ≡ a.history.changes.items ++ Word c.args.index (get_or a.words.items c.args.index 0) c.args.word ∷ [] = search rules in
    let words : c.put-kept.new.items.items ≡ (if c.in-Some.takes then set a.words.items c.args.index c.args.word else a.words.items) = search rules in
    word_changed a _ c.args.index c.args.word c.in-Some.takes changes c.put-kept.ensures.recorded.start words refl refl refl

pub returns-clause-crash : goal.returns-clause-crash
returns-clause-crash c =
    let a = c.args.self.now in
    let changes : c.put-kept.new.self.changes.items ≡ a.history.changes.items ++ Word c.args.index (get_or a.words.items c.args.index 0) c.args.word ∷ [] = search rules in
    let words : c.put-kept.new.items.items ≡ (if c.in-Some.takes then set a.words.items c.args.index c.args.word else a.words.items) = search rules in
    word_changed a _ c.args.index c.args.word c.in-Some.takes changes c.put-kept.ensures.recorded.start words refl refl refl
