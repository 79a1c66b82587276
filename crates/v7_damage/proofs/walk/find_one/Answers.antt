use Rattle.std.proofs.Common.{rules, arith, ◌≡◌, ◌<◌, ◌++◌, ◌∷◌, [], Bool, List, length, true, false, sym, subst}
use Rattle.std.specs.Prelude.{set}
use Rattle.v7_damage.specs.Marks.{mark_at}
use Rattle.v7_damage.specs.Walk.{AreListed}
use Rattle.v7_damage.proofs.Walking.{listed_more}
use Rattle.v7_damage.proofs.walk.find_one.Goals as goal

pub returns-clause-listed : goal.returns-clause-listed
returns-clause-listed c = λ was.
    let lt : c.args.ino < length c.args.found.now = omega arith in
    let new : mark_at c.args.found.now c.args.ino ≡ false = search rules in
    let items : c.push.new.self.items ≡ c.args.list.now.items ++ c.args.ino ∷ [] = search rules in
    subst (λ (m : List Bool). AreListed m c.push.new.self.items) (sym c.mark.ensures) (subst (λ l. AreListed (set c.args.found.now c.args.ino true) l) (sym items) (listed_more c.args.found.now c.args.list.now.items c.args.ino lt new was))
