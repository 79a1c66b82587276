use Rattle.std.proofs.Common.{rules, arith, ◌≡◌, ◌||◌, ◌&&◌, ◌==◌, ◌∙◌, ℕ, List, true, false, get_or, map, take, drop, ◌-◌, min, length, sym, ap, subst, ◌+◌}
use Rattle.std.proofs.lemmas.List.{drop_min, take_rest}
use Rattle.stable.specs.Store.{Image}
use Rattle.v7_layout.specs.declared.slot.Slot.{Slot}
use Rattle.v7_map.specs.Frame.{Frame, frame}
use Rattle.v7_map.specs.Tree.{Tree, tree, is_walked}
use Rattle.v7_map.proofs.Walks.{walked_reached}
use Rattle.v7_map.proofs.Used.{walked_is_dir}
use Rattle.v7_damage.specs.Marks.{mark_at}
use Rattle.v7_damage.specs.Names.{HasTested}
use Rattle.v7_damage.specs.Slots.{seen_slot, names}
use Rattle.v7_damage.specs.Tables.{AreSectors}
use Rattle.v7_damage.proofs.HeldSteps.{held_more, held_same}
use Rattle.v7_damage.proofs.Noting.{dotted_other, tested_other}
use Rattle.v7_damage.proofs.noted.note_directory.Goals as goal

pub returns-then-not-has-clause-noted : goal.returns-then-not-has-clause-noted
returns-then-not-has-clause-noted g c = λ tells was.
    let image : Image = g.S.Stable.image c.args.store.now in
    let f : Frame = frame image in
    let d : ℕ = c.args.ino in
    let marked : mark_at c.args.walks.now.found d ≡ false = sym c.has.ensures ∙ search rules in
    let other : is_walked (tree f) d ≡ false = sym (was.walks_are.marks d) ∙ marked in
    record {
      can = was.can;
      walks_are = was.walks_are;
      held = held_same image c.args.walks.now.found c.args.walks.now.ups.items was.walks_are c.args.parents.now.held d other was.held;
      dotted = dotted_other (tree f) d c.args.parents.now.dotted other was.dotted;
      tested = tested_other f d c.args.listed.now.types.items c.requires.some c.args.kept.now other was.tested;
    }

pub returns-clause-noted : goal.returns-clause-noted
returns-clause-noted g c = λ tells was.
    let image : Image = g.S.Stable.image c.args.store.now in
    let f : Frame = frame image in
    let t : Tree = tree f in
    let d : ℕ = c.args.ino in
    let marked : mark_at c.args.walks.now.found d ≡ true = sym c.has.ensures ∙ search rules in
    let walks : is_walked t d ≡ true = sym (was.walks_are.marks d) ∙ marked in
    let seen : map seen_slot c.read_directory.new.slots.items ≡ f.slots d = c.in_ok-sectors.ensures.slots tells (was.can d (walked_is_dir (walked_reached t d walks))) in
    let stand : AreSectors f c.args.listed.now.bodies c.in_ok-sectors.sectors d = c.in_ok-sectors.ensures.sectors tells (was.can d (walked_is_dir (walked_reached t d walks))) in
    let items : c.deref.result.now ≡ c.read_directory.new.slots.items = c.deref.ensures.value in
    let past : List Slot = take (length c.deref.result.now - c.min-first.result) (drop c.min-first.result c.deref.result.now) in
    let first : c.min-first.result ≡ min 2 (length c.read_directory.new.slots.items) = omega arith in
    record {
      can = was.can;
      walks_are = was.walks_are;
      held = held_more image c.args.walks.now.found c.args.walks.now.ups.items was.walks_are c.args.parents.now.held c.hold_named.new.held d c.read_directory.new.slots.items past walks seen
          (take_rest c.deref.result.now c.min-first.result ∙ (λ z. drop (first z) (items z)) ∙ drop_min 2 c.read_directory.new.slots.items)
          (λ i some. c.hold_named.ensures.marks i some ∙ ap (λ (l : List ℕ). mark_at c.args.parents.now.held i || ((get_or l i 0 == d) && names past i)) c.deref-2.ensures.value) was.held;
      dotted = c.note_dots.ensures.dotted t (ap (map seen_slot) c.deref-3.ensures.value ∙ seen) was.dotted;
      tested = subst (λ (l : List ℕ). HasTested f l c.keep_slots.new.kept (d + 1)) c.deref-5.ensures.value
          (c.keep_slots.ensures.tested f (ap (map seen_slot) c.deref-4.ensures.value ∙ seen) stand walks (subst (λ (l : List ℕ). HasTested f l c.args.kept.now d) (sym c.deref-5.ensures.value) was.tested));
    }
