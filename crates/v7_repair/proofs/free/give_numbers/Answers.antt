use Rattle.std.proofs.Common.{rules, arith, ◌≡◌, ◌∙◌, ◌+◌, ℕ, Bool, List, true, false, length, set, sym, ap, subst}
use Rattle.std.proofs.lemmas.List.{length-set, length-replicate}
use Rattle.stable.specs.Store.{Image}
use Rattle.stable.proofs.Looking.{no_look, looks_again}
use Rattle.v7_damage.specs.Stored.{Keeps}
use Rattle.v7_damage.specs.Undamaged.{HasEntries, IsUndamaged}
use Rattle.v7_repair.specs.Free.{is_fresh, is_unnamed}
use Rattle.v7_repair.proofs.Giving.{HasBelow, given_none, given_one, given_all, passed_by, fresh_above, fresh_below, fresh_is}
use Rattle.v7_repair.proofs.free.give_numbers.Goals as goal
use Rattle.v7_repair.proofs.free.give_numbers.Goals.{then-branch, else-branch}

pub loop-ino-init : goal.loop-ino-init
loop-ino-init g c =
    let S = g.S.Stable in
    let image : Image = S.image c.args.store.now in
    record {
      has = λ tells is. subst (λ (x : List Bool). HasBelow (is_fresh image) x 3) (sym c.requires.none) (given_none (is_fresh image) (length c.args.known.now.types.items) 3 (fresh_above image));
      long = ap (λ (x : List Bool). length x) c.requires.none ∙ length-replicate (length c.args.known.now.types.items) false;
      blocks = search rules;
      keeps = λ tells. record { kept = λ some. absurd (some c.new-reader.ensures) };
      looked = no_look S g.met.S.Stable.clocked c.args.store.now;
    }

pub is_unnamed-requires-clause-entries : goal.is_unnamed-requires-clause-entries
is_unnamed-requires-clause-entries g c = subst (λ n. HasEntries n c.args.known.now) (sym c.loop-ino.invariant.looked.sectors) c.requires.entries

pub loop-ino-preserved : goal.loop-ino-preserved
loop-ino-preserved g c =
    let S = g.S.Stable in
    let image : Image = S.image c.args.store.now in
    let p : ℕ → Bool = is_fresh image in
    let i = c.loop-ino.invariant in
    let k : ℕ = c.loop-ino.ino in
    let long = i.long in
    let low = c.loop-ino.auto.ino in
    let end = c.len-ino-end.ensures in
    let test = c.loop-ino-test.true in
    let keeps : S.tells → Keeps (S.image c.loop-ino.store) c.loop-ino.reader = (λ tells. subst (λ (x : Image). Keeps x c.loop-ino.reader) (sym i.looked.image) (i.keeps tells)) in
    let has : IsUndamaged image c.args.known.now → IsUndamaged (S.image c.loop-ino.store) c.args.known.now = (λ is. subst (λ (x : Image). IsUndamaged x c.args.known.now) (sym i.looked.image) is) in
    let unnamed : S.tells → IsUndamaged image c.args.known.now → c.in_ok-is_unnamed.field-0 ≡ is_fresh image k =
    (λ tells is.
    let count = is.count in
    c.in_ok-is_unnamed.ensures.unnamed tells (keeps tells) (has is) ∙ ap (λ (x : Image). is_unnamed x k) i.looked.image ∙ sym (fresh_is image k (omega arith) (omega arith))) in
    let kept : S.tells → Keeps image c.is_unnamed.new.reader = (λ tells. subst (λ (x : Image). Keeps x c.is_unnamed.new.reader) i.looked.image (c.in_ok-is_unnamed.ensures.keeps tells (keeps tells))) in
    let looked = looks_again S g.met.S.Stable.clocked i.looked c.in_ok-is_unnamed.ensures.looked in
    elim c.if-branch.branch [
      | then-branch w ↦
          let given : c.if-branch.sets.inodes ≡ set c.loop-ino.sets.inodes k true = search rules in
          record {
            has = λ tells is. subst (λ (x : List Bool). HasBelow p x (k + 1)) (sym given) (given_one p c.loop-ino.sets.inodes k (omega arith) (sym (unnamed tells is) ∙ search rules) (i.has tells is));
            long = ap (λ (x : List Bool). length x) given ∙ length-set c.loop-ino.sets.inodes k true ∙ i.long;
            blocks = search rules;
            keeps = kept;
            looked = looked;
          }
      | else-branch w ↦
          let same : c.if-branch.sets.inodes ≡ c.loop-ino.sets.inodes = search rules in
          record {
            has = λ tells is. subst (λ (x : List Bool). HasBelow p x (k + 1)) (sym same) (passed_by p c.loop-ino.sets.inodes k (sym (unnamed tells is) ∙ search rules) (i.has tells is));
            long = ap (λ (x : List Bool). length x) same ∙ i.long;
            blocks = search rules;
            keeps = kept;
            looked = looked;
          }
    ]

pub returns-clause-numbers : goal.returns-clause-numbers
returns-clause-numbers g c = λ tells is i.
    let image : Image = g.S.Stable.image c.args.store.now in
    let count = is.count in
    let end = c.len-ino-end.ensures in
    given_all (is_fresh image) c.loop-ino.sets.inodes c.loop-ino.ino (λ i e. let high = fresh_below image i e in omega (arith, high, count)) (c.loop-ino.invariant.has tells is) i
