use Rattle.std.proofs.Common.{rules, arith, ◌≡◌, ◌-◌, ◌∙◌, ◌||◌, ℕ, length, sym, ap, subst}
use Rattle.stable.specs.Store.{Image}
use Rattle.stable.proofs.Looking.{no_look, looks_again}
use Rattle.v7_damage.specs.Stored.{Keeps}
use Rattle.v7_damage.specs.Undamaged.{HasEntries, IsUndamaged}
use Rattle.v7_inspect.specs.Usage.{AreNeeded, is_needed_by}
use Rattle.v7_inspect.proofs.Usages.{any_from}
use Rattle.v7_inspect.proofs.judged.mark_inodes.Goals as goal

pub loop-ino-init : goal.loop-ino-init
loop-ino-init g c =
    let S = g.S.Stable in
    record {
      marks = λ tells is was. was;
      long = search rules;
      keeps = λ tells. record { kept = λ some. absurd (some c.new-reader.ensures) };
      looked = no_look S g.met.S.Stable.clocked c.args.store.now;
    }

pub mark_inode-requires-clause-entries : goal.mark_inode-requires-clause-entries
mark_inode-requires-clause-entries g c = subst (λ n. HasEntries n c.args.known.now) (sym c.loop-ino.invariant.looked.sectors) c.requires

pub loop-ino-preserved : goal.loop-ino-preserved
loop-ino-preserved g c =
    let S = g.S.Stable in
    let image : Image = S.image c.args.store.now in
    let i = c.loop-ino.invariant in
    let ino : ℕ = c.loop-ino.ino in
    let keeps : S.tells → Keeps (S.image c.loop-ino.store) c.loop-ino.reader = (λ tells. subst (λ (x : Image). Keeps x c.loop-ino.reader) (sym i.looked.image) (i.keeps tells)) in
    let has : IsUndamaged image c.args.known.now → IsUndamaged (S.image c.loop-ino.store) c.args.known.now = (λ is. subst (λ (x : Image). IsUndamaged x c.args.known.now) (sym i.looked.image) is) in
    record {
      marks = λ tells is was. record {
        each = λ b some lt.
            let long = c.in_ok-mark_inode.ensures.length in
            c.in_ok-mark_inode.ensures.marks tells (keeps tells) (has is) b some (omega arith)
            ∙ (λ z. (i.marks tells is was).each b some (omega arith) z || ap (λ (x : Image). is_needed_by x b ino) i.looked.image z)
            ∙ sym (any_from (is_needed_by image b) ino c.loop-ino.auto.ino);
      };
      long = c.in_ok-mark_inode.ensures.length ∙ i.long;
      keeps = λ tells. subst (λ (x : Image). Keeps x c.mark_inode.new.reader) i.looked.image (c.in_ok-mark_inode.ensures.keeps tells (keeps tells));
      looked = looks_again S g.met.S.Stable.clocked i.looked c.in_ok-mark_inode.ensures.looked;
    }

pub returns-clause-marks : goal.returns-clause-marks
returns-clause-marks g c = λ tells is was.
    let end : c.loop-ino.ino - 1 ≡ length c.args.known.now.types.items - 1 = omega arith in
    subst (AreNeeded (g.S.Stable.image c.args.store.now) c.loop-ino.needed) end (c.loop-ino.invariant.marks tells is was)
