use Rattle.std.proofs.Common.{rules, arith, ◌≡◌, ◌<◌, ◌+◌, Bool, List, ◌++◌, ◌∷◌, ◌==◌, ◌&&◌, [], not, true, false, length, get_or, Some, sym, ap, subst, ◌∙◌}
use Rattle.std.specs.Prelude.{set}
use Rattle.std.proofs.lemmas.Bool.{ne_eqb}
use Rattle.v7_map.specs.Tree.{tree}
use Rattle.v7_damage.specs.Marks.{mark_at}
use Rattle.v7_damage.specs.Walk.{is_dir_in}
use Rattle.v7_damage.specs.Names.{AreNamed, slots_until}
use Rattle.v7_damage.proofs.Naming.{until_past, until_first, named_other, named_more, only-by}
use Rattle.v7_damage.proofs.Tallying.{once_low, once_other, once_more}
use Rattle.v7_damage.specs.Tallied.{AreOnce, past_more}
use Rattle.v7_damage.proofs.names.take_child.Goals as goal

pub returns-then-index-lt2-clause-kept : goal.returns-then-index-lt2-clause-kept
returns-then-index-lt2-clause-kept c = λ f d name was lt at yes.
    subst (AreNamed c.args.types.now c.args.kept.now.named) (sym (until_first (tree f) d c.args.index lt c.if-index-lt2.true)) was

pub returns-then-types-ino-ne-DIRECTORY-clause-kept : goal.returns-then-types-ino-ne-DIRECTORY-clause-kept
returns-then-types-ino-ne-DIRECTORY-clause-kept c = λ f d name was lt at yes.
    let other : is_dir_in c.args.types.now c.args.ino ≡ false = ne_eqb (get_or c.args.types.now c.args.ino 0) 4 c.if-types-ino-ne-DIRECTORY.true in
    subst (AreNamed c.args.types.now c.args.kept.now.named) (sym (until_past (tree f) d c.args.index lt c.if-index-lt2.false ∙ ap (λ s. slots_until (tree f) 2 d c.args.index ++ s ∷ []) at))
    (named_other c.args.types.now c.args.kept.now.named (slots_until (tree f) 2 d c.args.index) c.args.ino name other was)

pub returns-then-has-clause-only : goal.returns-then-has-clause-only
returns-then-has-clause-only c = λ f d are was.
    let dir : is_dir_in c.args.types.now c.args.ino ≡ true = search rules in
    let marked : mark_at c.args.kept.now.named c.args.ino ≡ true = sym c.has.ensures ∙ search rules in
    let other : (c.args.ino == 2) ≡ false = ne_eqb c.args.ino 2 c.if-ino-eq-ROOT.false in
    sym (only-by f c.args.types.now are d c.args.index c.args.ino c.args.kept.now.named was c.if-index-lt2.false dir ∙ (λ z. not (other z) && not (marked z)))

pub returns-clause-only : goal.returns-clause-only
returns-clause-only c = λ f d are was.
    let dir : is_dir_in c.args.types.now c.args.ino ≡ true = search rules in
    let marked : mark_at c.args.kept.now.named c.args.ino ≡ false = sym c.has.ensures ∙ search rules in
    let other : (c.args.ino == 2) ≡ false = ne_eqb c.args.ino 2 c.if-ino-eq-ROOT.false in
    sym (only-by f c.args.types.now are d c.args.index c.args.ino c.args.kept.now.named was c.if-index-lt2.false dir ∙ (λ z. not (other z) && not (marked z)))

pub returns-clause-kept : goal.returns-clause-kept
returns-clause-kept c = λ f d name was lt at yes.
    let within : c.args.ino < length c.args.kept.now.named = omega (arith, c.requires.long, c.requires.within) in
    subst (λ (m : List Bool). AreNamed c.args.types.now m (slots_until (tree f) 2 d (c.args.index + 1))) (sym c.mark.ensures)
    (subst (AreNamed c.args.types.now (set c.args.kept.now.named c.args.ino true)) (sym (until_past (tree f) d c.args.index lt c.if-index-lt2.false ∙ ap (λ s. slots_until (tree f) 2 d c.args.index ++ s ∷ []) at))
    (named_more c.args.types.now c.args.kept.now.named (slots_until (tree f) 2 d c.args.index) c.args.ino name within was))

pub returns-then-index-lt2-clause-once : goal.returns-then-index-lt2-clause-once
returns-then-index-lt2-clause-once c = λ name past was yes. once_low c.args.types.now c.args.kept.now.named past c.args.index (Some (c.args.ino, name)) c.if-index-lt2.true was

pub returns-then-types-ino-ne-DIRECTORY-clause-once : goal.returns-then-types-ino-ne-DIRECTORY-clause-once
returns-then-types-ino-ne-DIRECTORY-clause-once c = λ name past was yes.
    let other : is_dir_in c.args.types.now c.args.ino ≡ false = ne_eqb (get_or c.args.types.now c.args.ino 0) 4 c.if-types-ino-ne-DIRECTORY.true in
    once_other c.args.types.now c.args.kept.now.named past c.args.index c.args.ino name c.if-index-lt2.false other was

pub returns-clause-once : goal.returns-clause-once
returns-clause-once c = λ name past was yes.
    let within : c.args.ino < length c.args.kept.now.named = omega (arith, c.requires.long, c.requires.within) in
    let marked : mark_at c.args.kept.now.named c.args.ino ≡ false = sym c.has.ensures ∙ search rules in
    subst (λ (m : List Bool). AreOnce c.args.types.now m (past_more c.args.index past (Some (c.args.ino, name)))) (sym c.mark.ensures)
    (once_more c.args.types.now c.args.kept.now.named past c.args.index c.args.ino name c.if-index-lt2.false within marked c.if-ino-eq-ROOT.false was)
