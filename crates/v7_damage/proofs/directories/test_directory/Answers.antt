use Rattle.std.proofs.Common.{rules, arith, ◌≡◌, ◌≢◌, ◌∙◌, length, true, false, Some, refl, sym, subst}
use Rattle.v7_map.specs.Frame.{frame}
use Rattle.v7_map.specs.Tree.{tree, is_walked}
use Rattle.v7_map.specs.Image.{inode_sector}
use Rattle.v7_damage.specs.Marks.{mark_at}
use Rattle.v7_damage.specs.Names.{AreHeld, is_held}
use Rattle.v7_damage.specs.Walk.{AreWalked}
use Rattle.v7_damage.specs.declared.damage.Damage.TheVariants as kind
use Rattle.v7_damage.proofs.Deciding.{walked-by, other_none, no_dots, not_held, no_wrong, wrong_later, wrong_here}
use Rattle.v7_damage.proofs.directories.test_directory.Goals as goal

pub returns-then-not-has-clause-told : goal.returns-then-not-has-clause-told
returns-then-not-has-clause-told c = λ image has comes.
    let marked : mark_at c.args.walks.now.found c.args.ino ≡ false = sym c.has.ensures ∙ search rules in
    other_none image c.args.listed.now.types.items c.args.listed.now.bodies c.args.walks.now c.args.noted.now.parents c.args.noted.now.kept (length c.args.listed.now.types.items) c.args.ino has c.requires.some c.requires.within marked

pub returns-then-not-has-clause-past : goal.returns-then-not-has-clause-past
returns-then-not-has-clause-past c = λ image has comes.
    let marked : mark_at c.args.walks.now.found c.args.ino ≡ false = sym c.has.ensures ∙ search rules in
    (λ wrong is. let w = has.tested.failed wrong is in let le = comes wrong is in
    let ne : c.args.ino ≢ wrong.ino = (λ e. let clash : true ≡ false = sym (subst (λ i. is_walked (tree (frame image)) i ≡ true) (sym e) w.walked) ∙ walked-by image c.args.listed.now.types.items c.args.listed.now.bodies c.args.walks.now c.args.noted.now.parents c.args.noted.now.kept (length c.args.listed.now.types.items) c.args.ino has c.requires.some c.requires.within false marked in absurd (cc)) in omega arith)

pub returns-then-not-has-2-clause-told : goal.returns-then-not-has-2-clause-told
returns-then-not-has-2-clause-told c = λ image has comes.
    let marked : mark_at c.args.walks.now.found c.args.ino ≡ true = sym c.has.ensures ∙ search rules in
    let sector : inode_sector c.args.ino ≡ c.inode_sector_of-sector.result = sym c.inode_sector_of-sector.ensures in
    let none : mark_at c.args.noted.now.parents.dotted c.args.ino ≡ false = sym c.has-2.ensures ∙ search rules in
    no_dots image c.args.listed.now.types.items c.args.listed.now.bodies c.args.walks.now c.args.noted.now.parents c.args.noted.now.kept (length c.args.listed.now.types.items) c.args.ino has c.requires.some c.requires.within marked none ∙ (λ z. Some (sector z, kind.Dots))

pub returns-then-not-is_held-clause-told : goal.returns-then-not-is_held-clause-told
returns-then-not-is_held-clause-told c = λ image has comes.
    let marked : mark_at c.args.walks.now.found c.args.ino ≡ true = sym c.has.ensures ∙ search rules in
    let sector : inode_sector c.args.ino ≡ c.inode_sector_of-sector.result = sym c.inode_sector_of-sector.ensures in
    let ups : AreWalked (tree (frame image)) c.args.walks.now.found c.deref.result.now = subst (AreWalked (tree (frame image)) c.args.walks.now.found) (sym c.deref.ensures.value) has.walks_are in
    let holds : AreHeld (tree (frame image)) c.args.noted.now.parents.held (length c.args.walks.now.found) = subst (AreHeld (tree (frame image)) c.args.noted.now.parents.held) (sym c.requires.found) has.held in
    let is : c.is_held.result ≡ is_held (tree (frame image)) c.args.ino = c.is_held.ensures (tree (frame image)) c.args.walks.now.found ups holds (walked-by image c.args.listed.now.types.items c.args.listed.now.bodies c.args.walks.now c.args.noted.now.parents c.args.noted.now.kept (length c.args.listed.now.types.items) c.args.ino has c.requires.some c.requires.within true marked) in
    not_held image c.args.listed.now.types.items c.args.listed.now.bodies c.args.walks.now c.args.noted.now.parents c.args.noted.now.kept (length c.args.listed.now.types.items) c.args.ino has c.requires.some c.requires.within marked (sym is ∙ search rules) ∙ (λ z. Some (sector z, kind.Dots))

pub returns-in-None-clause-told : goal.returns-in-None-clause-told
returns-in-None-clause-told c = λ image has comes.
    let marked : mark_at c.args.walks.now.found c.args.ino ≡ true = sym c.has.ensures ∙ search rules in
    let ups : AreWalked (tree (frame image)) c.args.walks.now.found c.deref.result.now = subst (AreWalked (tree (frame image)) c.args.walks.now.found) (sym c.deref.ensures.value) has.walks_are in
    let holds : AreHeld (tree (frame image)) c.args.noted.now.parents.held (length c.args.walks.now.found) = subst (AreHeld (tree (frame image)) c.args.noted.now.parents.held) (sym c.requires.found) has.held in
    let is : c.is_held.result ≡ is_held (tree (frame image)) c.args.ino = c.is_held.ensures (tree (frame image)) c.args.walks.now.found ups holds (walked-by image c.args.listed.now.types.items c.args.listed.now.bodies c.args.walks.now c.args.noted.now.parents c.args.noted.now.kept (length c.args.listed.now.types.items) c.args.ino has c.requires.some c.requires.within true marked) in
    let dotted : mark_at c.args.noted.now.parents.dotted c.args.ino ≡ true = sym c.has-2.ensures ∙ search rules in
    let held : is_held (tree (frame image)) c.args.ino ≡ true = sym is ∙ search rules in
    no_wrong image c.args.listed.now.types.items c.args.listed.now.bodies c.args.walks.now c.args.noted.now.parents c.args.noted.now.kept (length c.args.listed.now.types.items) c.args.ino has c.requires.some c.requires.within marked dotted held c.in-None.is

pub returns-then-wrong-ino-clause-told : goal.returns-then-wrong-ino-clause-told
returns-then-wrong-ino-clause-told c = λ image has comes.
    let marked : mark_at c.args.walks.now.found c.args.ino ≡ true = sym c.has.ensures ∙ search rules in
    let ups : AreWalked (tree (frame image)) c.args.walks.now.found c.deref.result.now = subst (AreWalked (tree (frame image)) c.args.walks.now.found) (sym c.deref.ensures.value) has.walks_are in
    let holds : AreHeld (tree (frame image)) c.args.noted.now.parents.held (length c.args.walks.now.found) = subst (AreHeld (tree (frame image)) c.args.noted.now.parents.held) (sym c.requires.found) has.held in
    let is : c.is_held.result ≡ is_held (tree (frame image)) c.args.ino = c.is_held.ensures (tree (frame image)) c.args.walks.now.found ups holds (walked-by image c.args.listed.now.types.items c.args.listed.now.bodies c.args.walks.now c.args.noted.now.parents c.args.noted.now.kept (length c.args.listed.now.types.items) c.args.ino has c.requires.some c.requires.within true marked) in
    let dotted : mark_at c.args.noted.now.parents.dotted c.args.ino ≡ true = sym c.has-2.ensures ∙ search rules in
    let held : is_held (tree (frame image)) c.args.ino ≡ true = sym is ∙ search rules in
    let ne : c.in-Some.wrong.ino ≢ c.args.ino = c.if-wrong-ino.true in
    let le = comes c.in-Some.wrong c.in-Some.is in
    wrong_later image c.args.listed.now.types.items c.args.listed.now.bodies c.args.walks.now c.args.noted.now.parents c.args.noted.now.kept (length c.args.listed.now.types.items) c.args.ino has c.requires.some c.requires.within marked dotted held c.in-Some.wrong c.in-Some.is (omega arith)

pub returns-else-wrong-ino-clause-told : goal.returns-else-wrong-ino-clause-told
returns-else-wrong-ino-clause-told c = λ image has comes.
    let marked : mark_at c.args.walks.now.found c.args.ino ≡ true = sym c.has.ensures ∙ search rules in
    let ups : AreWalked (tree (frame image)) c.args.walks.now.found c.deref.result.now = subst (AreWalked (tree (frame image)) c.args.walks.now.found) (sym c.deref.ensures.value) has.walks_are in
    let holds : AreHeld (tree (frame image)) c.args.noted.now.parents.held (length c.args.walks.now.found) = subst (AreHeld (tree (frame image)) c.args.noted.now.parents.held) (sym c.requires.found) has.held in
    let is : c.is_held.result ≡ is_held (tree (frame image)) c.args.ino = c.is_held.ensures (tree (frame image)) c.args.walks.now.found ups holds (walked-by image c.args.listed.now.types.items c.args.listed.now.bodies c.args.walks.now c.args.noted.now.parents c.args.noted.now.kept (length c.args.listed.now.types.items) c.args.ino has c.requires.some c.requires.within true marked) in
    let dotted : mark_at c.args.noted.now.parents.dotted c.args.ino ≡ true = sym c.has-2.ensures ∙ search rules in
    let held : is_held (tree (frame image)) c.args.ino ≡ true = sym is ∙ search rules in
    wrong_here image c.args.listed.now.types.items c.args.listed.now.bodies c.args.walks.now c.args.noted.now.parents c.args.noted.now.kept (length c.args.listed.now.types.items) c.args.ino has c.requires.some c.requires.within marked dotted held c.in-Some.wrong c.in-Some.is c.if-wrong-ino.false c.in-Some.wrong.sector refl
