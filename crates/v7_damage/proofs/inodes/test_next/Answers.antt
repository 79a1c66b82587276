use Rattle.std.proofs.Common.{rules, arith, ◌≡◌, ◌/◌, ℕ, ◌++◌, [], ◌∷◌, true, Some, sym, ap, subst, ◌∙◌}
use Rattle.std.specs.Option.{option_map}
use Rattle.stable.specs.Store.{Image}
use Rattle.v7_layout.specs.declared.inode.Inode.{Inode}
use Rattle.v7_map.specs.Image.{is_inode, inode_at, inode_sector}
use Rattle.v7_map.specs.Frame.{Frame, Head, frame, head_of, address_of}
use Rattle.v7_map.specs.Damage.{place_at}
use Rattle.v7_damage.specs.declared.damage.Damage.TheVariants as kind
use Rattle.v7_damage.specs.Stored.{Keeps, body_at}
use Rattle.v7_damage.specs.Summaries.{no_summary, summary_by}
use Rattle.v7_damage.specs.Tables.{slots_kept}
use Rattle.v7_damage.proofs.Summing.{summary_is}
use Rattle.v7_damage.specs.Tests.{HasInode, first_failing, kind_of_test, tests_of}
use Rattle.v7_damage.proofs.BodyPlaces.{body-blocks}
use Rattle.v7_damage.proofs.Failing.{told-none}
use Rattle.v7_damage.proofs.FrameInodes.{has_inode, is_numbered, kept_here, tables_more, bodies_more}
use Rattle.v7_damage.proofs.FreeInodes.{type_free, root_told, none_told, seen_next, bodies_free}
use Rattle.v7_damage.proofs.InodeTests.{told_inode, used_by}
use Rattle.v7_damage.proofs.inodes.test_next.Goals as goal

pub returns-then-ino-eq-ROOT-clause-told : goal.returns-then-ino-eq-ROOT-clause-told
returns-then-ino-eq-ROOT-clause-told g c = λ tells n has le keeps was.
    let image : Image = g.S.Stable.image c.args.store.now in
    let f : Frame = frame image in
    let ino : ℕ = c.args.ino in
    let inside : is_inode image ino ≡ true = is_numbered image c.args.isize c.args.fsize n has ino c.requires.number (omega arith) in
    let mode : c.in_ok-mode.mode ≡ (inode_at image ino).mode = c.in_ok-mode.ensures.mode tells keeps inside in
    let free : (inode_at image ino).mode ≡ 0 = sym mode ∙ c.if-mode-eq0.true in
    root_told image ino free c.if-ino-eq-ROOT.true ∙ (let sector : inode_sector ino ≡ c.inode_sector_of-sector.result = sym c.inode_sector_of-sector.ensures in λ z. Some (sector z, kind.Kind))

pub returns-then-mode-eq0-clause-told : goal.returns-then-mode-eq0-clause-told
returns-then-mode-eq0-clause-told g c = λ tells n has le keeps was.
    let image : Image = g.S.Stable.image c.args.store.now in
    let f : Frame = frame image in
    let ino : ℕ = c.args.ino in
    let inside : is_inode image ino ≡ true = is_numbered image c.args.isize c.args.fsize n has ino c.requires.number (omega arith) in
    let mode : c.in_ok-mode.mode ≡ (inode_at image ino).mode = c.in_ok-mode.ensures.mode tells keeps inside in
    let free : (inode_at image ino).mode ≡ 0 = sym mode ∙ c.if-mode-eq0.true in
    none_told image ino free c.if-ino-eq-ROOT.false

pub returns-then-mode-eq0-clause-seen : goal.returns-then-mode-eq0-clause-seen
returns-then-mode-eq0-clause-seen g c = λ tells n has le keeps was.
    let image : Image = g.S.Stable.image c.args.store.now in
    let f : Frame = frame image in
    let ino : ℕ = c.args.ino in
    let inside : is_inode image ino ≡ true = is_numbered image c.args.isize c.args.fsize n has ino c.requires.number (omega arith) in
    let mode : c.in_ok-mode.mode ≡ (inode_at image ino).mode = c.in_ok-mode.ensures.mode tells keeps inside in
    let free : (inode_at image ino).mode ≡ 0 = sym mode ∙ c.if-mode-eq0.true in
    seen_next image ino free c.args.seen.now c.requires.number was

pub returns-then-mode-eq0-clause-types : goal.returns-then-mode-eq0-clause-types
returns-then-mode-eq0-clause-types g c = λ tells n has le keeps.
    let image : Image = g.S.Stable.image c.args.store.now in
    let f : Frame = frame image in
    let ino : ℕ = c.args.ino in
    let inside : is_inode image ino ≡ true = is_numbered image c.args.isize c.args.fsize n has ino c.requires.number (omega arith) in
    let mode : c.in_ok-mode.mode ≡ (inode_at image ino).mode = c.in_ok-mode.ensures.mode tells keeps inside in
    let free : (inode_at image ino).mode ≡ 0 = sym mode ∙ c.if-mode-eq0.true in
    let items : c.push.new.self.items ≡ c.args.types.now.items ++ 0 ∷ [] = search rules in
    items ∙ ap (λ t. c.args.types.now.items ++ t ∷ []) (type_free image ino free)

pub returns-then-mode-eq0-clause-bodies : goal.returns-then-mode-eq0-clause-bodies
returns-then-mode-eq0-clause-bodies g c = λ tells n has le keeps had.
    let image : Image = g.S.Stable.image c.args.store.now in
    let f : Frame = frame image in
    let ino : ℕ = c.args.ino in
    let inside : is_inode image ino ≡ true = is_numbered image c.args.isize c.args.fsize n has ino c.requires.number (omega arith) in
    let mode : c.in_ok-mode.mode ≡ (inode_at image ino).mode = c.in_ok-mode.ensures.mode tells keeps inside in
    let free : (inode_at image ino).mode ≡ 0 = sym mode ∙ c.if-mode-eq0.true in
    let items : c.push.new.self.items ≡ c.args.types.now.items ++ 0 ∷ [] = search rules in
    bodies_free image ino free c.args.types.now.items c.push.new.self.items c.args.bodies.now c.keep_none.new.bodies (λ k. 0) c.requires.tables c.requires.number items (c.in_ok-keep_none.ensures (λ k. 0)) had

pub returns-then-mode-eq0-clause-tables : goal.returns-then-mode-eq0-clause-tables
returns-then-mode-eq0-clause-tables g c =
    let items : c.push.new.self.items ≡ c.args.types.now.items ++ 0 ∷ [] = search rules in
    tables_more c.args.ino c.args.types.now.items c.push.new.self.items c.args.bodies.now c.keep_none.new.bodies 0 0 (λ k. 0) no_summary c.requires.tables c.requires.number items (c.in_ok-keep_none.ensures (λ k. 0))

pub returns-in-Some-clause-told : goal.returns-in-Some-clause-told
returns-in-Some-clause-told g c = λ tells n has le keeps was.
    let image : Image = g.S.Stable.image c.args.store.now in
    let f : Frame = frame image in
    let ino : ℕ = c.args.ino in
    let inside : is_inode image ino ≡ true = is_numbered image c.args.isize c.args.fsize n has ino c.requires.number (omega arith) in
    let mode : c.in_ok-mode.mode ≡ (inode_at image ino).mode = c.in_ok-mode.ensures.mode tells keeps inside in
    let first : g.S.Stable.image c.mode.new.store ≡ image = c.in_ok-mode.ensures.looked.image in
    let kept : Keeps (g.S.Stable.image c.mode.new.store) c.mode.new.self = subst (λ (x : Image). Keeps x c.mode.new.self) (sym first) (c.in_ok-mode.ensures.keeps tells keeps) in
    let inode : c.in_ok-inode.inode ≡ inode_at image ino = c.in_ok-inode.ensures.inode tells kept (subst (λ (x : Image). is_inode x ino ≡ true) (sym first) inside) ∙ ap (λ (x : Image). inode_at x ino) first in
    let same : g.S.Stable.image c.read.new.store ≡ image = c.in_ok-inode.ensures.looked.image ∙ first in
    let is : HasInode f ino c.args.isize c.args.fsize c.in_ok-inode.inode c.in_ok-places.places = has_inode image c.args.isize c.args.fsize n has ino c.in_ok-inode.inode c.in_ok-places.places inode
    (λ k lt. (c.in_ok-places.ensures.places tells).each k lt ∙ ap (λ (x : Image). address_of x (head_of c.in_ok-inode.inode) (place_at k)) same) in
    let used : (f.head ino).is_used ≡ true = used_by f ino c.in_ok-inode.inode is.head (λ zero. c.if-mode-eq0.false (mode ∙ sym (ap (λ (m : Inode). m.mode) inode) ∙ zero)) in
    let some : Some c.in-Some.kind ≡ option_map kind_of_test (first_failing f (tests_of f ino)) = sym c.in-Some.is ∙ c.test_inode.ensures.tested f is used was in
    let sector : inode_sector ino ≡ c.inode_sector_of-sector-in-Some.result = sym c.inode_sector_of-sector-in-Some.ensures in
    told_inode f ino c.in-Some.kind some ∙ (λ z. Some (sector z, c.in-Some.kind))

pub returns-clause-told : goal.returns-clause-told
returns-clause-told g c = λ tells n has le keeps was.
    let image : Image = g.S.Stable.image c.args.store.now in
    let f : Frame = frame image in
    let ino : ℕ = c.args.ino in
    let inside : is_inode image ino ≡ true = is_numbered image c.args.isize c.args.fsize n has ino c.requires.number (omega arith) in
    let mode : c.in_ok-mode.mode ≡ (inode_at image ino).mode = c.in_ok-mode.ensures.mode tells keeps inside in
    let first : g.S.Stable.image c.mode.new.store ≡ image = c.in_ok-mode.ensures.looked.image in
    let kept : Keeps (g.S.Stable.image c.mode.new.store) c.mode.new.self = subst (λ (x : Image). Keeps x c.mode.new.self) (sym first) (c.in_ok-mode.ensures.keeps tells keeps) in
    let inode : c.in_ok-inode.inode ≡ inode_at image ino = c.in_ok-inode.ensures.inode tells kept (subst (λ (x : Image). is_inode x ino ≡ true) (sym first) inside) ∙ ap (λ (x : Image). inode_at x ino) first in
    let same : g.S.Stable.image c.read.new.store ≡ image = c.in_ok-inode.ensures.looked.image ∙ first in
    let is : HasInode f ino c.args.isize c.args.fsize c.in_ok-inode.inode c.in_ok-places.places = has_inode image c.args.isize c.args.fsize n has ino c.in_ok-inode.inode c.in_ok-places.places inode
    (λ k lt. (c.in_ok-places.ensures.places tells).each k lt ∙ ap (λ (x : Image). address_of x (head_of c.in_ok-inode.inode) (place_at k)) same) in
    let used : (f.head ino).is_used ≡ true = used_by f ino c.in_ok-inode.inode is.head (λ zero. c.if-mode-eq0.false (mode ∙ sym (ap (λ (m : Inode). m.mode) inode) ∙ zero)) in
    told-none f c.test_inode.result (tests_of f ino) c.in-None.is (c.test_inode.ensures.tested f is used was)

pub returns-clause-seen : goal.returns-clause-seen
returns-clause-seen g c = λ tells n has le keeps was.
    let image : Image = g.S.Stable.image c.args.store.now in
    let f : Frame = frame image in
    let ino : ℕ = c.args.ino in
    let inside : is_inode image ino ≡ true = is_numbered image c.args.isize c.args.fsize n has ino c.requires.number (omega arith) in
    let mode : c.in_ok-mode.mode ≡ (inode_at image ino).mode = c.in_ok-mode.ensures.mode tells keeps inside in
    let first : g.S.Stable.image c.mode.new.store ≡ image = c.in_ok-mode.ensures.looked.image in
    let kept : Keeps (g.S.Stable.image c.mode.new.store) c.mode.new.self = subst (λ (x : Image). Keeps x c.mode.new.self) (sym first) (c.in_ok-mode.ensures.keeps tells keeps) in
    let inode : c.in_ok-inode.inode ≡ inode_at image ino = c.in_ok-inode.ensures.inode tells kept (subst (λ (x : Image). is_inode x ino ≡ true) (sym first) inside) ∙ ap (λ (x : Image). inode_at x ino) first in
    let same : g.S.Stable.image c.read.new.store ≡ image = c.in_ok-inode.ensures.looked.image ∙ first in
    let is : HasInode f ino c.args.isize c.args.fsize c.in_ok-inode.inode c.in_ok-places.places = has_inode image c.args.isize c.args.fsize n has ino c.in_ok-inode.inode c.in_ok-places.places inode
    (λ k lt. (c.in_ok-places.ensures.places tells).each k lt ∙ ap (λ (x : Image). address_of x (head_of c.in_ok-inode.inode) (place_at k)) same) in
    c.test_inode.ensures.seen f is was c.in-None.is

pub returns-clause-types : goal.returns-clause-types
returns-clause-types g c = λ tells n has le keeps.
    let image : Image = g.S.Stable.image c.args.store.now in
    let f : Frame = frame image in
    let ino : ℕ = c.args.ino in
    let inside : is_inode image ino ≡ true = is_numbered image c.args.isize c.args.fsize n has ino c.requires.number (omega arith) in
    let mode : c.in_ok-mode.mode ≡ (inode_at image ino).mode = c.in_ok-mode.ensures.mode tells keeps inside in
    let first : g.S.Stable.image c.mode.new.store ≡ image = c.in_ok-mode.ensures.looked.image in
    let kept : Keeps (g.S.Stable.image c.mode.new.store) c.mode.new.self = subst (λ (x : Image). Keeps x c.mode.new.self) (sym first) (c.in_ok-mode.ensures.keeps tells keeps) in
    let inode : c.in_ok-inode.inode ≡ inode_at image ino = c.in_ok-inode.ensures.inode tells kept (subst (λ (x : Image). is_inode x ino ≡ true) (sym first) inside) ∙ ap (λ (x : Image). inode_at x ino) first in
    let same : g.S.Stable.image c.read.new.store ≡ image = c.in_ok-inode.ensures.looked.image ∙ first in
    let is : HasInode f ino c.args.isize c.args.fsize c.in_ok-inode.inode c.in_ok-places.places = has_inode image c.args.isize c.args.fsize n has ino c.in_ok-inode.inode c.in_ok-places.places inode
    (λ k lt. (c.in_ok-places.ensures.places tells).each k lt ∙ ap (λ (x : Image). address_of x (head_of c.in_ok-inode.inode) (place_at k)) same) in
    let type : ℕ = c.in_ok-inode.inode.mode / 4096 in
    let items : c.push-2.new.self.items ≡ c.args.types.now.items ++ type ∷ [] = search rules in
    items ∙ ap (λ t. c.args.types.now.items ++ t ∷ []) (ap (λ (h : Head). h.type) (sym is.head))

pub returns-clause-bodies : goal.returns-clause-bodies
returns-clause-bodies g c = λ tells n has le keeps had.
    let image : Image = g.S.Stable.image c.args.store.now in
    let f : Frame = frame image in
    let ino : ℕ = c.args.ino in
    let inside : is_inode image ino ≡ true = is_numbered image c.args.isize c.args.fsize n has ino c.requires.number (omega arith) in
    let mode : c.in_ok-mode.mode ≡ (inode_at image ino).mode = c.in_ok-mode.ensures.mode tells keeps inside in
    let first : g.S.Stable.image c.mode.new.store ≡ image = c.in_ok-mode.ensures.looked.image in
    let kept : Keeps (g.S.Stable.image c.mode.new.store) c.mode.new.self = subst (λ (x : Image). Keeps x c.mode.new.self) (sym first) (c.in_ok-mode.ensures.keeps tells keeps) in
    let inode : c.in_ok-inode.inode ≡ inode_at image ino = c.in_ok-inode.ensures.inode tells kept (subst (λ (x : Image). is_inode x ino ≡ true) (sym first) inside) ∙ ap (λ (x : Image). inode_at x ino) first in
    let same : g.S.Stable.image c.read.new.store ≡ image = c.in_ok-inode.ensures.looked.image ∙ first in
    let is : HasInode f ino c.args.isize c.args.fsize c.in_ok-inode.inode c.in_ok-places.places = has_inode image c.args.isize c.args.fsize n has ino c.in_ok-inode.inode c.in_ok-places.places inode
    (λ k lt. (c.in_ok-places.ensures.places tells).each k lt ∙ ap (λ (x : Image). address_of x (head_of c.in_ok-inode.inode) (place_at k)) same) in
    let type : ℕ = c.in_ok-inode.inode.mode / 4096 in
    let items : c.push-2.new.self.items ≡ c.args.types.now.items ++ type ∷ [] = search rules in
    bodies_more ino c.args.types.now.items c.push-2.new.self.items c.args.bodies.now c.keep_body.new.bodies type (slots_kept c.in_ok-inode.inode) (body_at c.in_ok-places.places) (summary_by c.in_ok-inode.inode c.in_ok-places.places)
    c.requires.tables c.requires.number items c.in_ok-keep_body.ensures image
    (λ dir. (kept_here f ino c.in_ok-inode.inode (sym is.head) dir, body-blocks f ino c.args.isize c.args.fsize c.in_ok-inode.inode c.in_ok-places.places is))
    (λ used. summary_is f ino c.args.isize c.args.fsize c.in_ok-inode.inode c.in_ok-places.places is) had

pub returns-clause-tables : goal.returns-clause-tables
returns-clause-tables g c =
    let type : ℕ = c.in_ok-inode.inode.mode / 4096 in
    let items : c.push-2.new.self.items ≡ c.args.types.now.items ++ type ∷ [] = search rules in
    tables_more c.args.ino c.args.types.now.items c.push-2.new.self.items c.args.bodies.now c.keep_body.new.bodies type (slots_kept c.in_ok-inode.inode) (body_at c.in_ok-places.places) (summary_by c.in_ok-inode.inode c.in_ok-places.places)
    c.requires.tables c.requires.number items c.in_ok-keep_body.ensures

pub returns-clause-keeps : goal.returns-clause-keeps
returns-clause-keeps g c = λ tells keeps.
    let first : g.S.Stable.image c.mode.new.store ≡ g.S.Stable.image c.args.store.now = c.in_ok-mode.ensures.looked.image in
    subst (λ (x : Image). Keeps x c.read.new.self) first (c.in_ok-inode.ensures.keeps tells (subst (λ (x : Image). Keeps x c.mode.new.self) (sym first) (c.in_ok-mode.ensures.keeps tells keeps)))
