use Rattle.std.proofs.Common.{rules, arith, ◌≡◌, ◌+◌, ℕ, length, sym, subst}
use Rattle.stable.specs.Store.{Image}
use Rattle.stable.proofs.Looking.{no_look, looks_again}
use Rattle.v7_damage.specs.Names.{HasNoted}
use Rattle.v7_damage.proofs.Noting.{noted_first, room_first}
use Rattle.v7_damage.proofs.noted.note_directories.Goals as goal

pub loop-ino-init : goal.loop-ino-init
loop-ino-init g c =
    let S = g.S.Stable in
    let n : ℕ = length c.args.listed.now.types.items in
    let nothing = c.in_ok-parents.ensures in
    record {
      noted = λ tells types can are. noted_first (S.image c.args.store.now) c.args.listed.now.types.items c.args.listed.now.bodies c.args.walks.now _ _ types can are nothing;
      room = room_first _ _ n (search rules) nothing;
      looked = no_look S g.met.S.Stable.clocked c.args.store.now;
    }

pub loop-ino-preserved : goal.loop-ino-preserved
loop-ino-preserved g c =
    let S = g.S.Stable in
    let i = c.loop-ino.invariant in
    let image : Image = S.image c.args.store.now in
    let types = c.args.listed.now.types.items in
    record {
      noted = λ tells types can are.
          subst (λ (x : Image). HasNoted x c.args.listed.now.types.items c.args.listed.now.bodies c.args.walks.now c.note_directory.new.parents c.note_directory.new.kept (c.loop-ino.ino + 1)) i.looked.image
          (c.in_ok-note_directory.ensures.noted tells
          (subst (λ (x : Image). HasNoted x c.args.listed.now.types.items c.args.listed.now.bodies c.args.walks.now c.loop-ino.parents c.loop-ino.kept c.loop-ino.ino) (sym i.looked.image) (i.noted tells types can are)));
      room = c.in_ok-note_directory.ensures.room;
      looked = looks_again S g.met.S.Stable.clocked i.looked c.in_ok-note_directory.ensures.looked;
    }

pub returns-clause-noted : goal.returns-clause-noted
returns-clause-noted g c = λ tells types can are.
    let end : c.loop-ino.ino ≡ length c.args.listed.now.types.items = omega arith in
    subst (HasNoted (g.S.Stable.image c.args.store.now) c.args.listed.now.types.items c.args.listed.now.bodies c.args.walks.now c.loop-ino.parents c.loop-ino.kept) end (c.loop-ino.invariant.noted tells types can are)
