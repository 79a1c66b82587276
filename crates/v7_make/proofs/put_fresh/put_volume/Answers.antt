use Rattle.std.proofs.Common.{arith, ◌≡◌, ◌-◌, [], set, sym, subst, ap, ◌∙◌, get_or-set_other}
use Rattle.std.proofs.lemmas.Result.{on_ok_weaker}
use Rattle.v7_layout.specs.declared.super_block.Super.{Super}
use Rattle.stable.specs.Store.{Image, name_in}
use Rattle.stable.proofs.Clocked.{goes_on, weaker, ends}
use Rattle.v7_map.specs.Image.{sector_at}
use Rattle.v7_map.proofs.Whole.{as_long}
use Rattle.v7_make.specs.Made.{IsNewSuper, KeepsButInodes}
use Rattle.v7_make.proofs.FreshSteps.{put_is, named}
use Rattle.v7_make.proofs.Outside.{inodes_outside, outside_more}
use Rattle.v7_make.proofs.Puts.{some_one, some_then, some_wider}
use Rattle.v7_make.proofs.put_fresh.put_volume.Goals as goal

pub returns-clause-done : goal.returns-clause-done
returns-clause-done g c = λ tells.
    let S = g.S.Stable in
    let shape = as_long S.sector_count g.met.S.Stable.clocked g.met.S.Stable.shape c.put_inodes.new.store tells in
    let size = shape.size in
    let place = c.requires.place in
    let sectors = c.in_ok-put_inodes.ensures.sectors in
    on_ok_weaker c.put-2.result (λ is.
    put_is (S.image c.put_inodes.new.store) (S.image c.put-2.new.self) c.args.size c.args.isize c.args.now c.args.name c.root_block.result c.write.new.bytes
    c.requires.low c.requires.high c.requires.above c.requires.most (omega (arith, size, place, sectors)) (c.in_ok-put_inodes.ensures.done tells)
    (subst (λ (s : Super). IsNewSuper c.args.size c.args.isize c.args.name c.args.now 1 0 0 s) (sym c.write.ensures.reads_back) c.new_super.ensures)
    c.root_block.ensures.dot c.root_block.ensures.dots
    (is ∙ ap (λ (x : Image). set x 1 c.write.new.bytes) (c.in_ok-put.ensures.done tells))) (c.put-2.ensures.done tells)

pub returns-in_err-put_inodes-clause-crash : goal.returns-in_err-put_inodes-clause-crash
returns-in_err-put_inodes-clause-crash g c =
    let above = c.requires.above in
    weaker c.put_inodes.ensures.crash (λ d left keeps. inodes_outside (g.S.Stable.image c.args.store.now) d c.args.isize c.args.size (omega (arith, above)) keeps)

pub returns-in_err-put-clause-crash : goal.returns-in_err-put-clause-crash
returns-in_err-put-clause-crash g c =
    let S = g.S.Stable in
    let above = c.requires.above in
    let low = c.requires.low in
    let first = weaker c.put_inodes.ensures.crash (λ d left keeps. inodes_outside (S.image c.args.store.now) d c.args.isize c.args.size (omega (arith, above)) keeps) in
    goes_on first c.put.ensures.crash (λ d left cut.
    outside_more (S.image c.args.store.now) (S.image c.put_inodes.new.store) d c.args.size c.args.isize c.root_block.result (omega (arith, low)) above (ends g.met.S.Stable.clocked first (g.met.S.Stable.clocked.told _ _ d left)) cut)

pub returns-clause-crash : goal.returns-clause-crash
returns-clause-crash g c =
    let S = g.S.Stable in
    let above = c.requires.above in
    let low = c.requires.low in
    let first = weaker c.put_inodes.ensures.crash (λ d left keeps. inodes_outside (S.image c.args.store.now) d c.args.isize c.args.size (omega (arith, above)) keeps) in
    let second = goes_on first c.put.ensures.crash (λ d left cut.
    outside_more (S.image c.args.store.now) (S.image c.put_inodes.new.store) d c.args.size c.args.isize c.root_block.result (omega (arith, low)) above (ends g.met.S.Stable.clocked first (g.met.S.Stable.clocked.told _ _ d left)) cut) in
    goes_on second c.put-2.ensures.crash (λ d left cut.
    outside_more (S.image c.args.store.now) (S.image c.put.new.self) d c.args.size 1 c.write.new.bytes (omega arith) (omega (arith, above, low)) (ends g.met.S.Stable.clocked second (g.met.S.Stable.clocked.told _ _ d left)) cut)

pub returns-in_err-put-clause-opens : goal.returns-in_err-put-clause-opens
returns-in_err-put-clause-opens g c = λ tells same t le opens.
    let low = c.requires.low in
    let a = c.put_inodes.ensures.crash.later in
    c.put.ensures.opens (λ one. absurd (omega (arith, one, low))) t (omega (arith, le, a)) (c.put_inodes.ensures.opens t le opens)

pub returns-clause-opens : goal.returns-clause-opens
returns-clause-opens g c = λ tells same t le opens.
    let S = g.S.Stable in
    let low = c.requires.low in
    let a = c.put_inodes.ensures.crash.later in
    let b = c.put.ensures.crash.later in
    let keeps : KeepsButInodes c.args.isize (S.image c.args.store.now) (S.image c.put_inodes.new.store) = ends g.met.S.Stable.clocked c.put_inodes.ensures.crash tells in
    let was : sector_at (S.image c.put.new.self) 1 ≡ sector_at (S.image c.args.store.now) 1 =
    ap (λ (x : Image). sector_at x 1) (c.in_ok-put.ensures.done tells) ∙ get_or-set_other (S.image c.put_inodes.new.store) c.args.isize 1 c.root_block.result [] (λ one. omega (arith, one, low))
    ∙ keeps.1 1 (λ two. absurd (omega (arith, two))) in
    c.put-2.ensures.opens (λ one. named c.args.size c.args.isize c.args.now c.args.name c.write.new.bytes
    (subst (λ (s : Super). IsNewSuper c.args.size c.args.isize c.args.name c.args.now 1 0 0 s) (sym c.write.ensures.reads_back) c.new_super.ensures) ∙ sym same ∙ ap name_in (sym was)) t (omega (arith, le, a, b))
    (c.put.ensures.opens (λ one. absurd (omega (arith, one, low))) t (omega (arith, le, a)) (c.put_inodes.ensures.opens t le opens))

pub returns-in_err-put_inodes-clause-snapshot : goal.returns-in_err-put_inodes-clause-snapshot
returns-in_err-put_inodes-clause-snapshot g c = some_wider (c.args.isize - 2) c.args.isize _ _ _ _ (omega arith) c.put_inodes.ensures.snapshot

pub returns-in_err-put-clause-snapshot : goal.returns-in_err-put-clause-snapshot
returns-in_err-put-clause-snapshot g c =
    let low = c.requires.low in
    some_then (c.args.isize - 2) 1 _ _ _ _ _ _ _ (omega (arith, low)) c.put_inodes.ensures.cause.later c.put.ensures.cause.later c.put_inodes.ensures.snapshot (some_one _ _ _ _ c.put.ensures.snapshot)

pub returns-clause-snapshot : goal.returns-clause-snapshot
returns-clause-snapshot g c =
    let low = c.requires.low in
    let a = c.put_inodes.ensures.cause.later in
    let b = c.put.ensures.cause.later in
    some_then (c.args.isize - 1) 1 _ _ _ _ _ _ _ (omega (arith, low)) (omega (arith, a, b)) c.put-2.ensures.cause.later
    (some_then (c.args.isize - 2) 1 (c.args.isize - 1) _ _ _ _ _ _ (omega (arith, low)) a b c.put_inodes.ensures.snapshot (some_one _ _ _ _ c.put.ensures.snapshot))
    (some_one _ _ _ _ c.put-2.ensures.snapshot)
