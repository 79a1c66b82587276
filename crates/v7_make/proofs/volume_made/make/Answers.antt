use Rattle.std.proofs.Common.{arith, ◌≡◌, ◌+◌, ◌-◌, ◌/◌, refl, sym, subst, ap, ◌∙◌, Err}
use Rattle.std.proofs.lemmas.Result.{err_from_is_err_and}
use Rattle.index_sets.specs.Free.{count_free}
use Rattle.stable.proofs.Clocked.{goes_on, ends}
use Rattle.v7_make.specs.Made.{IsAnswered, IsMade}
use Rattle.v7_make.proofs.Counts.{count-from}
use Rattle.v7_make.proofs.Fitting.{fitting-room, refused, untouched}
use Rattle.v7_make.proofs.Making.{put_idle, put_made}
use Rattle.v7_make.proofs.Outside.{chain_outside, from_below}
use Rattle.v7_make.proofs.Puts.{some_then}
use Rattle.v7_make.proofs.volume_made.make.Goals as goal

pub returns-in_err-fits-clause-answered : goal.returns-in_err-fits-clause-answered
returns-in_err-fits-clause-answered g c =
    let S = g.S.Stable in
    let p = err_from_is_err_and c.from_residual.result c.from_residual.ensures.1 in
    let is : c.from_residual.result ≡ Err c.in_err-fits.field-0.0 = p.1 ∙ ap Err p.2 in
    subst (IsAnswered S c.args.size c.args.inodes c.args.store.now c.args.store.now) (sym is) (record {
      later = omega arith;
      says = refused S c.args.size c.args.inodes c.args.store.now c.args.store.now c.in_err-fits.field-0.0 (sym c.fits.ensures ∙ c.in_err-fits.was) (untouched S g.met.S.Stable.clocked c.args.store.now);
    })

pub overflow_mul-isize : goal.overflow_mul-isize
overflow_mul-isize g c = let room = fitting-room c.args.size c.args.inodes (sym c.fits.ensures ∙ c.in_ok-fits.was) in let few = room.1 in let list = c.list_blocks-isize.ensures in omega (arith, list, few)

pub overflow_add-isize-3 : goal.overflow_add-isize-3
overflow_add-isize-3 g c = let room = fitting-room c.args.size c.args.inodes (sym c.fits.ensures ∙ c.in_ok-fits.was) in let few = room.1 in let list = c.list_blocks-isize.ensures in omega (arith, list, few)

pub put_volume-requires-clause-high : goal.put_volume-requires-clause-high
put_volume-requires-clause-high g c = let room = fitting-room c.args.size c.args.inodes (sym c.fits.ensures ∙ c.in_ok-fits.was) in let few = room.1 in let list = c.list_blocks-isize.ensures in omega (arith, list, few)

pub put_volume-requires-clause-above : goal.put_volume-requires-clause-above
put_volume-requires-clause-above g c = let room = fitting-room c.args.size c.args.inodes (sym c.fits.ensures ∙ c.in_ok-fits.was) in let need = room.2 in let list = c.list_blocks-isize.ensures in omega (arith, list, need)

pub put_volume-requires-clause-most : goal.put_volume-requires-clause-most
put_volume-requires-clause-most g c = (fitting-room c.args.size c.args.inodes (sym c.fits.ensures ∙ c.in_ok-fits.was)).0

pub write_chain-requires-clause-fit : goal.write_chain-requires-clause-fit
write_chain-requires-clause-fit g c =
    let room = fitting-room c.args.size c.args.inodes (sym c.fits.ensures ∙ c.in_ok-fits.was) in
    let few = room.1 in
    let need = room.2 in
    let list = c.list_blocks-isize.ensures in
    let place = c.requires.place in
    let same = c.in_ok-put_volume.ensures.sectors in
    let long = c.in_ok-numbers.ensures.long in
    record {
      two = omega (arith, need, place, same);
      within = λ b there. let below = from_below (2 + c.list_blocks-isize.result + 1) c.args.size c.in_ok-blocks.blocks c.in_ok-blocks.ensures b there in omega (arith, below, place, same);
      numbers = omega (arith, long, list, few);
    }

pub write_chain-requires-clause-idle : goal.write_chain-requires-clause-idle
write_chain-requires-clause-idle g c = λ tells.
    let room = fitting-room c.args.size c.args.inodes (sym c.fits.ensures ∙ c.in_ok-fits.was) in
    let need = room.2 in
    let list = c.list_blocks-isize.ensures in
    let some = c.requires.some in
    put_idle (g.S.Stable.image c.put_volume.new.store) c.args.size (2 + c.list_blocks-isize.result) c.args.now c.args.name (c.in_ok-put_volume.ensures.done tells) (omega (arith, list, some)) (omega (arith, list, need)) c.in_ok-blocks.blocks c.in_ok-blocks.ensures

pub returns-in_err-write_chain-clause-crash : goal.returns-in_err-write_chain-clause-crash
returns-in_err-write_chain-clause-crash g c =
    let S = g.S.Stable in
    let room = fitting-room c.args.size c.args.inodes (sym c.fits.ensures ∙ c.in_ok-fits.was) in
    let need = room.2 in
    goes_on c.put_volume.ensures.crash c.write_chain.ensures.crash (λ d left keeps.
    chain_outside (S.image c.args.store.now) (S.image c.put_volume.new.store) d (2 + c.list_blocks-isize.result + 1) c.args.size c.in_ok-blocks.blocks (omega arith) (omega (arith, need)) c.in_ok-blocks.ensures
    (ends g.met.S.Stable.clocked c.put_volume.ensures.crash (g.met.S.Stable.clocked.told _ _ d left)) keeps)

pub returns-in_err-write_chain-clause-snapshot : goal.returns-in_err-write_chain-clause-snapshot
returns-in_err-write_chain-clause-snapshot g c =
    let room = fitting-room c.args.size c.args.inodes (sym c.fits.ensures ∙ c.in_ok-fits.was) in
    let need = room.2 in
    let list = c.list_blocks-isize.ensures in
    let many : count_free c.in_ok-blocks.blocks ≡ c.args.size - (2 + c.list_blocks-isize.result + 1) = count-from c.in_ok-blocks.blocks (2 + c.list_blocks-isize.result + 1) c.args.size c.in_ok-blocks.ensures (omega (arith, list, need)) in
    some_then (2 + c.list_blocks-isize.result) (count_free c.in_ok-blocks.blocks / 50 + 1) _ _ _ _ _ _ _ (omega (arith, many, list)) c.put_volume.ensures.cause.later c.write_chain.ensures.cause.later
    c.put_volume.ensures.snapshot c.write_chain.ensures.snapshot

pub overflow_sub-result : goal.overflow_sub-result
overflow_sub-result g c = let room = fitting-room c.args.size c.args.inodes (sym c.fits.ensures ∙ c.in_ok-fits.was) in let need = room.2 in let list = c.list_blocks-isize.ensures in omega (arith, list, need)

pub overflow_sub-result-2 : goal.overflow_sub-result-2
overflow_sub-result-2 g c = let room = fitting-room c.args.size c.args.inodes (sym c.fits.ensures ∙ c.in_ok-fits.was) in let need = room.2 in let list = c.list_blocks-isize.ensures in omega (arith, list, need)

pub returns-clause-made : goal.returns-clause-made
returns-clause-made g c = λ tells.
    let S = g.S.Stable in
    let room = fitting-room c.args.size c.args.inodes (sym c.fits.ensures ∙ c.in_ok-fits.was) in
    let need = room.2 in
    let list = c.list_blocks-isize.ensures in
    let some = c.requires.some in
    subst (λ n. IsMade (S.image c.write_chain.new.store) c.args.size (2 + n) c.args.name c.args.now (c.args.size - (2 + c.list_blocks-isize.result) - 1)) list
    (put_made (S.image c.put_volume.new.store) c.args.size (2 + c.list_blocks-isize.result) c.args.now c.args.name (c.in_ok-put_volume.ensures.done tells) (omega (arith, list, some)) (omega (arith, list, need))
    (S.image c.write_chain.new.store) c.in_ok-blocks.blocks c.in_ok-numbers.numbers (c.args.size - (2 + c.list_blocks-isize.result) - 1) c.in_ok-blocks.ensures c.in_ok-numbers.ensures refl (c.in_ok-write_chain.ensures.done tells))

pub returns-clause-crash : goal.returns-clause-crash
returns-clause-crash g c =
    let S = g.S.Stable in
    let room = fitting-room c.args.size c.args.inodes (sym c.fits.ensures ∙ c.in_ok-fits.was) in
    let need = room.2 in
    goes_on c.put_volume.ensures.crash c.write_chain.ensures.crash (λ d left keeps.
    chain_outside (S.image c.args.store.now) (S.image c.put_volume.new.store) d (2 + c.list_blocks-isize.result + 1) c.args.size c.in_ok-blocks.blocks (omega arith) (omega (arith, need)) c.in_ok-blocks.ensures
    (ends g.met.S.Stable.clocked c.put_volume.ensures.crash (g.met.S.Stable.clocked.told _ _ d left)) keeps)

pub returns-clause-snapshot : goal.returns-clause-snapshot
returns-clause-snapshot g c =
    let room = fitting-room c.args.size c.args.inodes (sym c.fits.ensures ∙ c.in_ok-fits.was) in
    let need = room.2 in
    let list = c.list_blocks-isize.ensures in
    let many : count_free c.in_ok-blocks.blocks ≡ c.args.size - (2 + c.list_blocks-isize.result + 1) = count-from c.in_ok-blocks.blocks (2 + c.list_blocks-isize.result + 1) c.args.size c.in_ok-blocks.ensures (omega (arith, list, need)) in
    some_then (2 + c.list_blocks-isize.result) (count_free c.in_ok-blocks.blocks / 50 + 1) _ _ _ _ _ _ _ (omega (arith, many, list)) c.put_volume.ensures.cause.later c.write_chain.ensures.cause.later
    c.put_volume.ensures.snapshot c.write_chain.ensures.snapshot
