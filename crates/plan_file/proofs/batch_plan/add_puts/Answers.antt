use Rattle.std.proofs.Common.{arith, ◌≡◌, ◌+◌, ◌<◌, ℕ, ap, length}
use Rattle.stable.specs.Puts.{Reserved}
use Rattle.plan_file.specs.Accepted.{kept_of}
use Rattle.plan_file.specs.Contents.{touched_below}
use Rattle.plan_file.proofs.Adding.{fits-one, fits-more, fits-all}
use Rattle.plan_file.proofs.batch_plan.add_puts.Goals as goal

pub add_contents-requires-clause-room : goal.add_contents-requires-clause-room
add_contents-requires-clause-room g c =
    let none : length c.args.plan.now.puts ≡ 0 = ap (λ (p : Reserved). length p.puts) c.requires.empty in
    let room : c.args.plan.now.room ≡ touched_below (kept_of c.args.batch.now c.args.replies.now) 138 + 3 = ap (λ (p : Reserved). p.room) c.requires.empty in
    let few = c.in_ok-add_cut.ensures.fits.few in
    let same = c.in_ok-add_cut.ensures.fits.room in
    omega (arith, none, room, few, same)

pub add_map-requires : goal.add_map-requires
add_map-requires g c =
    let none : length c.args.plan.now.puts ≡ 0 = ap (λ (p : Reserved). length p.puts) c.requires.empty in
    let room : c.args.plan.now.room ≡ touched_below (kept_of c.args.batch.now c.args.replies.now) 138 + 3 = ap (λ (p : Reserved). p.room) c.requires.empty in
    let few = c.in_ok-add_cut.ensures.fits.few in
    let same = c.in_ok-add_cut.ensures.fits.room in
    let more = c.in_ok-add_contents.ensures.fits.few in
    let still = c.in_ok-add_contents.ensures.fits.room in
    omega (arith, none, room, few, same, more, still)

pub add-requires : goal.add-requires
add-requires g c =
    let n : ℕ = touched_below (kept_of c.args.batch.now c.args.replies.now) 138 in
    let all = fits-all (g.S.Stable.sector_count c.args.store.now) c.args.ino c.args.places.now c.args.target.now c.args.attr.now (kept_of c.args.batch.now c.args.replies.now) c.requires.ready
    c.args.plan.now c.add_cut.new.plan c.add_contents.new.plan c.add_map.new.plan (g.S.Stable.sector_count c.add_cut.new.store) c.in_ok-add_cut.ensures.looked.sectors c.in_ok-add_cut.ensures.fits n c.in_ok-add_contents.ensures.fits c.add_map.ensures.fits in
    let none : length c.args.plan.now.puts ≡ 0 = ap (λ (p : Reserved). length p.puts) c.requires.empty in
    let room : c.args.plan.now.room ≡ n + 3 = ap (λ (p : Reserved). p.room) c.requires.empty in
    let few = all.few in
    let same = all.room in
    omega (arith, none, room, few, same)

pub returns-clause-fits : goal.returns-clause-fits
returns-clause-fits g c =
    let sectors : ℕ = g.S.Stable.sector_count c.args.store.now in
    let n : ℕ = touched_below (kept_of c.args.batch.now c.args.replies.now) 138 in
    let all = fits-all sectors c.args.ino c.args.places.now c.args.target.now c.args.attr.now (kept_of c.args.batch.now c.args.replies.now) c.requires.ready
    c.args.plan.now c.add_cut.new.plan c.add_contents.new.plan c.add_map.new.plan (g.S.Stable.sector_count c.add_cut.new.store) c.in_ok-add_cut.ensures.looked.sectors c.in_ok-add_cut.ensures.fits n c.in_ok-add_contents.ensures.fits c.add_map.ensures.fits in
    let place = c.inode_sector_of.ensures in
    let inside = c.requires.ready.inode in
    fits-more sectors (1 + n + 1 + 1) (n + 3) c.add.new.self (omega arith)
    (fits-one sectors (1 + n + 1) c.args.plan.now c.add_map.new.plan c.add.new.self c.inode_sector_of.result c.sector_of_inode-sector.result all (omega (arith, place)) (omega (arith, place, inside)) c.add.ensures)
