use Rattle.std.proofs.Common.{arith, ◌≡◌, inl, ap, ◌∙◌}
use Rattle.std.proofs.lemmas.Result.{on_ok_weaker}
use Rattle.stable.proofs.Clocked.{goes_on, weaker}
use Rattle.v7_layout.specs.Records.{super_of}
use Rattle.v7_layout.specs.Written.{super_bytes}
use Rattle.v7_map.specs.Image.{sector_at}
use Rattle.volume.proofs.OpenMarks.{marked, mark_moment, mark_name}
use Rattle.volume.proofs.marking.mark_open.Goals as goal

pub returns-clause-done : goal.returns-clause-done
returns-clause-done g c tells =
    let S = g.S.Stable in
    let image = S.image c.args.store.now in
    let looked = c.in_ok-get_sector.ensures.looked in
    let read : c.read-super_block.result ≡ super_of (sector_at image 1) = c.read-super_block.ensures.record_of ∙ ap super_of (c.in_ok-get_sector.ensures.done tells) in
    on_ok_weaker c.put.result (λ is. marked image (S.image c.get_sector.new.store) c.read-super_block.result c.write.new.bytes c.args.now looked.image (c.requires.weak tells) read
    (c.write.ensures.reads_back ∙ c.running-after.ensures) (c.write.ensures.bytes ∙ ap super_bytes c.running-after.ensures) _ is) (c.put.ensures.done tells)

pub returns-clause-crash : goal.returns-clause-crash
returns-clause-crash g c =
    let S = g.S.Stable in
    let image = S.image c.args.store.now in
    let looked = c.in_ok-get_sector.ensures.looked in
    goes_on (weaker looked.crash (λ d left is. inl is)) c.put.ensures.crash (λ d left cut.
    let tells = g.met.S.Stable.clocked.told _ _ d left in
    let read : c.read-super_block.result ≡ super_of (sector_at image 1) = c.read-super_block.ensures.record_of ∙ ap super_of (c.in_ok-get_sector.ensures.done tells) in
    mark_moment image (S.image c.get_sector.new.store) c.read-super_block.result c.write.new.bytes c.args.now looked.image (c.requires.weak tells) read
    (c.write.ensures.reads_back ∙ c.running-after.ensures) (c.write.ensures.bytes ∙ ap super_bytes c.running-after.ensures) d cut)

pub returns-clause-opens : goal.returns-clause-opens
returns-clause-opens g c tells t le opens =
    let S = g.S.Stable in
    let image = S.image c.args.store.now in
    let looked = c.in_ok-get_sector.ensures.looked in
    let read : c.read-super_block.result ≡ super_of (sector_at image 1) = c.read-super_block.ensures.record_of ∙ ap super_of (c.in_ok-get_sector.ensures.done tells) in
    let name = mark_name image (S.image c.get_sector.new.store) c.read-super_block.result c.write.new.bytes c.args.now looked.image (c.requires.weak tells) read
    (c.write.ensures.reads_back ∙ c.running-after.ensures) (c.write.ensures.bytes ∙ ap super_bytes c.running-after.ensures) in
    c.put.ensures.opens name t (omega (arith, le, looked.crash.later)) (looked.opens t le opens)
