use Rattle.std.proofs.Common.{arith, ◌≡◌, ◌/◌, length, sym, subst, ap, ◌∙◌}
use Rattle.std.proofs.lemmas.Result.{on_ok_weaker}
use Rattle.index_sets.specs.Free.{count_free}
use Rattle.stable.specs.Store.{Image, KeepsName}
use Rattle.stable.proofs.Clocked.{goes_on, weaker}
use Rattle.v7_layout.specs.Records.{super_of}
use Rattle.v7_map.specs.Image.{sector_at}
use Rattle.v7_make.specs.Chains.{AreIdle, ChainedFrom, KeepsVolume}
use Rattle.v7_make.specs.Sets.{free_among}
use Rattle.v7_make.specs.Stops.{IsStopped}
use Rattle.v7_make.proofs.Counts.{count-among}
use Rattle.v7_make.proofs.Puts.{some_look, some_one, some_then}
use Rattle.v7_make.proofs.Steps.{keeps_none}
use Rattle.v7_make.proofs.Stopping.{stop_moment, stop_chained, stop_name}
use Rattle.v7_make.proofs.stop.write_chain.Goals as goal

pub write_records-requires-clause-idle : goal.write_records-requires-clause-idle
write_records-requires-clause-idle g c = λ tells. subst (λ (x : Image). AreIdle x c.args.blocks.now) (sym c.in_ok-get_sector.ensures.looked.image) (c.requires.idle tells)

pub returns-clause-done : goal.returns-clause-done
returns-clause-done g c = λ tells.
    let S = g.S.Stable in
    let image = S.image c.args.store.now in
    let same : S.image c.get_sector.new.store ≡ image = c.in_ok-get_sector.ensures.looked.image in
    let read : c.read-super_block.result ≡ super_of (sector_at image 1) = c.read-super_block.ensures.record_of ∙ ap super_of (c.in_ok-get_sector.ensures.done tells) in
    let chained : ChainedFrom image (S.image c.write_records.new.store) c.args.blocks.now c.in_ok-chain.chain 0 (length c.args.blocks.now) =
    subst (λ (x : Image). ChainedFrom x (S.image c.write_records.new.store) c.args.blocks.now c.in_ok-chain.chain 0 (length c.args.blocks.now)) same (c.in_ok-chain.ensures.done tells) in
    let stopped : IsStopped c.read-super_block.result c.stopped-after.result (count_free c.args.blocks.now) (count_free c.args.inodes.now) c.args.now =
    subst (λ n. IsStopped c.read-super_block.result c.stopped-after.result n (count_free c.args.inodes.now) c.args.now) c.count.ensures c.stopped-after.ensures.stopped in
    on_ok_weaker c.put.result (λ is. stop_chained image (S.image c.write_records.new.store) c.args.blocks.now c.in_ok-chain.chain c.read-super_block.result c.stopped-after.result c.write.new.bytes
    c.args.inodes.now c.args.now (c.requires.idle tells) chained read c.in_ok-chain.ensures.places stopped c.stopped-after.ensures.chain c.stopped-after.ensures.listed c.write.ensures.reads_back c.write.ensures.bytes _ is) (c.put.ensures.done tells)

pub returns-in_err-get_sector-clause-crash : goal.returns-in_err-get_sector-clause-crash
returns-in_err-get_sector-clause-crash g c = weaker c.get_sector.ensures.looked.crash (λ d left is. subst (KeepsVolume c.args.blocks.now (g.S.Stable.image c.args.store.now)) (sym is) (keeps_none (g.S.Stable.image c.args.store.now) c.args.blocks.now))

pub returns-in_err-chain-clause-crash : goal.returns-in_err-chain-clause-crash
returns-in_err-chain-clause-crash g c =
    let S = g.S.Stable in
    let image = S.image c.args.store.now in
    let same : S.image c.get_sector.new.store ≡ image = c.in_ok-get_sector.ensures.looked.image in
    goes_on (weaker c.in_ok-get_sector.ensures.looked.crash (λ d left is. subst (KeepsVolume c.args.blocks.now image) (sym is) (keeps_none image c.args.blocks.now)))
    c.write_records.ensures.crash (λ d left now. subst (λ (x : Image). KeepsVolume c.args.blocks.now x d) same now)

pub returns-clause-crash : goal.returns-clause-crash
returns-clause-crash g c =
    let S = g.S.Stable in
    let image = S.image c.args.store.now in
    let same : S.image c.get_sector.new.store ≡ image = c.in_ok-get_sector.ensures.looked.image in
    goes_on (goes_on (weaker c.in_ok-get_sector.ensures.looked.crash (λ d left is. subst (KeepsVolume c.args.blocks.now image) (sym is) (keeps_none image c.args.blocks.now)))
    c.write_records.ensures.crash (λ d left now. subst (λ (x : Image). KeepsVolume c.args.blocks.now x d) same now))
    c.put.ensures.crash (λ d left cut.
    let tells = g.met.S.Stable.clocked.told _ _ d left in
    let read : c.read-super_block.result ≡ super_of (sector_at image 1) = c.read-super_block.ensures.record_of ∙ ap super_of (c.in_ok-get_sector.ensures.done tells) in
    let chained : ChainedFrom image (S.image c.write_records.new.store) c.args.blocks.now c.in_ok-chain.chain 0 (length c.args.blocks.now) =
    subst (λ (x : Image). ChainedFrom x (S.image c.write_records.new.store) c.args.blocks.now c.in_ok-chain.chain 0 (length c.args.blocks.now)) same (c.in_ok-chain.ensures.done tells) in
    let stopped : IsStopped c.read-super_block.result c.stopped-after.result (count_free c.args.blocks.now) (count_free c.args.inodes.now) c.args.now =
    subst (λ n. IsStopped c.read-super_block.result c.stopped-after.result n (count_free c.args.inodes.now) c.args.now) c.count.ensures c.stopped-after.ensures.stopped in
    stop_moment image (S.image c.write_records.new.store) c.args.blocks.now c.in_ok-chain.chain c.read-super_block.result c.stopped-after.result c.write.new.bytes
    c.args.inodes.now c.args.now (c.requires.idle tells) chained read c.in_ok-chain.ensures.places stopped c.stopped-after.ensures.chain c.stopped-after.ensures.listed c.write.ensures.reads_back c.write.ensures.bytes d cut)

pub returns-in_err-chain-clause-opens : goal.returns-in_err-chain-clause-opens
returns-in_err-chain-clause-opens g c = λ tells t le opens.
    let a = c.in_ok-get_sector.ensures.looked.crash.later in
    c.write_records.ensures.opens tells t (omega (arith, le, a)) (c.in_ok-get_sector.ensures.looked.opens t le opens)

pub returns-clause-opens : goal.returns-clause-opens
returns-clause-opens g c = λ tells t le opens.
    let S = g.S.Stable in
    let image = S.image c.args.store.now in
    let same : S.image c.get_sector.new.store ≡ image = c.in_ok-get_sector.ensures.looked.image in
    let read : c.read-super_block.result ≡ super_of (sector_at image 1) = c.read-super_block.ensures.record_of ∙ ap super_of (c.in_ok-get_sector.ensures.done tells) in
    let chained : ChainedFrom image (S.image c.write_records.new.store) c.args.blocks.now c.in_ok-chain.chain 0 (length c.args.blocks.now) =
    subst (λ (x : Image). ChainedFrom x (S.image c.write_records.new.store) c.args.blocks.now c.in_ok-chain.chain 0 (length c.args.blocks.now)) same (c.in_ok-chain.ensures.done tells) in
    let stopped : IsStopped c.read-super_block.result c.stopped-after.result (count_free c.args.blocks.now) (count_free c.args.inodes.now) c.args.now =
    subst (λ n. IsStopped c.read-super_block.result c.stopped-after.result n (count_free c.args.inodes.now) c.args.now) c.count.ensures c.stopped-after.ensures.stopped in
    let name : KeepsName 1 c.write.new.bytes (S.image c.write_records.new.store) = stop_name image (S.image c.write_records.new.store) c.args.blocks.now c.in_ok-chain.chain c.read-super_block.result c.stopped-after.result c.write.new.bytes
    c.args.inodes.now c.args.now (c.requires.idle tells) chained read c.in_ok-chain.ensures.places stopped c.stopped-after.ensures.chain c.stopped-after.ensures.listed c.write.ensures.reads_back c.write.ensures.bytes in
    let a = c.in_ok-get_sector.ensures.looked.crash.later in
    let b = c.write_records.ensures.crash.later in
    c.put.ensures.opens name t (omega (arith, le, a, b)) (c.write_records.ensures.opens tells t (omega (arith, le, a)) (c.in_ok-get_sector.ensures.looked.opens t le opens))

pub returns-in_err-chain-clause-snapshot : goal.returns-in_err-chain-clause-snapshot
returns-in_err-chain-clause-snapshot g c =
    let S = g.S.Stable in
    let looked = c.in_ok-get_sector.ensures.looked in
    let records : free_among c.args.blocks.now 0 (length c.args.blocks.now) ≡ count_free c.args.blocks.now = count-among c.args.blocks.now in
    some_then 0 (free_among c.args.blocks.now 0 (length c.args.blocks.now) / 50) _ _ _ _ _ _ _ (omega (arith, records)) looked.later c.write_records.ensures.cause.later
    (some_look _ _ _ _ (g.met.S.Stable.counted c.args.store.now) looked.later looked.snapshot) c.write_records.ensures.snapshot

pub returns-clause-snapshot : goal.returns-clause-snapshot
returns-clause-snapshot g c =
    let S = g.S.Stable in
    let looked = c.in_ok-get_sector.ensures.looked in
    let records : free_among c.args.blocks.now 0 (length c.args.blocks.now) ≡ count_free c.args.blocks.now = count-among c.args.blocks.now in
    let a = looked.later in
    let b = c.write_records.ensures.cause.later in
    some_then (count_free c.args.blocks.now / 50) 1 _ _ _ _ _ _ _ (omega arith) (omega (arith, a, b)) c.put.ensures.cause.later
    (some_then 0 (free_among c.args.blocks.now 0 (length c.args.blocks.now) / 50) (count_free c.args.blocks.now / 50) _ _ _ _ _ _ (omega (arith, records)) a b
    (some_look _ _ _ _ (g.met.S.Stable.counted c.args.store.now) a looked.snapshot) c.write_records.ensures.snapshot)
    (some_one _ _ _ _ c.put.ensures.snapshot)
