use Rattle.std.proofs.Common.{rules, ◌≡◌, ◌≢◌, min, length, refl, sym, subst, ◌∙◌}
use Rattle.std.proofs.lemmas.Result.{IfOk-equal, IfOk-weaker}
use Rattle.files_model.specs.Files.{sectors_of}
use Rattle.v7_map.specs.Image.{inode_at}
use Rattle.v7_map.proofs.Whole.{as_long}
use Rattle.v7_mend.specs.Changes.{PutsSome}
use Rattle.v7_mend.proofs.Mapping.{read_inode, no_map_read, a_map_read, single_read}
use Rattle.v7_mend.proofs.Running.{counts_weaker}
use Rattle.v7_mend.proofs.Steps.{either_same}
use Rattle.v7_mend.proofs.trim.trim_map.Goals as goal

pub returns-then-map-eq0-clause-done : goal.returns-then-map-eq0-clause-done
returns-then-map-eq0-clause-done g c = λ tells.
    let S = g.S.Stable in
    let image = S.image c.args.store.now in
    let long : length image ≡ c.sectors.result = (as_long S.sector_count g.met.S.Stable.clocked g.met.S.Stable.shape c.args.store.now tells).size ∙ sym c.sectors.ensures in
    let read : c.inode_in-inode.result ≡ inode_at image c.args.ino = read_inode image c.args.ino c.args.held.now c.inode_in-inode.result (c.requires.number tells) (c.requires.held tells) c.inode_in-inode.ensures.inode in
    sym (no_map_read image c.args.ino c.args.links c.sectors.result (c.requires.weak tells) long c.inode_in-inode.result read c.map_of-map.result c.map_of-map.ensures (search rules))

pub returns-clause-done : goal.returns-clause-done
returns-clause-done g c = λ tells.
    let S = g.S.Stable in
    let image = S.image c.args.store.now in
    let long : length image ≡ c.sectors.result = (as_long S.sector_count g.met.S.Stable.clocked g.met.S.Stable.shape c.args.store.now tells).size ∙ sym c.sectors.ensures in
    let read : c.inode_in-inode.result ≡ inode_at image c.args.ino = read_inode image c.args.ino c.args.held.now c.inode_in-inode.result (c.requires.number tells) (c.requires.held tells) c.inode_in-inode.ensures.inode in
    let some : c.map_of-map.result ≢ 0 = search rules in
    let few : c.min.result ≡ min (sectors_of c.inode_in-inode.result.size) 138 = search rules in
    IfOk-equal c.trim_block.result _ _ _ (c.trim_block.ensures.done tells)
    (a_map_read image c.args.ino c.args.links c.sectors.result (c.requires.weak tells) long c.inode_in-inode.result read c.map_of-map.result c.map_of-map.ensures some c.min.result few)

pub returns-clause-puts : goal.returns-clause-puts
returns-clause-puts g c =
    let S = g.S.Stable in
    let image = S.image c.args.store.now in
    counts_weaker S c.trim_block.ensures.puts (λ d left cut.
    let tells = g.met.S.Stable.clocked.told _ _ d left in
    let long : length image ≡ c.sectors.result = (as_long S.sector_count g.met.S.Stable.clocked g.met.S.Stable.shape c.args.store.now tells).size ∙ sym c.sectors.ensures in
    let read : c.inode_in-inode.result ≡ inode_at image c.args.ino = read_inode image c.args.ino c.args.held.now c.inode_in-inode.result (c.requires.number tells) (c.requires.held tells) c.inode_in-inode.ensures.inode in
    let some : c.map_of-map.result ≢ 0 = search rules in
    let few : c.min.result ≡ min (sectors_of c.inode_in-inode.result.size) 138 = search rules in
    either_same image image _ _ d refl
    (a_map_read image c.args.ino c.args.links c.sectors.result (c.requires.weak tells) long c.inode_in-inode.result read c.map_of-map.result c.map_of-map.ensures some c.min.result few) cut)

pub returns-clause-needed : goal.returns-clause-needed
returns-clause-needed g c = λ tells.
    let S = g.S.Stable in
    let image = S.image c.args.store.now in
    let long : length image ≡ c.sectors.result = (as_long S.sector_count g.met.S.Stable.clocked g.met.S.Stable.shape c.args.store.now tells).size ∙ sym c.sectors.ensures in
    let read : c.inode_in-inode.result ≡ inode_at image c.args.ino = read_inode image c.args.ino c.args.held.now c.inode_in-inode.result (c.requires.number tells) (c.requires.held tells) c.inode_in-inode.ensures.inode in
    let some : c.map_of-map.result ≢ 0 = search rules in
    IfOk-weaker c.trim_block.result _ _ (λ count puts.
    subst (λ s. PutsSome count image (S.image c.trim_block.new.store) s)
    (single_read image c.args.ino c.args.links c.sectors.result (c.requires.weak tells) long c.inode_in-inode.result read c.map_of-map.result c.map_of-map.ensures some) puts) (c.trim_block.ensures.needed tells)
