use Rattle.std.proofs.Common.{◌≡◌, not, refl, subst, Some, None}
use Rattle.stable.specs.Store.{Image}
use Rattle.v7_map.specs.View.{node_at}
use Rattle.plan_name.proofs.FoundDirectory.{found-live}
use Rattle.files_model.specs.Permission.{is_directory}
use Rattle.name_places.specs.Places.{IsNamePlace, PlaceWithin}
use Rattle.plan_link.proofs.LinkJudged.{judged-tests, judged-refused, judged-kind, judged-taken, judged-spot, judged-end, fits-name}
use Rattle.plan_link.proofs.judging.judge_link.Goals as goal

pub returns-in-Some-clause-judged : goal.returns-in-Some-clause-judged
returns-in-Some-clause-judged g c = λ tells strong at_file at.
    let image : Image = g.S.Stable.image c.args.store.now in
    judged-refused image c.args.file c.args.dir c.args.name.now c.args.ends.now strong at_file at c.in-Some.status
    (judged-tests image c.args.file c.args.dir c.args.name.now c.args.ends.now strong at_file at c.attributes_of-node.result c.attributes_of-directory.result c.attributes_of-node.ensures c.attributes_of-directory.ensures (Some c.in-Some.status) c.in-Some.ensures)

pub returns-in-Taken-clause-judged : goal.returns-in-Taken-clause-judged
returns-in-Taken-clause-judged g c = λ tells strong at_file at.
    let image : Image = g.S.Stable.image c.args.store.now in
    let passed = judged-tests image c.args.file c.args.dir c.args.name.now c.args.ends.now strong at_file at c.attributes_of-node.result c.attributes_of-directory.result c.attributes_of-node.ensures c.attributes_of-directory.ensures None c.in-None.ensures in
    let place = c.in_ok-find_place.ensures.place tells strong at (node_at image c.args.dir.ino) (found-live image c.args.dir c.args.ends.now.directory strong at) (judged-kind image c.args.file c.args.dir c.args.name.now c.args.ends.now strong at_file at passed) in
    judged-taken image c.args.file c.args.dir c.args.name.now c.args.ends.now strong at_file at passed c.in-Taken.field-0 (subst (IsNamePlace image c.args.dir c.args.name.now (node_at image c.args.dir.ino)) c.in-Taken.is place)

pub returns-in-Empty-clause-judged : goal.returns-in-Empty-clause-judged
returns-in-Empty-clause-judged g c = λ tells strong at_file at.
    let image : Image = g.S.Stable.image c.args.store.now in
    let passed = judged-tests image c.args.file c.args.dir c.args.name.now c.args.ends.now strong at_file at c.attributes_of-node.result c.attributes_of-directory.result c.attributes_of-node.ensures c.attributes_of-directory.ensures None c.in-None.ensures in
    let place = c.in_ok-find_place.ensures.place tells strong at (node_at image c.args.dir.ino) (found-live image c.args.dir c.args.ends.now.directory strong at) (judged-kind image c.args.file c.args.dir c.args.name.now c.args.ends.now strong at_file at passed) in
    (refl, judged-spot image c.args.file c.args.dir c.args.name.now c.args.ends.now strong at_file at passed c.in-Empty.spot (subst (IsNamePlace image c.args.dir c.args.name.now (node_at image c.args.dir.ino)) c.in-Empty.is place))

pub returns-in-End-clause-judged : goal.returns-in-End-clause-judged
returns-in-End-clause-judged g c = λ tells strong at_file at.
    let image : Image = g.S.Stable.image c.args.store.now in
    let passed = judged-tests image c.args.file c.args.dir c.args.name.now c.args.ends.now strong at_file at c.attributes_of-node.result c.attributes_of-directory.result c.attributes_of-node.ensures c.attributes_of-directory.ensures None c.in-None.ensures in
    let place = c.in_ok-find_place.ensures.place tells strong at (node_at image c.args.dir.ino) (found-live image c.args.dir c.args.ends.now.directory strong at) (judged-kind image c.args.file c.args.dir c.args.name.now c.args.ends.now strong at_file at passed) in
    judged-end image c.args.file c.args.dir c.args.name.now c.args.ends.now strong at_file at passed (subst (IsNamePlace image c.args.dir c.args.name.now (node_at image c.args.dir.ino)) c.in-End.is place)

pub returns-in-Empty-clause-within : goal.returns-in-Empty-clause-within
returns-in-Empty-clause-within g c =
    let within = subst (PlaceWithin (g.S.Stable.sector_count c.args.store.now)) c.in-Empty.is c.in_ok-find_place.ensures.within in
    (refl, within.0, within.1, fits-name c.args.ends.now.directory.read_only (is_directory c.attributes_of-node.result.kind) (not (is_directory c.attributes_of-directory.result.kind)) c.args.name.now c.in-None.ensures)

pub returns-in-End-clause-within : goal.returns-in-End-clause-within
returns-in-End-clause-within g c = fits-name c.args.ends.now.directory.read_only (is_directory c.attributes_of-node.result.kind) (not (is_directory c.attributes_of-directory.result.kind)) c.args.name.now c.in-None.ensures
