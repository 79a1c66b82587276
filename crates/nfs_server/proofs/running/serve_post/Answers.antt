use Rattle.std.proofs.Common.{arith, ◌≡◌, ◌∙◌, ◌++◌, ℕ, List, length, sym, ap, subst}
use Rattle.std.specs.Option.{option_map}
use Rattle.nfs_worker.specs.Turns.{Went, datagrams}
use Rattle.nfs_worker.proofs.Places.{each_length}
use Rattle.nfs_worker.proofs.Sharing.{shared_each}
use Rattle.run_lines.specs.Overlays.{unit_store}
use Rattle.run_lines.proofs.Sayings.{said_later, told_as}
use Rattle.server_volumes.specs.declared.stopping.Stopped.{Stopped}
use Rattle.server_volumes.proofs.Runs.{each_used}
use Rattle.nfs_server.specs.Course.{closing_lines, closing_status, first_failed}
use Rattle.nfs_server.specs.Run.{changes_in}
use Rattle.nfs_server.proofs.Workers.{went_used}
use Rattle.nfs_server.proofs.running.serve_post.Goals as goal

pub returns : goal.returns
returns g c =
    let r = g.H.R.Rig in
    let ran = c.run_worker-ended.ensures.ran in
    let asked = c.now-now.ensures in
    let ends = c.stop_all-stopped.ensures in
    let told = c.close.ensures.told in
    let way = c.run_worker-ended.result.0 in
    let numbers = c.run_worker-ended.result.1 in
    let stops = c.stop_all-stopped.result.items in
    let olds = c.args.cells.volumes.items in
    let news = c.run_worker-ended.result.2.items in
    let times = changes_in g.H.C.Clock c.args.post ran.back in
    let lines = told_as g.H.Host g.H.Say (ap (λ (all : List Stopped). closing_lines all way numbers.received numbers.answered) c.as_slice.ensures.value
    ∙ ap (λ (n : ℕ). closing_lines stops way n numbers.answered) ran.received ∙ ap (λ (n : ℕ). closing_lines stops way (datagrams ran.did.heard) n) ran.answered) told in
    record {
      did = ran.did;
      back = ran.back;
      way = way;
      stops = stops;
      holds = ran.holds;
      backs = ends.backs;
      left = told.same.rigs.left ∙ ends.left ∙ asked.rigs.left ∙ ran.rigs.left;
      returned = told.same.rigs.back ∙ ends.returned ∙ ap (option_map (λ before. before ++ ends.backs)) (asked.rigs.back ∙ ran.rigs.back);
      posts_left = told.same.posts.left ∙ ends.posts.left ∙ asked.posts.left ∙ ran.left;
      posts_back = told.same.posts.back ∙ ends.posts.back ∙ asked.posts.back ∙ ran.returned;
      faults = told.same.faults ∙ ends.faults ∙ asked.faults ∙ ran.faults;
      began = ran.began;
      works = ran.works;
      served = λ options rigs starts opens. each_used r options (Went (unit_store r) times ran.did.own) times (went_used r times ran.did.own) 0 rigs olds news ends.backs starts stops ran.holds opens ran.went ends.each;
      shared = shared_each (Went (unit_store r) times ran.did.own) ran.did (λ n old new holds went. went.shared) ran.works.mine 0 olds news ran.holds ran.went;
      ends = ran.ends;
      status = c.close.ensures.status ∙ ap (λ (all : List Stopped). closing_status way (first_failed 0 all)) c.as_slice.ensures.value;
      said = said_later g.H.Say ran.lines (said_later g.H.Say asked.lines (said_later g.H.Say ends.lines lines.said));
    }

pub stop_all-stopped-requires-clause-few : goal.stop_all-stopped-requires-clause-few
stop_all-stopped-requires-clause-few g c κs within =
    let ran = c.run_worker-ended.ensures.ran in
    let few = c.requires.desk.few in
    let same : length c.run_worker-ended.result.2.items ≡ length c.args.cells.volumes.items = each_length (Went (unit_store g.H.R.Rig) (changes_in g.H.C.Clock c.args.post ran.back) ran.did.own) 0 c.args.cells.volumes.items c.run_worker-ended.result.2.items ran.holds ran.went in
    omega (arith, few, same)

pub stop_all-stopped-requires-clause-out : goal.stop_all-stopped-requires-clause-out
stop_all-stopped-requires-clause-out g c κs within =
    let ran = c.run_worker-ended.ensures.ran in
    let enough = c.requires.rigs in
    let first = ran.rigs.out in
    let then = c.now-now.ensures.rigs.out in
    let same : length c.run_worker-ended.result.2.items ≡ length c.args.cells.volumes.items = each_length (Went (unit_store g.H.R.Rig) (changes_in g.H.C.Clock c.args.post ran.back) ran.did.own) 0 c.args.cells.volumes.items c.run_worker-ended.result.2.items ran.holds ran.went in
    omega (arith, enough, first, then, same)
