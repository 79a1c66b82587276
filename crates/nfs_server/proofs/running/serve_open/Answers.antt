use Rattle.std.proofs.Common.{arith, ◌≡◌, ◌∙◌, ℕ, Err, List, length, map, refl, sym, ap, subst}
use Rattle.rig.specs.Hosts.{SameLines, SameLoans}
use Rattle.rig.specs.declared.host.HostFault.TheVariants as fault
use Rattle.volume.specs.declared.mounted.Volume.{Volume}
use Rattle.nfs_worker.specs.Volumes.{puts_of}
use Rattle.run_lines.specs.Overlays.{unit_store}
use Rattle.run_lines.proofs.Statuses.{host_failed}
use Rattle.nfs_server.specs.Run.{RefusesPost, ServesPost}
use Rattle.nfs_server.proofs.Ends.{runs_refused, runs_served}
use Rattle.nfs_server.proofs.running.serve_open.Goals as goal

pub returns-in-Err : goal.returns-in-Err
returns-in-Err g c =
    let h = g.H.Host in
    let say = g.H.Say in
    let r = g.H.R.Rig in
    let host = c.args.host.now in
    let refused = subst (λ volumes. RefusesPost h say r c.args.options.port fault.NoMemory host c.refuse_post.new.host volumes.items c.refuse_post.result) c.in-Err.ensures.back c.refuse_post.ensures in
    runs_refused h say r g.H.L.Link g.H.C.Clock c.args.opened.volumes.items c.args.options.port c.args.options.turns c.refuse_post.result fault.NoMemory
    (record { left = refl; back = refl; out = refl }) (record { left = refl; back = refl; out = refl }) (record { lines = refl; faults = refl }) (omega arith) (λ is. absurd (omega (arith, is))) refused

pub returns-in-Err-post : goal.returns-in-Err-post
returns-in-Err-post g c =
    let h = g.H.Host in
    let say = g.H.Say in
    let r = g.H.R.Rig in
    let why = c.in-Err-post.fault in
    let gave = c.in-Err-post.ensures in
    let refused = subst (λ volumes. RefusesPost h say r c.args.options.port why c.post.new.self c.refuse_post-in-Err-post.new.host volumes.items c.refuse_post-in-Err-post.result) c.in-Ok.ensures.volumes c.refuse_post-in-Err-post.ensures in
    runs_refused h say r g.H.L.Link g.H.C.Clock c.args.opened.volumes.items c.args.options.port c.args.options.turns c.refuse_post-in-Err-post.result why
    gave.rigs gave.refused gave.lines gave.cause.later (λ is. gave.cause.failed (ap Err (host_failed why is))) refused

pub returns-in-Ok-post : goal.returns-in-Ok-post
returns-in-Ok-post g c =
    let h = g.H.Host in
    let say = g.H.Say in
    let r = g.H.R.Rig in
    let gave = c.in-Ok-post.ensures in
    let served = subst (λ volumes. ServesPost h say r g.H.L.Link g.H.C.Clock c.args.options.turns c.post.new.self c.serve_post.new.host volumes.items c.in-Ok.cells.desk c.in-Ok-post.post c.serve_post.result) c.in-Ok.ensures.volumes c.serve_post.ensures in
    runs_served h say r g.H.L.Link g.H.C.Clock c.args.opened.volumes.items c.in-Ok.cells.desk c.in-Ok-post.post c.args.options.port c.args.options.turns c.serve_post.result
    (map (puts_of (unit_store r)) c.args.opened.volumes.items) c.in-Ok.ensures.desk gave.gives gave.rigs gave.lines gave.cause.later served
