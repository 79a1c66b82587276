use Rattle.std.proofs.Common.{arith, ◌≡◌, ℕ, length, refl, subst}
use Rattle.nfs_worker.specs.Turns.{Did, datagrams}
use Rattle.nfs_worker.specs.Worker.{Works, worker_of}
use Rattle.nfs_server.specs.Run.{changes_in}
use Rattle.nfs_server.proofs.Workers.{went_rest}
use Rattle.nfs_server.proofs.running.run_worker.Goals as goal

pub returns : goal.returns
returns g c =
    let s = g.S.Stable in
    let l = g.H.L.Link in
    let w = c.work-ended.ensures in
    let gave = c.give_back_post.ensures in
    let olds = c.args.cells.volumes.items in
    let news = c.work-ended.new.cells.volumes.items in
    let did : Did = record { desk = c.args.cells.desk; then = c.work-ended.new.cells.desk; heard = w.heard; own = w.own; replies = w.replies } in
    let received : c.work-ended.new.pass.numbers.received ≡ datagrams w.heard = let counted = w.counts.received in let none = c.new-pass.ensures.received in omega (arith, counted, none) in
    let answered : c.work-ended.new.pass.numbers.answered ≡ length w.replies = let counted = w.counts.answered in let none = c.new-pass.ensures.answered in omega (arith, counted, none) in
    record {
      rest = went_rest s (changes_in g.H.C.Clock c.args.post c.work-ended.new.post) w.own 0 olds news w.holds w.went;
      ran = record {
        did = did;
        back = c.work-ended.new.post;
        holds = w.holds;
        rigs = gave.rigs;
        left = gave.back.left;
        returned = gave.back.back c.requires.out;
        faults = gave.faults;
        lines = gave.lines;
        began = refl;
        works = subst (λ (n : ℕ). Works (length olds) n did.desk did.then (worker_of l c.args.post.link) (worker_of l c.work-ended.new.post.link) did.heard did.own did.replies) c.new-pass.ensures.number w.works;
        went = w.went;
        ends = w.ends;
        received = received;
        answered = answered;
      };
    }
