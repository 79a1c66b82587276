use Rattle.std.proofs.Common.{ℕ, refl, sym, subst}
use Rattle.nfs_worker.specs.Tending.{is_new}
use Rattle.nfs_worker.specs.Turns.{Tends, TookTurn, IsAsked}
use Rattle.nfs_worker.specs.Volumes.{AreOpen, Pairwise}
use Rattle.volume.specs.Rests.{Rests}
use Rattle.nfs_worker.proofs.Places.{pairs_length, all_pairs}
use Rattle.nfs_worker.proofs.Turns.{event_after, took_rest, took_open}
use Rattle.nfs_worker.proofs.taking.turn.Goals as goal

pub take-requires-clause-rest : goal.take-requires-clause-rest
take-requires-clause-rest g c = all_pairs _ (Rests g.S.Stable) (λ old new tends. tends.rest) c.args.cells.now.volumes.items c.tend_all.new.volumes.items c.tend_all.ensures

pub take-requires-clause-desk : goal.take-requires-clause-desk
take-requires-clause-desk g c = subst (λ (n : ℕ). AreOpen n c.args.cells.now.desk) (sym (pairs_length _ c.args.cells.now.volumes.items c.tend_all.new.volumes.items c.tend_all.ensures)) c.requires.desk

pub returns : goal.returns
returns g c =
    let took : TookTurn g.S.Stable g.L.Link (is_new c.args.pass.now.second c.take.new.pass.second) c.args.cells.now.volumes.items c.take.new.cells.volumes.items c.args.cells.now.desk c.take.new.cells.desk c.args.post.now.link c.take.new.link c.args.pass.now c.take.new.pass c.take.result = record {
      mids = c.tend_all.new.volumes.items;
      tended = subst (λ (n : ℕ). Pairwise (Tends g.S.Stable (is_new c.args.pass.now.second n)) c.args.cells.now.volumes.items c.tend_all.new.volumes.items) (sym c.take.ensures.second) c.tend_all.ensures;
      took = event_after g.S.Stable g.L.Link refl refl c.take.ensures.took;
    } in
    record {
      rest = took_rest g.S.Stable g.L.Link took;
      desk = took_open g.S.Stable g.L.Link took c.requires.desk;
      took = took;
      asked = subst (λ (n : ℕ). IsAsked g.C.Clock c.args.post.now.clock c.now-second.new.self n) (sym c.take.ensures.second) (record { last = c.now-second.ensures.last; answers = c.now-second.ensures.answers; changes = c.now-second.ensures.changes });
    }
