use Rattle.std.proofs.Common.{ℕ, length, sym, ap, subst}
use Rattle.std.specs.List.{AllByRecursion}
use Rattle.nfs_worker.specs.Volumes.{AreOpen}
use Rattle.nfs_worker.proofs.Desks.{new_open}
use Rattle.server_runs.proofs.outside.cells_on.Goals as goal

pub returns-clause-rest : goal.returns-clause-rest
returns-clause-rest c = subst (AllByRecursion _) (sym (ap (λ v. v.items) c.in-Ok.ensures.volumes)) c.requires.rest

pub returns-clause-desk : goal.returns-clause-desk
returns-clause-desk c = subst (λ (n : ℕ). AreOpen n c.in-Ok.cells.desk) (sym (ap (λ v. length v.items) c.in-Ok.ensures.volumes)) (new_open _ _ c.args.volumes.items c.in-Ok.cells.desk c.requires.some c.requires.few c.in-Ok.ensures.desk)
