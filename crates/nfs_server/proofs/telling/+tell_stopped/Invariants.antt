use Rattle.std.proofs.Common.{length}
use Rattle.nfs_server.proofs.telling.+tell_stopped.Given as goal

abbrev pub decreases-tell_stopped : goal.decreases-tell_stopped
decreases-tell_stopped g l = length l.all.now
