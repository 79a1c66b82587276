-- What a worker's run leaves of each volume.
use Rattle.std.proofs.Common.{◌≡◌, ℕ, ◌+◌, List, [], ◌∷◌, length}
use Rattle.std.specs.List.{AllByRecursion}
use Rattle.stable.specs.declared.store.Stable.{Ghosts as StoreGhosts}
use Rattle.rig.specs.declared.rig.Rig.{Ghosts}
use Rattle.presto_unit.specs.declared.presto.Presto.{Presto}
use Rattle.volume.specs.Rests.{Rests}
use Rattle.volume.specs.declared.mounted.Volume.{Volume}
use Rattle.run_lines.specs.Overlays.{unit_store}
use Rattle.nfs_worker.specs.Account.{Hold}
use Rattle.nfs_worker.specs.Turns.{Went}
use Rattle.nfs_worker.specs.Volumes.{EachVolume}
use Rattle.nfs_worker.specs.Worker.{Own}
use Rattle.server_volumes.specs.Ends.{IsUsed}

pub went_rest : {S : Type 0} (s : StoreGhosts S) (times : ℕ) (own : List Own) (n : ℕ) (olds news : List (Volume S)) (all : List (List Hold)) → EachVolume (Went s times own) n olds news all → AllByRecursion (Rests s) news
went_rest s times own n [] [] [] went = tt
went_rest s times own n (old ∷ olds) (new ∷ news) (holds ∷ all) went = (went.0.rest.rest, went_rest s times own (n + 1) olds news all went.1)
went_rest s times own n [] [] (holds ∷ all) went = absurd went
went_rest s times own n [] (new ∷ news) all went = absurd went
went_rest s times own n (old ∷ olds) [] all went = absurd went
went_rest s times own n (old ∷ olds) (new ∷ news) [] went = absurd went

pub went_used : {R : Type 0} (r : Ghosts R) (times : ℕ) (own : List Own) (n : ℕ) (old new : Volume (Presto R r)) (holds : List Hold) → Went (unit_store r) times own n old new holds → IsUsed r times old new holds
went_used r times own n old new holds went = record { grows = went.grows; hurt = went.rest.hurt; polled = went.polled }
