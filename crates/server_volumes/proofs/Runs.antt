-- What is so of several volumes from their opening to their end.
use Rattle.std.proofs.Common.{arith, ◌≡◌, ◌∙◌, ℕ, suc, ◌+◌, ◌≤◌, List, [], ◌∷◌, ◌++◌, length, map, refl, sym, ap}
use Rattle.rig.specs.declared.rig.Rig.{Ghosts}
use Rattle.presto_unit.specs.declared.presto.Presto.{Presto}
use Rattle.volume.specs.declared.mounted.Volume.{Volume}
use Rattle.nfs_worker.specs.Account.{Hold}
use Rattle.nfs_worker.specs.Volumes.{EachVolume}
use Rattle.server_volumes.specs.Ends.{EachEnds, EachServed, IsUsed, no_holds}
use Rattle.server_volumes.specs.Opens.{EachOpen}
use Rattle.server_volumes.specs.Starts.{Start}
use Rattle.server_volumes.specs.declared.opening.OpenOptions.{OpenOptions}
use Rattle.server_volumes.specs.declared.stopping.Stopped.{Stopped}

module _ {R : Type 0} (r : Ghosts R) (options : OpenOptions) where
  -- each was opened, used, and stopped
  pub each_used : (P : ℕ → Volume (Presto R r) → Volume (Presto R r) → List Hold → Type 0) (times : ℕ) → ((n : ℕ) (old new : Volume (Presto R r)) (holds : List Hold) → P n old new holds → IsUsed r times old new holds)
      → (n : ℕ) (rigs : List R) (olds news : List (Volume (Presto R r))) (backs : List (ℕ × R)) (starts : List Start) (more : List Stopped) (all : List (List Hold))
      → EachOpen r options rigs olds starts → EachVolume P n olds news all → EachEnds r n news backs more → EachServed r options times n rigs backs starts more all
  each_used P times f n [] [] [] [] [] [] [] opens went ends = tt
  each_used P times f n (rig ∷ rigs) (old ∷ olds) (new ∷ news) (back ∷ backs) (start ∷ starts) (stopped ∷ more) (holds ∷ all) opens went ends =
      (ends.0, ends.1.used options times rig old start holds opens.0 (f n old new holds went.0), each_used P times f (n + 1) rigs olds news backs starts more all opens.1 went.1 ends.2)
  each_used P times f n [] (old ∷ olds) news backs starts more all opens went ends = absurd opens
  each_used P times f n [] [] news backs (start ∷ starts) more all opens went ends = absurd opens
  each_used P times f n [] [] (new ∷ news) backs [] more all opens went ends = absurd went
  each_used P times f n [] [] [] backs [] more (holds ∷ all) opens went ends = absurd went
  each_used P times f n [] [] [] (back ∷ backs) [] more [] opens went ends = absurd ends
  each_used P times f n [] [] [] [] [] (stopped ∷ more) [] opens went ends = absurd ends
  each_used P times f n (rig ∷ rigs) [] news backs starts more all opens went ends = absurd opens
  each_used P times f n (rig ∷ rigs) (old ∷ olds) news backs [] more all opens went ends = absurd opens
  each_used P times f n (rig ∷ rigs) (old ∷ olds) [] backs (start ∷ starts) more all opens went ends = absurd went
  each_used P times f n (rig ∷ rigs) (old ∷ olds) (new ∷ news) backs (start ∷ starts) more [] opens went ends = absurd went
  each_used P times f n (rig ∷ rigs) (old ∷ olds) (new ∷ news) [] (start ∷ starts) more (holds ∷ all) opens went ends = absurd ends
  each_used P times f n (rig ∷ rigs) (old ∷ olds) (new ∷ news) (back ∷ backs) (start ∷ starts) [] (holds ∷ all) opens went ends = absurd ends

  -- each was opened and stopped
  pub each_unused : (n : ℕ) (rigs : List R) (volumes : List (Volume (Presto R r))) (backs : List (ℕ × R)) (starts : List Start) (more : List Stopped)
      → EachOpen r options rigs volumes starts → EachEnds r n volumes backs more → EachServed r options 0 n rigs backs starts more (no_holds volumes)
  each_unused n [] [] [] [] [] opens ends = tt
  each_unused n (rig ∷ rigs) (volume ∷ volumes) (back ∷ backs) (start ∷ starts) (stopped ∷ more) opens ends =
      (ends.0, ends.1.unused options rig start opens.0, each_unused (n + 1) rigs volumes backs starts more opens.1 ends.2)
  each_unused n [] (volume ∷ volumes) backs starts more opens ends = absurd opens
  each_unused n [] [] backs (start ∷ starts) more opens ends = absurd opens
  each_unused n [] [] (back ∷ backs) [] more opens ends = absurd ends
  each_unused n [] [] [] [] (stopped ∷ more) opens ends = absurd ends
  each_unused n (rig ∷ rigs) [] backs starts more opens ends = absurd opens
  each_unused n (rig ∷ rigs) (volume ∷ volumes) backs [] more opens ends = absurd opens
  each_unused n (rig ∷ rigs) (volume ∷ volumes) [] (start ∷ starts) more opens ends = absurd ends
  each_unused n (rig ∷ rigs) (volume ∷ volumes) (back ∷ backs) (start ∷ starts) [] opens ends = absurd ends
