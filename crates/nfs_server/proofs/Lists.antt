-- What is said of each rig of a run, by how its volume was served.
use Rattle.std.proofs.Common.{arith, ◌≡◌, ◌≢◌, ◌⊎◌, inl, inr, ⊎_elim, cond, ◌∙◌, ℕ, suc, ◌+◌, ◌≤◌, Bool, true, false, List, [], ◌∷◌, ◌++◌, length, map, Option, Some, None, append-nil, refl, sym, ap, subst}
use Rattle.stable.specs.Counts.{Rose, RoseBy}
use Rattle.rig.specs.declared.clock.Clock.{Ghosts as ClockGhosts}
use Rattle.rig.specs.declared.host.Post.{Post}
use Rattle.rig.specs.declared.rig.Rig.{Ghosts}
use Rattle.nfs_worker.specs.Account.{Hold}
use Rattle.server_volumes.specs.Ends.{EachServed, no_holds}
use Rattle.server_volumes.specs.Kept.{Kept}
use Rattle.server_volumes.specs.Obstacles.{Obstacle}
use Rattle.server_volumes.specs.Starts.{Start}
use Rattle.server_volumes.specs.Stopped.{fails}
use Rattle.server_volumes.specs.declared.opening.OpenOptions.{OpenOptions}
use Rattle.server_volumes.specs.declared.stopping.Stopped.{Stopped}
use Rattle.nfs_server.specs.Course.{first_failed}
use Rattle.nfs_server.specs.Outcome.{AnyRose, FoundEach, FoundLast, Volumes}
use Rattle.nfs_server.specs.Run.{EachPair, changes_in, numbered}
use Rattle.nfs_server.proofs.Endings.{fails_by}

-- what holds of each pair, by what it follows from
pub each_pair : {A : Type 0} {P Q : A → A → Type 0} → ((x y : A) → P x y → Q x y) → (xs : List A) (ys : List (ℕ × A)) → EachPair P xs ys → EachPair Q xs ys
each_pair f [] [] p = tt
each_pair f (x ∷ xs) (y ∷ ys) p = (f x y.1 p.0, each_pair f xs ys p.1)
each_pair f [] (y ∷ ys) p = absurd p
each_pair f (x ∷ xs) [] p = absurd p

-- ---- lists with an end

pub numbered_things : {A : Type 0} (n : ℕ) (xs : List A) → map (λ (back : ℕ × A). back.1) (numbered n xs) ≡ xs
numbered_things n [] = refl
numbered_things n (x ∷ xs) = ap (λ ys. x ∷ ys) (numbered_things (n + 1) xs)

pub rose_left : {A : Type 0} (faults : A → ℕ) (xs ys : List A) (backs more : List (ℕ × A)) → AnyRose faults xs backs → AnyRose faults (xs ++ ys) (backs ++ more)
rose_left faults [] ys backs more rose = absurd rose
rose_left faults (x ∷ xs) ys [] more rose = absurd rose
rose_left faults (x ∷ xs) ys (back ∷ backs) more (inl rose) = inl rose
rose_left faults (x ∷ xs) ys (back ∷ backs) more (inr rose) = inr (rose_left faults xs ys backs more rose)

module _ {R : Type 0} (r : Ghosts R) (options : OpenOptions) (times : ℕ) where
  pub rose_right : (n : ℕ) (rigs : List R) (backs : List (ℕ × R)) (starts : List Start) (more : List Stopped) (all : List (List Hold)) (rest : List R) (rest_backs : List (ℕ × R))
      → EachServed r options times n rigs backs starts more all → AnyRose r.faults rest rest_backs → AnyRose r.faults (rigs ++ rest) (backs ++ rest_backs)
  rose_right n [] [] [] [] [] rest rest_backs served rose = rose
  rose_right n (rig ∷ rigs) (back ∷ backs) (start ∷ starts) (stopped ∷ more) (holds ∷ all) rest rest_backs served rose = inr (rose_right (n + 1) rigs backs starts more all rest rest_backs served.2 rose)
  rose_right n [] (back ∷ backs) starts more all rest rest_backs served rose = absurd served
  rose_right n [] [] (start ∷ starts) more all rest rest_backs served rose = absurd served
  rose_right n [] [] [] (stopped ∷ more) all rest rest_backs served rose = absurd served
  rose_right n [] [] [] [] (holds ∷ all) rest rest_backs served rose = absurd served
  rose_right n (rig ∷ rigs) [] starts more all rest rest_backs served rose = absurd served
  rose_right n (rig ∷ rigs) (back ∷ backs) [] more all rest rest_backs served rose = absurd served
  rose_right n (rig ∷ rigs) (back ∷ backs) (start ∷ starts) [] all rest rest_backs served rose = absurd served
  rose_right n (rig ∷ rigs) (back ∷ backs) (start ∷ starts) (stopped ∷ more) [] rest rest_backs served rose = absurd served

  -- what is kept of each, and of what comes after them
  pub volumes_with : (n : ℕ) (rigs : List R) (backs : List (ℕ × R)) (starts : List Start) (more : List Stopped) (all : List (List Hold)) (rest : List R) (rest_backs : List (ℕ × R)) (rest_holds : List (List Hold))
      → EachServed r options times n rigs backs starts more all → Volumes (Kept r) (n + length rigs) rest rest_backs rest_holds
      → Volumes (Kept r) n (rigs ++ rest) (backs ++ rest_backs) (all ++ rest_holds)
  volumes_with n [] [] [] [] [] rest rest_backs rest_holds served kept = subst (λ (k : ℕ). Volumes (Kept r) k rest rest_backs rest_holds) (omega arith) kept
  volumes_with n (rig ∷ rigs) (back ∷ backs) (start ∷ starts) (stopped ∷ more) (holds ∷ all) rest rest_backs rest_holds served kept =
      (served.0, served.1.kept, volumes_with (n + 1) rigs backs starts more all rest rest_backs rest_holds served.2 (subst (λ (k : ℕ). Volumes (Kept r) k rest rest_backs rest_holds) (omega arith) kept))
  volumes_with n [] (back ∷ backs) starts more all rest rest_backs rest_holds served kept = absurd served
  volumes_with n [] [] (start ∷ starts) more all rest rest_backs rest_holds served kept = absurd served
  volumes_with n [] [] [] (stopped ∷ more) all rest rest_backs rest_holds served kept = absurd served
  volumes_with n [] [] [] [] (holds ∷ all) rest rest_backs rest_holds served kept = absurd served
  volumes_with n (rig ∷ rigs) [] starts more all rest rest_backs rest_holds served kept = absurd served
  volumes_with n (rig ∷ rigs) (back ∷ backs) [] more all rest rest_backs rest_holds served kept = absurd served
  volumes_with n (rig ∷ rigs) (back ∷ backs) (start ∷ starts) [] all rest rest_backs rest_holds served kept = absurd served
  volumes_with n (rig ∷ rigs) (back ∷ backs) (start ∷ starts) (stopped ∷ more) [] rest rest_backs rest_holds served kept = absurd served

  -- how each was found, and why the next wasn't opened
  pub found_with : (n : ℕ) (why : Option Obstacle) (rigs : List R) (backs : List (ℕ × R)) (starts : List Start) (more : List Stopped) (all : List (List Hold)) (rest : List R) (rest_backs : List (ℕ × R))
      → EachServed r options times n rigs backs starts more all → FoundLast r options why rest rest_backs
      → FoundEach r options why starts more (rigs ++ rest) (backs ++ rest_backs)
  found_with n why [] [] [] [] [] rest rest_backs served last = last
  found_with n why (rig ∷ rigs) (back ∷ backs) (start ∷ starts) (stopped ∷ more) (holds ∷ all) rest rest_backs served last = (served.1.found, found_with (n + 1) why rigs backs starts more all rest rest_backs served.2 last)
  found_with n why [] (back ∷ backs) starts more all rest rest_backs served last = absurd served
  found_with n why [] [] (start ∷ starts) more all rest rest_backs served last = absurd served
  found_with n why [] [] [] (stopped ∷ more) all rest rest_backs served last = absurd served
  found_with n why [] [] [] [] (holds ∷ all) rest rest_backs served last = absurd served
  found_with n why (rig ∷ rigs) [] starts more all rest rest_backs served last = absurd served
  found_with n why (rig ∷ rigs) (back ∷ backs) [] more all rest rest_backs served last = absurd served
  found_with n why (rig ∷ rigs) (back ∷ backs) (start ∷ starts) [] all rest rest_backs served last = absurd served
  found_with n why (rig ∷ rigs) (back ∷ backs) (start ∷ starts) (stopped ∷ more) [] rest rest_backs served last = absurd served

  -- of all, where nothing comes after them
  pub volumes_all : (n : ℕ) (rigs : List R) (backs : List (ℕ × R)) (starts : List Start) (more : List Stopped) (all : List (List Hold)) → EachServed r options times n rigs backs starts more all → Volumes (Kept r) n rigs backs all
  volumes_all n rigs backs starts more all served =
      subst (λ (hs : List (List Hold)). Volumes (Kept r) n rigs backs hs) (append-nil all)
      (subst (λ (bs : List (ℕ × R)). Volumes (Kept r) n rigs bs (all ++ [])) (append-nil backs)
      (subst (λ (rs : List R). Volumes (Kept r) n rs (backs ++ []) (all ++ [])) (append-nil rigs) (volumes_with n rigs backs starts more all [] [] [] served tt)))

  pub found_all : (n : ℕ) (why : Option Obstacle) → why ≡ None → (rigs : List R) (backs : List (ℕ × R)) (starts : List Start) (more : List Stopped) (all : List (List Hold)) → EachServed r options times n rigs backs starts more all
      → FoundEach r options why starts more rigs backs
  found_all n why none rigs backs starts more all served =
      subst (λ (o : Option Obstacle). FoundEach r options o starts more rigs backs) (sym none)
      (subst (λ (bs : List (ℕ × R)). FoundEach r options None starts more rigs bs) (append-nil backs)
      (subst (λ (rs : List R). FoundEach r options None starts more rs (backs ++ [])) (append-nil rigs) (found_with n None rigs backs starts more all [] [] served tt)))

  pub served_backs : (n : ℕ) (rigs : List R) (backs : List (ℕ × R)) (starts : List Start) (more : List Stopped) (all : List (List Hold)) → EachServed r options times n rigs backs starts more all → length backs ≡ length rigs
  served_backs n [] [] [] [] [] served = refl
  served_backs n (rig ∷ rigs) (back ∷ backs) (start ∷ starts) (stopped ∷ more) (holds ∷ all) served = ap suc (served_backs (n + 1) rigs backs starts more all served.2)
  served_backs n [] (back ∷ backs) starts more all served = absurd served
  served_backs n [] [] (start ∷ starts) more all served = absurd served
  served_backs n [] [] [] (stopped ∷ more) all served = absurd served
  served_backs n [] [] [] [] (holds ∷ all) served = absurd served
  served_backs n (rig ∷ rigs) [] starts more all served = absurd served
  served_backs n (rig ∷ rigs) (back ∷ backs) [] more all served = absurd served
  served_backs n (rig ∷ rigs) (back ∷ backs) (start ∷ starts) [] all served = absurd served
  served_backs n (rig ∷ rigs) (back ∷ backs) (start ∷ starts) (stopped ∷ more) [] served = absurd served

  -- a device failed in stopping only where its rig's count rose
  pub stop_rose : (n k : ℕ) (rigs : List R) (backs : List (ℕ × R)) (starts : List Start) (more : List Stopped) (all : List (List Hold)) → EachServed r options times n rigs backs starts more all
      → first_failed n more ≡ Some k → AnyRose r.faults rigs backs
  stop_rose n k [] [] [] [] [] served is = cc
  stop_rose n k (rig ∷ rigs) (back ∷ backs) (start ∷ starts) (stopped ∷ more) (holds ∷ all) served is =
      case (fails stopped) refl is (λ rest. stop_rose (n + 1) k rigs backs starts more all served.2 rest)
    where
      case : (failed : Bool) → fails stopped ≡ failed → cond failed (Some n) (first_failed (n + 1) more) ≡ Some k → (first_failed (n + 1) more ≡ Some k → AnyRose r.faults rigs backs) → AnyRose r.faults (rig ∷ rigs) (back ∷ backs)
      case true failed is rest = inl (⊎_elim served.1.found.unwritten (λ some. (served.1.found.dirty some).1) (fails_by stopped failed))
      case false failed is rest = inr (rest is)
  stop_rose n k [] (back ∷ backs) starts more all served is = absurd served
  stop_rose n k [] [] (start ∷ starts) more all served is = absurd served
  stop_rose n k [] [] [] (stopped ∷ more) all served is = absurd served
  stop_rose n k [] [] [] [] (holds ∷ all) served is = absurd served
  stop_rose n k (rig ∷ rigs) [] starts more all served is = absurd served
  stop_rose n k (rig ∷ rigs) (back ∷ backs) [] more all served is = absurd served
  stop_rose n k (rig ∷ rigs) (back ∷ backs) (start ∷ starts) [] all served is = absurd served
  stop_rose n k (rig ∷ rigs) (back ∷ backs) (start ∷ starts) (stopped ∷ more) [] served is = absurd served

  -- each battery was read so often at least
  pub polls_with : {L C P : Type 0} (c : ClockGhosts C) (posts : List (Post L C P)) (post_backs : List (ℕ × Post L C P)) → EachPair (λ post post'. changes_in c post post' ≤ times) posts post_backs
      → (n : ℕ) (rigs : List R) (backs : List (ℕ × R)) (starts : List Start) (more : List Stopped) (all : List (List Hold)) → EachServed r options times n rigs backs starts more all
      → EachPair (λ rig rig'. EachPair (λ post post'. RoseBy (changes_in c post post') 0 (r.readings rig').count) posts post_backs) rigs backs
  polls_with c posts post_backs few n [] [] [] [] [] served = tt
  polls_with c posts post_backs few n (rig ∷ rigs) (back ∷ backs) (start ∷ starts) (stopped ∷ more) (holds ∷ all) served =
      (each_pair (λ post post' le. let polled = served.1.polled in omega (arith, le, polled)) posts post_backs few, polls_with c posts post_backs few (n + 1) rigs backs starts more all served.2)
  polls_with c posts post_backs few n [] (back ∷ backs) starts more all served = absurd served
  polls_with c posts post_backs few n [] [] (start ∷ starts) more all served = absurd served
  polls_with c posts post_backs few n [] [] [] (stopped ∷ more) all served = absurd served
  polls_with c posts post_backs few n [] [] [] [] (holds ∷ all) served = absurd served
  polls_with c posts post_backs few n (rig ∷ rigs) [] starts more all served = absurd served
  polls_with c posts post_backs few n (rig ∷ rigs) (back ∷ backs) [] more all served = absurd served
  polls_with c posts post_backs few n (rig ∷ rigs) (back ∷ backs) (start ∷ starts) [] all served = absurd served
  polls_with c posts post_backs few n (rig ∷ rigs) (back ∷ backs) (start ∷ starts) (stopped ∷ more) [] served = absurd served

-- where no post was given
pub pairs_none : {R A : Type 0} (P : R → A → A → Type 0) (rigs : List R) (backs : List (ℕ × R)) → length backs ≡ length rigs → EachPair (λ rig rig'. EachPair (P rig') [] []) rigs backs
pairs_none P [] [] same = tt
pairs_none P (rig ∷ rigs) (back ∷ backs) same = (tt, pairs_none P rigs backs (omega (arith, same)))
pairs_none P [] (back ∷ backs) same = absurd (omega (arith, same))
pairs_none P (rig ∷ rigs) [] same = absurd (omega (arith, same))
