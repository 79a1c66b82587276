-- What is said of several volumes at once, each by its number.
use Rattle.std.specs.Prelude.{◌≡◌, ℕ, ◌+◌, ◌≤◌, List, [], ◌∷◌, length, slice_get, slice_set, Some}
use Rattle.stable.specs.declared.store.Stable.{Ghosts}
use Rattle.volume.specs.Mounted.{store_of}
use Rattle.volume.specs.declared.mounted.Volume.{Volume}
use Rattle.nfs_worker.specs.Account.{Hold}
use Rattle.nfs_worker.specs.declared.desk.Desk.{Desk}

-- this holds of the two items at each place
abbrev pub Pairwise : {A : Type 0} → (A → A → Type 0) → List A → List A → Type 0
Pairwise P [] [] = Unit {0}
Pairwise P (x ∷ xs) (y ∷ ys) = P x y × Pairwise P xs ys
Pairwise P _ _ = ⊥

-- this holds of each volume before and after, and its holds; the first has this number
abbrev pub EachVolume : {A : Type 0} → (ℕ → A → A → List Hold → Type 0) → ℕ → List A → List A → List (List Hold) → Type 0
EachVolume P n [] [] [] = Unit {0}
EachVolume P n (old ∷ olds) (new ∷ news) (holds ∷ more) = P n old new holds × EachVolume P (n + 1) olds news more
EachVolume P n _ _ _ = ⊥

-- The item at this place went on so, and all others are as they were.
pub record OneAlone {A : Type 0} (P : A → A → Type 0) (place : ℕ) (olds news : List A) : Type 0 where
  pub old : A
  pub new : A
  pub found : slice_get olds place ≡ Some old
  pub put : news ≡ slice_set olds place new
  pub went : P old new

-- how often the store of a volume has been put
abbrev pub puts_of : {S : Type 0} → Ghosts S → Volume S → ℕ
puts_of s volume = (s.snapshot_of (store_of volume)).puts

-- so many volumes are open, from one to four, and the desk is theirs
pub record AreOpen (volumes : ℕ) (desk : Desk) : Type 0 where
  pub some : 1 ≤ volumes
  pub few : volumes ≤ 4
  pub mounts : desk.mounts.volumes ≡ volumes
  pub roots : length desk.roots ≡ volumes
  pub puts : length desk.first_puts ≡ volumes
