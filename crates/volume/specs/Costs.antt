-- How many sectors calls and batches put.
use Rattle.std.specs.Prelude.{◌≡◌, ℕ, ◌+◌, Bool, false, [], ◌∷◌}
use Rattle.files_model.specs.declared.call.Call.{Call}
use Rattle.files_model.specs.declared.call.Call.TheVariants as call
use Rattle.files_model.specs.declared.credential.Cred.{Cred}
use Rattle.files_model.specs.Batch.{cost}
use Rattle.files_model.specs.Files.{Files}
use Rattle.plan_file.specs.Planned.{plan_puts}
use Rattle.plan_file.specs.Set.{set_puts}
use Rattle.stable.specs.States.{SomePuts}
use Rattle.stable.specs.declared.store.Stable.{Ghosts}
use Rattle.volume.specs.Mends.{mend_puts}

-- how many sectors a CREATE or a LINK puts at most: a directory's new sector, its block of addresses, and two inodes
abbrev pub create_puts : ℕ
create_puts = 4

-- how many sectors a REMOVE or an RMDIR puts at most: the slot's and those of two inodes
abbrev pub remove_puts : ℕ
remove_puts = 3

-- how many sectors an MKDIR puts at most: the new directory's, its parent's new one, a block of addresses, and two inodes
abbrev pub mkdir_puts : ℕ
mkdir_puts = 5

-- how many sectors a SYMLINK puts at most: two of the link, a directory's new one, its block of addresses, and two inodes
abbrev pub symlink_puts : ℕ
symlink_puts = 6

-- how many sectors a RENAME puts at most: two slots', a block of addresses, and two inodes; or two slots' and three inodes
abbrev pub rename_puts : ℕ
rename_puts = 5

-- how many sectors a call puts at most, whatever the files
abbrev pub most_puts : Call → ℕ
most_puts (call.Setattr file set) = set_puts set
most_puts (call.Write file offset bytes) = plan_puts
most_puts (call.Create dir name wanted) = create_puts
most_puts (call.Remove dir name) = remove_puts
most_puts (call.Mkdir dir name wanted) = mkdir_puts
most_puts (call.Rmdir dir name) = remove_puts
most_puts (call.Link file dir name) = create_puts
most_puts (call.Symlink dir name text wanted) = symlink_puts
most_puts (call.Rename from name to new_name) = rename_puts
most_puts c = 0

-- how many it may put on these files
abbrev pub call_cost : Files → Call → Cred → ℕ → ℕ
call_cost files (call.Setattr file set) cred now = set_puts set
call_cost files (call.Write file offset bytes) cred now = cost files file (record { cred = cred; offset = offset; bytes = bytes } ∷ []) now
call_cost files (call.Create dir name wanted) cred now = create_puts
call_cost files (call.Remove dir name) cred now = remove_puts
call_cost files (call.Mkdir dir name wanted) cred now = mkdir_puts
call_cost files (call.Rmdir dir name) cred now = remove_puts
call_cost files (call.Link file dir name) cred now = create_puts
call_cost files (call.Symlink dir name text wanted) cred now = symlink_puts
call_cost files (call.Rename from name to new_name) cred now = rename_puts
call_cost files c cred now = 0

-- At most so many puts were made besides those of a mend; and where contents are told and nothing was hurt, at most as many as it costs. `s` is what the store's type tells.
pub record CostsAtMost {S : Type 0} (s : Ghosts S) (old new : S) (was : Bool) (most price : ℕ) : Type 0 where
  pub puts : SomePuts (mend_puts was + most) (s.faults old) (s.faults new) (s.snapshot_of old) (s.snapshot_of new)
  pub cheap : s.tells → was ≡ false → SomePuts price (s.faults old) (s.faults new) (s.snapshot_of old) (s.snapshot_of new)
