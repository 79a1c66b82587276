-- What a RENAME is refused with, by attributes.
use Rattle.std.specs.Prelude.{ℕ, ◌+◌, Bool, false, List, [], ◌∷◌, ◌++◌, Option, Some, None, ◌==◌, nat_lt, is_some, not, ◌&&◌, ◌||◌, if◌then◌else◌}
use Rattle.std.specs.Option.{is_none}
use Rattle.files_model.specs.declared.attributes.Kind.{Kind}
use Rattle.files_model.specs.declared.credential.Cred.{Cred}
use Rattle.files_model.specs.declared.permission.Want.TheVariants as want
use Rattle.files_model.specs.declared.reply.Stat.{Stat}
use Rattle.files_model.specs.declared.reply.Stat.TheVariants as stat
use Rattle.files_model.specs.Permission.{allows, is_directory}
use Rattle.files_model.specs.Space.{size_limit}
use Rattle.plan_name.specs.Growth.{added_blocks}
use Rattle.plan_rename.specs.declared.refusals.Told.{Told}

-- what stands under the new name is a directory
abbrev pub is_directory_kind : Option Kind → Bool
is_directory_kind None = false
is_directory_kind (Some kind) = is_directory kind

-- the tests of the kinds of what moves and of what stands under the new name
abbrev pub kind_tests : Bool → Bool → Option Kind → List (Bool × Stat)
kind_tests directory same standing = (directory && is_some standing, stat.Exist) ∷ (directory && not same, stat.Perm) ∷ (is_directory_kind standing, stat.Isdir) ∷ []

-- how long a directory is with one entry more
abbrev pub longer_size : ℕ → Bool → ℕ
longer_size size at_end = if at_end then size + 16 else size

-- the blocks that it takes besides
abbrev pub blocks_needed : ℕ → Bool → ℕ
blocks_needed size at_end = if at_end then added_blocks size else 0

-- the tests of room
abbrev pub room_tests : ℕ → ℕ → Bool → ℕ → List (Bool × Stat)
room_tests links size at_end free = (nat_lt size_limit (longer_size size at_end), stat.Fbig) ∷ ((links == 65535) || nat_lt free (blocks_needed size at_end), stat.Nospc) ∷ []

-- the tests of a RENAME whose old name is found; a new name in the old one's slot takes no room
abbrev pub told_tests : Told → ℕ → Cred → List (Bool × Stat)
told_tests told free cred =
    kind_tests (is_directory told.node.kind) told.same told.standing
    ++ (not (allows cred told.from want.Write && allows cred told.from want.Search), stat.Acces) ∷ (not (allows cred told.to want.Write && allows cred told.to want.Search), stat.Acces)
    ∷ (if told.same && is_none told.standing then [] else room_tests told.node.nlink told.to.size told.at_end free)
