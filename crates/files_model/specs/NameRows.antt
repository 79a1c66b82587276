-- The rows of the calls on names: LOOKUP, CREATE, REMOVE, LINK, SYMLINK, MKDIR, RMDIR, RENAME (docs/CALLS.md).
use Rattle.std.specs.Prelude.{ℕ, ◌+◌, ◌-◌, ◌/◌, ◌%◌, Bool, false, List, [], ◌∷◌, ◌++◌, length, set, drop, Option, Some, None, ◌==◌, nat_le, nat_lt, if◌then◌else◌, is_some, not, ◌&&◌, ◌||◌}
use Rattle.std.specs.List.{list_any, position}
use Rattle.std.specs.Option.{unwrap_or, is_none, option_map}
use Rattle.std.specs.FinMap.{get, insert, remove, empty}
use Rattle.files_model.specs.declared.attributes.FileId.{FileId}
use Rattle.files_model.specs.declared.attributes.Sattr.{Sattr}
use Rattle.files_model.specs.declared.attributes.Kind.TheVariants.{Directory, Link}
use Rattle.files_model.specs.declared.credential.Cred.{Cred}
use Rattle.files_model.specs.declared.permission.Want.TheVariants as want
use Rattle.files_model.specs.declared.reply.Stat.{Stat}
use Rattle.files_model.specs.declared.reply.Stat.TheVariants as stat
use Rattle.files_model.specs.declared.reply.Reply.{Reply}
use Rattle.files_model.specs.declared.reply.Reply.TheVariants as reply
use Rattle.files_model.specs.Answers.{attr_of, first_of, unless, with_node, at_live, changes, with_sectors}
use Rattle.files_model.specs.Files.{Node, Files, Slot, live}
use Rattle.files_model.specs.Names.{is_bad, most_name, name_tests, has_name, number_at, may_change, handle_of, at_node, at_name, with_entry, without_entry, lowest_usable, new_file, made_at, resized}
use Rattle.files_model.specs.Permission.{allows, is_directory, is_regular}
use Rattle.files_model.specs.Space.{size_limit, node_usage, free}

-- LOOKUP (RFC 1094 2.2.5)
unfoldable pub lookup_row : Files → FileId → List ℕ → Cred → Reply × Files
lookup_row files dir name cred = at_live files (live files dir) (λ d.
    unless files (first_of ((not (is_directory d.kind), stat.Notdir) ∷ (is_bad name, stat.Acces) ∷ (nat_lt most_name (length name), stat.Nametoolong) ∷ []))
    (at_name files d name (λ k i n.
    unless files (first_of ((not (allows cred (attr_of dir.ino d) want.Search), stat.Acces) ∷ []))
    (reply.Handle (handle_of files i) (attr_of i n), files))))

-- the type bits of a mode are those of another type
abbrev pub has_other_type : Option ℕ → Bool
has_other_type None = false
has_other_type (Some mode) = not ((mode / 4096 % 16 == 0) || (mode / 4096 % 16 == 8))

-- the file is there already: a set size acts, and nothing else
abbrev pub resize_at : Files → ℕ → Node → Option ℕ → ℕ → Reply × Files
resize_at files i n None now = (reply.Handle (handle_of files i) (attr_of i n), files)
resize_at files i n (Some size) now = (reply.Handle (handle_of files i) (attr_of i (resized n size now)), with_node files i (resized n size now))

-- more blocks are to be added to a node than are free
abbrev pub is_full_for : Files → Node → Node → Bool
is_full_for files old new = nat_lt (free files) (node_usage new - node_usage old)

-- the answer at a usable i-number; NOSPC where there is none
abbrev pub at_usable : Files → Option ℕ → (ℕ → Reply × Files) → Reply × Files
at_usable files None answer = (reply.Refused stat.Nospc, files)
at_usable files (Some i) answer = answer i

-- the tests of a new entry of directory p, in which what is asked is of this size
abbrev pub entry_tests : ℕ → Node → Cred → ℕ → List (Bool × Stat)
entry_tests p d cred size = (not (may_change cred p d), stat.Acces) ∷ (nat_lt size_limit size || nat_lt size_limit (with_entry d None 0).size, stat.Fbig) ∷ []

-- the new file, once its name is free
abbrev pub create_new : Files → ℕ → Node → List ℕ → Sattr → Cred → ℕ → Reply × Files
create_new files p d name wanted cred now =
    unless files (first_of (entry_tests p d cred (unwrap_or wanted.size 0)))
    (at_usable files (lowest_usable files) (λ i.
    unless files (first_of ((is_full_for files d (with_entry d (Some (i, name)) now), stat.Nospc) ∷ [])) (
      reply.Handle (record { ino = i; generation = unwrap_or (get files.generations i) 0 + 1 }) (attr_of i (new_file wanted cred now)),
      made_at files i (new_file wanted cred now) p (with_entry d (Some (i, name)) now),
    )))

-- what CREATE does where the name is there, or isn't
abbrev pub create_at : Files → ℕ → Node → List ℕ → Sattr → Cred → ℕ → Option ℕ → Reply × Files
create_at files p d name wanted cred now None = create_new files p d name wanted cred now
create_at files p d name wanted cred now (Some k) = at_node files (get files.nodes (number_at d.slots k)) (λ n.
    unless files (first_of (
    (not (is_regular n.kind), stat.Exist)
    ∷ (is_some wanted.size && not (allows cred (attr_of (number_at d.slots k) n) want.Write), stat.Acces)
    ∷ (nat_lt size_limit (unwrap_or wanted.size 0), stat.Fbig) ∷ []))
    (resize_at files (number_at d.slots k) n wanted.size now))

-- the tests of CREATE before its name is looked up
abbrev pub create_tests : Files → Node → List ℕ → Sattr → List (Bool × Stat)
create_tests files d name wanted = (files.read_only, stat.Rofs) ∷ (not (is_directory d.kind), stat.Notdir) ∷ name_tests name ++ (has_other_type wanted.mode, stat.Perm) ∷ []

-- CREATE (RFC 1094 2.2.10)
unfoldable pub create_row : Files → FileId → List ℕ → Sattr → Cred → ℕ → Reply × Files
create_row files dir name wanted cred now = at_live files (live files dir) (λ d.
    unless files (first_of (create_tests files d name wanted))
    (create_at files dir.ino d name wanted cred now (position (has_name name) d.slots)))

-- a node that lost one of its names: it ends where that was the last one
abbrev pub less_link : Files → ℕ → Node → ℕ → Files
less_link files i n now = if n.nlink == 1 then record files { nodes = remove files.nodes i } else with_node files i (record n { nlink = n.nlink - 1; ctime = now })

-- the tests of REMOVE before its name is looked up, and those of what the name means
abbrev pub remove_tests : Files → Node → List ℕ → List (Bool × Stat)
remove_tests files d name = (files.read_only, stat.Rofs) ∷ (not (is_directory d.kind), stat.Notdir) ∷ name_tests name

abbrev pub loss_tests : ℕ → Node → Node → Cred → List (Bool × Stat)
loss_tests p d n cred = (is_directory n.kind, stat.Isdir) ∷ (not (may_change cred p d), stat.Acces) ∷ []

-- REMOVE (RFC 1094 2.2.11)
unfoldable pub remove_row : Files → FileId → List ℕ → Cred → ℕ → Reply × Files
remove_row files dir name cred now = at_live files (live files dir) (λ d.
    unless files (first_of (remove_tests files d name))
    (at_name files d name (λ k i n.
    unless files (first_of (loss_tests dir.ino d n cred))
    (reply.Done, with_node (less_link files i n now) dir.ino (without_entry d k now)))))

-- the tests of a name in a directory before it is looked up
abbrev pub place_tests : Files → Node → List ℕ → List (Bool × Stat)
place_tests files d name = (files.read_only, stat.Rofs) ∷ (not (is_directory d.kind), stat.Notdir) ∷ name_tests name

-- the answer where the name is free; EXIST where it isn't
abbrev pub at_free_name : Files → Node → List ℕ → Reply × Files → Reply × Files
at_free_name files d name answer = unless files (first_of ((is_some (position (has_name name) d.slots), stat.Exist) ∷ [])) answer

-- the greatest number of links that LINK and MKDIR leave
abbrev pub most_links : ℕ
most_links = 32767

-- LINK (RFC 1094 2.2.13)
unfoldable pub link_row : Files → FileId → FileId → List ℕ → Cred → ℕ → Reply × Files
link_row files file dir name cred now = at_live files (live files file) (λ n. at_live files (live files dir) (λ d.
    unless files (first_of ((files.read_only, stat.Rofs) ∷ (is_directory n.kind, stat.Isdir) ∷ (not (is_directory d.kind), stat.Notdir) ∷ name_tests name))
    (at_free_name files d name
    (unless files (first_of (entry_tests dir.ino d cred 0 ++ (nat_le most_links n.nlink || is_full_for files d (with_entry d (Some (file.ino, name)) now), stat.Nospc) ∷ []))
    (reply.Done, with_node (with_node files file.ino (record n { nlink = n.nlink + 1; ctime = now })) dir.ino (with_entry d (Some (file.ino, name)) now))))))

-- a new symbolic link
abbrev pub new_link : Sattr → Cred → List ℕ → ℕ → Node
new_link wanted cred text now = record (new_file wanted cred now) { kind = Link; mode = 511; size = length text; sectors = with_sectors (changes 0 text empty) empty }

-- SYMLINK (RFC 1094 2.2.14)
unfoldable pub symlink_row : Files → FileId → List ℕ → List ℕ → Sattr → Cred → ℕ → Reply × Files
symlink_row files dir name text wanted cred now = at_live files (live files dir) (λ d.
    unless files (first_of (place_tests files d name))
    (at_free_name files d name
    (unless files (first_of (entry_tests dir.ino d cred 0))
    (at_usable files (lowest_usable files) (λ i.
    unless files (first_of ((nat_lt (free files) (node_usage (new_link wanted cred text now) + (node_usage (with_entry d (Some (i, name)) now) - node_usage d)), stat.Nospc) ∷ []))
    (reply.Done, made_at files i (new_link wanted cred text now) dir.ino (with_entry d (Some (i, name)) now)))))))

-- a new directory of this number under a parent
abbrev pub new_directory : Sattr → Cred → ℕ → ℕ → ℕ → Node
new_directory wanted cred i p now = record (new_file wanted cred now) {
  kind = Directory;
  mode = unwrap_or wanted.mode 511 % 4096;
  nlink = 2;
  size = 32;
  slots = Some (i, 46 ∷ []) ∷ Some (p, 46 ∷ 46 ∷ []) ∷ [];
}

-- MKDIR (RFC 1094 2.2.15)
unfoldable pub mkdir_row : Files → FileId → List ℕ → Sattr → Cred → ℕ → Reply × Files
mkdir_row files dir name wanted cred now = at_live files (live files dir) (λ d.
    unless files (first_of (place_tests files d name))
    (at_free_name files d name
    (unless files (first_of (entry_tests dir.ino d cred 0))
    (at_usable files (lowest_usable files) (λ i.
    unless files (first_of ((nat_le most_links d.nlink || nat_lt (free files) (node_usage (new_directory wanted cred i dir.ino now) + (node_usage (with_entry d (Some (i, name)) now) - node_usage d)), stat.Nospc) ∷ [])) (
      reply.Handle (record { ino = i; generation = unwrap_or (get files.generations i) 0 + 1 }) (attr_of i (new_directory wanted cred i dir.ino now)),
      made_at files i (new_directory wanted cred i dir.ino now) dir.ino (record (with_entry d (Some (i, name)) now) { nlink = d.nlink + 1 }),
    ))))))

-- a directory has a slot past its first two that isn't empty
abbrev pub has_entries : Node → Bool
has_entries n = list_any is_some (drop 2 n.slots)

-- RMDIR (RFC 1094 2.2.16)
unfoldable pub rmdir_row : Files → FileId → List ℕ → Cred → ℕ → Reply × Files
rmdir_row files dir name cred now = at_live files (live files dir) (λ d.
    unless files (first_of (place_tests files d name))
    (at_name files d name (λ k i n.
    unless files (first_of ((not (is_directory n.kind), stat.Notdir) ∷ (has_entries n, stat.Notempty) ∷ (not (may_change cred dir.ino d), stat.Acces) ∷ []))
    (reply.Done, record files { nodes = insert (remove files.nodes i) dir.ino (record (without_entry d k now) { nlink = d.nlink - 1 }) }))))

-- where a RENAME puts its name: the slot that has it, or where a new entry comes
abbrev pub renamed_in : Node → Slot → Option ℕ → ℕ → Node
renamed_in d s (Some l) now = record d { slots = set d.slots l s; mtime = now; ctime = now }
renamed_in d s None now = with_entry d s now

-- a node that a RENAME replaces loses a name
abbrev pub replaced_at : Files → ℕ → ℕ → Option Node → Files
replaced_at files r now None = files
replaced_at files r now (Some n) = less_link files r n now

abbrev pub replaced_in : Files → Option ℕ → ℕ → Files
replaced_in files None now = files
replaced_in files (Some r) now = replaced_at files r now (get files.nodes r)

-- slot k of a directory is emptied, as the directory stands now
abbrev pub emptied_at : Files → ℕ → ℕ → ℕ → Option Node → Files
emptied_at files p k now None = files
emptied_at files p k now (Some d) = with_node files p (without_entry d k now)

abbrev pub emptied_in : Files → ℕ → ℕ → ℕ → Files
emptied_in files p k now = emptied_at files p k now (get files.nodes p)

-- one slot changes its name, or two slots change
abbrev pub moved_files : Files → FileId → Node → ℕ → FileId → Node → Option ℕ → List ℕ → ℕ → ℕ → Files
moved_files files from dp k to dq l new_name i now =
    if (from.ino == to.ino) && is_none l then with_node files from.ino (record dp { slots = set dp.slots k (Some (i, new_name)); mtime = now; ctime = now })
    else replaced_in (emptied_in (with_node files to.ino (renamed_in dq (Some (i, new_name)) l now)) from.ino k now) (option_map (number_at dq.slots) l) now

-- what stands under the new name, if anything does
abbrev pub standing_at : Files → Node → Option ℕ → Option Node
standing_at files d None = None
standing_at files d (Some l) = get files.nodes (number_at d.slots l)

abbrev pub is_directory_at : Option Node → Bool
is_directory_at None = false
is_directory_at (Some n) = is_directory n.kind

-- the tests of RENAME once its old name is found: of the moved node, what stands under the new name, and the two directories
abbrev pub rename_tests : Files → FileId → Node → FileId → Node → Option ℕ → List ℕ → ℕ → Node → Cred → ℕ → List (Bool × Stat)
rename_tests files from dp to dq l new_name i n cred now =
    (is_directory n.kind && is_some l, stat.Exist) ∷ (is_directory n.kind && not (from.ino == to.ino), stat.Perm)
    ∷ (is_directory_at (standing_at files dq l), stat.Isdir)
    ∷ (not (may_change cred from.ino dp), stat.Acces) ∷ (not (may_change cred to.ino dq), stat.Acces)
    ∷ (not ((from.ino == to.ino) && is_none l) && nat_lt size_limit (renamed_in dq None l now).size, stat.Fbig)
    ∷ (not ((from.ino == to.ino) && is_none l) && ((n.nlink == 65535) || is_full_for files dq (renamed_in dq (Some (i, new_name)) l now)), stat.Nospc) ∷ []

-- RENAME (RFC 1094 2.2.12)
unfoldable pub rename_row : Files → FileId → List ℕ → FileId → List ℕ → Cred → ℕ → Reply × Files
rename_row files from name to new_name cred now = at_live files (live files from) (λ dp. at_live files (live files to) (λ dq.
    unless files (first_of ((files.read_only, stat.Rofs) ∷ (not (is_directory dp.kind), stat.Notdir) ∷ (not (is_directory dq.kind), stat.Notdir) ∷ name_tests name ++ name_tests new_name))
    (at_name files dp name (λ k i n.
    if unwrap_or (option_map (number_at dq.slots) (position (has_name new_name) dq.slots)) 0 == i then (reply.Done, files)
    else unless files (first_of (rename_tests files from dp to dq (position (has_name new_name) dq.slots) new_name i n cred now))
    (reply.Done, moved_files files from dp k to dq (position (has_name new_name) dq.slots) new_name i now)))))
