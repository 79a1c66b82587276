-- The rows of the calls that read links and directories, and of STATFS (docs/CALLS.md).
use Rattle.std.specs.Prelude.{ℕ, ◌+◌, ◌-◌, ◌*◌, ◌/◌, min, List, [], ◌∷◌, length, drop, Some, None, ◌==◌, nat_le, if◌then◌else◌, not}
use Rattle.files_model.specs.declared.attributes.FileId.{FileId}
use Rattle.files_model.specs.declared.credential.Cred.{Cred}
use Rattle.files_model.specs.declared.entries.Entry.{Entry}
use Rattle.files_model.specs.declared.permission.Want.TheVariants as want
use Rattle.files_model.specs.declared.reply.Stat.TheVariants as stat
use Rattle.files_model.specs.declared.reply.Reply.{Reply}
use Rattle.files_model.specs.declared.reply.Reply.TheVariants as reply
use Rattle.files_model.specs.Answers.{attr_of, first_of, unless, at_live}
use Rattle.files_model.specs.FileRows.{content}
use Rattle.files_model.specs.Files.{Files, Slot, live}
use Rattle.files_model.specs.Permission.{allows, is_directory, is_link}
use Rattle.files_model.specs.Space.{free}

-- READLINK (RFC 1094 2.2.6)
unfoldable pub readlink_row : Files → FileId → Reply × Files
readlink_row files file = at_live files (live files file) (λ n.
    unless files (first_of ((not (is_link n.kind), stat.Nxio) ∷ []))
    (reply.Text (content n), files))

-- the entries of a directory's slots, of which the first is slot number k. The cookie of an entry is the number of the slot past it
abbrev pub entries_from : ℕ → List Slot → List Entry
entries_from k [] = []
entries_from k (None ∷ slots) = entries_from (k + 1) slots
entries_from k (Some e ∷ slots) = record { fileid = e.0; name = e.1; cookie = k + 1 } ∷ entries_from (k + 1) slots

-- the bytes of an entry in a reply: four words, and the name padded to words
abbrev pub entry_size : Entry → ℕ
entry_size e = 16 + (length e.name + 3) / 4 * 4

-- the first entries that take no more than so many bytes
abbrev pub fitting : ℕ → List Entry → List Entry
fitting room [] = []
fitting room (e ∷ es) = if nat_le (entry_size e) room then e ∷ fitting (room - entry_size e) es else []

-- the entries that one reply takes: the first whatever its size, then those that fit
abbrev pub taken : ℕ → List Entry → List Entry
taken room [] = []
taken room (e ∷ es) = e ∷ fitting (room - entry_size e) es

-- the bytes for entries in a reply to a call that asks for so many: twelve are for the status and the end
abbrev pub entry_bytes_of : ℕ → ℕ
entry_bytes_of count = min count 8192 - 12

-- READDIR (RFC 1094 2.2.17): the end mark stands exactly where no used slot is left
unfoldable pub readdir_row : Files → FileId → ℕ → ℕ → Cred → Reply × Files
readdir_row files dir cookie count cred = at_live files (live files dir) (λ d.
    unless files (first_of ((not (is_directory d.kind), stat.Notdir) ∷ (not (allows cred (attr_of dir.ino d) want.Read), stat.Acces) ∷ []))
    (let left = entries_from cookie (drop cookie d.slots) in
    let list = taken (entry_bytes_of count) left in
    (reply.Entries list (length list == length left), files)))

-- STATFS (RFC 1094 2.2.18)
unfoldable pub statfs_row : Files → FileId → Reply × Files
statfs_row files file = at_live files (live files file) (λ n. (reply.Space files.blocks (free files), files))
