-- What READLINK and READDIR answer, by the records of an image in which there is nothing to mend.
use Rattle.std.specs.Prelude.{ℕ, ◌/◌, List, [], ◌∷◌, length, drop, Option, ◌==◌, not}
use Rattle.stable.specs.Store.{Image}
use Rattle.v7_layout.specs.declared.inode.Inode.{Inode}
use Rattle.files_model.specs.declared.attributes.FileId.{FileId}
use Rattle.files_model.specs.declared.credential.Cred.{Cred}
use Rattle.files_model.specs.declared.entries.Entry.{Entry}
use Rattle.files_model.specs.declared.permission.Want.TheVariants as want
use Rattle.files_model.specs.declared.reply.Reply.{Reply}
use Rattle.files_model.specs.declared.reply.Reply.TheVariants as reply
use Rattle.files_model.specs.declared.reply.Stat.{Stat}
use Rattle.files_model.specs.declared.reply.Stat.TheVariants as stat
use Rattle.files_model.specs.Answers.{first_of}
use Rattle.files_model.specs.Files.{Slot}
use Rattle.files_model.specs.Permission.{allows, is_directory, is_link}
use Rattle.files_model.specs.ReadingRows.{entries_from, taken, entry_bytes_of}
use Rattle.v7_map.specs.Image.{inode_at}
use Rattle.v7_map.specs.Stored.{stored_attr, stored_content, answer_by, answer_standing}
use Rattle.v7_map.specs.View.{kind_of}
use Rattle.v7_entries.specs.Bodies.{slots_at}

-- ---- READLINK

-- the refusal of what is no link
abbrev pub readlink_refusal_by : Inode → Option Stat
readlink_refusal_by n = first_of ((not (is_link (kind_of (n.mode / 4096))), stat.Nxio) ∷ [])

abbrev pub readlink_answer : Image → FileId → Reply
readlink_answer image file =
    let n = inode_at image file.ino in
    answer_standing image file (answer_by (readlink_refusal_by n) (reply.Text (stored_content image n)))

-- ---- READDIR

-- the refusal of what is no directory, and of a caller who may not read directory i
abbrev pub readdir_refusal_by : ℕ → Inode → Cred → Option Stat
readdir_refusal_by i n cred = first_of ((not (is_directory (kind_of (n.mode / 4096))), stat.Notdir) ∷ (not (allows cred (stored_attr i n) want.Read), stat.Acces) ∷ [])

-- the entries in the slots from a number on
abbrev pub entries_past : List Slot → ℕ → List Entry
entries_past slots cookie = entries_from cookie (drop cookie slots)

-- those that one reply takes of them, and whether these are all
abbrev pub entries_reply : List Entry → ℕ → Reply
entries_reply left count = let list = taken (entry_bytes_of count) left in reply.Entries list (length list == length left)

abbrev pub readdir_answer : Image → FileId → ℕ → ℕ → Cred → Reply
readdir_answer image dir cookie count cred =
    let n = inode_at image dir.ino in
    answer_standing image dir (answer_by (readdir_refusal_by dir.ino n cred) (entries_reply (entries_past (slots_at image n) cookie) count))
