-- What calls on directories answer, by the records of an image in which there is nothing to mend.
use Rattle.std.specs.Prelude.{ℕ, ◌/◌, List, [], ◌∷◌, length, Option, Some, None, nat_lt, not}
use Rattle.std.specs.List.{position}
use Rattle.stable.specs.Store.{Image}
use Rattle.v7_layout.specs.declared.inode.Inode.{Inode}
use Rattle.files_model.specs.declared.attributes.FileId.{FileId}
use Rattle.files_model.specs.declared.credential.Cred.{Cred}
use Rattle.files_model.specs.declared.permission.Want.TheVariants as want
use Rattle.files_model.specs.declared.reply.Reply.{Reply}
use Rattle.files_model.specs.declared.reply.Reply.TheVariants as reply
use Rattle.files_model.specs.declared.reply.Stat.{Stat}
use Rattle.files_model.specs.declared.reply.Stat.TheVariants as stat
use Rattle.files_model.specs.Answers.{first_of}
use Rattle.files_model.specs.Names.{is_bad, most_name, has_name, number_at}
use Rattle.files_model.specs.Permission.{allows, is_directory}
use Rattle.v7_map.specs.Image.{inode_at}
use Rattle.v7_map.specs.Stored.{stored_attr, answer_by, answer_standing}
use Rattle.v7_map.specs.View.{kind_of}
use Rattle.v7_entries.specs.Bodies.{slots_at}

-- ---- LOOKUP

-- the refusal of a name that is looked up, before it is
abbrev pub lookup_refusal_by : Inode → List ℕ → Option Stat
lookup_refusal_by n name = first_of ((not (is_directory (kind_of (n.mode / 4096))), stat.Notdir) ∷ (is_bad name, stat.Acces) ∷ (nat_lt most_name (length name), stat.Nametoolong) ∷ [])

-- the refusal of a caller who may not search directory i
abbrev pub search_refusal_by : ℕ → Inode → Cred → Option Stat
search_refusal_by i n cred = first_of ((not (allows cred (stored_attr i n) want.Search), stat.Acces) ∷ [])

-- the handle and the attributes of inode i
abbrev pub handle_reply : ℕ → Inode → Reply
handle_reply i n = reply.Handle (record { ino = i; generation = n.generation }) (stored_attr i n)

-- the answer at the first slot of a name, NOENT where there is none
abbrev pub answer_at : Option ℕ → (ℕ → Reply) → Reply
answer_at None answer = reply.Refused stat.Noent
answer_at (Some k) answer = answer k

abbrev pub lookup_answer : Image → FileId → List ℕ → Cred → Reply
lookup_answer image dir name cred =
    let n = inode_at image dir.ino in
    answer_standing image dir (answer_by (lookup_refusal_by n name) (answer_at (position (has_name name) (slots_at image n)) (λ k.
    answer_by (search_refusal_by dir.ino n cred) (handle_reply (number_at (slots_at image n) k) (inode_at image (number_at (slots_at image n) k))))))
