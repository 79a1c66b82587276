-- Calls that change no file leave the files as they are.
use Rattle.std.proofs.Common.{◌≡◌, ℕ, List, Option, Some, None, refl}
use Rattle.std.specs.FinMap.{get}
use Rattle.std.specs.List.{position}
use Rattle.files_model.specs.declared.attributes.FileId.{FileId}
use Rattle.files_model.specs.declared.credential.Cred.{Cred}
use Rattle.files_model.specs.declared.reply.Reply.{Reply}
use Rattle.files_model.specs.declared.reply.Stat.{Stat}
use Rattle.files_model.specs.Answers.{at_live, unless}
use Rattle.files_model.specs.Files.{Files, Node, live}
use Rattle.files_model.specs.Names.{at_node, at_slot, number_at, has_name}
use Rattle.files_model.specs.NameRows.{lookup_row}
use Rattle.files_model.specs.ReadingRows.{readlink_row, readdir_row, statfs_row}

module _ (files : Files) where
  live_idle : (o : Option Node) (answer : Node → Reply × Files) → ((n : Node) → (answer n).1 ≡ files) → (at_live files o answer).1 ≡ files
  live_idle None answer idle = refl
  live_idle (Some n) answer idle = idle n

  unless_idle : (o : Option Stat) (answer : Reply × Files) → answer.1 ≡ files → (unless files o answer).1 ≡ files
  unless_idle None answer idle = idle
  unless_idle (Some status) answer idle = refl

  slot_idle : (o : Option ℕ) (answer : ℕ → Reply × Files) → ((k : ℕ) → (answer k).1 ≡ files) → (at_slot files o answer).1 ≡ files
  slot_idle None answer idle = refl
  slot_idle (Some k) answer idle = idle k

  node_idle : (o : Option Node) (answer : Node → Reply × Files) → ((n : Node) → (answer n).1 ≡ files) → (at_node files o answer).1 ≡ files
  node_idle None answer idle = refl
  node_idle (Some n) answer idle = idle n

  pub lookup_idle : (dir : FileId) (name : List ℕ) (cred : Cred) → (lookup_row files dir name cred).1 ≡ files
  unfolding lookup_row
  lookup_idle dir name cred = live_idle (live files dir) _ (λ d. unless_idle _ _ (slot_idle (position (has_name name) d.slots) _ (λ k. node_idle (get files.nodes (number_at d.slots k)) _ (λ n. unless_idle _ _ refl))))

  pub readlink_idle : (file : FileId) → (readlink_row files file).1 ≡ files
  unfolding readlink_row
  readlink_idle file = live_idle (live files file) _ (λ n. unless_idle _ _ refl)

  pub readdir_idle : (dir : FileId) (cookie count : ℕ) (cred : Cred) → (readdir_row files dir cookie count cred).1 ≡ files
  unfolding readdir_row
  readdir_idle dir cookie count cred = live_idle (live files dir) _ (λ d. unless_idle _ _ refl)

  pub statfs_idle : (file : FileId) → (statfs_row files file).1 ≡ files
  unfolding statfs_row
  statfs_idle file = live_idle (live files file) _ (λ n. refl)
