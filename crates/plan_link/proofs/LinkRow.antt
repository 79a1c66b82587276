-- The row of a LINK that is refused.
use Rattle.std.proofs.Common.{◌≡◌, ℕ, ◌+◌, ◌||◌, not, List, [], ◌∷◌, ◌++◌, is_some, Option, Some, None, refl, ap, ◌∙◌, leb}
use Rattle.std.specs.List.{position}
use Rattle.files_model.specs.declared.attributes.FileId.{FileId}
use Rattle.files_model.specs.declared.call.Call.TheVariants as call
use Rattle.files_model.specs.declared.credential.Cred.{Cred}
use Rattle.files_model.specs.declared.reply.Reply.{Reply}
use Rattle.files_model.specs.declared.reply.Reply.TheVariants as reply
use Rattle.files_model.specs.declared.reply.Stat.{Stat}
use Rattle.files_model.specs.declared.reply.Stat.TheVariants as stat
use Rattle.files_model.specs.Answers.{at_live, unless, first_of, with_node}
use Rattle.files_model.specs.Files.{Node, Files, live}
use Rattle.files_model.specs.NameRows.{link_row, at_free_name, entry_tests, is_full_for, most_links}
use Rattle.files_model.specs.Names.{name_tests, has_name, with_entry}
use Rattle.files_model.specs.Permission.{is_directory}
use Rattle.files_model.specs.Step.{step}

module _ (files : Files) (file dir : FileId) (name : List ℕ) (cred : Cred) (now : ℕ) where
  answer : Node → Node → Reply × Files
  answer m e = (reply.Done, with_node (with_node files file.ino (record m { nlink = m.nlink + 1; ctime = now })) dir.ino (with_entry e (Some (file.ino, name)) now))

  free_row : Node → Node → Reply × Files
  free_row m e = unless files (first_of (entry_tests dir.ino e cred 0 ++ (leb most_links m.nlink || is_full_for files e (with_entry e (Some (file.ino, name)) now), stat.Nospc) ∷ [])) (answer m e)

  row : Node → Node → Reply × Files
  row m e = unless files (first_of ((files.read_only, stat.Rofs) ∷ (is_directory m.kind, stat.Isdir) ∷ (not (is_directory e.kind), stat.Notdir) ∷ name_tests name)) (at_free_name files e name (free_row m e))

  pub stale-file : live files file ≡ None → step files (call.Link file dir name) cred now ≡ (reply.Refused stat.Stale, files)
  unfolding link_row row free_row answer
  stale-file none = ap (λ o. at_live files o (λ m. at_live files (live files dir) (λ e. row m e))) none

  pub stale-directory : live files dir ≡ None → step files (call.Link file dir name) cred now ≡ (reply.Refused stat.Stale, files)
  unfolding link_row row free_row answer
  stale-directory none = ap (λ o. at_live files (live files file) (λ m. at_live files o (λ e. row m e))) none ∙ either (live files file)
    where
      either : (o : Option Node) → at_live files o (λ m. (reply.Refused stat.Stale, files)) ≡ (reply.Refused stat.Stale, files)
      either None = refl
      either (Some m) = refl

  module _ (n d : Node) (at_file : live files file ≡ Some n) (at : live files dir ≡ Some d) where
    stands : step files (call.Link file dir name) cred now ≡ row n d
    unfolding link_row row free_row answer
    stands = (λ z. at_live files (at_file z) (λ m. at_live files (at z) (λ e. row m e)))

    pub refused-first : (status : Stat) → first_of ((files.read_only, stat.Rofs) ∷ (is_directory n.kind, stat.Isdir) ∷ (not (is_directory d.kind), stat.Notdir) ∷ name_tests name) ≡ Some status
        → step files (call.Link file dir name) cred now ≡ (reply.Refused status, files)
    unfolding row
    refused-first status e = stands ∙ ap (λ o. unless files o (at_free_name files d name (free_row n d))) e

    module _ (tests : first_of ((files.read_only, stat.Rofs) ∷ (is_directory n.kind, stat.Isdir) ∷ (not (is_directory d.kind), stat.Notdir) ∷ name_tests name) ≡ None) where
      pub refused-taken : (k : ℕ) → position (has_name name) d.slots ≡ Some k → step files (call.Link file dir name) cred now ≡ (reply.Refused stat.Exist, files)
      unfolding row
      refused-taken k e = stands ∙ (λ z. unless files (tests z) (unless files (first_of ((is_some (e z), stat.Exist) ∷ [])) (free_row n d)))

      pub refused-room : position (has_name name) d.slots ≡ None → (status : Stat)
          → first_of (entry_tests dir.ino d cred 0 ++ (leb most_links n.nlink || is_full_for files d (with_entry d (Some (file.ino, name)) now), stat.Nospc) ∷ []) ≡ Some status
          → step files (call.Link file dir name) cred now ≡ (reply.Refused status, files)
      unfolding row free_row
      refused-room absent status e = stands ∙ (λ z. unless files (tests z) (unless files (first_of ((is_some (absent z), stat.Exist) ∷ [])) (unless files (e z) (answer n d))))
