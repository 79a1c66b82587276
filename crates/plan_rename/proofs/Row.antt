-- What a RENAME answers, test by test.
use Rattle.std.proofs.Common.{◌≡◌, ℕ, true, false, not, ◌==◌, if◌then◌else◌, List, [], ◌∷◌, ◌++◌, Option, Some, None, refl, ap, ◌∙◌, unwrap_or}
use Rattle.std.specs.FinMap.{get}
use Rattle.std.specs.List.{position}
use Rattle.std.specs.Option.{option_map}
use Rattle.files_model.specs.declared.attributes.FileId.{FileId}
use Rattle.files_model.specs.declared.credential.Cred.{Cred}
use Rattle.files_model.specs.declared.reply.Stat.{Stat}
use Rattle.files_model.specs.declared.reply.Stat.TheVariants as stat
use Rattle.files_model.specs.declared.reply.Reply.{Reply}
use Rattle.files_model.specs.declared.reply.Reply.TheVariants as reply
use Rattle.files_model.specs.Answers.{at_live, unless, first_of}
use Rattle.files_model.specs.Files.{Node, Files, live}
use Rattle.files_model.specs.NameRows.{rename_row, rename_tests, moved_files}
use Rattle.files_model.specs.Names.{at_slot, at_node, at_name, name_tests, has_name, number_at}
use Rattle.files_model.specs.Permission.{is_directory}

module _ (files : Files) (from to : FileId) (name new_name : List ℕ) (cred : Cred) (now : ℕ) where
  -- the end of the row, by where the new name stands
  abbrev moved : Node → Node → ℕ → ℕ → Node → Option ℕ → Reply × Files
  moved p q k i n o =
      if unwrap_or (option_map (number_at q.slots) o) 0 == i then (reply.Done, files)
      else unless files (first_of (rename_tests files from p to q o new_name i n cred now)) (reply.Done, moved_files files from p k to q o new_name i now)

  abbrev answer : Node → Node → ℕ → ℕ → Node → Reply × Files
  answer p q k i n =
      if unwrap_or (option_map (number_at q.slots) (position (has_name new_name) q.slots)) 0 == i then (reply.Done, files)
      else unless files (first_of (rename_tests files from p to q (position (has_name new_name) q.slots) new_name i n cred now))
      (reply.Done, moved_files files from p k to q (position (has_name new_name) q.slots) new_name i now)

  abbrev row : Node → Node → Reply × Files
  row p q = unless files (first_of ((files.read_only, stat.Rofs) ∷ (not (is_directory p.kind), stat.Notdir) ∷ (not (is_directory q.kind), stat.Notdir) ∷ name_tests name ++ name_tests new_name))
      (at_name files p name (answer p q))

  pub row-stale_from : live files from ≡ None → rename_row files from name to new_name cred now ≡ (reply.Refused stat.Stale, files)
  unfolding rename_row
  row-stale_from e = ap (λ o. at_live files o (λ p. at_live files (live files to) (λ q. row p q))) e

  pub row-stale_to : (p : Node) → live files from ≡ Some p → live files to ≡ None → rename_row files from name to new_name cred now ≡ (reply.Refused stat.Stale, files)
  unfolding rename_row
  row-stale_to p e f = ap (λ o. at_live files o (λ p. at_live files (live files to) (λ q. row p q))) e ∙ ap (λ o. at_live files o (λ q. row p q)) f

  module _ (p q : Node) (is_p : live files from ≡ Some p) (is_q : live files to ≡ Some q) where
    of_pair : rename_row files from name to new_name cred now ≡ row p q
    unfolding rename_row
    of_pair = (λ z. at_live files (is_p z) (λ a. at_live files (is_q z) (λ b. row a b)))

    pub row-refused : (status : Stat) → first_of ((files.read_only, stat.Rofs) ∷ (not (is_directory p.kind), stat.Notdir) ∷ (not (is_directory q.kind), stat.Notdir) ∷ name_tests name ++ name_tests new_name) ≡ Some status
        → rename_row files from name to new_name cred now ≡ (reply.Refused status, files)
    row-refused status e = of_pair ∙ ap (λ r. unless files r (at_name files p name (answer p q))) e

    module _ (tests : first_of ((files.read_only, stat.Rofs) ∷ (not (is_directory p.kind), stat.Notdir) ∷ (not (is_directory q.kind), stat.Notdir) ∷ name_tests name ++ name_tests new_name) ≡ None) where
      passed : rename_row files from name to new_name cred now ≡ at_name files p name (answer p q)
      passed = of_pair ∙ ap (λ r. unless files r (at_name files p name (answer p q))) tests

      pub row-absent : position (has_name name) p.slots ≡ None → rename_row files from name to new_name cred now ≡ (reply.Refused stat.Noent, files)
      row-absent e = passed ∙ ap (λ o. at_slot files o (λ k. at_node files (get files.nodes (number_at p.slots k)) (answer p q k (number_at p.slots k)))) e

      module _ (k i : ℕ) (n : Node) (slot : position (has_name name) p.slots ≡ Some k) (number : number_at p.slots k ≡ i) (node : get files.nodes i ≡ Some n) (o : Option ℕ) (place : position (has_name new_name) q.slots ≡ o) where
        found : rename_row files from name to new_name cred now ≡ moved p q k i n o
        found = passed
            ∙ ap (λ o. at_slot files o (λ k. at_node files (get files.nodes (number_at p.slots k)) (answer p q k (number_at p.slots k)))) slot
            ∙ (λ z. at_node files (get files.nodes (number z)) (answer p q k (number z)))
            ∙ (λ z. at_node files (node z) (answer p q k i))
            ∙ (λ z. moved p q k i n (place z))

        pub row-same : (unwrap_or (option_map (number_at q.slots) o) 0 == i) ≡ true → rename_row files from name to new_name cred now ≡ (reply.Done, files)
        row-same e = found ∙ ap (λ b. if b then (reply.Done, files) else unless files (first_of (rename_tests files from p to q o new_name i n cred now)) (reply.Done, moved_files files from p k to q o new_name i now)) e

        module _ (differ : (unwrap_or (option_map (number_at q.slots) o) 0 == i) ≡ false) where
          apart : rename_row files from name to new_name cred now ≡ unless files (first_of (rename_tests files from p to q o new_name i n cred now)) (reply.Done, moved_files files from p k to q o new_name i now)
          apart = found ∙ ap (λ b. if b then (reply.Done, files) else unless files (first_of (rename_tests files from p to q o new_name i n cred now)) (reply.Done, moved_files files from p k to q o new_name i now)) differ

          pub row-late : (status : Stat) → first_of (rename_tests files from p to q o new_name i n cred now) ≡ Some status → rename_row files from name to new_name cred now ≡ (reply.Refused status, files)
          row-late status e = apart ∙ ap (λ r. unless files r (reply.Done, moved_files files from p k to q o new_name i now)) e

          pub row-done : first_of (rename_tests files from p to q o new_name i n cred now) ≡ None → rename_row files from name to new_name cred now ≡ (reply.Done, moved_files files from p k to q o new_name i now)
          row-done e = apart ∙ ap (λ r. unless files r (reply.Done, moved_files files from p k to q o new_name i now)) e
