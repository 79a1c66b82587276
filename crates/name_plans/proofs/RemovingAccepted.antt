-- What the step of an accepted REMOVE is, and what is known of its slot and nodes.
use Rattle.std.proofs.Common.{◌≡◌, ℕ, ◌-◌, ◌<◌, ◌≤◌, true, false, not, ◌||◌, if◌then◌else◌, List, [], ◌∷◌, length, get_or, refl, ap, ◌∙◌, eqb, ltb, Some, None}
use Rattle.std.specs.FinMap.{get, remove}
use Rattle.std.specs.List.{position}
use Rattle.files_model.specs.declared.attributes.FileId.{FileId}
use Rattle.files_model.specs.declared.credential.Cred.{Cred}
use Rattle.files_model.specs.declared.call.Call.TheVariants as call
use Rattle.files_model.specs.declared.reply.Reply.{Reply}
use Rattle.files_model.specs.declared.reply.Reply.TheVariants as reply
use Rattle.files_model.specs.declared.reply.Stat.TheVariants as stat
use Rattle.files_model.specs.Answers.{at_live, unless, first_of, with_node}
use Rattle.files_model.specs.Files.{Node, Files}
use Rattle.files_model.specs.NameRows.{remove_row, remove_tests, loss_tests, less_link}
use Rattle.files_model.specs.Names.{at_node, at_slot, without_entry, name_tests, is_bad, is_dots, has_name, number_at, most_name, may_change}
use Rattle.files_model.specs.Permission as permission
use Rattle.files_model.specs.Step.{step}
use Rattle.files_model.specs.Torn.{after_calls}
use Rattle.stable.specs.Store.{Image}
use Rattle.v7_map.specs.Frame.{frame}
use Rattle.v7_map.specs.Tree.{tree}
use Rattle.v7_map.specs.View.{view}
use Rattle.v7_map.specs.Weak.{IsStrong, slot_at}
use Rattle.v7_map.proofs.Nodes.{live-node}
use Rattle.v7_strokes.specs.Changes.{changed}
use Rattle.v7_strokes.proofs.Directories.{StandsDir, stands-dir}
use Rattle.v7_strokes.proofs.Loser.{lost_of}
use Rattle.name_plans.specs.Removing.{IsRemoval}
use Rattle.name_plans.proofs.CreatingAccepted.{first_none}
use Rattle.name_plans.proofs.CreatingInPlace.{not_no}
use Rattle.name_plans.proofs.NamedSlots.{named-slot, named-past}

pub removal-step : (files : Files) (dir : FileId) (name : List ℕ) (cred : Cred) (now : ℕ) (d : Node) (k i : ℕ) (n : Node) → IsRemoval files dir name cred d k i n
    → step files (call.Remove dir name) cred now ≡ (reply.Done, with_node (less_link files i n now) dir.ino (without_entry d k now))
unfolding remove_row
removal-step files dir name cred now d k i n c =
    ap (λ o. at_live files o (λ m. unless files (first_of (remove_tests files m name)) (at_slot files (position (has_name name) m.slots) (λ l. at_node files (get files.nodes (number_at m.slots l)) (answer m l (number_at m.slots l)))))) c.live
    ∙ (λ z. unless files (c.tests z) (at_slot files (c.slot z) (λ l. at_node files (get files.nodes (number_at d.slots l)) (answer d l (number_at d.slots l)))))
    ∙ (λ z. at_node files (get files.nodes (c.number z)) (answer d k (c.number z)))
    ∙ (λ z. at_node files (c.node z) (answer d k i))
    ∙ (λ z. unless files (c.loss z) (reply.Done, with_node (less_link files i n now) dir.ino (without_entry d k now)))
  where
    answer : Node → ℕ → ℕ → Node → Reply × Files
    answer m l j x = unless files (first_of (loss_tests dir.ino m x cred)) (reply.Done, with_node (less_link files j x now) dir.ino (without_entry m l now))

module _ (image : Image) (dir : FileId) (name : List ℕ) (cred : Cred) (now : ℕ) (d : Node) (k i : ℕ) (n : Node) (strong : IsStrong (frame image)) (c : IsRemoval (view image) dir name cred d k i n) where
  pub removal-at : get (view image).nodes dir.ino ≡ Some d
  removal-at = live-node (view image) dir d c.live

  tests : (not (permission.is_directory d.kind) ≡ false) × ((is_bad name || is_dots name) ≡ false)
  tests =
      let a = first_none (view image).read_only stat.Rofs ((not (permission.is_directory d.kind), stat.Notdir) ∷ name_tests name) c.tests in
      let b = first_none (not (permission.is_directory d.kind)) stat.Notdir (name_tests name) a.1 in
      let e = first_none (is_bad name || is_dots name) stat.Acces ((ltb most_name (length name), stat.Nametoolong) ∷ []) b.1 in (b.0, e.0)

  pub removal-dir : StandsDir image dir.ino d
  removal-dir = stands-dir image dir.ino d strong.weak removal-at (not_no (permission.is_directory d.kind) tests.0)

  pub removal-file : permission.is_directory n.kind ≡ false
  removal-file = (first_none (permission.is_directory n.kind) stat.Isdir ((not (may_change cred dir.ino d), stat.Acces) ∷ []) c.loss).0

  place : (k < length d.slots) × (get_or d.slots k None ≡ Some (i, name))
  place = named-slot d.slots name k i c.slot c.number

  pub removal-inside : k < length d.slots
  removal-inside = place.0

  pub removal-slot : slot_at (tree (frame image)) dir.ino k ≡ Some (i, name)
  removal-slot = ap (λ l. get_or l k None) removal-dir.slots ∙ place.1

  -- it is past the first two, which are `.` and `..`
  pub removal-past : 2 ≤ k
  removal-past = named-past image dir.ino d name k i strong.weak removal-dir place.1 tests.1

  removal-after : after_calls (view image) ((call.Remove dir name, cred) ∷ []) now ≡ with_node (less_link (view image) i n now) dir.ino (without_entry d k now)
  removal-after = ap (λ r. r.1) (removal-step (view image) dir name cred now d k i n c)

  -- the node afterwards ends with its last name
  pub removal-changed : after_calls (view image) ((call.Remove dir name, cred) ∷ []) now ≡ changed (view image) i (lost_of n now) dir.ino (without_entry d k now)
  removal-changed = removal-after ∙ elim (eqb n.nlink 1) as (λ b. with_node (if b then record (view image) { nodes = remove (view image).nodes i } else with_node (view image) i (record n { nlink = n.nlink - 1; ctime = now })) dir.ino (without_entry d k now)
      ≡ changed (view image) i (if b then None else Some (record n { nlink = n.nlink - 1; ctime = now })) dir.ino (without_entry d k now)) [
        | true ↦ refl
        | false ↦ refl
      ]
