-- What a REMOVE in a directory that stands comes to, by the records of an image with nothing to mend.
use Rattle.std.proofs.Common.{◌≡◌, ℕ, ◌/◌, ◌≤◌, true, not, ◌&&◌, ◌==◌, List, [], ◌∷◌, Option, Some, None, refl, sym, ap, subst, ◌∙◌}
use Rattle.std.specs.FinMap.{get}
use Rattle.std.specs.List.{position}
use Rattle.files_model.specs.declared.attributes.Attr.{Attr}
use Rattle.files_model.specs.declared.attributes.FileId.{FileId}
use Rattle.files_model.specs.declared.credential.Cred.{Cred}
use Rattle.files_model.specs.declared.permission.Want.TheVariants as want
use Rattle.files_model.specs.declared.reply.Reply.{Reply}
use Rattle.files_model.specs.declared.reply.Reply.TheVariants as reply
use Rattle.files_model.specs.declared.reply.Stat.{Stat}
use Rattle.files_model.specs.declared.reply.Stat.TheVariants as stat
use Rattle.files_model.specs.Answers.{at_live, unless, first_of, with_node}
use Rattle.files_model.specs.Files.{Node, Files, live}
use Rattle.files_model.specs.NameRows.{remove_row, remove_tests, loss_tests, less_link}
use Rattle.files_model.specs.Names.{has_name, number_at, at_node, at_slot, name_tests, without_entry}
use Rattle.files_model.specs.Permission.{allows, is_directory}
use Rattle.stable.specs.Store.{Image}
use Rattle.v7_layout.specs.declared.inode.Inode.{Inode}
use Rattle.v7_read.specs.Found.{IsFile}
use Rattle.v7_map.specs.Frame.{frame}
use Rattle.v7_map.specs.Image.{inode_at, is_inode}
use Rattle.v7_map.specs.Stored.{stored_attr}
use Rattle.v7_map.specs.View.{view, node_at, kind_of}
use Rattle.v7_map.specs.Weak.{IsStrong}
use Rattle.v7_read.specs.declared.found.Found.{Found}
use Rattle.v7_map.proofs.Standing.{attr_of-stored}
use Rattle.v7_entries.specs.Bodies.{HasBody, slots_at}
use Rattle.v7_entries.specs.Found.{IsNamedSlot}
use Rattle.v7_entries.specs.declared.named.NamedSlot.{NamedSlot}
use Rattle.plan_name.specs.Removals.{Refuses, IsTaken}
use Rattle.plan_name.specs.declared.removing_puts.Taking.{Taking}
use Rattle.plan_name.proofs.FoundDirectory.{passed-directory, found-live, found-attr, found-read_only, found-body, found-slots, found-first, found-sector, found-past, found-number, entry-inode, entry-used, entry-node}

-- ---- the row

abbrev taken_at : Files → FileId → Node → ℕ → Cred → ℕ → ℕ → Node → Reply × Files
taken_at files dir d now cred k i m = unless files (first_of (loss_tests dir.ino d m cred)) (reply.Done, with_node (less_link files i m now) dir.ino (without_entry d k now))

abbrev looked_at : Files → FileId → List ℕ → Cred → ℕ → Node → Reply × Files
looked_at files dir name cred now d = at_slot files (position (has_name name) d.slots) (λ k. at_node files (get files.nodes (number_at d.slots k)) (taken_at files dir d now cred k (number_at d.slots k)))

module _ (files : Files) (dir : FileId) (name : List ℕ) (cred : Cred) (now : ℕ) (d : Node) (stands : live files dir ≡ Some d) where
  of_live : remove_row files dir name cred now ≡ unless files (first_of (remove_tests files d name)) (looked_at files dir name cred now d)
  unfolding remove_row
  of_live = ap (λ o. at_live files o (λ m. unless files (first_of (remove_tests files m name)) (looked_at files dir name cred now m))) stands

  row-refused : (status : Stat) → first_of (remove_tests files d name) ≡ Some status → remove_row files dir name cred now ≡ (reply.Refused status, files)
  row-refused status e = of_live ∙ ap (λ r. unless files r (looked_at files dir name cred now d)) e

  module _ (passed : first_of (remove_tests files d name) ≡ None) where
    row-absent : position (has_name name) d.slots ≡ None → remove_row files dir name cred now ≡ (reply.Refused stat.Noent, files)
    row-absent e = of_live ∙ ap (λ r. unless files r (looked_at files dir name cred now d)) passed
        ∙ ap (λ o. at_slot files o (λ k. at_node files (get files.nodes (number_at d.slots k)) (taken_at files dir d now cred k (number_at d.slots k)))) e

    row-loss : (k : ℕ) (m : Node) (status : Stat) → position (has_name name) d.slots ≡ Some k → get files.nodes (number_at d.slots k) ≡ Some m → first_of (loss_tests dir.ino d m cred) ≡ Some status
        → remove_row files dir name cred now ≡ (reply.Refused status, files)
    row-loss k m status e at loss = of_live ∙ ap (λ r. unless files r (looked_at files dir name cred now d)) passed
        ∙ ap (λ o. at_slot files o (λ k. at_node files (get files.nodes (number_at d.slots k)) (taken_at files dir d now cred k (number_at d.slots k)))) e
        ∙ ap (λ o. at_node files o (taken_at files dir d now cred k (number_at d.slots k))) at
        ∙ ap (λ r. unless files r (reply.Done, with_node (less_link files (number_at d.slots k) m now) dir.ino (without_entry d k now))) loss

-- ---- by the records

pub none_of : {X : Type 0} (o : Option X) → ((x : X) → o ≡ Some x → ⊥) → o ≡ None
none_of None h = refl
none_of (Some x) h = absurd (h x refl)

pub no_some : {X : Type 0} {x : X} → None ≡ Some x → ⊥
no_some e = cc

pub same_inode : {x y : Inode} → ◌≡◌ {A = Option Inode} (Some x) (Some y) → x ≡ y
same_inode e = cc

module _ (image : Image) (dir : FileId) (name : List ℕ) (cred : Cred) (found : Found) (strong : IsStrong (frame image)) (is : IsFile image dir found) where
  abbrev d : Node
  d = node_at image dir.ino

  live_d : live (view image) dir ≡ Some d
  live_d = found-live image dir found strong is

  -- the tests before the name is looked up
  tests : first_of (remove_tests (view image) d name) ≡ first_of ((found.read_only, stat.Rofs) ∷ (not (is_directory (kind_of (found.inode.mode / 4096))), stat.Notdir) ∷ name_tests name)
  tests = (λ z. first_of ((found-read_only image dir found strong is z, stat.Rofs) ∷ (not (is_directory (kind_of ((sym is.inode z).mode / 4096))), stat.Notdir) ∷ name_tests name))

  pub judged-refused : (status : Stat) → first_of ((found.read_only, stat.Rofs) ∷ (not (is_directory (kind_of (found.inode.mode / 4096))), stat.Notdir) ∷ name_tests name) ≡ Some status → Refuses image dir name cred status
  judged-refused status e now = row-refused (view image) dir name cred now d live_d status (tests ∙ e)

  module _ (passed : first_of ((found.read_only, stat.Rofs) ∷ (not (is_directory (kind_of (found.inode.mode / 4096))), stat.Notdir) ∷ name_tests name) ≡ None) where
    passed' : first_of (remove_tests (view image) d name) ≡ None
    passed' = tests ∙ passed

    kind : is_directory (kind_of (found.inode.mode / 4096)) ≡ true
    kind = passed-directory found.read_only (is_directory (kind_of (found.inode.mode / 4096))) (name_tests name) passed

    pub judged-body : HasBody image found.inode
    judged-body = found-body image dir found strong is kind

    pub judged-absent : position (has_name name) (slots_at image found.inode) ≡ None → Refuses image dir name cred stat.Noent
    judged-absent e now = row-absent (view image) dir name cred now d live_d passed' (ap (position (has_name name)) (sym (found-slots image dir found strong is kind)) ∙ e)

    module _ (entry : NamedSlot) (named : IsNamedSlot image found.inode name entry) where
      first' : position (has_name name) d.slots ≡ Some entry.slot
      first' = found-first image dir found strong is kind (has_name name) entry.slot entry.sector named.first named.sector

      number' : number_at d.slots entry.slot ≡ entry.ino
      number' = found-number image dir found strong is kind name entry named

      pub judged-number : is_inode image entry.ino ≡ true
      judged-number = entry-inode image dir found strong is kind name entry named

      used_i' : not ((inode_at image entry.ino).mode == 0) ≡ true
      used_i' = entry-used image dir found strong is kind name entry named

      node_i : get (view image).nodes (number_at d.slots entry.slot) ≡ Some (node_at image entry.ino)
      node_i = entry-node image dir found strong is kind name entry named

      loss : first_of (loss_tests dir.ino d (node_at image entry.ino) cred)
          ≡ first_of ((is_directory (stored_attr entry.ino (inode_at image entry.ino)).kind, stat.Isdir) ∷ (not (allows cred (stored_attr dir.ino found.inode) want.Write && allows cred (stored_attr dir.ino found.inode) want.Search), stat.Acces) ∷ [])
      loss = (λ z. first_of ((is_directory (attr_of-stored image strong entry.ino used_i' z).kind, stat.Isdir) ∷ (not (allows cred (found-attr image dir found strong is z) want.Write && allows cred (found-attr image dir found strong is z) want.Search), stat.Acces) ∷ []))
          ∙ ap (λ m. first_of ((is_directory (stored_attr entry.ino (inode_at image entry.ino)).kind, stat.Isdir) ∷ (not (allows cred (stored_attr dir.ino m) want.Write && allows cred (stored_attr dir.ino m) want.Search), stat.Acces) ∷ [])) (sym is.inode)

      pub judged-loss : (status : Stat) → first_of ((is_directory (stored_attr entry.ino (inode_at image entry.ino)).kind, stat.Isdir) ∷ (not (allows cred (stored_attr dir.ino found.inode) want.Write && allows cred (stored_attr dir.ino found.inode) want.Search), stat.Acces) ∷ []) ≡ Some status
          → Refuses image dir name cred status
      judged-loss status e now = row-loss (view image) dir name cred now d live_d passed' entry.slot (node_at image entry.ino) status first' node_i (loss ∙ e)

      -- it stands among the data blocks
      pub judged-past : 2 ≤ entry.sector
      judged-past = found-past image dir found strong is kind (has_name name) entry.slot entry.sector named.first named.sector

      pub judged-taken : (taking : Taking) → taking ≡ record { directory = dir.ino; index = entry.slot; sector = entry.sector; node = entry.ino; last = (inode_at image entry.ino).nlink == 1 }
          → first_of ((is_directory (stored_attr entry.ino (inode_at image entry.ino)).kind, stat.Isdir) ∷ (not (allows cred (stored_attr dir.ino found.inode) want.Write && allows cred (stored_attr dir.ino found.inode) want.Search), stat.Acces) ∷ []) ≡ None
          → IsTaken image dir name cred taking (inode_at image entry.ino)
      judged-taken taking t e = subst (λ q. IsTaken image dir name cred q (inode_at image entry.ino)) (sym t) (record {
        directory = d;
        node = node_at image entry.ino;
        takes = record {
          directory = refl;
          removal = record { live = live_d; tests = passed'; slot = first'; number = number'; node = ap (λ j. get (view image).nodes j) (sym number') ∙ node_i; loss = loss ∙ e };
          sector = found-sector image dir found strong is kind (has_name name) entry.slot entry.sector named.first named.sector;
          last = ap (λ (a : Attr). a.nlink == 1) (sym (attr_of-stored image strong entry.ino used_i'));
        };
        inode_is = refl;
      })
