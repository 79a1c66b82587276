-- What an RMDIR in a directory that stands comes to, by the records of an image with nothing to mend.
use Rattle.std.proofs.Common.{◌≡◌, ℕ, ◌-◌, ◌/◌, Bool, true, false, cond, not, ◌&&◌, List, [], ◌∷◌, drop, Option, Some, None, is_some, refl, sym, ap, subst, ◌∙◌}
use Rattle.std.specs.FinMap.{get, insert, remove}
use Rattle.std.specs.List.{position, list_any}
use Rattle.files_model.specs.declared.attributes.Attr.{Attr}
use Rattle.files_model.specs.declared.attributes.FileId.{FileId}
use Rattle.files_model.specs.declared.credential.Cred.{Cred}
use Rattle.files_model.specs.declared.permission.Want.TheVariants as want
use Rattle.files_model.specs.declared.reply.Reply.{Reply}
use Rattle.files_model.specs.declared.reply.Reply.TheVariants as reply
use Rattle.files_model.specs.declared.reply.Stat.{Stat}
use Rattle.files_model.specs.declared.reply.Stat.TheVariants as stat
use Rattle.files_model.specs.Answers.{at_live, unless, first_of, attr_of}
use Rattle.files_model.specs.Files.{Node, Files, live}
use Rattle.files_model.specs.NameRows.{rmdir_row, place_tests, has_entries}
use Rattle.files_model.specs.Names.{has_name, number_at, at_node, at_slot, name_tests, without_entry, may_change}
use Rattle.files_model.specs.Permission.{allows, is_directory}
use Rattle.stable.specs.Store.{Image}
use Rattle.v7_read.specs.Found.{IsFile}
use Rattle.v7_read.specs.declared.found.Found.{Found}
use Rattle.v7_map.specs.Frame as frames
use Rattle.v7_map.specs.Frame.{frame}
use Rattle.v7_map.specs.Image.{inode_at}
use Rattle.v7_map.specs.Stored.{is_standing, stored_attr}
use Rattle.v7_map.specs.View.{view, node_at, kind_of}
use Rattle.v7_map.specs.Weak.{IsStrong}
use Rattle.v7_map.proofs.Standing.{live-standing, node-is}
use Rattle.v7_entries.specs.Bodies.{HasBody, slots_at}
use Rattle.v7_entries.specs.Found.{any_entry}
use Rattle.v7_entries.proofs.Directories.{weak_body}
use Rattle.v7_entries.proofs.Lookups.{kind_directory}
use Rattle.plan_name.proofs.FoundDirectory.{passed-directory, found-live, found-attr, found-read_only}
use Rattle.plan_rmdir.specs.Children.{IsChild}
use Rattle.plan_rmdir.specs.Leaving.{leaving_tests, Refuses, IsLeaving}
use Rattle.plan_rmdir.specs.declared.child.Child.{Child}
use Rattle.plan_rmdir.specs.declared.puts.Leaving.{Leaving}

-- ---- the row

abbrev loss_tests : FileId → Node → Cred → Node → List (Bool × Stat)
loss_tests dir d cred m = (not (is_directory m.kind), stat.Notdir) ∷ (has_entries m, stat.Notempty) ∷ (not (may_change cred dir.ino d), stat.Acces) ∷ []

abbrev without_child : Files → FileId → Node → ℕ → ℕ → ℕ → Reply × Files
without_child files dir d now k i = (reply.Done, record files { nodes = insert (remove files.nodes i) dir.ino (record (without_entry d k now) { nlink = d.nlink - 1 }) })

abbrev taken_at : Files → FileId → Node → ℕ → Cred → ℕ → ℕ → Node → Reply × Files
taken_at files dir d now cred k i m = unless files (first_of (loss_tests dir d cred m)) (without_child files dir d now k i)

abbrev looked_at : Files → FileId → List ℕ → Cred → ℕ → Node → Reply × Files
looked_at files dir name cred now d = at_slot files (position (has_name name) d.slots) (λ k. at_node files (get files.nodes (number_at d.slots k)) (taken_at files dir d now cred k (number_at d.slots k)))

module _ (files : Files) (dir : FileId) (name : List ℕ) (cred : Cred) (now : ℕ) where
  row : Option Node → Reply × Files
  row o = at_live files o (λ m. unless files (first_of (place_tests files m name)) (looked_at files dir name cred now m))

  row-stale : live files dir ≡ None → rmdir_row files dir name cred now ≡ (reply.Refused stat.Stale, files)
  unfolding rmdir_row row
  row-stale stale = ap row stale

  module _ (d : Node) (stands : live files dir ≡ Some d) where
    of_live : rmdir_row files dir name cred now ≡ unless files (first_of (place_tests files d name)) (looked_at files dir name cred now d)
    unfolding rmdir_row row
    of_live = ap row stands

    row-refused : (status : Stat) → first_of (place_tests files d name) ≡ Some status → rmdir_row files dir name cred now ≡ (reply.Refused status, files)
    row-refused status e = of_live ∙ ap (λ r. unless files r (looked_at files dir name cred now d)) e

    module _ (passed : first_of (place_tests files d name) ≡ None) where
      by_slot : Option ℕ → Reply × Files
      by_slot o = at_slot files o (λ k. at_node files (get files.nodes (number_at d.slots k)) (taken_at files dir d now cred k (number_at d.slots k)))

      of_slot : (o : Option ℕ) → position (has_name name) d.slots ≡ o → rmdir_row files dir name cred now ≡ by_slot o
      unfolding by_slot
      of_slot o e = of_live ∙ ap (λ r. unless files r (looked_at files dir name cred now d)) passed ∙ ap by_slot e

      row-absent : position (has_name name) d.slots ≡ None → rmdir_row files dir name cred now ≡ (reply.Refused stat.Noent, files)
      unfolding by_slot
      row-absent e = of_slot None e

      row-loss : (k : ℕ) (m : Node) (status : Stat) → position (has_name name) d.slots ≡ Some k → get files.nodes (number_at d.slots k) ≡ Some m → first_of (loss_tests dir d cred m) ≡ Some status
          → rmdir_row files dir name cred now ≡ (reply.Refused status, files)
      unfolding by_slot
      row-loss k m status e at loss = of_slot (Some k) e
          ∙ ap (λ o. at_node files o (taken_at files dir d now cred k (number_at d.slots k))) at
          ∙ ap (λ r. unless files r (without_child files dir d now k (number_at d.slots k))) loss

-- ---- by the records

pub rmdir-stale : (image : Image) (dir : FileId) (name : List ℕ) (cred : Cred) → IsStrong (frame image) → is_standing image dir ≡ false → Refuses image dir name cred stat.Stale
rmdir-stale image dir name cred strong stale now = row-stale (view image) dir name cred now (live-standing image strong dir ∙ ap (λ b. cond b (Some (node_at image dir.ino)) None) stale)

pub none_of : {X : Type 0} (o : Option X) → ((x : X) → o ≡ Some x → ⊥) → o ≡ None
none_of None h = refl
none_of (Some x) h = absurd (h x refl)

pub no_some : {X : Type 0} {x : X} → None ≡ Some x → ⊥
no_some e = cc

pub same_some : {X : Type 0} {x y : X} → ◌≡◌ {A = Option X} (Some x) (Some y) → x ≡ y
same_some e = cc

module _ (image : Image) (dir : FileId) (name : List ℕ) (cred : Cred) (found : Found) (strong : IsStrong (frame image)) (is : IsFile image dir found) where
  abbrev d : Node
  d = node_at image dir.ino

  live_d : live (view image) dir ≡ Some d
  live_d = found-live image dir found strong is

  -- the tests before the name is looked up
  tests : first_of (place_tests (view image) d name) ≡ first_of ((found.read_only, stat.Rofs) ∷ (not (is_directory (kind_of (found.inode.mode / 4096))), stat.Notdir) ∷ name_tests name)
  tests = (λ z. first_of ((found-read_only image dir found strong is z, stat.Rofs) ∷ (not (is_directory (kind_of ((sym is.inode z).mode / 4096))), stat.Notdir) ∷ name_tests name))

  pub judged-refused : (status : Stat) → first_of ((found.read_only, stat.Rofs) ∷ (not (is_directory (kind_of (found.inode.mode / 4096))), stat.Notdir) ∷ name_tests name) ≡ Some status → Refuses image dir name cred status
  judged-refused status e now = row-refused (view image) dir name cred now d live_d status (tests ∙ e)

  module _ (passed : first_of ((found.read_only, stat.Rofs) ∷ (not (is_directory (kind_of (found.inode.mode / 4096))), stat.Notdir) ∷ name_tests name) ≡ None) where
    pub judged-directory : is_directory (kind_of (found.inode.mode / 4096)) ≡ true
    judged-directory = passed-directory found.read_only (is_directory (kind_of (found.inode.mode / 4096))) (name_tests name) passed

    pub judged-absent : position (has_name name) d.slots ≡ None → Refuses image dir name cred stat.Noent
    judged-absent e now = row-absent (view image) dir name cred now d live_d (tests ∙ passed) e

    module _ (child : Child) (x : IsChild image dir.ino name child) where
      node : get (view image).nodes (number_at d.slots child.entry.slot) ≡ Some (node_at image child.entry.ino)
      node = ap (get (view image).nodes) x.number ∙ node-is image strong child.entry.ino x.stands ∙ ap (λ b. cond b (Some (node_at image child.entry.ino)) None) x.used

      same_slots : slots_at image (inode_at image child.entry.ino) ≡ (node_at image child.entry.ino).slots
      unfolding frame
      same_slots = refl

      entries : has_entries (node_at image child.entry.ino) ≡ any_entry image child.inode
      entries = ap (λ l. list_any is_some (drop 2 l)) (sym same_slots) ∙ ap (any_entry image) (sym x.inode)

      attr : attr_of dir.ino d ≡ stored_attr dir.ino found.inode
      attr = found-attr image dir found strong is ∙ ap (stored_attr dir.ino) (sym is.inode)

      loss : first_of (loss_tests dir d cred (node_at image child.entry.ino)) ≡ first_of (leaving_tests image (stored_attr dir.ino found.inode) child.inode cred)
      loss = (λ z. first_of ((not (is_directory (kind_of ((sym x.inode z).mode / 4096))), stat.Notdir) ∷ (entries z, stat.Notempty) ∷ (not (allows cred (attr z) want.Write && allows cred (attr z) want.Search), stat.Acces) ∷ []))

      directory : is_directory (kind_of (child.inode.mode / 4096)) ≡ true → frames.is_directory ((frame image).head child.entry.ino) ≡ true
      unfolding frame
      directory e = sym (kind_directory ((inode_at image child.entry.ino).mode / 4096)) ∙ (λ z. is_directory (kind_of ((sym x.inode z).mode / 4096))) ∙ e

      body : is_directory (kind_of (child.inode.mode / 4096)) ≡ true → HasBody image child.inode
      body e = subst (HasBody image) (sym x.inode) (weak_body image child.entry.ino strong.weak (directory e))

      -- what its tests come to, as they were made
      pub judged-tests : (now : Image) → now ≡ image → (parent : Attr) → parent ≡ stored_attr dir.ino found.inode → (refusal : Option Stat)
          → ((is_directory (kind_of (child.inode.mode / 4096)) ≡ true → HasBody now child.inode) → refusal ≡ first_of (leaving_tests now parent child.inode cred))
          → first_of (leaving_tests image (stored_attr dir.ino found.inode) child.inode cred) ≡ refusal
      judged-tests now same parent p refusal h = sym (h (λ e. subst (λ (y : Image). HasBody y child.inode) (sym same) (body e)) ∙ (λ z. first_of (leaving_tests (same z) (p z) child.inode cred)))

      pub judged-loss : (status : Stat) → first_of (leaving_tests image (stored_attr dir.ino found.inode) child.inode cred) ≡ Some status → Refuses image dir name cred status
      judged-loss status e now = row-loss (view image) dir name cred now d live_d (tests ∙ passed) child.entry.slot (node_at image child.entry.ino) status x.first node (loss ∙ e)

      pub judged-leaves : (leaving : Leaving) → leaving ≡ record { parent = dir.ino; index = child.entry.slot; sector = child.entry.sector; directory = child.entry.ino }
          → first_of (leaving_tests image (stored_attr dir.ino found.inode) child.inode cred) ≡ None → IsLeaving image dir name cred leaving child.inode
      judged-leaves leaving t e = subst (λ q. IsLeaving image dir name cred q child.inode) (sym t) (record {
        parent = d;
        node = node_at image child.entry.ino;
        leaves = record {
          parent = refl;
          rmdir = record { live = live_d; tests = tests ∙ passed; slot = x.first; number = x.number; node = ap (get (view image).nodes) (sym x.number) ∙ node; loss = loss ∙ e };
          sector = x.sector;
        };
        inode_is = x.inode;
      })
