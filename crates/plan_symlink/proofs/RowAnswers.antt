-- What a SYMLINK is answered before anything is judged of its directory, by the records of an image with nothing to mend.
use Rattle.std.proofs.Common.{◌≡◌, ℕ, ◌+◌, ◌-◌, ◌/◌, ◌<◌, ◌≤◌, Bool, true, false, cond, not, List, [], ◌∷◌, length, Option, Some, None, is_some, refl, sym, ap, ◌∙◌, ltb, if◌then◌else◌}
use Rattle.std.proofs.lemmas.Bool.{lt-ltb, le-ltb}
use Rattle.std.specs.List.{position}
use Rattle.files_model.specs.declared.attributes.Attr.{Attr}
use Rattle.files_model.specs.declared.attributes.FileId.{FileId}
use Rattle.files_model.specs.declared.attributes.Sattr.{Sattr}
use Rattle.files_model.specs.declared.call.Call.TheVariants.{Symlink}
use Rattle.files_model.specs.declared.credential.Cred.{Cred}
use Rattle.files_model.specs.declared.reply.Reply.{Reply}
use Rattle.files_model.specs.declared.reply.Reply.TheVariants as reply
use Rattle.files_model.specs.declared.reply.Stat.{Stat}
use Rattle.files_model.specs.declared.reply.Stat.TheVariants as stat
use Rattle.files_model.specs.Answers.{at_live, first_of, unless, attr_of}
use Rattle.files_model.specs.Files.{Node, Files, live}
use Rattle.files_model.specs.NameRows.{symlink_row, at_free_name, at_usable, place_tests, entry_tests, new_link}
use Rattle.files_model.specs.Names.{name_tests, has_name, place_for, lowest_usable, with_entry, made_at}
use Rattle.files_model.specs.Permission.{is_directory}
use Rattle.files_model.specs.Space.{free, node_usage}
use Rattle.files_model.specs.Step.{step}
use Rattle.stable.specs.Store.{Image}
use Rattle.v7_read.specs.Found.{IsFile}
use Rattle.v7_read.specs.declared.found.Found.{Found}
use Rattle.v7_map.specs.Frame.{frame}
use Rattle.v7_map.specs.Stored.{stored_attr, is_standing}
use Rattle.v7_map.specs.View.{view, node_at, kind_of}
use Rattle.v7_map.specs.Weak.{IsStrong}
use Rattle.v7_map.proofs.Standing.{live-standing}
use Rattle.v7_sets.specs.Sets.{AreSetsOf}
use Rattle.plan_name.specs.Judging.{IsTold}
use Rattle.plan_name.proofs.FoundDirectory.{passed-directory, found-live, found-node, found-attr, found-read_only}
use Rattle.plan_symlink.specs.Judging.{IsFreeName}

-- ---- the row

module _ (files : Files) (dir : FileId) (name text : List ℕ) (wanted : Sattr) (cred : Cred) (now : ℕ) where
  at : Node → ℕ → Reply × Files
  at e j = unless files (first_of ((ltb (free files) (node_usage (new_link wanted cred text now) + (node_usage (with_entry e (Some (j, name)) now) - node_usage e)), stat.Nospc) ∷ []))
      (reply.Done, made_at files j (new_link wanted cred text now) dir.ino (with_entry e (Some (j, name)) now))

  of_node : Node → Reply × Files
  of_node e = unless files (first_of (place_tests files e name)) (at_free_name files e name (unless files (first_of (entry_tests dir.ino e cred 0)) (at_usable files (lowest_usable files) (at e))))

  pub row-stale : live files dir ≡ None → step files (Symlink dir name text wanted) cred now ≡ (reply.Refused stat.Stale, files)
  unfolding symlink_row of_node at
  row-stale stale = ap (λ o. at_live files o of_node) stale

  module _ (d : Node) (at_d : live files dir ≡ Some d) where
    pub row-refused : (status : Stat) → first_of (place_tests files d name) ≡ Some status → step files (Symlink dir name text wanted) cred now ≡ (reply.Refused status, files)
    unfolding symlink_row of_node at
    row-refused status e = ap (λ o. at_live files o of_node) at_d
        ∙ ap (λ o. unless files o (at_free_name files d name (unless files (first_of (entry_tests dir.ino d cred 0)) (at_usable files (lowest_usable files) (at d))))) e

    pub row-exist : (k : ℕ) → first_of (place_tests files d name) ≡ None → position (has_name name) d.slots ≡ Some k → step files (Symlink dir name text wanted) cred now ≡ (reply.Refused stat.Exist, files)
    unfolding symlink_row of_node at
    row-exist k e there = ap (λ o. at_live files o of_node) at_d
        ∙ (λ z. unless files (e z) (unless files (first_of ((is_some (there z), stat.Exist) ∷ [])) (unless files (first_of (entry_tests dir.ino d cred 0)) (at_usable files (lowest_usable files) (at d)))))

-- ---- by the records of a directory

pub answer-stale : (image : Image) (dir : FileId) (name text : List ℕ) (wanted : Sattr) (cred : Cred) (now : ℕ) → IsStrong (frame image) → is_standing image dir ≡ false → step (view image) (Symlink dir name text wanted) cred now ≡ (reply.Refused stat.Stale, view image)
answer-stale image dir name text wanted cred now strong stale = row-stale (view image) dir name text wanted cred now (live-standing image strong dir ∙ ap (λ b. if b then Some (node_at image dir.ino) else None) stale)

module _ (image : Image) (dir : FileId) (name : List ℕ) (found : Found) (strong : IsStrong (frame image)) (is : IsFile image dir found) (attr : Attr) (stored : attr ≡ stored_attr dir.ino found.inode) where
  abbrev d : Node
  d = node_at image dir.ino

  pub answer-live : live (view image) dir ≡ Some (node_at image dir.ino)
  answer-live = found-live image dir found strong is

  -- what is tested of the attributes is what is tested of the node
  pub answer-tests : (o : Option Stat) → o ≡ first_of ((found.read_only, stat.Rofs) ∷ (not (is_directory attr.kind), stat.Notdir) ∷ name_tests name) → first_of (place_tests (view image) (node_at image dir.ino) name) ≡ o
  answer-tests o r =
      (λ z. first_of ((found-read_only image dir found strong is z, stat.Rofs) ∷ (not (is_directory (kind_of ((sym is.inode z).mode / 4096))), stat.Notdir) ∷ name_tests name))
      ∙ sym (r ∙ ap (λ (a : Attr). first_of ((found.read_only, stat.Rofs) ∷ (not (is_directory a.kind), stat.Notdir) ∷ name_tests name)) stored)

  module _ (passed : first_of (place_tests (view image) (node_at image dir.ino) name) ≡ None) where
    pub answer-directory : is_directory (node_at image dir.ino).kind ≡ true
    answer-directory = passed-directory (view image).read_only (is_directory d.kind) (name_tests name) passed

    pub answer-free : position (has_name name) (node_at image dir.ino).slots ≡ None → IsFreeName (view image) dir name (node_at image dir.ino)
    answer-free absent = record { live = answer-live; tests = passed; absent = absent }

    told : (blocks inodes : List Bool) → AreSetsOf image blocks inodes → (at_end : Bool) → at_end ≡ not (ltb (place_for d.slots) (length d.slots)) → IsTold image dir.ino d attr at_end blocks inodes
    told blocks inodes sets at_end e = record {
      strong = strong;
      sets = sets;
      at = found-node image dir found strong is;
      kind = answer-directory;
      is = stored ∙ ap (stored_attr dir.ino) is.inode ∙ sym (found-attr image dir found strong is);
      end = e;
    }

    pub answer-inside : (blocks inodes : List Bool) → AreSetsOf image blocks inodes → place_for (node_at image dir.ino).slots < length (node_at image dir.ino).slots → IsTold image dir.ino (node_at image dir.ino) attr false blocks inodes
    answer-inside blocks inodes sets lt = told blocks inodes sets false (sym (ap not (lt-ltb (place_for d.slots) (length d.slots) lt)))

    pub answer-end : (blocks inodes : List Bool) → AreSetsOf image blocks inodes → length (node_at image dir.ino).slots ≤ place_for (node_at image dir.ino).slots
        → IsTold image dir.ino (node_at image dir.ino) (attr_of dir.ino (node_at image dir.ino)) true blocks inodes
    answer-end blocks inodes sets le = record {
      strong = strong;
      sets = sets;
      at = found-node image dir found strong is;
      kind = answer-directory;
      is = refl;
      end = sym (ap not (le-ltb (place_for d.slots) (length d.slots) le));
    }
