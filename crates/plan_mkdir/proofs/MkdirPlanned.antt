-- A MKDIR in a parent that stands: its first refusals, and what is told of a free name.
use Rattle.std.proofs.Common.{◌≡◌, ℕ, ◌/◌, ◌<◌, ◌≤◌, Bool, true, false, not, if◌then◌else◌, List, [], ◌∷◌, length, Option, Some, None, is_some, refl, sym, ap, subst, ◌∙◌, ltb, arith}
use Rattle.std.proofs.lemmas.Bool.{le-ltb}
use Rattle.std.specs.List.{position}
use Rattle.files_model.specs.declared.attributes.Attr.{Attr}
use Rattle.files_model.specs.declared.attributes.FileId.{FileId}
use Rattle.files_model.specs.declared.attributes.Sattr.{Sattr}
use Rattle.files_model.specs.declared.call.Call.TheVariants.{Mkdir}
use Rattle.files_model.specs.declared.credential.Cred.{Cred}
use Rattle.files_model.specs.declared.reply.Stat.{Stat}
use Rattle.files_model.specs.declared.reply.Stat.TheVariants as stat
use Rattle.files_model.specs.declared.reply.Reply.TheVariants as reply
use Rattle.files_model.specs.Answers.{at_live, unless, first_of, attr_of}
use Rattle.files_model.specs.Files.{Node, live}
use Rattle.files_model.specs.NameRows.{mkdir_row, place_tests, at_free_name}
use Rattle.files_model.specs.Names.{has_name, name_tests, place_for}
use Rattle.files_model.specs.Permission.{is_directory}
use Rattle.files_model.specs.Step.{step}
use Rattle.stable.specs.Store.{Image}
use Rattle.v7_map.specs.Frame.{frame}
use Rattle.v7_map.specs.Stored.{is_standing, stored_attr}
use Rattle.v7_map.specs.View.{view, node_at, kind_of}
use Rattle.v7_map.specs.Weak.{IsStrong}
use Rattle.v7_map.proofs.Standing.{live-standing}
use Rattle.v7_read.specs.Found.{IsFile}
use Rattle.v7_read.specs.declared.found.Found.{Found}
use Rattle.v7_sets.specs.Sets.{AreSetsOf}
use Rattle.plan_name.specs.Judging.{IsTold}
use Rattle.plan_name.proofs.FoundDirectory.{passed-directory, found-live, found-node, found-attr, found-read_only}
use Rattle.name_places.specs.Places.{IsNamePlace}
use Rattle.name_places.specs.declared.place.NamePlace.{NamePlace}
use Rattle.plan_mkdir.specs.Free.{IsFreeName}
use Rattle.plan_mkdir.specs.Judging.{mkdir_new}

lt_ltb : (a b : ℕ) → a < b → ltb a b ≡ true
lt_ltb a b lt = grind arith

pub mkdir-stale : (image : Image) (dir : FileId) (name : List ℕ) (wanted : Sattr) (cred : Cred) (now : ℕ) → IsStrong (frame image) → is_standing image dir ≡ false → step (view image) (Mkdir dir name wanted) cred now ≡ (reply.Refused stat.Stale, view image)
unfolding mkdir_row
mkdir-stale image dir name wanted cred now strong stale =
    ap (λ o. at_live (view image) o (λ d. unless (view image) (first_of (place_tests (view image) d name)) (at_free_name (view image) d name (mkdir_new (view image) dir.ino d name wanted cred now))))
    (live-standing image strong dir ∙ ap (λ b. if b then Some (node_at image dir.ino) else None) stale)

module _ (image : Image) (dir : FileId) (name : List ℕ) (found : Found) (strong : IsStrong (frame image)) (is : IsFile image dir found) where
  abbrev d : Node
  d = node_at image dir.ino

  tests : first_of (place_tests (view image) d name) ≡ first_of ((found.read_only, stat.Rofs) ∷ (not (is_directory (kind_of (found.inode.mode / 4096))), stat.Notdir) ∷ name_tests name)
  tests = λ z. first_of ((found-read_only image dir found strong is z, stat.Rofs) ∷ (not (is_directory (kind_of ((sym is.inode z).mode / 4096))), stat.Notdir) ∷ name_tests name)

  -- what is tested of the attributes
  pub mkdir-tests : (attr : Attr) → attr ≡ stored_attr dir.ino found.inode → (o : Option Stat) → o ≡ first_of ((found.read_only, stat.Rofs) ∷ (not (is_directory attr.kind), stat.Notdir) ∷ name_tests name)
      → first_of ((found.read_only, stat.Rofs) ∷ (not (is_directory (kind_of (found.inode.mode / 4096))), stat.Notdir) ∷ name_tests name) ≡ o
  mkdir-tests attr e o r = sym (r ∙ ap (λ (a : Attr). first_of ((found.read_only, stat.Rofs) ∷ (not (is_directory a.kind), stat.Notdir) ∷ name_tests name)) e)

  module _ (wanted : Sattr) (cred : Cred) (now : ℕ) where
    row : (o : Option Stat) → first_of (place_tests (view image) d name) ≡ o → step (view image) (Mkdir dir name wanted) cred now ≡ unless (view image) o (at_free_name (view image) d name (mkdir_new (view image) dir.ino d name wanted cred now))
    unfolding mkdir_row
    row o e = ap (λ m. at_live (view image) m (λ n. unless (view image) (first_of (place_tests (view image) n name)) (at_free_name (view image) n name (mkdir_new (view image) dir.ino n name wanted cred now)))) (found-live image dir found strong is)
        ∙ ap (λ t. unless (view image) t (at_free_name (view image) d name (mkdir_new (view image) dir.ino d name wanted cred now))) e

    pub mkdir-refused : (status : Stat) → first_of ((found.read_only, stat.Rofs) ∷ (not (is_directory (kind_of (found.inode.mode / 4096))), stat.Notdir) ∷ name_tests name) ≡ Some status
        → step (view image) (Mkdir dir name wanted) cred now ≡ (reply.Refused status, view image)
    mkdir-refused status e = row (Some status) (tests ∙ e)

    pub mkdir-exists : first_of ((found.read_only, stat.Rofs) ∷ (not (is_directory (kind_of (found.inode.mode / 4096))), stat.Notdir) ∷ name_tests name) ≡ None → (k : ℕ) → position (has_name name) (node_at image dir.ino).slots ≡ Some k
        → step (view image) (Mkdir dir name wanted) cred now ≡ (reply.Refused stat.Exist, view image)
    mkdir-exists passed k e = row None (tests ∙ passed)
        ∙ ap (λ o. unless (view image) (first_of ((is_some o, stat.Exist) ∷ [])) (mkdir_new (view image) dir.ino d name wanted cred now)) e

  module _ (passed : first_of ((found.read_only, stat.Rofs) ∷ (not (is_directory (kind_of (found.inode.mode / 4096))), stat.Notdir) ∷ name_tests name) ≡ None) where
    pub mkdir-kind : is_directory (node_at image dir.ino).kind ≡ true
    mkdir-kind = (λ z. is_directory (kind_of ((sym is.inode z).mode / 4096))) ∙ passed-directory found.read_only (is_directory (kind_of (found.inode.mode / 4096))) (name_tests name) passed

    pub mkdir-free : position (has_name name) (node_at image dir.ino).slots ≡ None → IsFreeName (view image) dir name (node_at image dir.ino)
    mkdir-free absent = record { live = found-live image dir found strong is; tests = tests ∙ passed; absent = absent }

    told : (attr : Attr) (at_end : Bool) (blocks inodes : List Bool) → AreSetsOf image blocks inodes → attr ≡ attr_of dir.ino (node_at image dir.ino) → at_end ≡ not (ltb (place_for (node_at image dir.ino).slots) (length (node_at image dir.ino).slots))
        → IsTold image dir.ino (node_at image dir.ino) attr at_end blocks inodes
    told attr at_end blocks inodes are e end = record { strong = strong; sets = are; at = found-node image dir found strong is; kind = mkdir-kind; is = e; end = end }

    pub told-inside : (attr : Attr) (blocks inodes : List Bool) → AreSetsOf image blocks inodes → attr ≡ stored_attr dir.ino found.inode → place_for (node_at image dir.ino).slots < length (node_at image dir.ino).slots
        → IsTold image dir.ino (node_at image dir.ino) attr false blocks inodes
    told-inside attr blocks inodes are e lt = told attr false blocks inodes are (e ∙ ap (stored_attr dir.ino) is.inode ∙ sym (found-attr image dir found strong is))
        (sym (ap not (lt_ltb (place_for (node_at image dir.ino).slots) (length (node_at image dir.ino).slots) lt)))

    pub told-end : (blocks inodes : List Bool) → AreSetsOf image blocks inodes → length (node_at image dir.ino).slots ≤ place_for (node_at image dir.ino).slots
        → IsTold image dir.ino (node_at image dir.ino) (attr_of dir.ino (node_at image dir.ino)) true blocks inodes
    told-end blocks inodes are le = told (attr_of dir.ino (node_at image dir.ino)) true blocks inodes are refl (sym (ap not (le-ltb (place_for (node_at image dir.ino).slots) (length (node_at image dir.ino).slots) le)))

-- what is found in an image that is the same is found in this one
pub place-same : (image other : Image) (same : other ≡ image) (dir : FileId) (name : List ℕ) (found : Found) (d : Node) (place : NamePlace)
    → (IsStrong (frame other) → IsFile other dir found → live (view other) dir ≡ Some d → IsNamePlace other dir name d place)
    → IsStrong (frame image) → IsFile image dir found → live (view image) dir ≡ Some d → IsNamePlace image dir name d place
place-same image other same dir name found d place h = subst (λ (z : Image). IsStrong (frame z) → IsFile z dir found → live (view z) dir ≡ Some d → IsNamePlace z dir name d place) same h
