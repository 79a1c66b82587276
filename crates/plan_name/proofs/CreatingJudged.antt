-- What a CREATE in a directory that stands comes to, by the records of an image with nothing to mend.
use Rattle.std.proofs.Common.{◌≡◌, ℕ, ◌/◌, ◌≤◌, Bool, true, false, cond, not, List, [], ◌∷◌, ◌++◌, length, Option, Some, None, refl, sym, ap, ◌∙◌, ltb}
use Rattle.std.specs.List.{position, position_or_len}
use Rattle.std.specs.Option.{is_none}
use Rattle.files_model.specs.declared.attributes.Attr.{Attr}
use Rattle.files_model.specs.declared.attributes.FileId.{FileId}
use Rattle.files_model.specs.declared.attributes.Sattr.{Sattr}
use Rattle.files_model.specs.declared.reply.Stat.{Stat}
use Rattle.files_model.specs.declared.reply.Stat.TheVariants as stat
use Rattle.files_model.specs.Answers.{at_live, unless, first_of}
use Rattle.files_model.specs.Files.{Node}
use Rattle.files_model.specs.NameRows.{create_row, create_at, create_tests, has_other_type}
use Rattle.files_model.specs.Names.{has_name, place_for, name_tests}
use Rattle.files_model.specs.Permission.{is_directory}
use Rattle.stable.specs.Store.{Image}
use Rattle.v7_read.specs.Found.{IsFile}
use Rattle.v7_map.specs.Frame.{frame}
use Rattle.v7_map.specs.Stored.{stored_attr}
use Rattle.v7_map.specs.View.{view, node_at, kind_of}
use Rattle.v7_map.specs.Weak.{IsStrong}
use Rattle.v7_read.specs.declared.found.Found.{Found}
use Rattle.v7_entries.specs.Bodies.{HasBody, slots_at}
use Rattle.v7_entries.specs.Found.{IsNamedSlot, IsEmptySlot}
use Rattle.v7_entries.specs.declared.empty.EmptySlot.{EmptySlot}
use Rattle.v7_entries.specs.declared.named.NamedSlot.{NamedSlot}
use Rattle.plan_name.specs.Created.{IsFreeName}
use Rattle.plan_name.specs.Creations.{RefusesCreation, IsTakenName, IsFreeIn, IsFreeSpot, IsFreeEnd}
use Rattle.plan_name.proofs.FoundDirectory.{passed-directory, found-live, found-node, found-attr, found-read_only, found-body, found-slots, found-first, found-sector, found-past, found-number, entry-inode, entry-used}

-- ---- places

cond_some : (b : Bool) (x k : ℕ) → cond b (Some x) None ≡ Some k → (b ≡ true) × (x ≡ k)
cond_some true x k e = (refl, cc)
cond_some false x k e = absurd (cc)

cond_none : (b : Bool) (x : ℕ) → cond b (Some x) None ≡ None → b ≡ false
cond_none true x e = absurd (cc)
cond_none false x e = refl

-- ---- the row

module _ (image : Image) (dir : FileId) (name : List ℕ) (wanted : Sattr) (found : Found) (strong : IsStrong (frame image)) (is : IsFile image dir found) where
  abbrev d : Node
  d = node_at image dir.ino

  tests : first_of (create_tests (view image) d name wanted)
      ≡ first_of ((found.read_only, stat.Rofs) ∷ (not (is_directory (kind_of (found.inode.mode / 4096))), stat.Notdir) ∷ name_tests name ++ (has_other_type wanted.mode, stat.Perm) ∷ [])
  tests = λ z. first_of ((found-read_only image dir found strong is z, stat.Rofs) ∷ (not (is_directory (kind_of ((sym is.inode z).mode / 4096))), stat.Notdir) ∷ name_tests name ++ (has_other_type wanted.mode, stat.Perm) ∷ [])

  -- what is tested of the attributes
  pub created-tests : (attr : Attr) → attr ≡ stored_attr dir.ino found.inode → (o : Option Stat)
      → o ≡ first_of ((found.read_only, stat.Rofs) ∷ (not (is_directory attr.kind), stat.Notdir) ∷ name_tests name ++ (has_other_type wanted.mode, stat.Perm) ∷ [])
      → first_of ((found.read_only, stat.Rofs) ∷ (not (is_directory (kind_of (found.inode.mode / 4096))), stat.Notdir) ∷ name_tests name ++ (has_other_type wanted.mode, stat.Perm) ∷ []) ≡ o
  created-tests attr e o r = sym (r ∙ ap (λ (a : Attr). first_of ((found.read_only, stat.Rofs) ∷ (not (is_directory a.kind), stat.Notdir) ∷ name_tests name ++ (has_other_type wanted.mode, stat.Perm) ∷ [])) e)

  pub created-refused : (status : Stat)
      → first_of ((found.read_only, stat.Rofs) ∷ (not (is_directory (kind_of (found.inode.mode / 4096))), stat.Notdir) ∷ name_tests name ++ (has_other_type wanted.mode, stat.Perm) ∷ []) ≡ Some status
      → RefusesCreation image dir name wanted status
  unfolding create_row
  created-refused status e cred now =
      ap (λ o. at_live (view image) o (λ n. unless (view image) (first_of (create_tests (view image) n name wanted)) (create_at (view image) dir.ino n name wanted cred now (position (has_name name) n.slots)))) (found-live image dir found strong is)
      ∙ ap (λ o. unless (view image) o (create_at (view image) dir.ino d name wanted cred now (position (has_name name) d.slots))) (tests ∙ e)

  module _ (passed : first_of ((found.read_only, stat.Rofs) ∷ (not (is_directory (kind_of (found.inode.mode / 4096))), stat.Notdir) ∷ name_tests name ++ (has_other_type wanted.mode, stat.Perm) ∷ []) ≡ None) where
    kind : is_directory (kind_of (found.inode.mode / 4096)) ≡ true
    kind = passed-directory found.read_only (is_directory (kind_of (found.inode.mode / 4096))) (name_tests name ++ (has_other_type wanted.mode, stat.Perm) ∷ []) passed

    pub created-body : HasBody image found.inode
    created-body = found-body image dir found strong is kind

    pub created-taken : (entry : NamedSlot) → IsNamedSlot image found.inode name entry → IsTakenName image dir name wanted entry.ino
    created-taken entry named = record {
      directory = d;
      index = entry.slot;
      live = found-live image dir found strong is;
      tests = tests ∙ passed;
      slot = found-first image dir found strong is kind (has_name name) entry.slot entry.sector named.first named.sector;
      number = found-number image dir found strong is kind name entry named;
      inode = entry-inode image dir found strong is kind name entry named;
      used = entry-used image dir found strong is kind name entry named;
    }

    module _ (absent : position (has_name name) (slots_at image found.inode) ≡ None) where
      free : IsFreeName (view image) dir name wanted d
      free = record {
        live = found-live image dir found strong is;
        tests = tests ∙ passed;
        absent = ap (position (has_name name)) (sym (found-slots image dir found strong is kind)) ∙ absent;
      }

      directory_kind : is_directory d.kind ≡ true
      directory_kind = (λ z. is_directory (kind_of ((sym is.inode z).mode / 4096))) ∙ kind

      free_in : (at_end : Bool) → at_end ≡ not (ltb (place_for d.slots) (length d.slots)) → IsFreeIn image dir name wanted at_end d
      free_in at_end e = record { free = free; at = found-node image dir found strong is; kind = directory_kind; end = e }

      pub created-past : (empty : EmptySlot) → IsEmptySlot image found.inode empty → 2 ≤ empty.sector
      created-past empty at = found-past image dir found strong is kind is_none empty.slot empty.sector at.first at.sector

      pub created-spot : (empty : EmptySlot) → IsEmptySlot image found.inode empty → (attr : Attr) → attr ≡ stored_attr dir.ino found.inode
          → IsFreeSpot image name wanted record { directory = dir; index = empty.slot; sector = empty.sector } attr
      created-spot empty at attr e =
          let first = found-first image dir found strong is kind is_none empty.slot empty.sector at.first at.sector in
          let place = cond_some (ltb (position_or_len is_none d.slots) (length d.slots)) (position_or_len is_none d.slots) empty.slot first in record {
            node = d;
            free = free_in false (sym (ap not place.0));
            attr_is = e ∙ ap (stored_attr dir.ino) is.inode ∙ sym (found-attr image dir found strong is);
            place = sym place.1;
            sector = found-sector image dir found strong is kind is_none empty.slot empty.sector at.first at.sector;
          }

      pub created-end : position is_none (slots_at image found.inode) ≡ None → IsFreeEnd image dir name wanted found.inode
      created-end none =
          let full = cond_none (ltb (position_or_len is_none d.slots) (length d.slots)) (position_or_len is_none d.slots) (ap (position is_none) (sym (found-slots image dir found strong is kind)) ∙ none) in record {
            node = d;
            free = free_in true (sym (ap not full));
            inode_is = is.inode;
          }
