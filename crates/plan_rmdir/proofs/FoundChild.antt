-- What a name leads to in a directory that a handle finds.
use Rattle.std.proofs.Common.{◌≡◌, ℕ, ◌/◌, ◌≤◌, true, List, Option, Some, None, sym, ap, subst, ◌∙◌}
use Rattle.std.specs.List.{position}
use Rattle.files_model.specs.declared.attributes.FileId.{FileId}
use Rattle.files_model.specs.Names.{has_name}
use Rattle.files_model.specs.Permission.{is_directory}
use Rattle.stable.specs.Store.{Image}
use Rattle.v7_layout.specs.declared.inode.Inode.{Inode}
use Rattle.v7_map.specs.Frame.{frame}
use Rattle.v7_map.specs.Image.{inode_at, is_inode}
use Rattle.v7_map.specs.View.{node_at, kind_of}
use Rattle.v7_map.specs.Weak.{IsWeak, IsStrong}
use Rattle.v7_read.specs.Found.{IsFile}
use Rattle.v7_read.specs.declared.found.Found.{Found}
use Rattle.v7_entries.specs.Bodies.{slots_at}
use Rattle.v7_entries.specs.Found.{IsNamedSlot}
use Rattle.v7_entries.specs.declared.named.NamedSlot.{NamedSlot}
use Rattle.plan_name.proofs.FoundDirectory.{found-slots, found-first, found-sector, found-past, found-number, entry-inode, entry-used}
use Rattle.plan_rmdir.specs.Children.{IsChild}

module _ (image : Image) (dir : FileId) (found : Found) (strong : IsStrong (frame image)) (is : IsFile image dir found) (kind : is_directory (kind_of (found.inode.mode / 4096)) ≡ true) (name : List ℕ) where
  pub child-none : position (has_name name) (slots_at image found.inode) ≡ None → position (has_name name) (node_at image dir.ino).slots ≡ None
  child-none e = ap (position (has_name name)) (sym (found-slots image dir found strong is kind)) ∙ e

  module _ (entry : NamedSlot) (named : IsNamedSlot image found.inode name entry) where
    -- it stands among the data blocks
    pub child-past : 2 ≤ entry.sector
    child-past = found-past image dir found strong is kind (has_name name) entry.slot entry.sector named.first named.sector

    -- an inode of its number is read
    pub child-read : (now : Image) → now ≡ image → (read : Option Inode) → (IsWeak (frame now) → is_inode now entry.ino ≡ true → read ≡ Some (inode_at now entry.ino)) → read ≡ Some (inode_at image entry.ino)
    child-read now same read h =
        h (subst (λ (x : Image). IsWeak (frame x)) (sym same) strong.weak)
        (subst (λ (x : Image). is_inode x entry.ino ≡ true) (sym same) (entry-inode image dir found strong is kind name entry named))
        ∙ ap (λ (x : Image). Some (inode_at x entry.ino)) same

    pub child-is : (inode : Inode) → inode ≡ inode_at image entry.ino → IsChild image dir.ino name (record { entry = entry; inode = inode })
    child-is inode e = record {
      first = found-first image dir found strong is kind (has_name name) entry.slot entry.sector named.first named.sector;
      number = found-number image dir found strong is kind name entry named;
      sector = found-sector image dir found strong is kind (has_name name) entry.slot entry.sector named.first named.sector;
      stands = entry-inode image dir found strong is kind name entry named;
      inode = e;
      used = entry-used image dir found strong is kind name entry named;
    }
