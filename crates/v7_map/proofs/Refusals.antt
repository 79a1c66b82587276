-- The refusals of READ are decided by the inode.
use Rattle.std.proofs.Common.{◌≡◌, ℕ, ◌/◌, true, not, ◌==◌, [], ◌∷◌}
use Rattle.files_model.specs.declared.attributes.Kind.{Kind}
use Rattle.files_model.specs.declared.credential.Cred.{Cred}
use Rattle.files_model.specs.declared.permission.Want.TheVariants as want
use Rattle.files_model.specs.declared.reply.Stat.TheVariants as stat
use Rattle.files_model.specs.Permission.{allows, is_directory, is_link}
use Rattle.files_model.specs.Step.{read_refusal, first_of}
use Rattle.stable.specs.Store.{Image}
use Rattle.v7_map.specs.Image.{inode_at, is_inode}
use Rattle.v7_map.specs.Frame.{frame}
use Rattle.v7_map.specs.Weak.{IsStrong}
use Rattle.v7_map.specs.View.{node_at, kind_of}
use Rattle.v7_map.specs.Stored.{read_refusal_by}
use Rattle.v7_map.proofs.Standing.{attr_of-stored}

module _ (image : Image) (strong : IsStrong (frame image)) (i : ℕ) (is : is_inode image i ≡ true) (used : not ((inode_at image i).mode == 0) ≡ true) where
  -- the refusal of a READ
  pub read_refusal-stored : (generation : ℕ) (cred : Cred)
      → read_refusal (record { ino = i; generation = generation }) (node_at image i) cred ≡ read_refusal_by i (inode_at image i) cred
  read_refusal-stored generation cred z =
      let kind : Kind = kind_of ((inode_at image i).mode / 4096) in
      first_of ((is_directory kind, stat.Isdir) ∷ (is_link kind, stat.Nxio) ∷ (not (allows cred (attr_of-stored image strong i used z) want.Read), stat.Acces) ∷ [])
