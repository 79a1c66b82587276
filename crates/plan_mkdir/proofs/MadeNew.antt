-- A new directory: what its inode and its answer are.
use Rattle.std.proofs.Common.{◌≡◌, ℕ, ◌+◌, ◌-◌, ◌^◌, ◌/◌, ◌%◌, ◌<◌, ◌≤◌, List, refl, sym, ap, subst, ◌∙◌, arith, Some, unwrap_or}
use Rattle.std.specs.FinMap.{get}
use Rattle.files_model.specs.declared.attributes.Sattr.{Sattr}
use Rattle.files_model.specs.declared.credential.Cred.{Cred}
use Rattle.files_model.specs.declared.reply.Reply.TheVariants as reply
use Rattle.files_model.specs.Answers.{attr_of}
use Rattle.files_model.specs.Files.{Node}
use Rattle.files_model.specs.NameRows.{new_directory}
use Rattle.stable.specs.Store.{Image}
use Rattle.v7_layout.specs.declared.inode.Inode.{Inode}
use Rattle.v7_layout.specs.declared.slot.Slot.{Slot}
use Rattle.v7_map.specs.Frame.{frame}
use Rattle.v7_map.specs.Image.{inode_at}
use Rattle.v7_map.specs.Stored.{stored_attr}
use Rattle.v7_map.specs.Tree.{tree}
use Rattle.v7_map.specs.View.{view, kind_of}
use Rattle.v7_map.specs.Weak.{IsStrong}
use Rattle.v7_strokes.specs.Inodes.{made_inode, placed_inode}
use Rattle.v7_strokes.specs.Over.{slot_from}
use Rattle.v7_strokes.proofs.Views.{view-generation, view-inodes}
use Rattle.name_plans.proofs.CreatingAccepted.{usable-facts}
use Rattle.plan_name.specs.Creating.{made_answer}
use Rattle.plan_name.specs.declared.making.Spot.{Spot}
use Rattle.plan_mkdir.specs.Inodes.{IsDirectoryInode}
use Rattle.plan_mkdir.specs.Making.{Makes, HasParts}
use Rattle.plan_mkdir.specs.declared.directories.NewDirectory.{NewDirectory}

-- the attributes of the inode are those of the node
new-attr : (i g a : ℕ) (m : Node) → m.mode < 4096 → (placed_inode m g a).mode ≡ 16384 + m.mode → kind_of 4 ≡ m.kind → stored_attr i (placed_inode m g a) ≡ attr_of i m
unfolding made_inode placed_inode
new-attr i g a m lt mode kind =
    let type : (16384 + m.mode) / 4096 ≡ 4 = omega arith in
    let bits : (16384 + m.mode) % 4096 ≡ m.mode = omega arith in
    (λ z. record (attr_of i m) { kind = (ap (λ b. kind_of (b / 4096)) mode ∙ ap kind_of type ∙ kind) z; mode = (ap (λ b. b % 4096) mode ∙ bits) z })

module _ (image : Image) (spot : Spot) (new : NewDirectory) (name : List ℕ) (wanted : Sattr) (cred : Cred) (now : ℕ) (d : Node) (strong : IsStrong (frame image)) (x : Makes image spot new name wanted cred now d) where
  within : new.ino < (tree (frame image)).inodes + 1
  within = let u = usable-facts (view image) new.ino x.making.usable in let low = u.2 in let high = u.3 in let s = strong.weak.sizes.low in
      let least : 8 ≤ (view image).inodes = subst (λ n. 8 ≤ n) (sym (view-inodes image)) (omega arith) in subst (λ n. new.ino < n + 1) (view-inodes image) (omega arith)

  generation : get (view image).generations new.ino ≡ Some (inode_at image new.ino).generation
  generation = view-generation image new.ino (let u = usable-facts (view image) new.ino x.making.usable in let low = u.2 in λ e. omega arith) within

  same : unwrap_or (get (view image).generations new.ino) 0 ≡ (inode_at image new.ino).generation
  same = ap (λ o. unwrap_or o 0) generation

  pub new-fresh : (inode_at image new.ino).generation < 2 ^ 32 - 1
  new-fresh = let u = usable-facts (view image) new.ino x.making.usable in let f = u.1 in let s = same in omega arith

  mode : (new_directory wanted cred new.ino spot.directory.ino now).mode < 4096
  mode = omega arith

  module _ (inode : Inode) (is : IsDirectoryInode inode wanted cred now ((inode_at image new.ino).generation + 1) new.block) where
    pub new-parts : (slot : Slot) → slot_from slot ≡ Some (new.ino, name) → HasParts image spot new name wanted cred now inode slot
    new-parts slot e = record {
      inode_is = is new.ino spot.directory.ino ∙ ap (λ g. placed_inode (new_directory wanted cred new.ino spot.directory.ino now) (g + 1) new.block) (sym same);
      slot_is = e;
    }

    pub new-answer : reply.Handle (record { ino = new.ino; generation = inode.generation }) (stored_attr new.ino inode) ≡ made_answer image new.ino (new_directory wanted cred new.ino spot.directory.ino now)
    unfolding made_inode placed_inode
    new-answer =
        (λ z. reply.Handle (record { ino = new.ino; generation = (is new.ino spot.directory.ino z).generation }) (stored_attr new.ino (is new.ino spot.directory.ino z)))
        ∙ (λ z. reply.Handle (record { ino = new.ino; generation = ap (λ g. g + 1) (sym same) z }) (new-attr new.ino ((inode_at image new.ino).generation + 1) new.block (new_directory wanted cred new.ino spot.directory.ino now) mode refl refl z))
