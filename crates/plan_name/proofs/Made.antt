-- A new file: what its inode and its answer are.
use Rattle.std.proofs.Common.{◌≡◌, ℕ, ◌+◌, ◌/◌, ◌%◌, ◌<◌, true, List, refl, sym, ap, subst, ◌∙◌, arith, Some, unwrap_or}
use Rattle.std.specs.FinMap.{get}
use Rattle.files_model.specs.declared.attributes.Sattr.{Sattr}
use Rattle.files_model.specs.declared.credential.Cred.{Cred}
use Rattle.files_model.specs.declared.reply.Reply.TheVariants as reply
use Rattle.files_model.specs.Answers.{attr_of}
use Rattle.files_model.specs.Files.{Node}
use Rattle.files_model.specs.Names.{new_file}
use Rattle.files_model.specs.Torn.{Asked}
use Rattle.stable.specs.Store.{Image}
use Rattle.v7_layout.specs.declared.inode.Inode.{Inode}
use Rattle.v7_map.specs.Frame.{frame}
use Rattle.v7_map.specs.Image.{is_inode, inode_at}
use Rattle.v7_map.specs.Stored.{stored_attr}
use Rattle.v7_map.specs.Tree.{tree}
use Rattle.v7_map.specs.View.{view, kind_of}
use Rattle.v7_map.specs.Weak.{IsStrong}
use Rattle.v7_strokes.specs.Inodes.{made_inode}
use Rattle.v7_strokes.specs.Over.{slot_from}
use Rattle.v7_strokes.proofs.NewFile.{made-is_new, made-bare}
use Rattle.v7_strokes.proofs.Views.{view-inodes, view-generation}
use Rattle.name_plans.specs.Making.{IsMaking}
use Rattle.plan_name.specs.Creating.{MayMake, Makes, made_answer}
use Rattle.plan_name.specs.declared.creating_puts.Entry.{Entry}
use Rattle.plan_name.proofs.Past.{is_number}

-- the attributes of the inode are those of the node
new-attr : (i g : ℕ) (m : Node) → m.mode < 4096 → (made_inode m g).mode ≡ 32768 + m.mode → kind_of 8 ≡ m.kind → stored_attr i (made_inode m g) ≡ attr_of i m
unfolding made_inode
new-attr i g m lt mode kind =
    let type : (32768 + m.mode) / 4096 ≡ 8 = omega arith in
    let bits : (32768 + m.mode) % 4096 ≡ m.mode = omega arith in
    (λ z. record (attr_of i m) { kind = (ap (λ b. kind_of (b / 4096)) mode ∙ ap kind_of type ∙ kind) z; mode = (ap (λ b. b % 4096) mode ∙ bits) z })

module _ (image : Image) (asked : Asked) (now p i index : ℕ) (name : List ℕ) (wanted : Sattr) (cred : Cred) (d : Node) (strong : IsStrong (frame image)) (x : MayMake image asked now p i index name wanted cred d) where
  within : i < (tree (frame image)).inodes + 1
  within = subst (λ n. i < n + 1) (view-inodes image) x.making.within

  pub fits-number : is_inode image i ≡ true
  fits-number = let low = x.making.low in let w = within in is_number image i (omega arith) (omega arith)

  generation : get (view image).generations i ≡ Some (inode_at image i).generation
  generation = view-generation image i (let low = x.making.low in λ e. omega arith) within

  mode : (new_file wanted cred now).mode < 4096
  mode = omega arith

  module _ (n : Inode) (is : n ≡ made_inode (new_file wanted cred now) ((inode_at image i).generation + 1)) where
    pub fits-makes : (entry : Entry) → entry.directory ≡ p → entry.index ≡ index → slot_from entry.slot ≡ Some (i, name) → Makes image asked now i n entry name d (new_file wanted cred now)
    unfolding made_inode
    fits-makes entry same_p same_k slot = subst (λ v. Makes image asked now i v entry name d (new_file wanted cred now)) (sym is) (record {
      making = subst (λ q. IsMaking (view image) asked now q name d i (new_file wanted cred now)) (sym same_p) x.making;
      new = made-is_new image i ((inode_at image i).generation + 1) (new_file wanted cred now) refl mode refl x.size refl refl;
      bare = made-bare image i ((inode_at image i).generation + 1) (new_file wanted cred now) refl mode refl x.size refl refl;
      raised = ap (λ o. unwrap_or o 0 + 1) (sym generation);
      place = same_k ∙ x.place;
      slot = slot;
    })

    pub fits-answer : reply.Handle (record { ino = i; generation = n.generation }) (stored_attr i n) ≡ made_answer image i (new_file wanted cred now)
    unfolding made_inode
    fits-answer =
        (λ z. reply.Handle (record { ino = i; generation = (is z).generation }) (stored_attr i (is z)))
        ∙ (λ z. reply.Handle (record { ino = i; generation = ap (λ o. unwrap_or o 0 + 1) (sym generation) z }) (new-attr i ((inode_at image i).generation + 1) (new_file wanted cred now) mode refl refl z))
