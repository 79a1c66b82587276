-- A node of a view, and its inode.
use Rattle.std.proofs.Common.{◌≡◌, ℕ, ◌+◌, ◌/◌, ◌<◌, ◌≤◌, Bool, true, false, cond, refl, sym, ap, ◌∙◌, ⊎_elim, eqb, Option, Some, None}
use Rattle.std.proofs.lemmas.Bool.{cases_lt}
use Rattle.std.specs.FinMap.{get}
use Rattle.files_model.specs.declared.attributes.Kind.TheVariants.{Regular, Directory, Link}
use Rattle.files_model.specs.declared.attributes.FileId.{FileId}
use Rattle.files_model.specs.Files.{Node, Files, live, if_current}
use Rattle.files_model.proofs.Maps.{get-tabulated, get-tabulated_above}
use Rattle.stable.specs.Store.{Image}
use Rattle.v7_map.specs.Image.{inode_at}
use Rattle.v7_map.specs.Frame.{is_directory, frame}
use Rattle.v7_map.specs.Tree.{tree, is_named}
use Rattle.v7_map.specs.View.{view, files_of, node_of, body_at, kind_of}

-- what it says that a view has this node
pub record StandsAs (image : Image) (i : ℕ) (n : Node) : Type 0 where
  pub named : is_named (tree (frame image)) i ≡ true
  pub within : i < (tree (frame image)).inodes + 1
  pub is : node_of (tree (frame image)) i (inode_at image i) (body_at image (frame image) i) ≡ n

named_node : (b : Bool) (m n : Node) → cond b (Some m) None ≡ Some n → (b ≡ true) × (m ≡ n)
named_node true m n e = (refl, cc)
named_node false m n e = absurd (cc)

pub view-node : (image : Image) (i : ℕ) (n : Node) → get (view image).nodes i ≡ Some n → StandsAs image i n
unfolding view files_of
view-node image i n e = ⊎_elim
    (λ (lt : i < (tree (frame image)).inodes + 1). let at = named_node (is_named (tree (frame image)) i) _ n (sym (get-tabulated _ ((tree (frame image)).inodes + 1) i lt) ∙ e) in record { named = at.0; within = lt; is = at.1 })
    (λ (ge : (tree (frame image)).inodes + 1 ≤ i). let no : None ≡ Some n = sym (get-tabulated_above _ ((tree (frame image)).inodes + 1) i ge) ∙ e in absurd (cc))
    (cases_lt i ((tree (frame image)).inodes + 1))

regular_type : (type : ℕ) → kind_of type ≡ Regular → eqb type 4 ≡ false
regular_type type = elim (eqb type 4) as (λ b. cond b Directory (cond (eqb type 10) Link Regular) ≡ Regular → b ≡ false) [ true ↦ λ e. absurd (cc) | false ↦ λ e. refl ]

-- a regular file of the view has no slots
pub is_file : (image : Image) (i : ℕ) (n : Node) → StandsAs image i n → n.kind ≡ Regular → is_directory ((frame image).head i) ≡ false
unfolding frame
is_file image i n at regular = regular_type ((inode_at image i).mode / 4096) (ap (λ (m : Node). m.kind) at.is ∙ regular)

pub size_of : (image : Image) (i : ℕ) (n : Node) → StandsAs image i n → ((frame image).head i).size ≡ n.size
unfolding frame
size_of image i n at = ap (λ (m : Node). m.size) at.is

-- the node that a handle means stands at its i-number
current_node : (o : Option ℕ) (g : ℕ) (m : Option Node) (n : Node) → if_current o g m ≡ Some n → m ≡ Some n
current_node None g m n e = absurd (cc)
current_node (Some h) g m n e = elim (eqb h g) as (λ b. cond b m None ≡ Some n → m ≡ Some n) [ true ↦ λ is. is | false ↦ λ is. absurd (cc) ] e

pub live-node : (files : Files) (file : FileId) (n : Node) → live files file ≡ Some n → get files.nodes file.ino ≡ Some n
unfolding live
live-node files file n e = current_node (get files.generations file.ino) file.generation (get files.nodes file.ino) n e
