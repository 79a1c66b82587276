-- The first put of a LINK: the node's inode.
use Rattle.std.proofs.Common.{◌≡◌, ◌≢◌, ℕ, ◌+◌, Bool, true, false, List, [], ◌∷◌, set, refl, ap, subst, ◌∙◌, ⊎_elim, Some}
use Rattle.std.proofs.lemmas.Bool.{cases_eq}
use Rattle.std.specs.FinMap.{get, insert}
use Rattle.files_model.specs.Answers.{with_node}
use Rattle.files_model.specs.Files.{Node, Files}
use Rattle.files_model.specs.Names.{with_entry}
use Rattle.files_model.specs.Torn.{Asked, Torn, after_calls}
use Rattle.files_model.proofs.Maps.{get-insert_same, get-insert_other}
use Rattle.stable.specs.Store.{Image}
use Rattle.v7_map.specs.Image.{inode_at, inode_sector}
use Rattle.v7_map.specs.Frame.{Head, Place, head_of, is_directory, frame}
use Rattle.v7_map.specs.Tree.{tree, links}
use Rattle.v7_map.specs.View.{view}
use Rattle.v7_map.specs.Weak.{IsWeak, IsStrong}
use Rattle.v7_map.specs.Plan.{PutsInode}
use Rattle.v7_map.proofs.AnyFrame.{frame-IsFrame}
use Rattle.v7_map.proofs.Nodes.{StandsAs, view-node}
use Rattle.v7_map.proofs.Used.{named_used}
use Rattle.v7_plans.proofs.Local.{IsStrongFor, strong_for, each}
use Rattle.v7_strokes.specs.Inodes.{linked_inode}
use Rattle.v7_strokes.proofs.AttrPut.{attr-weak, attr-strong, attr-tree, attr-head, attr-heads, attr-view, attr-sizes, attr-addresses}
use Rattle.v7_strokes.proofs.Directories.{StandsDir, stands-dir, node-directory}
use Rattle.v7_strokes.proofs.TornCalls.{old_same, new_times, torn-before}
use Rattle.name_plans.proofs.LinkAccepted.{IsLinking}

clash : {b : Bool} → b ≡ true → b ≡ false → ⊥
clash {b = b} x y = cc

module _ (image : Image) (asked : Asked) (now p : ℕ) (name : List ℕ) (d : Node) (i : ℕ) (n : Node) (strong : IsStrong (frame image)) (c : IsLinking (view image) asked now p name d i n) where
  pub link-dir : StandsDir image p d
  link-dir = stands-dir image p d strong.weak c.at c.kind

  pub link-stands : StandsAs image i n
  link-stands = view-node image i n c.at_file

  pub link-file : is_directory ((frame image).head i) ≡ false
  link-file = node-directory image i n link-stands ∙ c.file

  pub link-apart : i ≢ p
  link-apart e = clash link-dir.dir (subst (λ z. is_directory ((frame image).head z) ≡ false) e link-file)

  pub link-used : ((frame image).head i).is_used ≡ true
  link-used = named_used (frame image) strong.weak (frame-IsFrame image).directories i link-stands.named

  pub link-links : links (tree (frame image)) i ≡ n.nlink
  link-links = ap (λ (m : Node). m.nlink) link-stands.is

  alike : head_of (linked_inode (inode_at image i) now) ≡ record ((frame image).head i) { nlink = (inode_at image i).nlink + 1 }
  unfolding frame
  alike = refl

  pub link-alike : head_of (linked_inode (inode_at image i) now) ≡ record ((frame image).head i) { nlink = n.nlink + 1 }
  unfolding frame
  link-alike = (λ z. record ((frame image).head i) { nlink = (strong.counted i link-used ∙ link-links) z + 1 })

  module _ (b1 : List ℕ) (p1 : PutsInode image i b1 (linked_inode (inode_at image i) now)) where
    pub link-weak : IsWeak (frame (set image (inode_sector i) b1))
    link-weak = attr-weak image i b1 (linked_inode (inode_at image i) now) strong.weak p1 link-used alike

    pub link-strong : IsStrongFor (λ j. j ≢ i) (frame (set image (inode_sector i) b1))
    link-strong = attr-strong image i b1 (linked_inode (inode_at image i) now) strong.weak p1 link-used alike (λ j. j ≢ i) (λ j ne. ne) (strong_for (λ j. j ≢ i) (frame image) strong)

    pub link-tree : tree (frame (set image (inode_sector i) b1)) ≡ tree (frame image)
    link-tree = attr-tree image i b1 (linked_inode (inode_at image i) now) strong.weak p1 link-used alike

    pub link-head : (frame (set image (inode_sector i) b1)).head i ≡ record ((frame image).head i) { nlink = n.nlink + 1 }
    link-head = attr-head image i b1 (linked_inode (inode_at image i) now) strong.weak p1 link-used alike ∙ link-alike

    pub link-heads : (j : ℕ) → j ≢ i → (frame (set image (inode_sector i) b1)).head j ≡ (frame image).head j
    link-heads = attr-heads image i b1 (linked_inode (inode_at image i) now) strong.weak p1 link-used alike

    pub link-uses : (j : ℕ) → ((frame (set image (inode_sector i) b1)).head j).is_used ≡ ((frame image).head j).is_used
    link-uses = each i (λ j. ((frame (set image (inode_sector i) b1)).head j).is_used ≡ ((frame image).head j).is_used) (ap (λ (h : Head). h.is_used) link-head) (λ j ne. ap (λ (h : Head). h.is_used) (link-heads j ne))

    pub link-sizes : ((frame (set image (inode_sector i) b1)).isize ≡ (frame image).isize) × ((frame (set image (inode_sector i) b1)).fsize ≡ (frame image).fsize)
    link-sizes = attr-sizes image i b1 (linked_inode (inode_at image i) now) strong.weak p1 link-used alike

    pub link-addresses : (j : ℕ) (q : Place) → (frame (set image (inode_sector i) b1)).address j q ≡ (frame image).address j q
    link-addresses = attr-addresses image i b1 (linked_inode (inode_at image i) now) strong.weak p1 link-used alike

    pub link-view : view (set image (inode_sector i) b1) ≡ with_node (view image) i (record n { ctime = now })
    link-view = attr-view image i b1 (linked_inode (inode_at image i) now) strong.weak p1 link-used alike refl link-stands.named link-stands.within
        ∙ ap (λ (m : Node). with_node (view image) i (record m { ctime = now })) link-stands.is

    -- the node's ctime is set, and nothing else has changed
    pub link-torn : Torn (view image) (asked ∷ []) now (view (set image (inode_sector i) b1))
    link-torn = torn-before (view image) asked now (view (set image (inode_sector i) b1)) c.no_write
        (λ j. ⊎_elim
        (λ (e : j ≡ i). new_times n (record n { nlink = n.nlink + 1; ctime = now }) (ap (get (view image).nodes) e ∙ c.at_file)
        (ap (get (after_calls (view image) (asked ∷ []) now).nodes) e ∙ ap (λ (f : Files). get f.nodes i) c.after
        ∙ get-insert_other (insert (view image).nodes i (record n { nlink = n.nlink + 1; ctime = now })) p (with_entry d (Some (i, name)) now) i link-apart ∙ get-insert_same (view image).nodes i (record n { nlink = n.nlink + 1; ctime = now }))
        (ap (get (view (set image (inode_sector i) b1)).nodes) e ∙ ap (λ (f : Files). get f.nodes i) link-view ∙ get-insert_same (view image).nodes i (record n { ctime = now })))
        (λ (ne : j ≢ i). old_same (ap (λ (f : Files). get f.nodes j) link-view ∙ get-insert_other (view image).nodes i (record n { ctime = now }) j ne))
        (cases_eq j i))
        (λ z. record (link-view z) { nodes = (view (set image (inode_sector i) b1)).nodes })
