-- The put of a new directory's inode, once its sector is put.
use Rattle.std.proofs.Common.{◌≡◌, ◌≢◌, ℕ, ◌+◌, ◌<◌, Bool, true, false, List, [], ◌∷◌, set, sym, ap, subst, ◌∙◌, unwrap_or}
use Rattle.std.specs.FinMap.{get, insert}
use Rattle.v7_layout.specs.declared.inode.Inode.{Inode}
use Rattle.files_model.specs.Files.{Node}
use Rattle.files_model.specs.Torn.{Asked, Torn}
use Rattle.stable.specs.Store.{Image}
use Rattle.v7_map.specs.Image.{inode_sector}
use Rattle.v7_map.specs.Frame.{head_of, slots_of, frame}
use Rattle.v7_map.specs.Tree.{tree, is_walked, is_named, links}
use Rattle.v7_map.specs.View.{view, node_of, node_at}
use Rattle.v7_map.specs.Weak.{IsWeak, IsStrong}
use Rattle.v7_map.specs.Plan.{PutsInode}
use Rattle.v7_plans.proofs.InodePut.{put-slots, put-body}
use Rattle.v7_plans.proofs.Local.{IsStrongFor, strong_for}
use Rattle.v7_strokes.specs.NewNodes.{IsNewDirectory}
use Rattle.v7_strokes.proofs.Absent.{absent-unnamed}
use Rattle.v7_strokes.proofs.Directories.{StandsDir, stands-dir}
use Rattle.v7_strokes.proofs.TornCalls.{torn-creation}
use Rattle.v7_strokes.proofs.Unnamed.{unnamed-weak, unnamed-strong, unnamed-view, unnamed-head, unnamed-heads, unnamed-walked, unnamed-links, unnamed-named, unnamed-slots, unnamed-inode}
use Rattle.v7_strokes.proofs.Views.{view-inodes}
use Rattle.name_plans.proofs.MkdirAccepted.{IsMakingDirectory}

clash : {b : Bool} → b ≡ true → b ≡ false → ⊥
clash {b = b} x y = cc

module _ (image : Image) (asked : Asked) (now p : ℕ) (name : List ℕ) (d : Node) (i : ℕ) (m : Node) (strong : IsStrong (frame image)) (c : IsMakingDirectory (view image) asked now p name d i m) where
  pub mkdir-dir : StandsDir image p d
  mkdir-dir = stands-dir image p d strong.weak c.at c.kind

  pub mkdir-within : i < (tree (frame image)).inodes + 1
  mkdir-within = subst (λ n. i < n + 1) (view-inodes image) c.within

  pub mkdir-unnamed : is_named (tree (frame image)) i ≡ false
  mkdir-unnamed = absent-unnamed image i strong c.absent mkdir-within

  pub mkdir-apart : i ≢ p
  mkdir-apart e = clash (subst (λ z. is_named (tree (frame image)) z ≡ true) (sym e) mkdir-dir.stands.named) mkdir-unnamed

  module _ (n : Inode) (is : IsNewDirectory image p i n m) (raised : n.generation ≡ unwrap_or (get (view image).generations i) 0 + 1) (b1 : List ℕ) (p1 : PutsInode image i b1 n) where
    pub mkdir-weak : IsWeak (frame (set image (inode_sector i) b1))
    mkdir-weak = unnamed-weak image i b1 n strong.weak p1 is.placed c.low mkdir-unnamed

    pub mkdir-strong : (K : ℕ → Type 0) → ((j : ℕ) → K j → j ≢ i) → IsStrongFor K (frame (set image (inode_sector i) b1))
    mkdir-strong K others = unnamed-strong image i b1 n strong.weak p1 is.placed c.low mkdir-unnamed K others (strong_for K (frame image) strong)

    pub mkdir-view : view (set image (inode_sector i) b1) ≡ record (view image) { generations = insert (view image).generations i (unwrap_or (get (view image).generations i) 0 + 1) }
    mkdir-view = unnamed-view image i b1 n strong.weak p1 is.placed c.low mkdir-unnamed mkdir-within ∙ (λ z. record (view image) { generations = insert (view image).generations i (raised z) })

    pub mkdir-head : (frame (set image (inode_sector i) b1)).head i ≡ head_of n
    mkdir-head = unnamed-head image i b1 n strong.weak p1 is.placed c.low mkdir-unnamed

    pub mkdir-named : is_named (tree (frame (set image (inode_sector i) b1))) i ≡ false
    mkdir-named = unnamed-named image i b1 n strong.weak p1 is.placed c.low mkdir-unnamed i ∙ mkdir-unnamed

    pub mkdir-slots : (tree (frame (set image (inode_sector i) b1))).slots i ≡ slots_of image (head_of n)
    mkdir-slots = put-slots image i b1 n strong.weak p1 is.placed.mine is.placed.needed

    pub mkdir-parent_head : (frame (set image (inode_sector i) b1)).head p ≡ (frame image).head p
    mkdir-parent_head = unnamed-heads image i b1 n strong.weak p1 is.placed c.low mkdir-unnamed p (λ e. mkdir-apart (sym e))

    pub mkdir-parent_walked : is_walked (tree (frame (set image (inode_sector i) b1))) p ≡ true
    mkdir-parent_walked = unnamed-walked image i b1 n strong.weak p1 is.placed c.low mkdir-unnamed p ∙ mkdir-dir.walked

    pub mkdir-parent_slots : (tree (frame (set image (inode_sector i) b1))).slots p ≡ (tree (frame image)).slots p
    mkdir-parent_slots = unnamed-slots image i b1 n strong.weak p1 is.placed c.low mkdir-unnamed p (λ e. mkdir-apart (sym e))

    pub mkdir-parent_links : links (tree (frame (set image (inode_sector i) b1))) p ≡ d.nlink
    mkdir-parent_links = unnamed-links image i b1 n strong.weak p1 is.placed c.low mkdir-unnamed p ∙ ap (λ (x : Node). x.nlink) mkdir-dir.stands.is

    pub mkdir-node : record (node_at (set image (inode_sector i) b1) i) { nlink = 2 } ≡ m
    mkdir-node =
        (λ z. record (node_of (tree (frame (set image (inode_sector i) b1))) i (unnamed-inode image i b1 n strong.weak p1 is.placed c.low mkdir-unnamed z) (put-body image i b1 n strong.weak p1 is.placed.mine is.placed.needed z)) { nlink = 2; slots = mkdir-slots z })
        ∙ is.is

    -- the generation is raised, and nothing else has changed
    pub mkdir-torn : Torn (view image) (asked ∷ []) now (view (set image (inode_sector i) b1))
    mkdir-torn = torn-creation (view image) asked now (view (set image (inode_sector i) b1)) c.makes (mkdir-view ∙ (λ z. record (view image) { generations = (sym c.after z).generations }))
