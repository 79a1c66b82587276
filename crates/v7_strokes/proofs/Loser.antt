-- The put of the inode of a node that lost a name: it ends where that was the last one, whatever call took the name.
use Rattle.std.proofs.Common.{◌≡◌, ◌≢◌, ℕ, ◌+◌, ◌-◌, ◌<◌, ◌≤◌, Bool, true, false, ◌||◌, ◌==◌, if◌then◌else◌, List, set, refl, sym, ap, subst, ◌∙◌, arith, eqb, eq-eqb, ltb, Option, Some, None}
use Rattle.std.proofs.lemmas.Bool.{eqb-true}
use Rattle.std.specs.FinMap.{get}
use Rattle.files_model.specs.Files.{Node, Files}
use Rattle.files_model.specs.Step.{with_node}
use Rattle.files_model.proofs.Maps.{get-insert_same, get-insert_other}
use Rattle.stable.specs.Store.{Image}
use Rattle.v7_map.specs.Image.{inode_at, inode_sector}
use Rattle.v7_map.specs.Frame.{Head, head_of, frame}
use Rattle.v7_map.specs.Tree.{tree, is_walked, is_named, links}
use Rattle.v7_map.specs.View.{view}
use Rattle.v7_map.specs.Weak.{IsStrong}
use Rattle.v7_map.specs.Plan.{PutsInode}
use Rattle.v7_map.proofs.Nodes.{view-node}
use Rattle.v7_map.proofs.Walks.{or_right}
use Rattle.v7_strokes.specs.Inodes.{ended_inode, unlinked_inode}
use Rattle.v7_strokes.specs.Freed.{IsFreed}
use Rattle.v7_strokes.specs.Inodes.{loser_inode}
use Rattle.v7_strokes.proofs.Aside.{positive}
use Rattle.v7_strokes.proofs.AttrPut.{attr-sizes, attr-addresses, attr-strong, attr-tree, attr-head, attr-view}
use Rattle.v7_plans.proofs.Local.{IsStrongFor, strong_of}
use Rattle.v7_strokes.proofs.Ended.{ended-placed, ended_none}
use Rattle.v7_strokes.proofs.TornCalls.{insert_again}
use Rattle.v7_strokes.proofs.Unnamed.{unnamed-sizes, unnamed-address, unnamed-addresses, unnamed-strong, unnamed-view, unnamed-head}
use Rattle.v7_strokes.proofs.Views.{view-generation}

clash : {b : Bool} → b ≡ true → b ≡ false → ⊥
clash {b = b} x y = cc

-- the node before its inode is put, and after that
abbrev pub kept_of : Node → Option Node
kept_of w = if w.nlink == 1 then None else Some (record w { nlink = w.nlink - 1 })

abbrev pub lost_of : Node → ℕ → Option Node
lost_of w now = if w.nlink == 1 then None else Some (record w { nlink = w.nlink - 1; ctime = now })

-- node r was w, and a name of it is gone
pub record IsLosing (mid : Image) (r : ℕ) (w : Node) : Type 0 where
  pub sound : IsStrongFor (λ j. j ≢ r) (frame mid)
  pub fewer : links (tree (frame mid)) r + 1 ≡ w.nlink
  pub unwalked : is_walked (tree (frame mid)) r ≡ false
  pub stored : ((frame mid).head r).nlink ≡ w.nlink
  pub used : ((frame mid).head r).is_used ≡ true
  pub low : 3 ≤ r
  pub within : r < (tree (frame mid)).inodes + 1
  pub node : get (view mid).nodes r ≡ kept_of w

pub record IsLost (mid new : Image) (r : ℕ) (w : Node) (now : ℕ) : Type 0 where
  pub sound : IsStrong (frame new)
  pub here : get (view new).nodes r ≡ lost_of w now
  pub others : (j : ℕ) → j ≢ r → get (view new).nodes j ≡ get (view mid).nodes j
  pub rest : view new ≡ record (view mid) { nodes = (view new).nodes }
  pub blocks : IsFreed (w.nlink == 1) r (frame mid) (frame new)

module _ (mid : Image) (r : ℕ) (w : Node) (now : ℕ) (b : List ℕ) (u : IsLosing mid r w) where
  node_ends : w.nlink ≡ 1 → eqb w.nlink 1 ≡ true → PutsInode mid r b (ended_inode (inode_at mid r).generation) → IsLost mid (set mid (inode_sector r) b) r w now
  unfolding ended_inode
  node_ends last is puts =
      let none : links (tree (frame mid)) r ≡ 0 = let l = u.fewer in omega arith in
      let unnamed : is_named (tree (frame mid)) r ≡ false = (λ z. u.unwalked z || ltb 0 (none z)) in
      let placed = ended-placed mid r (inode_at mid r).generation in
      let head = unnamed-head mid r b (ended_inode (inode_at mid r).generation) u.sound.weak puts placed u.low unnamed in
      let sizes = unnamed-sizes mid r b (ended_inode (inode_at mid r).generation) u.sound.weak puts placed u.low unnamed in
      let files : view (set mid (inode_sector r) b) ≡ view mid = unnamed-view mid r b (ended_inode (inode_at mid r).generation) u.sound.weak puts placed u.low unnamed u.within
      ∙ (λ z. record (view mid) { generations = insert_again (view mid).generations r (inode_at mid r).generation (view-generation mid r (λ q. let l : 3 ≤ r = u.low in absurd (omega arith)) u.within) z }) in
      record {
        sound = strong_of r (frame (set mid (inode_sector r) b))
            (unnamed-strong mid r b (ended_inode (inode_at mid r).generation) u.sound.weak puts placed u.low unnamed (λ j. j ≢ r) (λ j ne. ne) u.sound)
            (λ h. absurd (clash h (ap (λ (h : Head). h.is_used) head)));
        here = ap (λ (f : Files). get f.nodes r) files ∙ u.node ∙ ap (λ t. if t then None else Some (record w { nlink = w.nlink - 1 })) is ∙ ap (λ t. if t then None else Some (record w { nlink = w.nlink - 1; ctime = now })) (sym is);
        others = λ j ne. ap (λ (f : Files). get f.nodes j) files;
        rest = λ z. record (files z) { nodes = (view (set mid (inode_sector r) b)).nodes };
        blocks = record {
          isize = sizes.0;
          fsize = sizes.1;
          others = λ j ne p. unnamed-addresses mid r b (ended_inode (inode_at mid r).generation) u.sound.weak puts placed u.low unnamed j ne p;
          own = λ p. unnamed-address mid r b (ended_inode (inode_at mid r).generation) u.sound.weak puts placed u.low unnamed p ∙ ended_none mid (inode_at mid r).generation p
              ∙ ap (λ t. if t then 0 else (frame mid).address r p) (sym is);
        };
      }

  node_stays : w.nlink ≢ 1 → eqb w.nlink 1 ≡ false → PutsInode mid r b (unlinked_inode (inode_at mid r) now) → IsLost mid (set mid (inode_sector r) b) r w now
  unfolding frame
  node_stays more is puts =
      let some : 1 ≤ links (tree (frame mid)) r = let l = u.fewer in omega arith in
      let named : is_named (tree (frame mid)) r ≡ true = or_right (is_walked (tree (frame mid)) r) (ltb 0 (links (tree (frame mid)) r)) (positive (links (tree (frame mid)) r) (omega arith)) in
      let at : get (view mid).nodes r ≡ Some (record w { nlink = w.nlink - 1 }) = u.node ∙ ap (λ t. if t then None else Some (record w { nlink = w.nlink - 1 })) is in
      let s = view-node mid r (record w { nlink = w.nlink - 1 }) at in
      let same_tree : tree (frame (set mid (inode_sector r) b)) ≡ tree (frame mid) = attr-tree mid r b (unlinked_inode (inode_at mid r) now) u.sound.weak puts u.used refl in
      let head : (frame (set mid (inode_sector r) b)).head r ≡ head_of (unlinked_inode (inode_at mid r) now) = attr-head mid r b (unlinked_inode (inode_at mid r) now) u.sound.weak puts u.used refl in
      let stored : (inode_at mid r).nlink ≡ w.nlink = u.stored in
      let link : (inode_at mid r).nlink - 1 ≡ links (tree (frame mid)) r = let l = u.fewer in omega arith in
      let sizes = attr-sizes mid r b (unlinked_inode (inode_at mid r) now) u.sound.weak puts u.used refl in
      let files : view (set mid (inode_sector r) b) ≡ with_node (view mid) r (record w { nlink = w.nlink - 1; ctime = now }) =
      attr-view mid r b (unlinked_inode (inode_at mid r) now) u.sound.weak puts u.used refl refl named u.within
      ∙ ap (λ (m : Node). with_node (view mid) r (record m { ctime = now })) s.is in
      record {
        sound = strong_of r (frame (set mid (inode_sector r) b))
            (attr-strong mid r b (unlinked_inode (inode_at mid r) now) u.sound.weak puts u.used refl (λ j. j ≢ r) (λ j ne. ne) u.sound)
            (λ h. (ap (λ (h : Head). h.nlink) head ∙ link ∙ ap (λ t. links t r) (sym same_tree), ap (λ t. is_named t r) same_tree ∙ named));
        here = ap (λ (f : Files). get f.nodes r) files ∙ get-insert_same (view mid).nodes r (record w { nlink = w.nlink - 1; ctime = now })
            ∙ ap (λ t. if t then None else Some (record w { nlink = w.nlink - 1; ctime = now })) (sym is);
        others = λ j ne. ap (λ (f : Files). get f.nodes j) files ∙ get-insert_other (view mid).nodes r (record w { nlink = w.nlink - 1; ctime = now }) j ne;
        rest = λ z. record (files z) { nodes = (view (set mid (inode_sector r) b)).nodes };
        blocks = record {
          isize = sizes.0;
          fsize = sizes.1;
          others = λ j ne p. attr-addresses mid r b (unlinked_inode (inode_at mid r) now) u.sound.weak puts u.used refl j p;
          own = λ p. attr-addresses mid r b (unlinked_inode (inode_at mid r) now) u.sound.weak puts u.used refl r p ∙ ap (λ t. if t then 0 else (frame mid).address r p) (sym is);
        };
      }

  pub loser-put : PutsInode mid r b (loser_inode w (inode_at mid r) now) → IsLost mid (set mid (inode_sector r) b) r w now
  loser-put puts = elim (eqb w.nlink 1) as (λ t. eqb w.nlink 1 ≡ t → IsLost mid (set mid (inode_sector r) b) r w now) [
    | true ↦ λ e. node_ends (eqb-true w.nlink 1 e) e (subst (PutsInode mid r b) (ap (λ t. if t then ended_inode (inode_at mid r).generation else unlinked_inode (inode_at mid r) now) e) puts)
    | false ↦ λ e. node_stays (λ z. clash (eq-eqb w.nlink 1 z) e) e (subst (PutsInode mid r b) (ap (λ t. if t then ended_inode (inode_at mid r).generation else unlinked_inode (inode_at mid r) now) e) puts)
  ] refl
