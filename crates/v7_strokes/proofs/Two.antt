-- Two images whose files differ at two nodes alone.
use Rattle.std.proofs.Common.{◌≡◌, ◌≢◌, ℕ, ◌+◌, ◌-◌, ◌<◌, ◌≤◌, cond, Some, None, sym, subst, ◌∙◌, ⊎_elim, eqb}
use Rattle.std.proofs.lemmas.Bool.{cases_eq, cases_lt}
use Rattle.std.specs.FinMap.{get}
use Rattle.v7_layout.specs.Numbers.{field}
use Rattle.files_model.specs.Files.{Node, tabulated}
use Rattle.files_model.proofs.Maps.{same_maps}
use Rattle.stable.specs.Store.{Image}
use Rattle.v7_map.specs.Image.{sector_at, inode_at, inodes_before, is_read_only}
use Rattle.v7_map.specs.Frame.{frame}
use Rattle.v7_map.specs.Tree.{tree}
use Rattle.v7_map.specs.View.{view, files_of}
use Rattle.v7_strokes.proofs.Changed.{changed-here, changed-there, changed-other}
use Rattle.v7_strokes.proofs.Views.{view-get, view-get_above}
use Rattle.v7_strokes.specs.Changes.{changed, node_if}

module _ (old new : Image) (i p : ℕ) (y : Node) (first : sector_at new 1 ≡ sector_at old 1) (generations : (j : ℕ) → (inode_at new j).generation ≡ (inode_at old j).generation)
    (others : (j : ℕ) → j ≢ i → j ≢ p → node_if new j ≡ node_if old j) (here : node_if new p ≡ Some y) (within : i < (tree (frame old)).inodes + 1) (within' : p < (tree (frame old)).inodes + 1) where
  count : (tree (frame new)).inodes ≡ (tree (frame old)).inodes
  unfolding frame
  count z = inodes_before (field (first z) 0 2)

  get_new : (j : ℕ) → j < (tree (frame old)).inodes + 1 → get (view new).nodes j ≡ node_if new j
  get_new j lt = view-get new j (subst (λ n. j < n + 1) (sym count) lt)

  nodes : (view new).nodes ≡ (changed (view old) i (node_if new i) p y).nodes
  nodes = same_maps (view new).nodes (changed (view old) i (node_if new i) p y).nodes (λ q. ⊎_elim
      (λ (e : q ≡ p). subst (λ z. get (view new).nodes z ≡ get (changed (view old) i (node_if new i) p y).nodes z) (sym e)
      (get_new p within' ∙ here ∙ sym (changed-here (view old) i (node_if new i) p y)))
      (λ (np : q ≢ p). ⊎_elim
      (λ (e : q ≡ i). subst (λ z. get (view new).nodes z ≡ get (changed (view old) i (node_if new i) p y).nodes z) (sym e)
      (get_new i within ∙ sym (changed-there (view old) i (node_if new i) p y (λ z. np (e ∙ z)))))
      (λ (ni : q ≢ i). ⊎_elim
      (λ (lt : q < (tree (frame old)).inodes + 1). get_new q lt ∙ others q ni np ∙ sym (view-get old q lt))
      (λ (ge : (tree (frame old)).inodes + 1 ≤ q). view-get_above new q (subst (λ n. n + 1 ≤ q) (sym count) ge) ∙ sym (view-get_above old q ge))
      (cases_lt q ((tree (frame old)).inodes + 1)) ∙ sym (changed-other (view old) i (node_if new i) p y q ni np))
      (cases_eq q i))
      (cases_eq q p))

  pub view-two : view new ≡ changed (view old) i (node_if new i) p y
  unfolding view files_of frame
  view-two z = record {
    nodes = nodes z;
    generations = tabulated (λ j. cond (eqb j 0) None (Some (generations j z))) (count z + 1);
    inodes = count z;
    blocks = field (first z) 2 4 - field (first z) 0 2;
    read_only = is_read_only (first z);
  }
