-- An i-number that no node has.
use Rattle.std.proofs.Common.{◌≡◌, ℕ, ◌+◌, ◌<◌, Bool, true, false, cond, ◌||◌, refl, sym, ◌∙◌, ⊎_elim, ltb, Some, None}
use Rattle.std.proofs.lemmas.Bool.{cases_Bool}
use Rattle.std.specs.FinMap.{get}
use Rattle.files_model.specs.Files.{Node}
use Rattle.stable.specs.Store.{Image}
use Rattle.v7_map.specs.Frame.{frame}
use Rattle.v7_map.specs.Tree.{tree, is_walked, is_named, links}
use Rattle.v7_map.specs.View.{view, node_at}
use Rattle.v7_map.specs.Weak.{IsStrong}
use Rattle.v7_strokes.proofs.Aside.{zero_of}
use Rattle.v7_strokes.proofs.Views.{view-get}

or_no : (a b : Bool) → (a || b) ≡ false → (a ≡ false) × (b ≡ false)
or_no true b e = absurd (cc)
or_no false b e = (refl, e)

clash : {b : Bool} → b ≡ true → b ≡ false → ⊥
clash {b = b} x y = cc

no_node : (b : Bool) (n : Node) → cond b (Some n) None ≡ None → b ≡ false
no_node true n e = absurd (cc)
no_node false n e = refl

module _ (image : Image) (i : ℕ) (strong : IsStrong (frame image)) (absent : get (view image).nodes i ≡ None) (within : i < (tree (frame image)).inodes + 1) where
  pub absent-unnamed : is_named (tree (frame image)) i ≡ false
  absent-unnamed = no_node (is_named (tree (frame image)) i) (node_at image i) (sym (view-get image i within) ∙ absent)

  pub absent-free : ((frame image).head i).is_used ≡ false
  absent-free = ⊎_elim (λ (u : ((frame image).head i).is_used ≡ true). absurd (clash (strong.named i u) absent-unnamed)) (λ (f : ((frame image).head i).is_used ≡ false). f) (cases_Bool ((frame image).head i).is_used)

  pub absent-links : links (tree (frame image)) i ≡ 0
  absent-links = zero_of (links (tree (frame image)) i) (or_no (is_walked (tree (frame image)) i) (ltb 0 (links (tree (frame image)) i)) absent-unnamed).1
