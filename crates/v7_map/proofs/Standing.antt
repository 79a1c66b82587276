-- What a handle means, read from its inode; and what a node of a view has from its inode.
use Rattle.std.proofs.Common.{◌≡◌, ◌≢◌, ℕ, ◌+◌, ◌<◌, ◌≤◌, Bool, true, false, cond, not, ◌&&◌, ◌==◌, refl, sym, ap, ◌∙◌, arith, ⊎_elim, eqb, eq-eqb, leb, Option, Some, None}
use Rattle.std.proofs.lemmas.Bool.{cases_eq, cases_lt, leb-true, ne_eqb, le-leb}
use Rattle.std.specs.FinMap.{get}
use Rattle.files_model.specs.declared.attributes.FileId.{FileId}
use Rattle.files_model.specs.Files.{Node, live, if_current}
use Rattle.files_model.specs.Step.{attr_of}
use Rattle.files_model.proofs.Maps.{get-tabulated, get-tabulated_above}
use Rattle.stable.specs.Store.{Image}
use Rattle.v7_map.specs.Image.{inode_at, is_inode, isize_of, inodes_before}
use Rattle.v7_map.specs.Frame.{frame}
use Rattle.v7_map.specs.Tree.{tree, is_named, links}
use Rattle.v7_map.specs.Weak.{IsStrong}
use Rattle.v7_map.specs.View.{view, files_of, node_at}
use Rattle.v7_map.specs.Stored.{is_standing, stored_attr}
use Rattle.v7_map.proofs.AnyFrame.{frame-IsFrame}
use Rattle.v7_map.proofs.Frames.{and_left, and_right}
use Rattle.v7_map.proofs.Used.{named_used}

-- the inode is used
abbrev is_used : Image → ℕ → Bool
is_used image i = not ((inode_at image i).mode == 0)

same_truth : (a b : Bool) → (a ≡ true → b ≡ true) → (b ≡ true → a ≡ true) → a ≡ b
same_truth true b to from = sym (to refl)
same_truth false true to from = from refl
same_truth false false to from = refl

module _ (image : Image) (strong : IsStrong (frame image)) where
  -- nothing to mend: the named inodes are the used ones
  pub named-used : (i : ℕ) → is_named (tree (frame image)) i ≡ not ((inode_at image i).mode == 0)
  unfolding frame
  named-used i = same_truth _ _ (λ named. named_used (frame image) strong.weak (frame-IsFrame image).directories i named) (λ used. strong.named i used)

  node_below : (i : ℕ) → is_inode image i ≡ true → i < (tree (frame image)).inodes + 1
  unfolding frame
  node_below i is = let high = leb-true i (inodes_before (isize_of image)) (and_right (leb 1 i) _ is) in omega arith

  -- the node of a used inode, and none of a free one
  pub node-is : (i : ℕ) → is_inode image i ≡ true → get (view image).nodes i ≡ cond (is_used image i) (Some (node_at image i)) None
  unfolding view files_of
  node-is i is = get-tabulated _ ((tree (frame image)).inodes + 1) i (node_below i is) ∙ ap (λ b. cond b (Some (node_at image i)) None) (named-used i)

  -- and its generation
  pub generation-is : (i : ℕ) → is_inode image i ≡ true → get (view image).generations i ≡ Some (inode_at image i).generation
  unfolding view files_of
  generation-is i is =
      let low : 1 ≤ i = leb-true 1 i (and_left (leb 1 i) _ is) in
      let some : eqb i 0 ≡ false = ne_eqb i 0 (λ z. omega arith) in
      get-tabulated _ ((tree (frame image)).inodes + 1) i (node_below i is) ∙ ap (λ b. cond b None (Some (inode_at image i).generation)) some

  -- no inode of the volume has a generation
  no_generation : (i : ℕ) → is_inode image i ≡ false → get (view image).generations i ≡ None
  unfolding view files_of frame
  no_generation i out = ⊎_elim
      (λ (lt : i < (tree (frame image)).inodes + 1). get-tabulated _ ((tree (frame image)).inodes + 1) i lt ∙ ap (λ b. cond b None (Some (inode_at image i).generation)) (zero_only i lt out))
      (λ (ge : (tree (frame image)).inodes + 1 ≤ i). get-tabulated_above _ ((tree (frame image)).inodes + 1) i ge)
      (cases_lt i ((tree (frame image)).inodes + 1))
    where
      zero_only : (i : ℕ) → i < (tree (frame image)).inodes + 1 → is_inode image i ≡ false → eqb i 0 ≡ true
      zero_only i lt out = ⊎_elim (λ (z : i ≡ 0). eq-eqb i 0 z) (λ (nz : i ≢ 0).
          let some : 1 ≤ i = omega arith in
          let in' : i ≤ inodes_before (isize_of image) = omega arith in
          let yes : is_inode image i ≡ true = both (leb 1 i) (leb i (inodes_before (isize_of image))) (le-leb 1 i some) (le-leb i (inodes_before (isize_of image)) in') in
          absurd (cc)) (cases_eq i 0)
        where
          both : (a b : Bool) → a ≡ true → b ≡ true → (a && b) ≡ true
          both true b e h = h
          both false b e h = absurd (cc)

  -- what a handle means is decided by its inode
  pub live-standing : (file : FileId) → live (view image) file ≡ cond (is_standing image file) (Some (node_at image file.ino)) None
  unfolding live
  live-standing file = by_range (is_inode image file.ino) refl
    where
      choose : (a b : Bool) (o : Option Node) → cond a (cond b o None) None ≡ cond (b && a) o None
      choose true true o = refl
      choose true false o = refl
      choose false true o = refl
      choose false false o = refl

      by_range : (b : Bool) → is_inode image file.ino ≡ b
          → if_current (get (view image).generations file.ino) file.generation (get (view image).nodes file.ino) ≡ cond (is_standing image file) (Some (node_at image file.ino)) None
      by_range true is =
          ap (λ o. if_current o file.generation (get (view image).nodes file.ino)) (generation-is file.ino is)
          ∙ ap (λ o. if_current (Some (inode_at image file.ino).generation) file.generation o) (node-is file.ino is)
          ∙ choose ((inode_at image file.ino).generation == file.generation) (is_used image file.ino) (Some (node_at image file.ino))
          ∙ ap (λ b. cond (b && (is_used image file.ino && ((inode_at image file.ino).generation == file.generation))) (Some (node_at image file.ino)) None) (sym is)
      by_range false out =
          ap (λ o. if_current o file.generation (get (view image).nodes file.ino)) (no_generation file.ino out)
          ∙ ap (λ b. cond (b && (is_used image file.ino && ((inode_at image file.ino).generation == file.generation))) (Some (node_at image file.ino)) None) (sym out)

  -- the stored link count is the node's
  pub nlink-stored : (i : ℕ) → not ((inode_at image i).mode == 0) ≡ true → (inode_at image i).nlink ≡ links (tree (frame image)) i
  unfolding frame
  nlink-stored i used = strong.counted i used

  -- the attributes of a used inode are those that it stores
  pub attr_of-stored : (i : ℕ) → not ((inode_at image i).mode == 0) ≡ true → attr_of i (node_at image i) ≡ stored_attr i (inode_at image i)
  attr_of-stored i used z = record (stored_attr i (inode_at image i)) { nlink = sym (nlink-stored i used) z }
