-- Inodes that are named, and those that aren't.
use Rattle.std.proofs.Common.{◌≡◌, ℕ, Bool, true, false, cond, not, ◌&&◌, ◌||◌, ◌==◌, refl, sym, ap, ◌∙◌}
use Rattle.stable.specs.Store.{Image}
use Rattle.v7_map.specs.Frame.{Body, Single, Frame, frame}
use Rattle.v7_map.specs.Tree.{tree, links, is_named}
use Rattle.v7_map.proofs.AnyFrame.{frame-IsFrame}
use Rattle.v7_map.proofs.Undamaged.{weak_without_damage}
use Rattle.v7_map.proofs.Used.{named_used}
use Rattle.v7_damage.specs.declared.tested.Undamaged.{Undamaged}
use Rattle.v7_damage.specs.Undamaged.{IsUndamaged}
use Rattle.v7_damage.specs.Summaries.{is_tidy, needs, sectors_in_size}
use Rattle.v7_inspect.specs.Tidy.{is_strong_at}
use Rattle.v7_inspect.specs.Usage.{needs_block, is_needed_by, named_needs}
use Rattle.v7_damage.proofs.Ranges.{or_none}

module _ (image : Image) (i : ℕ) where
  abbrev f : Frame
  f = frame image

  pub unnamed_needs : is_named (tree f) i ≡ false → 0 ≡ named_needs image i
  unnamed_needs none = sym (ap (λ b. cond b (needs f i) 0) none)

  pub unnamed_marks : is_named (tree f) i ≡ false → (mark : Bool) (b : ℕ) → mark ≡ (mark || is_needed_by image b i)
  unfolding is_needed_by
  unnamed_marks none mark b =
      sym (ap (λ a. mark || (a && needs_block (λ k. f.address i (Body k)) (f.address i Single) (sectors_in_size (f.head i).size) b)) none ∙ or_none mark)

  by_free : (free x y : Bool) → free ≡ (not (not free) || (x && (false && y)))
  by_free true x y = refl
  by_free false true y = refl
  by_free false false y = refl

  -- nothing is to mend in what is free alone
  pub unnamed_strong : is_named (tree f) i ≡ false → (type : ℕ) → (f.head i).is_used ≡ not (type == 0) → (type == 0) ≡ is_strong_at f i
  unfolding is_strong_at
  unnamed_strong none type used =
      let tidy : Bool = is_tidy (λ k. f.address i (Body k)) (f.address i Single) (f.head i).size in
      by_free (type == 0) ((f.head i).nlink == links (tree f) i) tidy
      ∙ (λ z. not (sym used z) || (((f.head i).nlink == links (tree f) i) && (sym none z && tidy)))

  -- a named inode is used
  pub named_here : (known : Undamaged) → IsUndamaged image known → is_named (tree f) i ≡ true → (f.head i).is_used ≡ true
  named_here known is named = let any = frame-IsFrame image in named_used f (weak_without_damage f any is.undamaged) any.directories i named
