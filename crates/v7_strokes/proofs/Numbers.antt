-- The i-numbers that are free after an inode that no name leads to changed.
use Rattle.std.proofs.Common.{◌≡◌, ◌≢◌, ℕ, ◌+◌, ◌-◌, ◌^◌, ◌<◌, ◌≤◌, false, List, set, sym, ap, subst, ◌∙◌, arith, Some}
use Rattle.std.specs.FinMap.{get}
use Rattle.v7_layout.specs.declared.inode.Inode.{Inode}
use Rattle.files_model.specs.Files.{Files}
use Rattle.files_model.proofs.Maps.{get-insert_same, get-insert_other}
use Rattle.stable.specs.Store.{Image}
use Rattle.v7_map.specs.Image.{inode_sector, inodes_before}
use Rattle.v7_map.specs.Frame.{Head, head_of, frame}
use Rattle.v7_map.specs.Tree.{tree, is_named}
use Rattle.v7_map.specs.View.{view}
use Rattle.v7_map.specs.Weak.{IsWeak}
use Rattle.v7_map.specs.Plan.{PutsInode}
use Rattle.v7_plans.specs.Placed.{IsPlaced}
use Rattle.v7_strokes.specs.Freed.{ChangesNumber}
use Rattle.v7_strokes.proofs.Unnamed.{unnamed-sizes, unnamed-head, unnamed-heads, unnamed-view}

module _ (old : Image) (i : ℕ) (bytes : List ℕ) (n : Inode) (weak : IsWeak (frame old)) (puts : PutsInode old i bytes n) (placed : IsPlaced old i (head_of n))
    (low : 3 ≤ i) (unnamed : is_named (tree (frame old)) i ≡ false) (within : i < (tree (frame old)).inodes + 1) where
  new : Image
  new = set old (inode_sector i) bytes

  sizes : inodes_before (frame new).isize ≡ inodes_before (frame old).isize
  unfolding new
  sizes = ap inodes_before (unnamed-sizes old i bytes n weak puts placed low unnamed).0

  other : (j : ℕ) → j ≢ i → get (view new).generations j ≡ get (view old).generations j
  unfolding new
  other j ne = ap (λ (f : Files). get f.generations j) (unnamed-view old i bytes n weak puts placed low unnamed within) ∙ get-insert_other (view old).generations i n.generation j ne

  here : get (view new).generations i ≡ Some n.generation
  unfolding new
  here = ap (λ (f : Files). get f.generations i) (unnamed-view old i bytes n weak puts placed low unnamed within) ∙ get-insert_same (view old).generations i n.generation

  head : (frame new).head i ≡ head_of n
  unfolding new
  head = unnamed-head old i bytes n weak puts placed low unnamed

  heads : (j : ℕ) → j ≢ i → (frame new).head j ≡ (frame old).head j
  unfolding new
  heads j ne = unnamed-heads old i bytes n weak puts placed low unnamed j ne

  some_is : (x y : ℕ) → Some x ≡ Some y → x ≡ y
  some_is x y e = cc

  pub unnamed-numbers : ChangesNumber old (set old (inode_sector i) bytes) i n
  unfolding new
  unnamed-numbers = record {
    kept = λ j ne free. record {
      past = free.past;
      within = subst (λ m. j ≤ m) (sym sizes) free.within;
      unused = ap (λ (h : Head). h.is_used) (heads j ne) ∙ free.unused;
      fresh = λ g e. free.fresh g (sym (other j ne) ∙ e);
    };
    only = λ j ne free. record {
      past = free.past;
      within = subst (λ m. j ≤ m) sizes free.within;
      unused = sym (ap (λ (h : Head). h.is_used) (heads j ne)) ∙ free.unused;
      fresh = λ g e. free.fresh g (other j ne ∙ e);
    };
    freed = λ unused fresh. record {
      past = low;
      within = subst (λ m. i ≤ m) (sym sizes) (omega arith);
      unused = ap (λ (h : Head). h.is_used) head ∙ unused;
      fresh = λ g e. subst (λ m. m < 2 ^ 32 - 1) (some_is n.generation g (sym here ∙ e)) fresh;
    };
    if_free = λ free. (sym (ap (λ (h : Head). h.is_used) head) ∙ free.unused, free.fresh n.generation here);
  }
