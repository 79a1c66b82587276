-- The free blocks after a node lost a name.
use Rattle.std.proofs.Common.{◌≡◌, ◌≢◌, ℕ, ◌<◌, ◌≤◌, true, sym, ap, subst, ◌∙◌, arith, ⊎_elim}
use Rattle.std.proofs.lemmas.Bool.{cases_eq}
use Rattle.v7_map.specs.Frame.{Frame, Place}
use Rattle.v7_sets.specs.Sets.{IsFreeBlock}
use Rattle.v7_map.specs.Weak.{IsWeak}
use Rattle.v7_strokes.specs.Freed.{IsFreed, FreesBlocks}

-- a free block isn't block 0
positive : (f : Frame) (a : ℕ) → IsWeak f → IsFreeBlock f a → a ≢ 0
positive f a weak free z = let low = weak.sizes.low in let from = free.low in omega arith

moved : (f g : Frame) (a : ℕ) → g.isize ≡ f.isize → g.fsize ≡ f.fsize → f.isize ≤ a → a < f.fsize → ((j : ℕ) (p : Place) → g.address j p ≢ a) → IsFreeBlock g a
moved f g a i s low high nowhere = record { low = subst (λ z. z ≤ a) (sym i) low; high = subst (λ z. a < z) (sym s) high; nowhere = nowhere }

pub frees-blocks : (i : ℕ) (f g : Frame) → IsWeak f → IsFreed true i f g → FreesBlocks i f g
frees-blocks i f g weak x = record {
  kept = λ a free. moved f g a x.isize x.fsize free.low free.high (λ j p e. ⊎_elim
      (λ (s : j ≡ i). positive f a weak free (sym e ∙ ap (λ z. g.address z p) s ∙ x.own p))
      (λ (ne : j ≢ i). free.nowhere j p (sym (x.others j ne p) ∙ e))
      (cases_eq j i));
  freed = λ p nz. let d = weak.data_block i p nz in moved f g (f.address i p) x.isize x.fsize d.0 d.1 (λ j q e. ⊎_elim
      (λ (s : j ≡ i). nz (sym e ∙ ap (λ z. g.address z q) s ∙ x.own q))
      (λ (ne : j ≢ i). ne (sym (weak.unshared i j p q nz (sym e ∙ x.others j ne q)).0))
      (cases_eq j i));
  only = λ a free mine. moved g f a (sym x.isize) (sym x.fsize) free.low free.high (λ j p e. ⊎_elim
      (λ (s : j ≡ i). mine p (ap (λ z. f.address z p) (sym s) ∙ e))
      (λ (ne : j ≢ i). free.nowhere j p (x.others j ne p ∙ e))
      (cases_eq j i));
}
