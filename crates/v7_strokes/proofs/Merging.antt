-- Puts of one sector that follow each other are one put: a plan stays a plan.
use Rattle.std.proofs.Common.{◌≡◌, ℕ, zero, suc, ◌+◌, ◌-◌, ◌<◌, ◌≤◌, Bool, true, false, not, cond, ◌&&◌, ◌==◌, List, [], ◌∷◌, ◌++◌, length, length-set, length-append, get_or, set, refl, sym, ap, subst, ◌∙◌, arith, eqb}
use Rattle.std.proofs.lemmas.Bool.{eqb-true, ne_eqb}
use Rattle.std.specs.List.{AllByRecursion}
use Rattle.files_model.specs.Torn.{Asked}
use Rattle.stable.specs.Store.{Image}
use Rattle.stable.specs.Puts.{put_all, EachPrefix, ends_with, with_put}
use Rattle.v7_map.specs.Plans.{IsTornImage, IsPlanOf}
use Rattle.v7_map.specs.View.{view}
use Rattle.v7_map.specs.Weak.{IsStrong}
use Rattle.v7_map.specs.Frame.{frame}
use Rattle.v7_strokes.specs.Merged.{merged}

pub set_twice : {X : Type 0} (xs : List X) (i : ℕ) (x y : X) → set (set xs i x) i y ≡ set xs i y
set_twice [] i x y = refl
set_twice (z ∷ zs) zero x y = refl
set_twice (z ∷ zs) (suc i) x y = ap (λ l. z ∷ l) (set_twice zs i x y)

-- a sector that is put again
again : (image : Image) (p q : ℕ × List ℕ) → p.0 ≡ q.0 → set (set image p.0 p.1) q.0 q.1 ≡ set image q.0 q.1
again image p q e = ap (λ s. set (set image s p.1) q.0 q.1) e ∙ set_twice image q.0 p.1 q.1

pub merged-all : (puts : List (ℕ × List ℕ)) (image : Image) → put_all (merged puts) image ≡ put_all puts image
merged-all [] image = refl
merged-all (p ∷ []) image = refl
merged-all (p ∷ q ∷ puts) image = elim (eqb p.0 q.0) as (λ b. eqb p.0 q.0 ≡ b → put_all (cond b (merged (q ∷ puts)) (p ∷ merged (q ∷ puts))) image ≡ put_all (p ∷ q ∷ puts) image) [
  | true ↦ λ e. merged-all (q ∷ puts) image ∙ ap (put_all puts) (sym (again image p q (eqb-true p.0 q.0 e)))
  | false ↦ λ e. merged-all (q ∷ puts) (set image p.0 p.1)
] refl

merged-each : (P : ℕ × List ℕ → Type 0) (puts : List (ℕ × List ℕ)) → AllByRecursion P puts → AllByRecursion P (merged puts)
merged-each P [] h = h
merged-each P (p ∷ []) h = h
merged-each P (p ∷ q ∷ puts) h = elim (eqb p.0 q.0) as (λ b. AllByRecursion P (cond b (merged (q ∷ puts)) (p ∷ merged (q ∷ puts)))) [
  | true ↦ merged-each P (q ∷ puts) h.1
  | false ↦ (h.0, merged-each P (q ∷ puts) h.1)
]

merged-prefixes : (P : Image → Type 0) (puts : List (ℕ × List ℕ)) (image : Image) → EachPrefix P puts image → EachPrefix P (merged puts) image
merged-prefixes P [] image h = h
merged-prefixes P (p ∷ []) image h = h
merged-prefixes P (p ∷ q ∷ puts) image h = elim (eqb p.0 q.0) as (λ b. eqb p.0 q.0 ≡ b → EachPrefix P (cond b (merged (q ∷ puts)) (p ∷ merged (q ∷ puts))) image) [
  | true ↦ λ e. merged-prefixes P (q ∷ puts) image (h.0, subst (EachPrefix P puts) (again image p q (eqb-true p.0 q.0 e)) h.1.1)
  | false ↦ λ e. (h.0, merged-prefixes P (q ∷ puts) (set image p.0 p.1) h.1)
] refl

pub merged-plan : (image : Image) (calls : List Asked) (now : ℕ) (puts : List (ℕ × List ℕ)) → IsPlanOf image calls now puts → IsPlanOf image calls now (merged puts)
merged-plan image calls now puts plan = record {
  past = merged-each (λ put. 2 ≤ put.0) puts plan.past;
  inside = merged-each (λ put. put.0 < length image) puts plan.inside;
  whole = merged-each (λ put. length put.1 ≡ 512) puts plan.whole;
  prefixes = merged-prefixes (IsTornImage (view image) calls now) puts image plan.prefixes;
  strong = subst (λ i. IsStrong (frame i)) (sym (merged-all puts image)) plan.strong;
  after = ap view (merged-all puts image) ∙ plan.after;
}

-- ---- a put that takes the place of the last one, step by step

-- the merged puts of some are some
merged_some : (y : ℕ × List ℕ) (ys : List (ℕ × List ℕ)) → (z : ℕ × List ℕ) × (zs : List (ℕ × List ℕ)) × (merged (y ∷ ys) ≡ z ∷ zs)
merged_some y [] = (y, [], refl)
merged_some y (q ∷ l) = elim (eqb y.0 q.0) as (λ b. (z : ℕ × List ℕ) × (zs : List (ℕ × List ℕ)) × (cond b (merged (q ∷ l)) (y ∷ merged (q ∷ l)) ≡ z ∷ zs)) [
  | true ↦ merged_some q l
  | false ↦ (y, merged (q ∷ l), refl)
]

ends-more : (x y : ℕ × List ℕ) (l : List (ℕ × List ℕ)) (s : ℕ) → ends_with (x ∷ y ∷ l) s ≡ ends_with (y ∷ l) s
ends-more x y l s =
    let e : length (x ∷ y ∷ l) - 1 ≡ suc (length (y ∷ l) - 1) = omega arith in
    (λ z. not (ne_eqb (length (x ∷ y ∷ l)) 0 (λ h. absurd (omega arith)) z) && ((get_or (x ∷ y ∷ l) (e z) (0, [])).0 == s))
    ∙ sym (λ z. not (ne_eqb (length (y ∷ l)) 0 (λ h. absurd (omega arith)) z) && ((get_or (y ∷ l) (length (y ∷ l) - 1) (0, [])).0 == s))

with_put-more : (x y p : ℕ × List ℕ) (l : List (ℕ × List ℕ)) → with_put (x ∷ y ∷ l) p ≡ x ∷ with_put (y ∷ l) p
with_put-more x y p l =
    let e : length (x ∷ y ∷ l) - 1 ≡ suc (length (y ∷ l) - 1) = omega arith in
    (λ z. cond (ends-more x y l p.0 z) (set (x ∷ y ∷ l) (e z) p) (x ∷ y ∷ (l ++ p ∷ [])))
    ∙ pushed (ends_with (y ∷ l) p.0)
  where
    pushed : (b : Bool) → cond b (x ∷ set (y ∷ l) (length (y ∷ l) - 1) p) (x ∷ y ∷ (l ++ p ∷ [])) ≡ x ∷ cond b (set (y ∷ l) (length (y ∷ l) - 1) p) (y ∷ (l ++ p ∷ []))
    pushed true = refl
    pushed false = refl

-- each put that takes the place of the last one of its sector, one after the other, merges them
pub merged-with : (puts : List (ℕ × List ℕ)) (p : ℕ × List ℕ) → merged (puts ++ p ∷ []) ≡ with_put (merged puts) p
merged-with [] p = refl
merged-with (x ∷ []) p = refl
merged-with (x ∷ y ∷ l) p = elim (eqb x.0 y.0) as (λ b. cond b (merged (y ∷ (l ++ p ∷ []))) (x ∷ merged (y ∷ (l ++ p ∷ []))) ≡ with_put (cond b (merged (y ∷ l)) (x ∷ merged (y ∷ l))) p) [
  | true ↦ merged-with (y ∷ l) p
  | false ↦ ap (λ k. x ∷ k) (merged-with (y ∷ l) p) ∙ pushed (merged_some y l)
]
  where
    pushed : (z : ℕ × List ℕ) × (zs : List (ℕ × List ℕ)) × (merged (y ∷ l) ≡ z ∷ zs) → x ∷ with_put (merged (y ∷ l)) p ≡ with_put (x ∷ merged (y ∷ l)) p
    pushed m = ap (λ k. x ∷ with_put k p) m.2 ∙ sym (with_put-more x m.0 p m.1) ∙ ap (λ k. with_put (x ∷ k) p) (sym m.2)

-- there is at most one more
pub length-with_put : (puts : List (ℕ × List ℕ)) (p : ℕ × List ℕ) → length (with_put puts p) ≤ length puts + 1
length-with_put puts p = elim (ends_with puts p.0) as (λ b. length (cond b (set puts (length puts - 1) p) (puts ++ p ∷ [])) ≤ length puts + 1) [
  | true ↦ let e = length-set puts (length puts - 1) p in omega arith
  | false ↦ let e = length-append puts (p ∷ []) in omega arith
]
