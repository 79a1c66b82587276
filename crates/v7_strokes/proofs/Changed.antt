-- Files of which two nodes are changed, of which the first may be gone.
use Rattle.std.proofs.Common.{◌≡◌, ◌≢◌, ℕ, false, [], ◌∷◌, sym, ap, subst, ◌∙◌, ⊎_elim, Option, Some}
use Rattle.std.proofs.lemmas.Bool.{cases_eq}
use Rattle.std.specs.FinMap.{get, insert}
use Rattle.files_model.specs.Files.{Node, Files}
use Rattle.files_model.specs.Step.{with_node}
use Rattle.files_model.specs.Torn.{Asked, Torn, after_calls, is_write}
use Rattle.files_model.proofs.Maps.{same_maps, get-insert_same, get-insert_other}
use Rattle.v7_strokes.proofs.TornCalls.{IsAfter, same, torn-after}
use Rattle.v7_strokes.proofs.Views.{get-put_same, get-put_other}
use Rattle.v7_strokes.specs.Changes.{changed, put_option}

module _ (files : Files) (i : ℕ) (x : Option Node) (p : ℕ) (y : Node) where
  pub changed-here : get (changed files i x p y).nodes p ≡ Some y
  changed-here = get-insert_same (put_option files.nodes i x) p y

  pub changed-there : i ≢ p → get (changed files i x p y).nodes i ≡ x
  changed-there ne = get-insert_other (put_option files.nodes i x) p y i ne ∙ get-put_same files.nodes i x

  pub changed-other : (j : ℕ) → j ≢ i → j ≢ p → get (changed files i x p y).nodes j ≡ get files.nodes j
  changed-other j ni np = get-insert_other (put_option files.nodes i x) p y j np ∙ get-put_other files.nodes i x j ni

  -- the second node changes again, or the first one
  pub changed-again : (z : Node) → with_node (changed files i x p y) p z ≡ changed files i x p z
  changed-again z w = record files {
    nodes = same_maps (insert (insert (put_option files.nodes i x) p y) p z) (insert (put_option files.nodes i x) p z) (λ q. ⊎_elim
        (λ (e : q ≡ p). subst (λ v. get (insert (insert (put_option files.nodes i x) p y) p z) v ≡ get (insert (put_option files.nodes i x) p z) v) (sym e)
        (get-insert_same (insert (put_option files.nodes i x) p y) p z ∙ sym (get-insert_same (put_option files.nodes i x) p z)))
        (λ (ne : q ≢ p). get-insert_other (insert (put_option files.nodes i x) p y) p z q ne ∙ get-insert_other (put_option files.nodes i x) p y q ne ∙ sym (get-insert_other (put_option files.nodes i x) p z q ne))
        (cases_eq q p)) w;
  }

  pub changed-first : i ≢ p → (z : Node) → with_node (changed files i x p y) i z ≡ changed files i (Some z) p y
  changed-first apart z w = record files {
    nodes = same_maps (insert (insert (put_option files.nodes i x) p y) i z) (insert (insert files.nodes i z) p y) (λ q. ⊎_elim
        (λ (e : q ≡ i). subst (λ v. get (insert (insert (put_option files.nodes i x) p y) i z) v ≡ get (insert (insert files.nodes i z) p y) v) (sym e)
        (get-insert_same (insert (put_option files.nodes i x) p y) i z ∙ sym (get-insert_other (insert files.nodes i z) p y i apart ∙ get-insert_same files.nodes i z)))
        (λ (ne : q ≢ i). get-insert_other (insert (put_option files.nodes i x) p y) i z q ne ∙ ⊎_elim
        (λ (s : q ≡ p). subst (λ v. get (insert (put_option files.nodes i x) p y) v ≡ get (insert (insert files.nodes i z) p y) v) (sym s) (get-insert_same (put_option files.nodes i x) p y ∙ sym (get-insert_same (insert files.nodes i z) p y)))
        (λ (np : q ≢ p). get-insert_other (put_option files.nodes i x) p y q np ∙ get-put_other files.nodes i x q ne ∙ sym (get-insert_other (insert files.nodes i z) p y q np ∙ get-insert_other files.nodes i z q ne))
        (cases_eq q p))
        (cases_eq q i)) w;
  }

-- such files are torn where each of the two is that after the call, or has the times before it
pub torn-two : (files : Files) (asked : Asked) (now : ℕ) (i : ℕ) (x a : Option Node) (p : ℕ) (y b : Node) (torn : Files) → is_write asked.0 ≡ false → i ≢ p
    → after_calls files (asked ∷ []) now ≡ changed files i a p b → torn ≡ changed files i x p y
    → IsAfter (get files.nodes i) a x → IsAfter (get files.nodes p) (Some b) (Some y) → Torn files (asked ∷ []) now torn
torn-two files asked now i x a p y b torn kind apart after is first second = torn-after files asked now torn kind
    (λ j. ⊎_elim
    (λ (e : j ≡ p). subst (λ q. IsAfter (get files.nodes q) (get (after_calls files (asked ∷ []) now).nodes q) (get torn.nodes q)) (sym e)
    (moved (sym (ap (λ (f : Files). get f.nodes p) after ∙ changed-here files i a p b)) (sym (ap (λ (f : Files). get f.nodes p) is ∙ changed-here files i x p y)) second))
    (λ (np : j ≢ p). ⊎_elim
    (λ (e : j ≡ i). subst (λ q. IsAfter (get files.nodes q) (get (after_calls files (asked ∷ []) now).nodes q) (get torn.nodes q)) (sym e)
    (moved (sym (ap (λ (f : Files). get f.nodes i) after ∙ changed-there files i a p b apart)) (sym (ap (λ (f : Files). get f.nodes i) is ∙ changed-there files i x p y apart)) first))
    (λ (ni : j ≢ i). same (ap (λ (f : Files). get f.nodes j) is ∙ changed-other files i x p y j ni np ∙ sym (ap (λ (f : Files). get f.nodes j) after ∙ changed-other files i a p b j ni np)))
    (cases_eq j i))
    (cases_eq j p))
    ((λ z. record (is z) { nodes = torn.nodes }) ∙ (λ z. record (sym after z) { nodes = torn.nodes }))
  where
    moved : {o a b x y : Option Node} → a ≡ b → x ≡ y → IsAfter o a x → IsAfter o b y
    moved {o = o} {b = b} {x = x} s t h = subst (λ z. IsAfter o b z) t (subst (λ z. IsAfter o z x) s h)
