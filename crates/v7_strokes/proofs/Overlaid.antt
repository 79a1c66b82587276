-- An image read through puts.
use Rattle.std.proofs.Common.{◌≡◌, ◌≢◌, ℕ, ◌+◌, ◌<◌, cond, List, [], ◌∷◌, ◌++◌, length, get_or, set, refl, sym, ap, subst, ◌∙◌, ⊎_elim, length-set, get_or-set_other, get_or-set_same, ◌==◌, if◌then◌else◌}
use Rattle.std.proofs.lemmas.Bool.{cases_eq, ne_eqb}
use Rattle.std.proofs.Common.{eq-eqb, take}
use Rattle.std.proofs.lemmas.List.{take_more}
use Rattle.stable.specs.Puts.{put_all}
use Rattle.stable.specs.Store.{Image}
use Rattle.v7_strokes.specs.Over.{sector_after}

pub sector_after-more : (xs : List (ℕ × List ℕ)) (p : ℕ × List ℕ) (s : ℕ) (b : List ℕ) → sector_after (xs ++ p ∷ []) s b ≡ (if p.0 == s then p.1 else sector_after xs s b)
sector_after-more [] p s b = refl
sector_after-more (x ∷ xs) p s b = sector_after-more xs p s (if x.0 == s then x.1 else b)

-- one put
after_set : (image : Image) (p : ℕ × List ℕ) (s : ℕ) → s < length image → get_or (set image p.0 p.1) s [] ≡ (if p.0 == s then p.1 else get_or image s [])
after_set image p s lt = ⊎_elim
    (λ (e : p.0 ≡ s). subst (λ z. get_or (set image z p.1) s [] ≡ p.1) (sym e) (get_or-set_same image s p.1 [] lt) ∙ ap (λ b. cond b p.1 (get_or image s [])) (sym (eq-eqb p.0 s e)))
    (λ (ne : p.0 ≢ s). get_or-set_other image p.0 s p.1 [] (λ e. ne (sym e)) ∙ ap (λ b. cond b p.1 (get_or image s [])) (sym (ne_eqb p.0 s ne)))
    (cases_eq p.0 s)

pub sector_after-all : (puts : List (ℕ × List ℕ)) (image : Image) (s : ℕ) → s < length image → sector_after puts s (get_or image s []) ≡ get_or (put_all puts image) s []
sector_after-all [] image s lt = refl
sector_after-all (p ∷ ps) image s lt = ap (sector_after ps s) (sym (after_set image p s lt)) ∙ sector_after-all ps (set image p.0 p.1) s (subst (λ n. s < n) (sym (length-set image p.0 p.1)) lt)

-- one put more
pub sector_after-step : (puts : List (ℕ × List ℕ)) (k s : ℕ) (b now : List ℕ) (d : ℕ × List ℕ) → k < length puts → now ≡ sector_after (take k puts) s b
    → (if (get_or puts k d).0 == s then (get_or puts k d).1 else now) ≡ sector_after (take (k + 1) puts) s b
sector_after-step puts k s b now d lt is =
    ap (λ z. if (get_or puts k d).0 == s then (get_or puts k d).1 else z) is
    ∙ sym (sector_after-more (take k puts) (get_or puts k d) s b) ∙ ap (λ l. sector_after l s b) (sym (take_more puts k d lt))
