-- One sector more of the data puts.
use Rattle.std.proofs.Common.{◌≡◌, ◌≢◌, ℕ, zero, suc, ◌+◌, ◌/◌, ◌%◌, ◌==◌, not, ltb, eq-eqb, Bool, true, false, cond, List, [], ◌∷◌, ◌++◌, map, get_or, refl, ap, ◌∙◌, arith}
use Rattle.std.proofs.lemmas.List.{map-append}
use Rattle.std.proofs.lemmas.List.Elements.{filter-append}
use Rattle.std.specs.List.{range_with_len, filter, list_any}
use Rattle.files_model.specs.declared.call.WriteItem.{WriteItem}
use Rattle.files_model.specs.Batch.{touches}
use Rattle.stable.specs.Store.{Image}
use Rattle.v7_map.proofs.Frames.{and_left, and_right}
use Rattle.plan_file.specs.Contents.{old_content, content_put, content_puts, cuts, cut_puts}

range_last : (a n : ℕ) → range_with_len a (suc n) ≡ range_with_len a n ++ (a + n) ∷ []
range_last a zero = let e : a ≡ a + 0 = omega arith in ap (λ x. x ∷ []) e
range_last a (suc n) = let e : (a + 1) + n ≡ a + suc n = omega arith in ap (λ l. a ∷ l) (range_last (a + 1) n ∙ ap (λ x. range_with_len (a + 1) n ++ x ∷ []) e)

pub range_next : (i : ℕ) → range_with_len 0 (i + 1) ≡ range_with_len 0 i ++ i ∷ []
range_next i = let s : i + 1 ≡ suc i = omega arith in let e : 0 + i ≡ i = omega arith in ap (range_with_len 0) s ∙ range_last 0 i ∙ ap (λ x. range_with_len 0 i ++ x ∷ []) e

module _ (image : Image) (size : ℕ) (body target : List ℕ) (ws : List WriteItem) (i : ℕ) where
  abbrev puts : List ℕ → List (ℕ × List ℕ)
  puts ks = content_puts image size body target ws ks

  pub content-none : content_puts image size body target ws [] ≡ []
  unfolding content_puts
  content-none = refl

  next : (t : Bool) → list_any (touches i) ws ≡ t → puts (range_with_len 0 (i + 1)) ≡ puts (range_with_len 0 i) ++ map (content_put image size body target ws) (cond t (i ∷ []) [])
  unfolding content_puts
  next t e =
      ap (λ l. map (content_put image size body target ws) (filter (λ k. list_any (touches k) ws) l)) (range_next i)
      ∙ ap (map (content_put image size body target ws)) (filter-append (λ k. list_any (touches k) ws) (range_with_len 0 i) (i ∷ []))
      ∙ map-append (content_put image size body target ws) (filter (λ k. list_any (touches k) ws) (range_with_len 0 i)) (filter (λ k. list_any (touches k) ws) (i ∷ []))
      ∙ ap (λ c. map (content_put image size body target ws) (filter (λ k. list_any (touches k) ws) (range_with_len 0 i)) ++ map (content_put image size body target ws) (cond c (i ∷ []) [])) e

  pub content-skip : list_any (touches i) ws ≡ false → content_puts image size body target ws (range_with_len 0 (i + 1)) ≡ content_puts image size body target ws (range_with_len 0 i)
  content-skip e = next false e ∙ nil (puts (range_with_len 0 i))
    where
      nil : (xs : List (ℕ × List ℕ)) → xs ++ [] ≡ xs
      nil [] = refl
      nil (x ∷ xs) = ap (λ l. x ∷ l) (nil xs)

  pub content-more : list_any (touches i) ws ≡ true → content_puts image size body target ws (range_with_len 0 (i + 1)) ≡ content_puts image size body target ws (range_with_len 0 i) ++ content_put image size body target ws i ∷ []
  content-more e = next true e

module _ (image : Image) (size new_size : ℕ) (body : List ℕ) (ws : List WriteItem) where
  pub cut-none : cuts size new_size body ws ≡ false → cut_puts image size new_size body ws ≡ []
  unfolding cut_puts
  cut-none e z = cond (e z) ((get_or body (size / 512) 0, old_content image size (size / 512) (get_or body (size / 512) 0)) ∷ []) []

  pub cut-some : cuts size new_size body ws ≡ true → cut_puts image size new_size body ws ≡ (get_or body (size / 512) 0, old_content image size (size / 512) (get_or body (size / 512) 0)) ∷ []
  unfolding cut_puts
  cut-some e z = cond (e z) ((get_or body (size / 512) 0, old_content image size (size / 512) (get_or body (size / 512) 0)) ∷ []) []

  -- and that sector stands
  pub cut-stands : cuts size new_size body ws ≡ true → get_or body (size / 512) 0 ≢ 0
  cut-stands e = let a = and_right (ltb size new_size) _ e in let b = and_right (not (size % 512 == 0)) _ a in let c = and_left (not (get_or body (size / 512) 0 == 0)) _ b in
      λ z. clash (get_or body (size / 512) 0 == 0) (eq-eqb (get_or body (size / 512) 0) 0 z) c
    where
      clash : (t : Bool) → t ≡ true → not t ≡ true → ⊥
      clash true x y = cc
      clash false x y = cc
