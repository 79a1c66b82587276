-- What was lent and came back.
use Rattle.std.proofs.Common.{◌≡◌, ℕ, List, [], ◌∷◌, ◌++◌, Option, Some, None, refl, sym, ap, ◌∙◌, append-nil, append_assoc}
use Rattle.std.specs.Option.{option_map}
use Rattle.rig.specs.Links.{gains}
use Rattle.run_lines.specs.Told.{Loan}

-- nothing was lent
pub lent_none : {A : Type 0} (told : Option (List A)) → told ≡ option_map (λ rest. [] ++ rest) told
lent_none None = refl
lent_none (Some xs) = refl

map_both : {A : Type 0} (xs ys : List A) (told : Option (List A)) → option_map (λ rest. xs ++ rest) (option_map (λ rest. ys ++ rest) told) ≡ option_map (λ rest. (xs ++ ys) ++ rest) told
map_both xs ys None = refl
map_both xs ys (Some zs) = ap Some (sym (append_assoc xs ys zs))

-- these were lent, and then those
pub lent_both : {A : Type 0} (xs ys : List A) (first mid last : Option (List A)) → first ≡ option_map (λ rest. xs ++ rest) mid → mid ≡ option_map (λ rest. ys ++ rest) last
    → first ≡ option_map (λ rest. (xs ++ ys) ++ rest) last
lent_both xs ys first mid last before after = before ∙ ap (option_map (λ rest. xs ++ rest)) after ∙ map_both xs ys last

more_both : {A : Type 0} (xs ys : List A) (told : Option (List A)) → option_map (λ before. before ++ ys) (option_map (λ before. before ++ xs) told) ≡ option_map (λ before. before ++ (xs ++ ys)) told
more_both xs ys None = refl
more_both xs ys (Some zs) = ap Some (append_assoc zs xs ys)

-- these came back, and then those
pub took_both : {A : Type 0} (xs ys : List A) (first mid last : Option (List A)) → mid ≡ option_map (λ before. before ++ xs) first → last ≡ option_map (λ before. before ++ ys) mid
    → last ≡ option_map (λ before. before ++ (xs ++ ys)) first
took_both xs ys first mid last before after = after ∙ ap (option_map (λ told. told ++ ys)) before ∙ more_both xs ys first

-- nothing came back
pub took_none : {A : Type 0} (told : Option (List A)) → told ≡ option_map (λ before. before ++ []) told
took_none None = refl
took_none (Some before) = ap Some (sym (append-nil before))

module _ {S A : Type 0} {left_of : S → Option (List A)} {back_of : S → Option (List (ℕ × A))} where
  -- nothing was lent
  pub loan_none : {old new : S} → left_of new ≡ left_of old → back_of new ≡ back_of old → Loan left_of back_of old new [] []
  loan_none {old} {new} left back = record { lent = sym left ∙ lent_none (left_of new); returned = back ∙ took_none (back_of old) }

  -- one thing was lent, and came back
  pub loan_one : {old last : S} (mid : S) {thing back : A} → left_of old ≡ option_map (λ rest. thing ∷ rest) (left_of mid) → back_of mid ≡ back_of old
      → left_of last ≡ left_of mid → back_of last ≡ gains (back_of mid) (0, back) → Loan left_of back_of old last (thing ∷ []) ((0, back) ∷ [])
  loan_one mid {thing = thing} {back = back} gave kept left returned = record {
    lent = gave ∙ ap (option_map (λ rest. thing ∷ rest)) (sym left);
    returned = returned ∙ ap (option_map (λ before. before ++ (0, back) ∷ [])) kept;
  }

  -- what was lent from the middle on, where nothing was before and after
  pub loan_within : {a b c d : S} {given : List A} {backs : List (ℕ × A)} → left_of b ≡ left_of a → back_of b ≡ back_of a
      → Loan left_of back_of b c given backs → left_of d ≡ left_of c → back_of d ≡ back_of c → Loan left_of back_of a d given backs
  loan_within {given = given} {backs = backs} left back p left' back' = record {
    lent = sym left ∙ p.lent ∙ ap (option_map (λ rest. given ++ rest)) (sym left');
    returned = back' ∙ p.returned ∙ ap (option_map (λ before. before ++ backs)) back;
  }
