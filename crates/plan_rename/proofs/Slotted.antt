-- A name that passes the tests fits a slot.
use Rattle.std.proofs.Common.{◌≡◌, ◌≢◌, ℕ, zero, suc, ◌<◌, ◌≤◌, Bool, true, false, not, ◌||◌, ◌==◌, List, [], ◌∷◌, ◌++◌, length, get_or, None, refl, sym, ap, ◌∙◌, arith, ltb, eqb, eq-eqb}
use Rattle.std.specs.List.{list_any}
use Rattle.files_model.specs.declared.reply.Stat.TheVariants as stat
use Rattle.files_model.specs.Answers.{first_of}
use Rattle.files_model.specs.Names.{is_bad, is_dots, most_name, name_tests}
use Rattle.name_plans.proofs.CreatingAccepted.{first_none}
use Rattle.plan_name.specs.Creations.{FitsSlot}

clash : {b : Bool} → b ≡ true → b ≡ false → ⊥
clash {b = b} x y = cc

or_none : (a b : Bool) → (a || b) ≡ false → (a ≡ false) × (b ≡ false)
or_none true b e = absurd (cc)
or_none false b e = (refl, e)

not_less : (x y : ℕ) → ltb x y ≡ false → y ≤ x
not_less x y e = grind arith

no_zero : (xs : List ℕ) → list_any (λ b. (b == 0) || (b == 47)) xs ≡ false → (k d : ℕ) → k < length xs → get_or xs k d ≢ 0
no_zero [] h k d lt e = absurd (omega arith)
no_zero (x ∷ xs) h zero d lt e = clash (eq-eqb x 0 e) (or_none (x == 0) (x == 47) (or_none ((x == 0) || (x == 47)) (list_any (λ b. (b == 0) || (b == 47)) xs) h).0).0
no_zero (x ∷ xs) h (suc k) d lt e = no_zero xs (or_none ((x == 0) || (x == 47)) (list_any (λ b. (b == 0) || (b == 47)) xs) h).1 k d (omega arith) e

pub passed-fits : (a b c : Bool) (name new_name : List ℕ) → first_of ((a, stat.Rofs) ∷ (b, stat.Notdir) ∷ (c, stat.Notdir) ∷ name_tests name ++ name_tests new_name) ≡ None → FitsSlot new_name
passed-fits a b c name new_name e =
    let t1 = first_none a stat.Rofs ((b, stat.Notdir) ∷ (c, stat.Notdir) ∷ name_tests name ++ name_tests new_name) e in
    let t2 = first_none b stat.Notdir ((c, stat.Notdir) ∷ name_tests name ++ name_tests new_name) t1.1 in
    let t3 = first_none c stat.Notdir (name_tests name ++ name_tests new_name) t2.1 in
    let t4 = first_none (is_bad name || is_dots name) stat.Acces ((ltb most_name (length name), stat.Nametoolong) ∷ name_tests new_name) t3.1 in
    let t5 = first_none (ltb most_name (length name)) stat.Nametoolong (name_tests new_name) t4.1 in
    let t6 = first_none (is_bad new_name || is_dots new_name) stat.Acces ((ltb most_name (length new_name), stat.Nametoolong) ∷ []) t5.1 in
    let t7 = first_none (ltb most_name (length new_name)) stat.Nametoolong [] t6.1 in
    let bad = or_none (is_bad new_name) (is_dots new_name) t6.0 in
    (not_less 14 (length new_name) t7.0, no_zero new_name (or_none (length new_name == 0) (list_any (λ b. (b == 0) || (b == 47)) new_name) bad.0).1)
