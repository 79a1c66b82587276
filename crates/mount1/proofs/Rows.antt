-- Rows that fit, one by one and after some are removed.
use Rattle.std.proofs.Common.{◌≡◌, ℕ, suc, zero, ◌<◌, ◌≤◌, Bool, true, false, List, [], ◌∷◌, length, get_or, cond, subst, sym, arith}
use Rattle.std.specs.List.{AllByRecursion, filter}
use Rattle.std.proofs.lemmas.List.Sums.{length-filter, count_by-le-length}
use Rattle.mount1.specs.declared.list.Row.{Row}
use Rattle.mount1.specs.Rows.{Fits, AreRows}

pub row_at : (rows : List Row) (i : ℕ) (row : Row) → AllByRecursion Fits rows → i < length rows → row ≡ get_or rows i row → Fits row
row_at [] i row fit lt here = absurd (omega arith)
row_at (r ∷ rs) zero row fit lt here = subst Fits (sym here) fit.0
row_at (r ∷ rs) (suc i) row fit lt here = row_at rs i row fit.1 (omega arith) here

still_fit : (p : Row → Bool) (rows : List Row) → AllByRecursion Fits rows → AllByRecursion Fits (filter p rows)
still_fit p [] fit = tt
still_fit p (r ∷ rs) fit = elim (p r) as (λ b. AllByRecursion Fits (cond b (r ∷ filter p rs) (filter p rs))) [
  | true ↦ (fit.0, still_fit p rs fit.1)
  | false ↦ still_fit p rs fit.1
]

-- some that are left are rows
pub still : (p : Row → Bool) (rows left : List Row) → left ≡ filter p rows → AreRows rows → AreRows left
still p rows left is are =
    let fewer : length (filter p rows) ≤ 64 = omega (arith, length-filter p rows, count_by-le-length p rows, are.few) in
    subst AreRows (sym is) (record { few = fewer; fit = still_fit p rows are.fit })
