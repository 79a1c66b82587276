-- Calls on a board, one after the other.
use Rattle.std.proofs.Common.{◌≡◌, ◌⊎◌, inl, inr, ℕ, List, Result, Ok, Err, OnOk, OnErr, subst}
use Rattle.rig.specs.Devices.{Devices, Sizes}
use Rattle.stable.specs.Moments.{IsClocked, LeavesOnly}
use Rattle.stable.proofs.Clocked.{goes_on, ends}

pub on_result : {T E : Type 0} {P Q : Type 0} (r : Result T E) → OnOk r P → OnErr r Q → P ⊎ Q
on_result (Ok x) p q = inl p
on_result (Err e) p q = inr q

-- what follows where a call was done, or failed
pub on_ok : {T E : Type 0} {P Q : Type 0} → (P → Q) → (r : Result T E) → OnOk r P → OnOk r Q
on_ok f (Ok x) p = f p
on_ok f (Err e) p = p

pub on_err : {T E : Type 0} {P : Type 0} (r : Result T E) → P → OnErr r P
on_err (Ok x) p = tt
on_err (Err e) p = p

-- the same put, at sizes, a sector and bytes that are equal
pub puts_at : (P : Sizes → ℕ → List ℕ → Devices → Devices → Type 0) {sizes other : Sizes} {s t : ℕ} {x y : List ℕ} {old d : Devices} → other ≡ sizes → t ≡ s → y ≡ x → P other t y old d → P sizes s x old d
puts_at P {sizes} {other} {s} {t} {x} {y} {old} {d} a b c p =
    subst (λ z. P z s x old d) a (subst (λ n. P other n x old d) b (subst (λ l. P other t l old d) c p))

-- A call more, where what holds of one call and of the next holds of both. `P` is such as `PutsOnBoard sizes s x`, and `again` as `put_again_on_board`.
pub runs_on : {R I : Type 0} {tells : Type 0} {contents : R → I} {moment : R → ℕ} {left_since : R → ℕ → I → Type 0} → IsClocked tells contents moment left_since → {old mid new : R} {Q : I → Type 0}
    → (P : I → I → Type 0) → ((a b c : I) → P a b → P b c → P a c)
    → LeavesOnly moment left_since old mid (P (contents old)) → LeavesOnly moment left_since mid new Q → (tells → (d : I) → Q d → P (contents mid) d) → LeavesOnly moment left_since old new (P (contents old))
runs_on {contents = contents} clocked {old} {mid} P again so_far call is =
    goes_on so_far call (λ d left q. let tells = clocked.told _ _ d left in again (contents old) (contents mid) d (ends clocked so_far tells) (is tells d q))
