-- The place of a sector of a body.
use Rattle.std.proofs.Common.{◌≡◌, ℕ, ◌+◌, ◌-◌, ◌<◌, ◌≤◌, true, false, cond, List, sym, ap, subst, ◌∙◌, arith, ⊎_elim, eqb, ltb}
use Rattle.std.proofs.lemmas.Bool.{cases_lt, lt-ltb, le-ltb, ne_eqb}
use Rattle.v7_layout.specs.declared.inode.Inode.{Inode}
use Rattle.v7_map.specs.Frame.{Frame, Body, Single, Double}
use Rattle.v7_map.specs.Damage.{place_at}
use Rattle.v7_damage.specs.Stored.{place_of_body, body_at}
use Rattle.v7_damage.specs.Tests.{HasInode}

pub place-body : (k : ℕ) → k < 138 → (place_of_body k < 140) × (place_at (place_of_body k) ≡ Body k)
place-body k can = ⊎_elim
    (λ (lt : k < 10). let e : ltb k 10 ≡ true = lt-ltb k 10 lt in let i : place_of_body k ≡ k = ap (λ b. cond b k (k + 1)) e in
    (subst (λ z. z < 140) (sym i) (omega arith), ap place_at i ∙ ap (λ b. cond b (Body k) (cond (eqb k 10) Single (cond (ltb k 139) (Body (k - 1)) Double))) e))
    (λ (ge : 10 ≤ k). let e : ltb k 10 ≡ false = le-ltb k 10 ge in let i : place_of_body k ≡ k + 1 = ap (λ b. cond b k (k + 1)) e in (
      subst (λ z. z < 140) (sym i) (omega arith),
      ap place_at i ∙
          (let a : ltb (k + 1) 10 ≡ false = le-ltb (k + 1) 10 (omega arith) in let b : eqb (k + 1) 10 ≡ false = ne_eqb (k + 1) 10 (λ q. omega arith) in let c : ltb (k + 1) 139 ≡ true = lt-ltb (k + 1) 139 (omega arith) in
          let d : (k + 1) - 1 ≡ k = omega arith in
          (λ z. cond (a z) (Body (k + 1)) (cond (b z) Single (cond (c z) (Body (d z)) Double)))),
    ))
    (cases_lt k 10)

-- the blocks of a body, as the frame has them
pub body-blocks : (f : Frame) (i isize fsize : ℕ) (n : Inode) (places : List ℕ) → HasInode f i isize fsize n places → (k : ℕ) → k < 138 → body_at places k ≡ f.address i (Body k)
body-blocks f i isize fsize n places has k lt = let at = place-body k lt in sym (has.blocks (place_of_body k) at.0) ∙ ap (λ p. f.address i p) at.1
