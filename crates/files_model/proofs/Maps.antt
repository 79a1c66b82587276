-- Finite maps from numbers, point by point.
use Rattle.std.proofs.Common.{◌≡◌, ◌≢◌, ℕ, zero, suc, ◌<◌, ◌≤◌, Option, Some, None, true, false, cond, refl, sym, ap, subst, ◌∙◌, arith, ⊎_elim, nat_cmp, is_eq, Equal}
use Rattle.std.proofs.lemmas.Bool.{cases_eq, cases_lt}
use Rattle.std.proofs.lemmas.Cmp.{nat_cmp_total}
use Rattle.std.specs.Cmp.{nat_cmp_is}
use Rattle.std.specs.Ordering.{eq_by_cmp}
use Rattle.std.specs.FinMap.{FinMap, get, insert, get-insert, get-empty, same_map, nat_cmp-IsAntisymmetric}
use Rattle.files_model.specs.Files.{tabulated, insert_some}

same_key : (k : ℕ) → eq_by_cmp nat_cmp k k ≡ true
same_key k = ap is_eq (sym (nat_cmp_is k k Equal refl))

other_key : (q k : ℕ) → q ≢ k → eq_by_cmp nat_cmp q k ≡ false
other_key q k ne = elim (nat_cmp q k) as (λ r. nat_cmp q k ≡ r → is_eq r ≡ false) [ Equal ↦ λ e. absurd (ne (nat_cmp-IsAntisymmetric q k e)) | _ ↦ λ e. refl ] refl

module _ {X : Type 0} where
  pub get-insert_same : (m : FinMap nat_cmp X) (k : ℕ) (v : X) → get (insert m k v) k ≡ Some v
  get-insert_same m k v = get-insert nat_cmp_total m k v k ∙ ap (λ b. cond b (Some v) (get m k)) (same_key k)

  pub get-insert_other : (m : FinMap nat_cmp X) (k : ℕ) (v : X) (q : ℕ) → q ≢ k → get (insert m k v) q ≡ get m q
  get-insert_other m k v q ne = get-insert nat_cmp_total m k v q ∙ ap (λ b. cond b (Some v) (get m q)) (other_key q k ne)

  pub same_maps : (m n : FinMap nat_cmp X) → ((q : ℕ) → get m q ≡ get n q) → m ≡ n
  same_maps = same_map nat_cmp_total nat_cmp-IsAntisymmetric

  -- a map that answers as another one but for a key is the other with that key set
  pub inserted : (m n : FinMap nat_cmp X) (k : ℕ) (v : X) → get n k ≡ Some v → ((q : ℕ) → q ≢ k → get n q ≡ get m q) → n ≡ insert m k v
  inserted m n k v at others = same_maps n (insert m k v) (λ q.
      ⊎_elim (λ (e : q ≡ k). subst (λ z. get n z ≡ get (insert m k v) z) (sym e) (at ∙ sym (get-insert_same m k v)))
      (λ (ne : q ≢ k). others q ne ∙ sym (get-insert_other m k v q ne)) (cases_eq q k))

  below : (o : Option X) (m : FinMap nat_cmp X) (n k : ℕ) → k ≢ n → get (insert_some o n m) k ≡ get m k
  below None m n k ne = refl
  below (Some x) m n k ne = get-insert_other m n x k ne

  at : (o : Option X) (m : FinMap nat_cmp X) (n : ℕ) → get m n ≡ None → get (insert_some o n m) n ≡ o
  at None m n e = e
  at (Some x) m n e = get-insert_same m n x

  pub get-tabulated_above : (f : ℕ → Option X) (n k : ℕ) → n ≤ k → get (tabulated f n) k ≡ None
  unfolding tabulated
  get-tabulated_above f zero k h = get-empty nat_cmp k
  get-tabulated_above f (suc n) k h = below (f n) (tabulated f n) n k (omega arith) ∙ get-tabulated_above f n k (omega arith)

  pub get-tabulated : (f : ℕ → Option X) (n k : ℕ) → k < n → get (tabulated f n) k ≡ f k
  unfolding tabulated
  get-tabulated f zero k h = absurd (omega arith)
  get-tabulated f (suc n) k h =
      ⊎_elim (λ (e : k ≡ n). subst (λ z. get (insert_some (f n) n (tabulated f n)) z ≡ f z) (sym e) (at (f n) (tabulated f n) n (get-tabulated_above f n n (omega arith))))
      (λ (ne : k ≢ n). below (f n) (tabulated f n) n k ne ∙ get-tabulated f n k (omega arith)) (cases_eq k n)

  -- two tables are equal where their functions agree below the end
  pub tabulated_same : (f g : ℕ → Option X) (n : ℕ) → ((k : ℕ) → k < n → f k ≡ g k) → tabulated f n ≡ tabulated g n
  unfolding tabulated
  tabulated_same f g zero h = refl
  tabulated_same f g (suc n) h = λ i. insert_some (h n (omega arith) i) n (tabulated_same f g n (λ k lt. h k (omega arith)) i)

  -- two tables whose functions differ at one key alone
  pub tabulated_but_one : (f g : ℕ → Option X) (n k : ℕ) (v : X) → k < n → g k ≡ Some v → ((q : ℕ) → q < n → q ≢ k → g q ≡ f q) → tabulated g n ≡ insert (tabulated f n) k v
  tabulated_but_one f g n k v lt at' others = inserted (tabulated f n) (tabulated g n) k v (get-tabulated g n k lt ∙ at') (λ q ne.
      ⊎_elim (λ (in' : q < n). get-tabulated g n q in' ∙ others q in' ne ∙ sym (get-tabulated f n q in'))
      (λ (out : n ≤ q). get-tabulated_above g n q out ∙ sym (get-tabulated_above f n q out)) (cases_lt q n))
