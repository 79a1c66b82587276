-- What was offered and what was taken, one run after another.
use Rattle.std.proofs.Common.{arith, ◌≡◌, ℕ, ◌+◌, ◌-◌, ◌≤◌, List, [], ◌∷◌, ◌++◌, length, Option, Some, None, refl, sym, ap, ◌∙◌, length-append, append-nil, append_assoc}
use Rattle.std.specs.Option.{option_map}
use Rattle.stable.specs.Counts.{RoseBy, Rose}
use Rattle.rig.specs.Links.{gains}
use Rattle.rig.specs.Offers.{LeavesOut, Offers}
use Rattle.rig.specs.Offers.LeavesOut.{none, keep, leave}

-- what two lists lack has its faults, where what each lacks has
rose_both : (m n r s f g h : ℕ) → r ≤ m → s ≤ n → RoseBy (m - r) f g → RoseBy (n - s) g h → RoseBy (m + n - (r + s)) f h
rose_both m n r s f g h few few' p q = omega arith

pub leaves_both : {A : Type 0} (xs ys vs ws : List A) → LeavesOut xs ys → LeavesOut vs ws → LeavesOut (xs ++ vs) (ys ++ ws)
leaves_both [] [] vs ws none q = q
leaves_both (x ∷ xs) [] vs ws p q = elim p [ ]
leaves_both (x ∷ xs) (x' ∷ ys) vs ws (keep y ys' zs p) q = keep y (ys' ++ vs) (zs ++ ws) (leaves_both ys' zs vs ws p q)
leaves_both xs (y ∷ ys) vs ws (leave y' xs' ys' p) q = leave y' (xs' ++ vs) (ys' ++ ws) (leaves_both xs' ys' vs ws p q)

pub leaves_none : {A : Type 0} (xs : List A) → LeavesOut [] xs
leaves_none [] = none
leaves_none (x ∷ xs) = leave x [] xs (leaves_none xs)

pub leaves_all : {A : Type 0} (xs : List A) → LeavesOut xs xs
leaves_all [] = none
leaves_all (x ∷ xs) = keep x xs xs (leaves_all xs)

leaves-length : {A : Type 0} (xs ys : List A) → LeavesOut xs ys → length xs ≤ length ys
leaves-length [] [] none = omega arith
leaves-length (x ∷ xs) [] p = elim p [ ]
leaves-length (x ∷ xs) (x' ∷ ys) (keep y ys' zs p) = omega (arith, leaves-length ys' zs p)
leaves-length xs (y ∷ ys) (leave y' xs' ys' p) = omega (arith, leaves-length xs' ys' p)

took_none : {A : Type 0} (told : Option (List A)) → told ≡ option_map (λ before. before ++ []) told
took_none None = refl
took_none (Some before) = ap Some (sym (append-nil before))

took_both : {A : Type 0} (told : Option (List A)) (xs ys : List A) → option_map (λ before. before ++ ys) (option_map (λ before. before ++ xs) told) ≡ option_map (λ before. before ++ (xs ++ ys)) told
took_both None xs ys = refl
took_both (Some before) xs ys = ap Some (append_assoc before xs ys)

module _ {A : Type 0} where
  -- nothing was offered, and the count of faults has not fallen
  pub offers_nothing : {a b : Option (List A)} {f g : ℕ} → b ≡ a → f ≤ g → Offers a b f g [] []
  offers_nothing {a} {b} {f} {g} same later = record { took = same ∙ took_none a; part = none; missing = omega (arith, later) }

  -- one was offered and taken
  pub offers_one : {a b : Option (List A)} {f g : ℕ} (x : A) → b ≡ gains a x → f ≤ g → Offers a b f g (x ∷ []) (x ∷ [])
  offers_one {a} {b} {f} {g} x took later = record { took = took; part = keep x [] [] none; missing = omega (arith, later) }

  -- one was offered, and not taken by a fault
  pub offers_fails : {a b : Option (List A)} {f g : ℕ} (x : A) → b ≡ a → Rose f g → Offers a b f g (x ∷ []) []
  offers_fails {a} {b} {f} {g} x same rose = record { took = same ∙ took_none a; part = leave x [] [] none; missing = rose }

  -- one run and then another
  pub offers_both : {a b c : Option (List A)} {f g h : ℕ} (xs ys rs ss : List A) → Offers a b f g xs rs → Offers b c g h ys ss → Offers a c f h (xs ++ ys) (rs ++ ss)
  offers_both {a} {b} {c} {f} {g} {h} xs ys rs ss p q = record {
    took = q.took ∙ ap (option_map (λ before. before ++ ss)) p.took ∙ took_both a rs ss;
    part = leaves_both rs xs ss ys p.part q.part;
    missing =
        let few = leaves-length rs xs p.part in
        let few' = leaves-length ss ys q.part in
        rw (length-append xs ys, length-append rs ss) (rose_both (length xs) (length ys) (length rs) (length ss) f g h few few' p.missing q.missing);
  }
