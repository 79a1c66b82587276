-- What holds of things holds of their equals.
use Rattle.std.proofs.Common.{◌≡◌, sym, subst}

pub of-equals : {A B C : Type 0} (P : A → B → C → Type 0) {a a' : A} {b b' : B} {c c' : C} → a ≡ a' → b ≡ b' → c ≡ c' → P a' b' c' → P a b c
of-equals P {a} {a'} {b} {b'} {c} {c'} x y z h = subst (λ q. P q b c) (sym x) (subst (λ q. P a' q c) (sym y) (subst (λ q. P a' b' q) (sym z) h))
