-- Sectors that differ, put by put.
use Rattle.std.proofs.Common.{◌≡◌, ◌≢◌, ℕ, zero, suc, ◌+◌, ◌<◌, List, [], ◌∷◌, ◌++◌, length, set, refl, sym, ap, subst, ◌∙◌, arith, get_or-set_same, get_or-set_other, length-append}
use Rattle.std.specs.List.{AllByRecursion}
use Rattle.stable.specs.Store.{Image}
use Rattle.v7_map.specs.Image.{sector_at}
use Rattle.v7_mend.specs.Changes.{PutsSome, NoneTwice, Differ}

all_weaker : (P Q : ℕ → Type 0) (xs : List ℕ) → ((x : ℕ) → P x → Q x) → AllByRecursion P xs → AllByRecursion Q xs
all_weaker P Q [] h all = tt
all_weaker P Q (x ∷ xs) h all = (h x all.0, all_weaker P Q xs h all.1)

all_both : (P Q R : ℕ → Type 0) (xs : List ℕ) → ((x : ℕ) → P x → Q x → R x) → AllByRecursion P xs → AllByRecursion Q xs → AllByRecursion R xs
all_both P Q R [] h all also = tt
all_both P Q R (x ∷ xs) h all also = (h x all.0 also.0, all_both P Q R xs h all.1 also.1)

all_append : (P : ℕ → Type 0) (xs ys : List ℕ) → AllByRecursion P xs → AllByRecursion P ys → AllByRecursion P (xs ++ ys)
all_append P [] ys h k = k
all_append P (x ∷ xs) ys h k = (h.0, all_append P xs ys h.1 k)

all_front : (P : ℕ → Type 0) (xs ys : List ℕ) → AllByRecursion P (xs ++ ys) → AllByRecursion P xs
all_front P [] ys h = tt
all_front P (x ∷ xs) ys h = (h.0, all_front P xs ys h.1)

all_back : (P : ℕ → Type 0) (xs ys : List ℕ) → AllByRecursion P (xs ++ ys) → AllByRecursion P ys
all_back P [] ys h = h
all_back P (x ∷ xs) ys h = all_back P xs ys h.1

-- one put of bytes that differ
pub puts_one : (old new : Image) (sector : ℕ) (bytes : List ℕ) → sector < length old → new ≡ set old sector bytes → bytes ≢ sector_at old sector → PutsSome 1 old new sector
puts_one old new sector bytes in' is ne = subst (λ (x : Image). ◌≡◌ {A = ℕ} 0 0 × (sector_at x sector ≢ sector_at old sector) × ((s : ℕ) → s ≢ sector → sector_at x s ≡ sector_at old s)) (sym is)
    (refl, λ e. ne (sym (get_or-set_same old sector bytes [] in') ∙ e), λ s far. get_or-set_other old sector s bytes [] far)

pub differ_none : (P : ℕ → Type 0) (image : Image) → Differ P image image 0
differ_none P image = record { sectors = []; count = refl; each = tt; once = tt; within = tt; others = λ s far. refl }

-- and one put more, of a sector that is none of them
pub differ_put : (P Q : ℕ → Type 0) (old mid new : Image) (n k sector : ℕ) → ((q : ℕ) → P q → Q q) → (k ≢ 0 → (q : ℕ) → P q → q ≢ sector) → (k ≢ 0 → Q sector) → Differ P old mid n → PutsSome k mid new sector → Differ Q old new (n + k)
differ_put P Q old mid new n zero sector wider apart here d put = record {
  sectors = d.sectors;
  count = d.count ∙ omega arith;
  each = subst (λ (x : Image). AllByRecursion (λ s. sector_at x s ≢ sector_at old s) d.sectors) (sym put) d.each;
  once = d.once;
  within = all_weaker P Q d.sectors wider d.within;
  others = λ s far. ap (λ (x : Image). sector_at x s) put ∙ d.others s far;
}
differ_put P Q old mid new n (suc k) sector wider apart here d put =
    let far : AllByRecursion (λ q. q ≢ sector) d.sectors = all_weaker P (λ q. q ≢ sector) d.sectors (apart (λ e. omega (arith, e))) d.within in
    let none : k ≡ 0 = put.0 in
    record {
      sectors = sector ∷ d.sectors;
      count = let c = d.count in omega (arith, c, none);
      each = ((λ e. put.1 (e ∙ sym (d.others sector far))), all_both (λ q. q ≢ sector) (λ s. sector_at mid s ≢ sector_at old s) (λ s. sector_at new s ≢ sector_at old s) d.sectors (λ q ne was e. was (sym (put.2 q ne) ∙ e)) far d.each);
      once = (far, d.once);
      within = (here (λ e. omega (arith, e)), all_weaker P Q d.sectors wider d.within);
      others = λ s away. put.2 s (λ e. away.0 (sym e)) ∙ d.others s away.1;
    }

pub differ_wider : (P Q : ℕ → Type 0) (old new : Image) (n : ℕ) → ((q : ℕ) → P q → Q q) → Differ P old new n → Differ Q old new n
differ_wider P Q old new n wider d = record { sectors = d.sectors; count = d.count; each = d.each; once = d.once; within = all_weaker P Q d.sectors wider d.within; others = d.others }

none_twice : (xs ys : List ℕ) → NoneTwice xs → NoneTwice ys → AllByRecursion (λ x. AllByRecursion (λ q. q ≢ x) ys) xs → NoneTwice (xs ++ ys)
none_twice [] ys a b c = b
none_twice (x ∷ xs) ys a b c = (all_append (λ q. q ≢ x) xs ys a.0 c.0, none_twice xs ys a.1 b c.1)

-- one run of puts, and then another of other sectors
pub differ_then : (P Q R : ℕ → Type 0) (old mid new : Image) (n m : ℕ) → ((p q : ℕ) → P p → Q q → p ≢ q) → ((s : ℕ) → P s → R s) → ((s : ℕ) → Q s → R s) → Differ P old mid n → Differ Q mid new m → Differ R old new (n + m)
differ_then P Q R old mid new n m apart left right d e =
    let far = λ (q : ℕ) (has : Q q). all_weaker P (λ p. p ≢ q) d.sectors (λ p is. apart p q is has) d.within in
    let away = λ (p : ℕ) (is : P p). all_weaker Q (λ q. q ≢ p) e.sectors (λ q has s. apart p q is has (sym s)) e.within in
    record {
      sectors = d.sectors ++ e.sectors;
      count = length-append d.sectors e.sectors ∙ (λ z. d.count z + e.count z);
      each = all_append (λ s. sector_at new s ≢ sector_at old s) d.sectors e.sectors
          (all_both P (λ s. sector_at mid s ≢ sector_at old s) (λ s. sector_at new s ≢ sector_at old s) d.sectors (λ p is ne same. ne (sym (e.others p (away p is)) ∙ same)) d.within d.each)
          (all_both Q (λ s. sector_at new s ≢ sector_at mid s) (λ s. sector_at new s ≢ sector_at old s) e.sectors (λ q has ne same. ne (same ∙ sym (d.others q (far q has)))) e.within e.each);
      once = none_twice d.sectors e.sectors d.once e.once (all_weaker P (λ p. AllByRecursion (λ q. q ≢ p) e.sectors) d.sectors away d.within);
      within = all_append R d.sectors e.sectors (all_weaker P R d.sectors left d.within) (all_weaker Q R e.sectors right e.within);
      others = λ s apart'. e.others s (all_back (λ q. q ≢ s) d.sectors e.sectors apart') ∙ d.others s (all_front (λ q. q ≢ s) d.sectors e.sectors apart');
    }
