-- Entries that are tried one after the other.
use Rattle.std.proofs.Common.{◌≡◌, inl, inr, ⊎_elim, ℕ, ◌+◌, ◌<◌, ◌≤◌, suc, List, [], ◌∷◌, ◌++◌, length, take, drop, get_or, Option, None, IsSome, IfSome, refl, sym, ◌∙◌, ap, subst, arith, append_assoc, length-append}
use Rattle.std.proofs.Math.Seq.{take-suc, drop-cons, take-length}
use Rattle.std.proofs.lemmas.Bool.{true≢false}
use Rattle.stable.specs.Counts.{RoseBy}
use Rattle.stable.specs.declared.state.Cause.{Cause}
use Rattle.presto_cache.specs.Entries.{Entry}
use Rattle.presto_cache.specs.declared.slot.Slot.TheVariants.{Free}
use Rattle.presto_unit.specs.Flushing.{AreFlushed, AreTried, IsDeviceCause, IsStill, IsStuckNext, IsTriedNext}

-- one more, which is gone
tried_sent : (es : List Entry) (e : Entry) (left : List Entry) → AreTried es left → AreTried (es ++ e ∷ []) left
tried_sent [] e left is = inl is
tried_sent (x ∷ es) e left (inl sent) = inl (tried_sent es e left sent)
tried_sent (x ∷ es) e left (inr stuck) = inr (stuck.0, stuck.1, stuck.2, stuck.3, tried_sent es e stuck.1 stuck.4)

-- one more, which failed
tried_stuck : (es : List Entry) (e f : Entry) (left : List Entry) → IsStill e f → AreTried es left → AreTried (es ++ e ∷ []) (left ++ f ∷ [])
tried_stuck [] e f left still is = inr (f, [], ap (λ (l : List Entry). l ++ f ∷ []) is, still, refl)
tried_stuck (x ∷ es) e f left still (inl sent) = inl (tried_stuck es e f left still sent)
tried_stuck (x ∷ es) e f left still (inr stuck) = inr (stuck.0, stuck.1 ++ f ∷ [], ap (λ (l : List Entry). l ++ f ∷ []) stuck.2, stuck.3, tried_stuck es e f stuck.1 still stuck.4)

abbrev pub no_entry : Entry
no_entry = record { index = 0; slot = Free }

-- So many of the entries were tried: those that failed stand behind the others.
pub record HaveTried (all : List Entry) (count : ℕ) (first : Option Cause) (before now : ℕ) (present : List Entry) : Type 0 where
  pub left : List Entry
  pub tried : AreTried (take count all) left
  pub are : present ≡ drop count all ++ left
  pub none : first ≡ None → length left ≡ 0
  pub some : IsSome first → 1 ≤ length left
  pub device : IfSome first IsDeviceCause
  pub rose : RoseBy (length left) before now
  pub later : before ≤ now

-- none yet
pub tried_none : (all : List Entry) (n : ℕ) → HaveTried all 0 None n n all
tried_none all n = record {
  left = [];
  tried = refl;
  are = sym (append-nil all);
  none = λ _. refl;
  some = λ some. absurd (true≢false (sym some));
  device = tt;
  rose = omega arith;
  later = omega arith;
}
  where
    append-nil : (xs : List Entry) → xs ++ [] ≡ xs
    append-nil [] = refl
    append-nil (x ∷ xs) = ap (λ (l : List Entry). x ∷ l) (append-nil xs)

module _ (all : List Entry) (count : ℕ) (first result : Option Cause) (before mid now : ℕ) (old new : List Entry) (lt : count < length all) where
  abbrev x : Entry
  x = get_or all count no_entry

  take_more : take (count + 1) all ≡ take count all ++ x ∷ []
  take_more = let e : suc count ≡ count + 1 = omega arith in subst (λ (n : ℕ). take n all ≡ take count all ++ x ∷ []) e (take-suc all count no_entry lt)

  drop_here : drop count all ≡ x ∷ drop (count + 1) all
  drop_here = let e : suc count ≡ count + 1 = omega arith in subst (λ (n : ℕ). drop count all ≡ x ∷ drop n all) e (drop-cons all count no_entry lt)

  head_same : (a b : Entry) (xs ys : List Entry) → a ∷ xs ≡ b ∷ ys → a ≡ b
  head_same a b xs ys same = ap (λ (l : List Entry). get_or l 0 no_entry) same

  -- one more
  pub tried_more : HaveTried all count first before mid old → IsTriedNext first result mid now old new → HaveTried all (count + 1) result before now new
  tried_more so_far one = ⊎_elim gone failed one.fate
    where
      stands : old ≡ x ∷ (drop (count + 1) all ++ so_far.left)
      stands = so_far.are ∙ ap (λ (l : List Entry). l ++ so_far.left) drop_here

      rest : drop 1 old ≡ drop (count + 1) all ++ so_far.left
      rest = ap (drop 1) stands

      gone : (result ≡ first) × (new ≡ drop 1 old) → HaveTried all (count + 1) result before now new
      gone sent = record {
        left = so_far.left;
        tried = subst (λ (l : List Entry). AreTried l so_far.left) (sym take_more) (tried_sent (take count all) x so_far.left so_far.tried);
        are = sent.1 ∙ rest;
        none = λ none. so_far.none (sym sent.0 ∙ none);
        some = λ some. so_far.some (subst IsSome sent.0 some);
        device = one.device;
        rose = omega (arith, so_far.rose, one.later);
        later = omega (arith, so_far.later, one.later);
      }

      failed : IsStuckNext result mid now old new → HaveTried all (count + 1) result before now new
      failed stuck =
          let is : stuck.oldest ≡ x = head_same stuck.oldest x (drop 1 old) (drop (count + 1) all ++ so_far.left) (sym stuck.first ∙ stands) in
          let longer = length-append so_far.left (stuck.failed ∷ []) in
          record {
            left = so_far.left ++ stuck.failed ∷ [];
            tried = subst (λ (l : List Entry). AreTried l (so_far.left ++ stuck.failed ∷ [])) (sym take_more)
                (tried_stuck (take count all) x stuck.failed so_far.left (subst (λ (e : Entry). IsStill e stuck.failed) is stuck.still) so_far.tried);
            are = stuck.last ∙ ap (λ (l : List Entry). l ++ stuck.failed ∷ []) rest ∙ append_assoc (drop (count + 1) all) so_far.left (stuck.failed ∷ []);
            none = λ none. absurd (true≢false (sym (subst IsSome none stuck.some)));
            some = λ some. omega (arith, longer);
            device = one.device;
            rose = omega (arith, so_far.rose, stuck.rose, longer);
            later = omega (arith, so_far.later, one.later);
          }

-- all
pub tried_all : (all : List Entry) (first : Option Cause) (before now : ℕ) (present : List Entry) → HaveTried all (length all) first before now present → AreFlushed first before now all present
tried_all all first before now present run =
    let is : present ≡ run.left = run.are ∙ ap (λ (l : List Entry). l ++ run.left) (drop_length all) in
    record {
      tried = subst (λ (l : List Entry). AreTried all l) (sym is) (subst (λ (l : List Entry). AreTried l run.left) (take-length all) run.tried);
      none = λ none. ap length is ∙ run.none none;
      some = λ some. subst (λ (l : List Entry). 1 ≤ length l) (sym is) (run.some some);
      device = run.device;
      rose = subst (λ (l : List Entry). RoseBy (length l) before now) (sym is) run.rose;
      later = run.later;
    }
  where
    drop_length : (xs : List Entry) → drop (length xs) xs ≡ []
    drop_length [] = refl
    drop_length (x ∷ xs) = drop_length xs
