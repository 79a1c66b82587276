use Rattle.std.proofs.Common.{rules, arith, ◌≡◌, ◌≢◌, ◌<◌, ◌≤◌, ◌+◌, ◌/◌, ◌%◌, ℕ, List, true, false, length, get_or, set, min, sym, ap, subst, ◌∙◌, length-set}
use Rattle.std.proofs.lemmas.List.{set_past}
use Rattle.std.proofs.lemmas.List.Sums.{count_by-le-length}
use Rattle.std.specs.Int.{bit_at}
use Rattle.index_sets.specs.Free.{is_free, count_free}
use Rattle.index_sets.specs.Bits.{free_in}
use Rattle.index_sets.proofs.SetBits.{length-free, free-set, ChangesBit, changes, count-given, set_same}
use Rattle.index_sets.proofs.free_set.FreeSet.give.Goals as goal

-- what giving a number that isn't free does to the words
record Gives (words other : List ℕ) (size i : ℕ) : Type 0 where
  change : ChangesBit words other i true
  given : free_in other size ≡ set (free_in words size) i true
  count : count_free (free_in other size) ≡ count_free (free_in words size) + 1
  most : count_free (free_in other size) ≤ size

gives : (words : List ℕ) (size i word : ℕ) → length words ≡ (size + 63) / 64 → i < size → is_free (free_in words size) i ≡ false
    → bit_at word (i % 64) ≡ 1 → ((k : ℕ) → k < 64 → k ≢ i % 64 → bit_at word k ≡ bit_at (get_or words (i / 64) 0) k) → Gives words (set words (i / 64) word) size i
gives words size i word length inside none here others =
    let change : ChangesBit words (set words (i / 64) word) i true = changes words word i 1 (omega arith) here others in
    let given : free_in (set words (i / 64) word) size ≡ set (free_in words size) i true = free-set words (set words (i / 64) word) size i true change in
    record {
      change = change;
      given = given;
      count = ap count_free given ∙ count-given (free_in words size) i (subst (λ n. i < n) (sym (length-free words size)) inside) none;
      most = subst (λ n. count_free (free_in (set words (i / 64) word) size) ≤ n) (length-free (set words (i / 64) word) size) (count_by-le-length (λ b. b) (free_in (set words (i / 64) word) size));
    }

pub returns-then-number-self : goal.returns-then-number-self
returns-then-number-self c = sym (set_past c.args.self.now c.args.number true
    (subst (λ n. n ≤ c.args.number) (sym (ap length (sym c.self.view_is) ∙ length-free c.self.inside.words.items c.self.inside.size)) (omega (arith, c.if-number-self.true))))

pub returns-then-has : goal.returns-then-has
returns-then-has c = set_same c.args.self.now c.args.number true (search rules)

pub overflow_add-self : goal.overflow_add-self
overflow_add-self c =
    let none : is_free (free_in c.self.inside.words.items c.self.inside.size) c.args.number ≡ false = ap (λ s. is_free s c.args.number) c.self.view_is ∙ search rules in
    let word : c.word_at.result ≡ get_or c.self.inside.words.items (c.args.number / 64) 0 = search rules in
    let giving : Gives c.self.inside.words.items (set c.self.inside.words.items (c.args.number / 64) c.with_bit.result) c.self.inside.size c.args.number =
    gives c.self.inside.words.items c.self.inside.size c.args.number c.with_bit.result c.self.invariant.words (omega (arith, c.if-number-self.false)) none
    c.with_bit.ensures.here (λ k lt ne. c.with_bit.ensures.others k ne ∙ ap (λ w. bit_at w k) word) in
    let more = giving.count in
    let most = giving.most in
    let was = c.self.invariant.count in
    let small = c.self.invariant.small in
    omega arith

pub invariant_of-self : goal.invariant_of-self
invariant_of-self c =
    let none : is_free (free_in c.self.inside.words.items c.self.inside.size) c.args.number ≡ false = ap (λ s. is_free s c.args.number) c.self.view_is ∙ search rules in
    let word : c.word_at.result ≡ get_or c.self.inside.words.items (c.args.number / 64) 0 = search rules in
    let giving : Gives c.self.inside.words.items (set c.self.inside.words.items (c.args.number / 64) c.with_bit.result) c.self.inside.size c.args.number =
    gives c.self.inside.words.items c.self.inside.size c.args.number c.with_bit.result c.self.invariant.words (omega (arith, c.if-number-self.false)) none
    c.with_bit.ensures.here (λ k lt ne. c.with_bit.ensures.others k ne ∙ ap (λ w. bit_at w k) word) in
    let min' : c.min-self-inside.result ≡ min c.self.inside.lowest (c.args.number / 64) = search rules in
    let below : c.args.number < c.self.inside.size = omega (arith, c.if-number-self.false) in
    record {
      small = c.self.invariant.small;
      words = length-set c.self.inside.words.items (c.args.number / 64) c.with_bit.result ∙ c.self.invariant.words;
      within = λ i le. giving.change.others i (λ e. omega arith) ∙ c.self.invariant.within i le;
      count = let more = giving.count in let was = c.self.invariant.count in omega arith;
      lowest = λ i lt. giving.change.others i (λ e. omega arith) ∙ c.self.invariant.lowest i (omega arith);
    }

pub returns : goal.returns
returns c =
    let none : is_free (free_in c.self.inside.words.items c.self.inside.size) c.args.number ≡ false = ap (λ s. is_free s c.args.number) c.self.view_is ∙ search rules in
    let word : c.word_at.result ≡ get_or c.self.inside.words.items (c.args.number / 64) 0 = search rules in
    let giving : Gives c.self.inside.words.items (set c.self.inside.words.items (c.args.number / 64) c.with_bit.result) c.self.inside.size c.args.number =
    gives c.self.inside.words.items c.self.inside.size c.args.number c.with_bit.result c.self.invariant.words (omega (arith, c.if-number-self.false)) none
    c.with_bit.ensures.here (λ k lt ne. c.with_bit.ensures.others k ne ∙ ap (λ w. bit_at w k) word) in
    giving.given ∙ ap (λ s. set s c.args.number true) c.self.view_is
