use Rattle.std.proofs.Common.{rules, arith, ◌≡◌, ◌≢◌, List, ◌≤◌, ◌<◌, ◌+◌, ◌/◌, ◌%◌, ℕ, true, false, get_or, set, length, sym, ap, subst, ◌∙◌, length-set, ⊎_elim}
use Rattle.std.proofs.lemmas.Bool.{cases_eq}
use Rattle.std.specs.Int.{bit_at}
use Rattle.index_sets.specs.Free.{is_free, count_free}
use Rattle.index_sets.specs.Bits.{bit, free_in}
use Rattle.index_sets.proofs.SetBits.{free_is, set_inside, length-free, free-set, ChangesBit, changes, count-taken}
use Rattle.index_sets.proofs.free_set.FreeSet.take.Goals as goal

-- what taking a number that is free does to the words
record Takes (words other : List ℕ) (size i : ℕ) : Type 0 where
  inside : i < size
  change : ChangesBit words other i false
  taken : free_in other size ≡ set (free_in words size) i false
  count : count_free (free_in other size) + 1 ≡ count_free (free_in words size)

takes : (words : List ℕ) (size i word : ℕ) → length words ≡ (size + 63) / 64 → ((k : ℕ) → size ≤ k → bit words k ≡ false) → is_free (free_in words size) i ≡ true
    → bit_at word (i % 64) ≡ 0 → ((k : ℕ) → k < 64 → k ≢ i % 64 → bit_at word k ≡ bit_at (get_or words (i / 64) 0) k) → Takes words (set words (i / 64) word) size i
takes words size i word length within free clear others =
    let inside : i < size = set_inside words size i within (sym (free_is words size i within) ∙ free) in
    let change : ChangesBit words (set words (i / 64) word) i false = changes words word i 0 (omega arith) clear others in
    let taken : free_in (set words (i / 64) word) size ≡ set (free_in words size) i false = free-set words (set words (i / 64) word) size i false change in
    record {
      inside = inside;
      change = change;
      taken = taken;
      count = ap (λ s. count_free s + 1) taken ∙ count-taken (free_in words size) i (subst (λ n. i < n) (sym (length-free words size)) inside) free;
    }

pub word_at-requires : goal.word_at-requires
word_at-requires c =
    let free : is_free (free_in c.self.inside.words.items c.self.inside.size) c.args.number ≡ true = ap (λ s. is_free s c.args.number) c.self.view_is ∙ search rules in
    let inside = set_inside c.self.inside.words.items c.self.inside.size c.args.number c.self.invariant.within (sym (free_is c.self.inside.words.items c.self.inside.size c.args.number c.self.invariant.within) ∙ free) in
    let words = c.self.invariant.words in
    omega arith

pub index_mut-requires : goal.index_mut-requires
index_mut-requires c =
    let free : is_free (free_in c.self.inside.words.items c.self.inside.size) c.args.number ≡ true = ap (λ s. is_free s c.args.number) c.self.view_is ∙ search rules in
    let inside = set_inside c.self.inside.words.items c.self.inside.size c.args.number c.self.invariant.within (sym (free_is c.self.inside.words.items c.self.inside.size c.args.number c.self.invariant.within) ∙ free) in
    let words = c.self.invariant.words in
    let lt : c.args.number / 64 < length c.self.inside.words.items = omega arith in
    search rules

pub invariant_of-self : goal.invariant_of-self
invariant_of-self c =
    let free : is_free (free_in c.self.inside.words.items c.self.inside.size) c.args.number ≡ true = ap (λ s. is_free s c.args.number) c.self.view_is ∙ search rules in
    let word : c.word_at.result ≡ get_or c.self.inside.words.items (c.args.number / 64) 0 = search rules in
    let taking : Takes c.self.inside.words.items (set c.self.inside.words.items (c.args.number / 64) c.without_bit.result) c.self.inside.size c.args.number =
    takes c.self.inside.words.items c.self.inside.size c.args.number c.without_bit.result c.self.invariant.words c.self.invariant.within free
    c.without_bit.ensures.here (λ k lt ne. c.without_bit.ensures.others k lt ne ∙ ap (λ w. bit_at w k) word) in
    let still : (i : ℕ) → bit c.self.inside.words.items i ≡ false → bit (set c.self.inside.words.items (c.args.number / 64) c.without_bit.result) i ≡ false = λ i was.
    ⊎_elim
    (λ (e : i ≡ c.args.number). ap (bit (set c.self.inside.words.items (c.args.number / 64) c.without_bit.result)) e ∙ taking.change.here)
    (λ (ne : i ≢ c.args.number). taking.change.others i ne ∙ was)
    (cases_eq i c.args.number) in
    let less = taking.count in
    let was = c.self.invariant.count in
    record {
      small = c.self.invariant.small;
      words = length-set c.self.inside.words.items (c.args.number / 64) c.without_bit.result ∙ c.self.invariant.words;
      within = λ i le. still i (c.self.invariant.within i le);
      count = omega arith;
      lowest = λ i lt. still i (c.self.invariant.lowest i lt);
    }

pub returns : goal.returns
returns c =
    let free : is_free (free_in c.self.inside.words.items c.self.inside.size) c.args.number ≡ true = ap (λ s. is_free s c.args.number) c.self.view_is ∙ search rules in
    let word : c.word_at.result ≡ get_or c.self.inside.words.items (c.args.number / 64) 0 = search rules in
    let taking : Takes c.self.inside.words.items (set c.self.inside.words.items (c.args.number / 64) c.without_bit.result) c.self.inside.size c.args.number =
    takes c.self.inside.words.items c.self.inside.size c.args.number c.without_bit.result c.self.invariant.words c.self.invariant.within free
    c.without_bit.ensures.here (λ k lt ne. c.without_bit.ensures.others k lt ne ∙ ap (λ w. bit_at w k) word) in
    taking.taken ∙ ap (λ s. set s c.args.number false) c.self.view_is
