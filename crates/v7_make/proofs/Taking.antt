-- Blocks are given back to a chain, and taken from it.
use Rattle.std.proofs.Common.{◌≡◌, ◌≢◌, ℕ, ◌+◌, ◌-◌, ◌<◌, ◌≤◌, cond, ◌==◌, List, [], ◌∷◌, length, get_or, set, sym, ap, subst, ◌∙◌, arith, ⊎_elim, eq-eqb, get_or-set_same, get_or-set_other}
use Rattle.std.proofs.lemmas.Bool.{cases_eq, ne_eqb}
use Rattle.std.specs.List.{AllByRecursion}
use Rattle.v7_layout.specs.declared.chain.Chain.{Chain}
use Rattle.v7_layout.specs.Records.{chain_of}
use Rattle.stable.specs.Store.{Image}
use Rattle.v7_map.specs.Image.{sector_at}
use Rattle.v7_make.specs.Chains.{after_taking, IsFullRecord, Takes}

-- two records with the same used places
pub record SameUsed (c d : Chain) : Type 0 where
  pub count : c.s_nfree ≡ d.s_nfree
  pub used : (k : ℕ) → k < c.s_nfree → get_or c.s_free k 0 ≡ get_or d.s_free k 0

one_less : Chain → Chain
one_less c = record c { s_nfree = c.s_nfree - 1 }

after_last : (image : Image) (c : Chain) (block : ℕ) → c.s_nfree ≡ 1 → after_taking image c block ≡ chain_of (sector_at image block)
unfolding after_taking one_less
after_last image c block one = ap (λ b. cond b (chain_of (sector_at image block)) (one_less c)) (eq-eqb c.s_nfree 1 one)

after_more : (image : Image) (c : Chain) (block : ℕ) → c.s_nfree ≢ 1 → after_taking image c block ≡ record c { s_nfree = c.s_nfree - 1 }
unfolding after_taking one_less
after_more image c block more = ap (λ b. cond b (chain_of (sector_at image block)) (one_less c)) (ne_eqb c.s_nfree 1 more)

-- what is taken depends on the used places alone
pub same_used : (image : Image) (c d : Chain) (blocks : List ℕ) → SameUsed c d → Takes image c blocks → Takes image d blocks
same_used image c d [] same takes = (sym same.count ∙ takes.0, (let one = takes.0 in sym (same.used 0 (omega (arith, one)))) ∙ takes.1)
same_used image c d (b ∷ blocks) same takes =
    let some : 1 ≤ c.s_nfree = takes.0 in
    let count : c.s_nfree ≡ d.s_nfree = same.count in (
      omega (arith, some, count),
      (ap (λ m. get_or d.s_free (m - 1) 0) (sym same.count) ∙ sym (same.used (c.s_nfree - 1) (omega (arith, some))) ∙ takes.1),
      takes.2,
      (λ one. takes.3 (same.count ∙ one)),
      rest (λ e f. same_used image e f blocks) takes.4,
    )
  where
    rest : ((e f : Chain) → SameUsed e f → Takes image e blocks → Takes image f blocks) → Takes image (after_taking image c b) blocks → Takes image (after_taking image d b) blocks
    rest again more = ⊎_elim
        (λ (one : c.s_nfree ≡ 1). subst (λ x. Takes image x blocks) (after_last image c b one ∙ sym (after_last image d b (sym same.count ∙ one))) more)
        (λ (ne : c.s_nfree ≢ 1). subst (λ x. Takes image x blocks) (sym (after_more image d b (λ e. ne (same.count ∙ e))))
        (again (record c { s_nfree = c.s_nfree - 1 }) (record d { s_nfree = d.s_nfree - 1 })
        (record { count = ap (λ m. m - 1) same.count; used = λ k lt. same.used k (omega (arith, lt)) })
        (subst (λ x. Takes image x blocks) (after_more image c b ne) more)))
        (cases_eq c.s_nfree 1)

-- one block given back where there is room
abbrev pub pushed : Chain → ℕ → Chain
pushed c b = record { s_nfree = c.s_nfree + 1; s_free = set c.s_free c.s_nfree b }

-- a put elsewhere leaves what is taken
pub takes_elsewhere : (image : Image) (c : Chain) (b : ℕ) (bytes blocks : List ℕ) → AllByRecursion (λ a. a ≢ b) blocks → Takes image c blocks → Takes (set image b bytes) c blocks
unfolding after_taking
takes_elsewhere image c b bytes [] far takes = takes
takes_elsewhere image c b bytes (a ∷ blocks) far takes =
    let same : sector_at (set image b bytes) a ≡ sector_at image a = get_or-set_other image b a bytes [] far.0 in
    (takes.0, takes.1, takes.2, (λ one. subst IsFullRecord (sym same) (takes.3 one)), rest same (takes_elsewhere image (after_taking image c a) b bytes blocks far.1 takes.4))
  where
    rest : sector_at (set image b bytes) a ≡ sector_at image a → Takes (set image b bytes) (after_taking image c a) blocks → Takes (set image b bytes) (after_taking (set image b bytes) c a) blocks
    rest same = subst (λ s. Takes (set image b bytes) (cond (c.s_nfree == 1) (chain_of s) (record c { s_nfree = c.s_nfree - 1 })) blocks) (sym same)

pub takes_none : (image : Image) (c : Chain) → c.s_nfree ≡ 1 → get_or c.s_free 0 0 ≡ 0 → Takes image c []
takes_none image c one first = (one, first)

pub takes_pushed : (image : Image) (c : Chain) (b : ℕ) (blocks : List ℕ) → 1 ≤ c.s_nfree → c.s_nfree < length c.s_free → b ≢ 0 → Takes image c blocks → Takes image (pushed c b) (b ∷ blocks)
takes_pushed image c b blocks some room nz takes =
    let less : c.s_nfree + 1 - 1 ≡ c.s_nfree = omega arith in (
      omega arith,
      ap (λ k. get_or (set c.s_free c.s_nfree b) k 0) less ∙ get_or-set_same c.s_free c.s_nfree b 0 room,
      nz,
      (λ one. absurd (omega (arith, one, some))),
      subst (λ x. Takes image x blocks) (sym (after_more image (pushed c b) b (λ one. omega (arith, one, some))))
          (same_used image c (record (pushed c b) { s_nfree = c.s_nfree + 1 - 1 }) blocks (record {
            count = omega arith;
            used = λ k lt. sym (get_or-set_other c.s_free c.s_nfree k b 0 (λ e. omega (arith, lt, e)));
          }) takes),
    )

pub takes_first : (image : Image) (c d : Chain) (b : ℕ) (bytes blocks : List ℕ) → d.s_nfree ≡ 1 → get_or d.s_free 0 0 ≡ b → b ≢ 0 → b < length image → chain_of bytes ≡ c → IsFullRecord bytes → AllByRecursion (λ a. a ≢ b) blocks → Takes image c blocks
    → Takes (set image b bytes) d (b ∷ blocks)
takes_first image c d b bytes blocks one first nz in' reads full far takes =
    let here : sector_at (set image b bytes) b ≡ bytes = get_or-set_same image b bytes [] in' in
    let zero' : d.s_nfree - 1 ≡ 0 = omega (arith, one) in (
      omega (arith, one),
      ap (λ k. get_or d.s_free k 0) zero' ∙ first,
      nz,
      (λ _. subst IsFullRecord (sym here) full),
      subst (λ x. Takes (set image b bytes) x blocks) (sym (after_last (set image b bytes) d b one ∙ ap chain_of here ∙ reads)) (takes_elsewhere image c b bytes blocks far takes),
    )
