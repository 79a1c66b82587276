-- One inode more is kept.
use Rattle.std.proofs.Common.{◌≡◌, ℕ, ◌+◌, ◌/◌, ◌<◌, ◌≤◌, [], ◌∷◌, ◌++◌, length, map, get_or, refl, ap, ◌∙◌, arith}
use Rattle.std.specs.List.{range_with_len}
use Rattle.std.proofs.lemmas.List.{get_or_push, get_or_append_left, get_or-append-add, length-append, length_push}
use Rattle.std.proofs.lemmas.List.FromFn.{get_or-map-range_with_len, length-map-range_with_len}
use Rattle.v7_damage.specs.declared.bodies.Bodies.{Bodies}
use Rattle.v7_damage.specs.declared.summary.Summary.{Summary}
use Rattle.v7_damage.specs.Tables.{IsNext}

module _ (old new : Bodies) (count : ℕ) (at : ℕ → ℕ) (summary : Summary) (summaries : new.summaries.items ≡ old.summaries.items ++ summary ∷ []) (slots : new.slots.items ≡ old.slots.items ++ count ∷ [])
    (start : ℕ) (starts : new.starts.items ≡ old.starts.items ++ start ∷ []) where
  here-start : get_or new.starts.items (length old.starts.items) 0 ≡ start
  here-start = ap (λ l. get_or l (length old.starts.items) 0) starts ∙ get_or_push old.starts.items start 0 (length old.starts.items) refl

  before : (i : ℕ) → i < length old.starts.items → get_or new.starts.items i 0 ≡ get_or old.starts.items i 0
  before i lt = ap (λ l. get_or l i 0) starts ∙ get_or_append_left old.starts.items (start ∷ []) 0 i lt

  -- there was no room for its blocks
  pub next_left : start ≡ 4294967295 → new.blocks.items ≡ old.blocks.items → length old.blocks.items ≤ 150000 → IsNext old new count at summary
  next_left none blocks few = record {
    summaries = summaries;
    slots = slots;
    starts = ap length starts ∙ length_push old.starts.items start;
    starts_before = before;
    longer = let long = ap length blocks in omega arith;
    few = let long = ap length blocks in omega arith;
    blocks_before = λ k lt. ap (λ l. get_or l k 0) blocks;
    within = λ kept. absurd (kept (here-start ∙ none));
    here = λ kept. absurd (kept (here-start ∙ none));
  }

  -- they are kept
  pub next_kept : start ≡ length old.blocks.items → new.blocks.items ≡ old.blocks.items ++ map at (range_with_len 0 ((count + 31) / 32)) → length old.blocks.items + (count + 31) / 32 ≤ 150000 → IsNext old new count at summary
  next_kept from blocks few =
      let longer : length new.blocks.items ≡ length old.blocks.items + (count + 31) / 32 =
      ap length blocks ∙ length-append old.blocks.items (map at (range_with_len 0 ((count + 31) / 32))) ∙ ap (λ m. length old.blocks.items + m) (length-map-range_with_len at 0 ((count + 31) / 32)) in
      let here = here-start in
      record {
        summaries = summaries;
        slots = slots;
        starts = ap length starts ∙ length_push old.starts.items start;
        starts_before = before;
        longer = omega arith;
        few = omega arith;
        blocks_before = λ k lt. ap (λ l. get_or l k 0) blocks ∙ get_or_append_left old.blocks.items (map at (range_with_len 0 ((count + 31) / 32))) 0 k lt;
        within = λ kept. omega arith;
        here = λ kept k lt.
            (λ z. get_or (blocks z) ((here ∙ from) z + k) 0)
            ∙ get_or-append-add old.blocks.items (map at (range_with_len 0 ((count + 31) / 32))) k 0
            ∙ get_or-map-range_with_len at 0 ((count + 31) / 32) k k 0 (omega arith) (omega arith);
      }
