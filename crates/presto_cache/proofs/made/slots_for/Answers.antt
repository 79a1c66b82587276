use Rattle.std.proofs.Common.{◌≡◌, ◌-◌, ◌+◌, ◌^◌, ◌<◌, ◌∙◌, ◌++◌, ◌∷◌, [], sym, ap, subst, ℕ, List, suc, length, take, set, get_or, arith}
use Rattle.std.proofs.lemmas.List.{length-set, length-take, get_or-take}
use Rattle.std.proofs.Math.Seq.{take-suc}
use Rattle.nvram_map.specs.Boards.{no_entry}
use Rattle.nvram_map.specs.declared.board.BoardEntry.{BoardEntry}
use Rattle.presto_cache.specs.Slots.{AllBelowSectors}
use Rattle.presto_cache.specs.Made.{IsMadeOf}
use Rattle.presto_cache.specs.declared.slot.Slot.{Slot}
use Rattle.presto_cache.specs.declared.slot.Slot.TheVariants.{Set}
use Rattle.presto_cache.proofs.Making.{made_more, below_more}
use Rattle.presto_cache.proofs.made.slots_for.Goals as goal

one_up : (n : ℕ) → n + 1 ≡ suc n
one_up n = omega arith

pub loop-entry-preserved : goal.loop-entry-preserved
loop-entry-preserved c =
    let l = c.loop-entry in
    let board = c.args.board.now in
    let n = l.entry-index in
    let entry : BoardEntry = get_or board n no_entry in
    let slots = l.slots.items in
    let lt : n < length board = c.loop-entry-test.true in
    let size = length-set slots entry.index (Set entry.sector entry.buffer) in
    let index_fits : entry.index < length slots = omega (arith, l.invariant.0, c.requires.index_fits n lt) in
    let next : take (n + 1) board ≡ take n board ++ entry ∷ [] = ap (λ (m : ℕ). take m board) (one_up n) ∙ take-suc board n no_entry lt in
    let short : length (take n board) ≡ n = omega (arith, length-take n board, lt) in
    subst (λ (x : Slot). (length (set slots entry.index x) ≡ c.args.buffers - 1) × IsMadeOf (take (n + 1) board) (set slots entry.index x) × AllBelowSectors (2 ^ 32) (set slots entry.index x)) (sym c.set_slot.ensures.set) (
      size ∙ l.invariant.0,
      subst (λ (es : List BoardEntry). IsMadeOf es (set slots entry.index (Set entry.sector entry.buffer))) (sym next)
          (made_more (take n board) entry slots index_fits
          (λ k less e. c.requires.indices k n (omega (arith, less, short)) lt (sym (ap (λ (x : BoardEntry). x.index) (get_or-take n board k no_entry (omega (arith, less, short)))) ∙ e))
          l.invariant.1),
      below_more (2 ^ 32) entry.index entry.sector entry.buffer slots index_fits c.set_slot.ensures.small l.invariant.2,
    )
