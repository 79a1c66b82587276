use Rattle.std.proofs.Common.{◌≡◌, ◌<◌, ◌≤◌, ℕ, None, get_or, arith, ⊎_elim}
use Rattle.std.proofs.lemmas.Bool.{cases_lt}
use Rattle.index_sets.proofs.Gaps.{first_is, length_full}
use Rattle.index_sets.proofs.row.Row.pack.Goals as goal

pub returns-clause-row : goal.returns-clause-row
returns-clause-row c =
    let is = c.loop-from.invariant.packing in
    let items = c.loop-from.self.items.items in
    let past : (p : ℕ) → c.loop-from.to ≤ p → get_or items p None ≡ None = λ p le. ⊎_elim
    (λ (lt : p < c.loop-from.from). is.gaps p le lt)
    (λ (ge : c.loop-from.from ≤ p). is.past p (omega arith))
    (cases_lt p c.loop-from.from) in
    record {
      agrees = is.agrees;
      size = is.size;
      small = let same = c.loop-from.invariant.size in let small = c.requires.small in omega arith;
      room = is.room;
      head = omega arith;
      end = omega arith;
      before = λ p lt. absurd (omega arith);
      past = past;
      first = first_is items 0 c.loop-from.to (omega arith) (λ p lt. absurd (omega arith)) (λ lt. is.full 0 lt) past;
      count = is.count;
    }

pub returns-clause-packed : goal.returns-clause-packed
returns-clause-packed c =
    let full = length_full c.loop-from.self.items.items c.loop-from.to c.loop-from.invariant.packing.full in
    let count = c.loop-from.invariant.packing.count in
    omega arith
