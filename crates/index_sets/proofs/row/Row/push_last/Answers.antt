use Rattle.std.proofs.Common.{rules, ◌≡◌, ◌≢◌, ◌<◌, ◌≤◌, ◌++◌, ◌∷◌, [], ℕ, Some, None, false, get_or, set, length, ◌+◌, sym, ap, subst, ◌∙◌, arith, get_or-set_other, length-set}
use Rattle.index_sets.specs.Queue.{is_listed}
use Rattle.index_sets.specs.Row.{IsRow, listed_in}
use Rattle.index_sets.specs.declared.row.Row.{Row}
use Rattle.index_sets.proofs.Gaps.{agrees_put, gaps_to, first_is, numbers_put, no_place, length_put, fewer}
use Rattle.index_sets.proofs.row.Row.push_last.Goals as goal

-- what is known of a row that a number isn't in
record HasRoom (row : Row) (number : ℕ) : Type 0 where
  inside : number < length row.places.items
  none : get_or row.places.items number None ≡ None
  few : row.count < row.size

has_room : (row : Row) (number : ℕ) → IsRow row → number < row.size → is_listed number (listed_in row) ≡ false → HasRoom row number
has_room row number is below other =
    let size = is.size in
    let inside : number < length row.places.items = omega arith in
    let none : get_or row.places.items number None ≡ None = no_place row.items.items row.places.items number is.agrees other in
    record {
      inside = inside;
      none = none;
      few = let less = fewer row.items.items row.places.items number is.agrees inside none in let count = is.count in omega arith;
    }

pub index_mut-requires : goal.index_mut-requires
index_mut-requires c =
    let room = has_room c.make_room.new.self c.args.number c.make_room.ensures.row (subst (λ n. c.args.number < n) (sym c.make_room.ensures.size) c.requires.below) (ap (is_listed c.args.number) c.make_room.ensures.listed ∙ c.requires.other) in
    let end = c.make_room.ensures.room room.few in
    let len = c.make_room.ensures.row.room in
    let lt : c.make_room.new.self.end < length c.make_room.new.self.items.items = omega arith in
    search rules

pub overflow_add-self-2 : goal.overflow_add-self-2
overflow_add-self-2 c =
    let room = has_room c.make_room.new.self c.args.number c.make_room.ensures.row (subst (λ n. c.args.number < n) (sym c.make_room.ensures.size) c.requires.below) (ap (is_listed c.args.number) c.make_room.ensures.listed ∙ c.requires.other) in
    let few = room.few in
    let small = c.make_room.ensures.row.small in
    omega arith

pub returns-clause-row : goal.returns-clause-row
returns-clause-row c =
    let old = c.make_room.new.self in
    let number = c.args.number in
    let room = has_room c.make_room.new.self c.args.number c.make_room.ensures.row (subst (λ n. c.args.number < n) (sym c.make_room.ensures.size) c.requires.below) (ap (is_listed c.args.number) c.make_room.ensures.listed ∙ c.requires.other) in
    let is = c.make_room.ensures.row in
    let end = c.make_room.ensures.room room.few in
    let len = is.room in
    let lt : old.end < length old.items.items = omega arith in
    let gap : get_or old.items.items old.end None ≡ None = is.past old.end (omega arith) in
    let slice : c.as_slice.result.now ≡ set old.items.items old.end (Some number) = search rules in
    let same : (p : ℕ) → p ≢ old.end → get_or (set old.items.items old.end (Some number)) p None ≡ get_or old.items.items p None = λ p ne. get_or-set_other old.items.items old.end p (Some number) None ne in
    let before : (p : ℕ) → p < c.next_number-self.result → get_or (set old.items.items old.end (Some number)) p None ≡ None =
    gaps_to (set old.items.items old.end (Some number)) old.head c.next_number-self.result
    (λ p low. same p (let head = is.head in λ e. omega arith) ∙ is.before p low)
    (λ p low high. ap (λ items. get_or items p None) (sym slice) ∙ c.next_number-self.ensures.gaps p low high) in
    let past : (p : ℕ) → old.end + 1 ≤ p → get_or (set old.items.items old.end (Some number)) p None ≡ None = λ p le. same p (λ e. omega arith) ∙ is.past p (omega arith) in
    record {
      agrees = agrees_put old.items.items old.places.items old.end number is.agrees lt room.inside gap room.none;
      size = length-set old.places.items number (Some old.end) ∙ is.size;
      small = is.small;
      room = length-set old.items.items old.end (Some number) ∙ is.room;
      head = c.next_number-self.ensures.high;
      end = omega arith;
      before = before;
      past = past;
      first = first_is (set old.items.items old.end (Some number)) c.next_number-self.result (old.end + 1) c.next_number-self.ensures.high before
          (λ low none. c.next_number-self.ensures.number low (ap (λ items. get_or items c.next_number-self.result None) slice ∙ none)) past;
      count = let more = length_put old.items.items old.end number lt gap in let was = is.count in omega arith;
    }

pub returns-clause-listed : goal.returns-clause-listed
returns-clause-listed c =
    let room = has_room c.make_room.new.self c.args.number c.make_room.ensures.row (subst (λ n. c.args.number < n) (sym c.make_room.ensures.size) c.requires.below) (ap (is_listed c.args.number) c.make_room.ensures.listed ∙ c.requires.other) in
    let end = c.make_room.ensures.room room.few in
    let len = c.make_room.ensures.row.room in
    let lt : c.make_room.new.self.end < length c.make_room.new.self.items.items = omega arith in
    numbers_put c.make_room.new.self.items.items c.make_room.new.self.end c.args.number lt c.make_room.ensures.row.past
    ∙ ap (λ listed. listed ++ c.args.number ∷ []) c.make_room.ensures.listed
