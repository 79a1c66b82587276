use Rattle.std.proofs.Common.{rules, ◌≡◌, ◌<◌, ◌≤◌, ℕ, None, get_or, set, sym, ap, ◌∙◌, arith, length-set}
use Rattle.std.specs.Option.{is_some}
use Rattle.index_sets.specs.Row.{Agrees}
use Rattle.index_sets.proofs.Gaps.{inside, length_cleared, has_is, cleared, agrees_clear, still_gap, gaps_to, first_is, numbers_without}
use Rattle.index_sets.proofs.row.Row.clear.Goals as goal

pub index_mut-requires : goal.index_mut-requires
index_mut-requires c = let lt = inside c.args.self.now.items.items c.args.place c.args.number (c.requires.row.agrees.standing c.args.number c.args.place c.requires.here) in search rules

pub returns-clause-row : goal.returns-clause-row
returns-clause-row c =
    let agrees : Agrees (set c.args.self.now.items.items c.args.place None) (set c.args.self.now.places.items c.args.number None) = agrees_clear c.args.self.now.items.items c.args.self.now.places.items c.args.place c.args.number c.requires.row.agrees c.requires.here in
    let slice : c.as_slice.result.now ≡ set c.args.self.now.items.items c.args.place None = search rules in
    let before : (p : ℕ) → p < c.next_number-self.result → get_or (set c.args.self.now.items.items c.args.place None) p None ≡ None =
    gaps_to (set c.args.self.now.items.items c.args.place None) c.args.self.now.head c.next_number-self.result
    (λ p lt. still_gap c.args.self.now.items.items c.args.place p (c.requires.row.before p lt))
    (λ p low lt. ap (λ items. get_or items p None) (sym slice) ∙ c.next_number-self.ensures.gaps p low lt) in
    let past : (p : ℕ) → c.args.self.now.end ≤ p → get_or (set c.args.self.now.items.items c.args.place None) p None ≡ None = λ p le. still_gap c.args.self.now.items.items c.args.place p (c.requires.row.past p le) in
    record {
      agrees = agrees;
      size = length-set c.args.self.now.places.items c.args.number None ∙ c.requires.row.size;
      small = c.requires.row.small;
      room = length-set c.args.self.now.items.items c.args.place None ∙ c.requires.row.room;
      head = c.next_number-self.ensures.high;
      end = c.requires.row.end;
      before = before;
      past = past;
      first = first_is (set c.args.self.now.items.items c.args.place None) c.next_number-self.result c.args.self.now.end c.next_number-self.ensures.high before
          (λ lt none. c.next_number-self.ensures.number lt (ap (λ items. get_or items c.next_number-self.result None) slice ∙ none)) past;
      count = (let less = length_cleared c.args.self.now.items.items c.args.place c.args.number (c.requires.row.agrees.standing c.args.number c.args.place c.requires.here) in let was = c.requires.row.count in omega arith);
    }

pub returns-clause-listed : goal.returns-clause-listed
returns-clause-listed c = numbers_without c.args.self.now.items.items c.args.place c.args.number (c.requires.row.agrees.standing c.args.number c.args.place c.requires.here)
    (λ p lt here. let e = c.requires.row.agrees.placed p c.args.number here in let f = c.requires.here in let same : p ≡ c.args.place = cc in absurd (omega arith))

pub returns-clause-gone : goal.returns-clause-gone
returns-clause-gone c =
    sym (has_is (set c.args.self.now.items.items c.args.place None) (set c.args.self.now.places.items c.args.number None) c.args.number (agrees_clear c.args.self.now.items.items c.args.self.now.places.items c.args.place c.args.number c.requires.row.agrees c.requires.here))
    ∙ ap is_some (cleared c.args.self.now.places.items c.args.number)
