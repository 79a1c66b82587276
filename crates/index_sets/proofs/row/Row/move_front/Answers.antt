use Rattle.std.proofs.Common.{rules, ◌≡◌, ◌≢◌, ◌<◌, ℕ, Option, Some, None, get_or, set, length, List, sym, ap, subst, ◌∙◌, arith, get_or-set_same, get_or-set_other, length-set, ⊎_elim}
use Rattle.std.proofs.lemmas.Bool.{cases_eq}
use Rattle.index_sets.proofs.Gaps.{agrees_move, numbers_moved, inside}
use Rattle.index_sets.proofs.row.Row.move_front.Goals as goal

pub index_mut-requires-in-Some-2 : goal.index_mut-requires-in-Some-2
index_mut-requires-in-Some-2 c =
    let here : get_or c.args.self.now.items.items c.args.from None ≡ Some c.in-Some.number = search rules in
    let lt = inside c.args.self.now.places.items c.in-Some.number c.args.from (c.requires.packing.agrees.placed c.args.from c.in-Some.number here) in
    search rules

pub returns-in-Some-clause-packing : goal.returns-in-Some-clause-packing
returns-in-Some-clause-packing c =
    let items = c.args.self.now.items.items in
    let places = c.args.self.now.places.items in
    let from = c.args.from in
    let to = c.args.to in
    let number = c.in-Some.number in
    let is = c.requires.packing in
    let here : get_or items from None ≡ Some number = search rules in
    let low = is.low in
    let end = is.end in
    let room = is.room in
    let lt : to < length items = omega arith in
    let cleared : List (Option ℕ) = set items from None in
    let same : (p : ℕ) → p ≢ to → p ≢ from → get_or (set cleared to (Some number)) p None ≡ get_or items p None = λ p ne other.
    get_or-set_other cleared to p (Some number) None ne ∙ get_or-set_other items from p None None other in
    let first : get_or (set cleared to (Some number)) to None ≡ Some number = get_or-set_same cleared to (Some number) None (subst (λ n. to < n) (sym (length-set items from None)) lt) in
    record {
      agrees = agrees_move items places from to number is.agrees here lt (λ ne. is.gaps to (omega arith) (omega arith));
      size = length-set places number (Some to) ∙ is.size;
      room = length-set cleared to (Some number) ∙ length-set items from None ∙ is.room;
      end = is.end;
      low = omega arith;
      full = λ p below none. ⊎_elim
          (λ (e : p ≡ to). let f = ap (λ q. get_or (set cleared to (Some number)) q None) e in cc)
          (λ (ne : p ≢ to). is.full p (omega arith) (sym (same p ne (λ e. omega arith)) ∙ none))
          (cases_eq p to);
      gaps = λ p above below. get_or-set_other cleared to p (Some number) None (λ e. omega arith) ∙ ⊎_elim
          (λ (e : p ≡ from). ap (λ q. get_or cleared q None) e ∙ get_or-set_same items from None None (omega arith))
          (λ (ne : p ≢ from). get_or-set_other items from p None None ne ∙ is.gaps p (omega arith) (omega arith))
          (cases_eq p from);
      past = λ p above. same p (λ e. omega arith) (λ e. omega arith) ∙ is.past p above;
      count = is.count ∙ sym (ap length (numbers_moved items from to number is.low here is.gaps));
    }

pub returns-in-Some-clause-listed : goal.returns-in-Some-clause-listed
returns-in-Some-clause-listed c =
    let here : get_or c.args.self.now.items.items c.args.from None ≡ Some c.in-Some.number = search rules in
    numbers_moved c.args.self.now.items.items c.args.from c.args.to c.in-Some.number c.requires.packing.low here c.requires.packing.gaps
