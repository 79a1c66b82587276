use Rattle.std.proofs.Common.{rules, ◌≡◌, ◌*◌, [], ℕ, None, replicate, get_or, length, sym, ap, subst, ◌∙◌, arith}
use Rattle.index_sets.specs.Queue.{first_of}
use Rattle.index_sets.specs.Row.{Agrees, numbers_in}
use Rattle.index_sets.proofs.Gaps.{agrees_none, numbers_none, gaps_alone}
use Rattle.std.proofs.lemmas.List.{length-replicate}
use Rattle.index_sets.proofs.row.Row.new.Goals as goal

pub returns-clause-row : goal.returns-clause-row
returns-clause-row c =
    let items : c.in_ok-items.items.items ≡ replicate (2 * c.args.size) None = search rules in
    let places : c.in_ok-places.places.items ≡ replicate c.args.size None = search rules in
    let gap : (p : ℕ) → get_or c.in_ok-items.items.items p None ≡ None = λ p. ap (λ xs. get_or xs p None) items ∙ gaps_alone (2 * c.args.size) p in
    let none : numbers_in c.in_ok-items.items.items ≡ [] = numbers_none c.in_ok-items.items.items gap in
    record {
      agrees = subst (λ xs. Agrees xs c.in_ok-places.places.items) (sym items) (subst (Agrees (replicate (2 * c.args.size) None)) (sym places) (agrees_none (2 * c.args.size) c.args.size));
      size = ap length places ∙ length-replicate c.args.size None;
      small = omega arith;
      room = ap length items ∙ length-replicate (2 * c.args.size) None;
      head = omega arith;
      end = omega arith;
      before = λ p lt. gap p;
      past = λ p le. gap p;
      first = ap first_of none ∙ sym (gap 0);
      count = sym (ap length none);
    }

pub returns-clause-listed : goal.returns-clause-listed
returns-clause-listed c =
    let items : c.in_ok-items.items.items ≡ replicate (2 * c.args.size) None = search rules in
    numbers_none c.in_ok-items.items.items (λ p. ap (λ xs. get_or xs p None) items ∙ gaps_alone (2 * c.args.size) p)
