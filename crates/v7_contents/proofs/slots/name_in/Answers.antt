use Rattle.std.proofs.Common.{◌≡◌, ℕ, Bool, List, length, take, not, ◌==◌, Some, None, nat_lt, ap, sym, refl, ◌∙◌, arith, rules, tests}
use Rattle.std.proofs.lemmas.Bool.{cond_both, ltb-false}
use Rattle.std.proofs.lemmas.Iterator.{YieldsList-from_slice}
use Rattle.std.proofs.lemmas.Iterator.Search.{position_from_yields_List}
use Rattle.std.proofs.lemmas.List.Sums.{prefix_len-le-length}
use Rattle.std.specs.List.{position, position_or_len}
use Rattle.std.specs.Option.{unwrap_or}
use Rattle.v7_contents.proofs.slots.name_in.Goals as goal

first_or_len : (p : ℕ → Bool) (xs : List ℕ) → unwrap_or (position p xs) (length xs) ≡ position_or_len p xs
first_or_len p xs = cond_both (nat_lt (position_or_len p xs) (length xs)) (Some (position_or_len p xs)) None (λ o. unwrap_or o (length xs) ≡ position_or_len p xs)
    (λ _. refl)
    (λ no. let past = ltb-false (position_or_len p xs) (length xs) no in let most = prefix_len-le-length (λ x. not (p x)) xs in omega (arith, past, most))

pub returns-clause-name : goal.returns-clause-name
returns-clause-name c =
    let found : c.position.result ≡ position (λ b. b == 0) c.args.padded.now =
    position_from_yields_List (λ b. b == 0) _ _ c.position.result c.position.ensures.ran (YieldsList-from_slice c.args.padded.now c.iter.ensures.rest) (λ x b q k. search (rules, tests)) in
    c.copy.ensures ∙ ap (λ n. take n c.args.padded.now) (
    c.unwrap_or-end.ensures ∙ ap (λ o. unwrap_or o 14) found
    ∙ ap (λ n. unwrap_or (position (λ b. b == 0) c.args.padded.now) n) (sym c.told-padded)
    ∙ first_or_len (λ b. b == 0) c.args.padded.now)
