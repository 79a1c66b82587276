use Rattle.std.proofs.Common.{arith, ◌≡◌, ◌+◌, ◌||◌, ◌∷◌, [], true, false, take, sym, ◌∙◌}
use Rattle.std.specs.List.{list_any}
use Rattle.plan_file.specs.Accepted.{covers}
use Rattle.plan_file.specs.Accepted.{kept_of}
use Rattle.plan_file.proofs.Kept.{any-next, any-early, take-all}
use Rattle.v7_map.proofs.Walks.{or_right}
use Rattle.plan_file.proofs.accepted.is_covered.Goals as goal

pub returns-then-covers_one : goal.returns-then-covers_one
returns-then-covers_one c =
    let ws = c.args.batch.now in let rs = c.args.replies.now in let i = c.loop-at.at in
    let w = c.index-batch-at.result in let r = c.index-replies-at.result in
    let lt = c.loop-at-test.true in let same = c.requires in
    let next = any-next (covers c.args.index) ws rs i w r (omega arith) (omega arith) c.index-batch-at.is c.index-replies-at.is in
    let here : list_any (covers c.args.index) (kept_of (w ∷ []) (r ∷ [])) ≡ true = sym c.covers_one.ensures ∙ c.if-covers_one.true in
    sym (any-early (covers c.args.index) ws rs (i + 1) same (omega arith) (next ∙ or_right (list_any (covers c.args.index) (kept_of (take i ws) (take i rs))) _ here))

pub loop-at-preserved : goal.loop-at-preserved
loop-at-preserved c =
    let ws = c.args.batch.now in let rs = c.args.replies.now in let i = c.loop-at.at in
    let w = c.index-batch-at.result in let r = c.index-replies-at.result in
    let lt = c.loop-at-test.true in let same = c.requires in
    let next = any-next (covers c.args.index) ws rs i w r (omega arith) (omega arith) c.index-batch-at.is c.index-replies-at.is in
    let here : list_any (covers c.args.index) (kept_of (w ∷ []) (r ∷ [])) ≡ false = sym c.covers_one.ensures ∙ c.if-covers_one.false in
    record { none = next ∙ (λ z. c.loop-at.invariant.none z || here z) }

pub returns : goal.returns
returns c =
    let over = c.loop-at-test.false in let same = c.requires in
    sym c.loop-at.invariant.none
    ∙ (λ z. list_any (covers c.args.index) (kept_of (take-all c.args.batch.now c.loop-at.at (omega arith) z) (take-all c.args.replies.now c.loop-at.at (omega arith) z)))
