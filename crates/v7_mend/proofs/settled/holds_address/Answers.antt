use Rattle.std.proofs.Common.{rules, arith, ◌≡◌, ◌≢◌, ◌<◌, ◌≤◌, ◌&&◌, ◌==◌, ℕ, false, not, sym, ltb}
use Rattle.v7_mend.specs.Settled.{entry}
use Rattle.v7_mend.proofs.Entries.{holds_at, holds_none}
use Rattle.v7_mend.proofs.settled.holds_address.Goals as goal

pub returns-then-address_of-ne0 : goal.returns-then-address_of-ne0
returns-then-address_of-ne0 c =
    let here : c.address_of.result ≡ entry c.args.block.now c.loop-index.index = c.address_of.ensures in
    let some : c.address_of.result ≢ 0 = search rules in
    sym (holds_at c.args.block.now c.args.sectors c.loop-index.index (omega arith) (omega arith) (omega arith) (λ z. some (search rules)))

pub returns : goal.returns
returns c =
    let none : (k : ℕ) → 10 ≤ k → k < c.loop-index.index → (ltb k c.args.sectors && not (entry c.args.block.now k == 0)) ≡ false = c.loop-index.invariant in
    sym (holds_none c.args.block.now c.args.sectors (λ k low high. none k low (omega arith)))
