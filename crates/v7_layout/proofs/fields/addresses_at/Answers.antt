use Rattle.std.proofs.Common.{◌≡◌, ℕ, ◌+◌, ◌*◌, ◌<◌, ◌^◌, get_or, set, length, ap, ◌∙◌, arith, length-set}
use Rattle.std.proofs.lemmas.List.{get_or_default}
use Rattle.std.proofs.lemmas.List.Edits.{fill_by_more}
use Rattle.std.proofs.lemmas.List.FromFn.{fill_by_all}
use Rattle.v7_layout.specs.Numbers.{field, fields}
use Rattle.v7_layout.proofs.Little.{field-lt}
use Rattle.v7_layout.proofs.fields.addresses_at.Goals as goal

pub returns-clause-addresses : goal.returns-clause-addresses
unfolding fields
returns-clause-addresses c =
    fill_by_all (λ (k : ℕ). field c.args.bytes.now (c.args.at + 3 * k) 3) c.loop-k.addresses 10 0 c.loop-k.invariant.0 (λ k lt. c.loop-k.invariant.1 k (omega arith))

pub returns-clause-fit : goal.returns-clause-fit
returns-clause-fit c k d lt =
    let ten : length c.loop-k.addresses ≡ 10 = c.loop-k.invariant.0 in
    let within : k < c.loop-k.k = omega (arith, ten, lt) in
    let there : get_or c.loop-k.addresses k 0 ≡ field c.args.bytes.now (c.args.at + 3 * k) 3 = c.loop-k.invariant.1 k within in
    let same : get_or c.loop-k.addresses k d ≡ get_or c.loop-k.addresses k 0 = get_or_default c.loop-k.addresses k d 0 lt in
    let below : field c.args.bytes.now (c.args.at + 3 * k) 3 < 256 ^ 3 =
    field-lt c.args.bytes.now (c.args.at + 3 * k) 3 (λ j. let b = c.type_inv.bytes j in omega (arith, b)) (omega (arith, ten, lt)) in
    omega (arith, there, same, below)

pub loop-k-preserved : goal.loop-k-preserved
loop-k-preserved c =
    let numbers : ℕ → ℕ = λ (k : ℕ). field c.args.bytes.now (c.args.at + 3 * k) 3 in
    let ten : length c.loop-k.addresses ≡ 10 = c.loop-k.invariant.0 in (
      length-set c.loop-k.addresses c.loop-k.k c.address_at.result ∙ ten,
      λ k lt.
          ap (λ (x : ℕ). get_or (set c.loop-k.addresses c.loop-k.k x) k 0) c.address_at.ensures.address
          ∙ fill_by_more numbers c.loop-k.addresses c.loop-k.k 0 (omega (arith, ten)) c.loop-k.invariant.1 k lt,
    )
