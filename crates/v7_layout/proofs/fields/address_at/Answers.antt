use Rattle.std.proofs.Common.{◌≡◌, ◌<◌, ◌^◌, arith, ◌∙◌}
use Rattle.v7_layout.specs.Numbers.{field}
use Rattle.v7_layout.proofs.Little.{field-lt, number_at_place}
use Rattle.v7_layout.proofs.fields.address_at.Goals as goal

pub returns-clause-address : goal.returns-clause-address
returns-clause-address c = c.read_u24.ensures ∙ number_at_place 3 c.args.at c.args.bytes.now (omega arith)

pub returns-clause-fits : goal.returns-clause-fits
returns-clause-fits c =
    let e : c.read_u24.result ≡ field c.args.bytes.now c.args.at 3 = returns-clause-address c in
    let h : field c.args.bytes.now c.args.at 3 < 256 ^ 3 =
    field-lt c.args.bytes.now c.args.at 3 (λ k. let b = c.type_inv.bytes k in omega (arith, b)) (omega arith) in
    omega (arith, e, h)
