use Rattle.std.proofs.Common.{rules, arith}
use Rattle.v7_layout.proofs.Parts.{put_at}
use Rattle.v7_layout.proofs.fields.put_long.Goals as goal

pub returns : goal.returns
returns c = record {
  put = put_at _ _ _ _ _ _ (omega arith) (omega arith) (search rules) (search rules);
  fits = search rules;
}
