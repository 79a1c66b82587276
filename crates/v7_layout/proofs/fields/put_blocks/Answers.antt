use Rattle.std.proofs.Common.{rules, ◌^◌, arith}
use Rattle.v7_layout.proofs.Little.{all_below}
use Rattle.v7_layout.proofs.Parts.{put_at}
use Rattle.v7_layout.proofs.fields.put_blocks.Goals as goal

pub returns : goal.returns
returns c = record {
  put = put_at _ _ _ _ _ _ (omega arith) (omega arith) (search rules) (search rules);
  fits = all_below c.args.blocks.now (2 ^ 32) c.fits-blocks;
}
