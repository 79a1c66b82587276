use Rattle.std.proofs.Common.{◌≡◌, ◌-◌, length, ap, arith}
use Rattle.v7_layout.specs.Numbers.{zeros}
use Rattle.v7_layout.specs.Written.{chain_bytes}
use Rattle.v7_layout.proofs.RoundTrip.{chain-reads_back}
use Rattle.v7_layout.proofs.chain.ChainRecord.write.Goals as goal

pub returns-clause-bytes : goal.returns-clause-bytes
unfolding chain_bytes
returns-clause-bytes c =
    let past : zeros (length c.put_blocks.new.bytes - 202) ≡ zeros 310 = ap zeros (omega arith) in
    cc

pub returns-clause-reads_back : goal.returns-clause-reads_back
returns-clause-reads_back c =
    chain-reads_back c.put_zeros.new.bytes c.args.self.now (returns-clause-bytes c) c.put_short.ensures.fits (omega arith) c.put_blocks.ensures.fits
