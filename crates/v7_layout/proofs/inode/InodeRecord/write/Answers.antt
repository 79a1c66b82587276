use Rattle.std.proofs.Common.{arith}
use Rattle.v7_layout.specs.Written.{inode_bytes}
use Rattle.v7_layout.proofs.Back.{whole}
use Rattle.v7_layout.proofs.RoundTrip.{inode-reads_back}
use Rattle.v7_layout.proofs.inode.InodeRecord.write.Goals as goal

pub returns-clause-bytes : goal.returns-clause-bytes
unfolding inode_bytes
returns-clause-bytes c = whole 64 c.put_long-5.new.bytes (inode_bytes c.args.self.now) (omega arith) (cc)

pub returns-clause-reads_back : goal.returns-clause-reads_back
returns-clause-reads_back c =
    inode-reads_back c.put_long-5.new.bytes c.args.self.now (returns-clause-bytes c)
    (record {
      mode = c.put_short.ensures.fits;
      nlink = c.put_short-2.ensures.fits;
      uid = c.put_short-3.ensures.fits;
      gid = c.put_short-4.ensures.fits;
      size = c.put_long.ensures.fits;
      direct = omega arith;
      generation = c.put_long-2.ensures.fits;
      atime = c.put_long-3.ensures.fits;
      mtime = c.put_long-4.ensures.fits;
      ctime = c.put_long-5.ensures.fits;
    })
    c.requires.fitting
