use Rattle.std.proofs.Common.{◌≡◌, ℕ, ◌+◌, ◌-◌, List, ◌++◌, length, take, sym, ap, ◌∙◌, arith}
use Rattle.v7_layout.specs.Numbers.{zeros}
use Rattle.v7_layout.specs.Written.{super_bytes}
use Rattle.v7_layout.proofs.Back.{grow}
use Rattle.v7_layout.proofs.RoundTrip.{super-reads_back}
use Rattle.v7_layout.proofs.super_block.SuperRecord.write.Goals as goal

pub returns-clause-bytes : goal.returns-clause-bytes
unfolding super_bytes
returns-clause-bytes c =
    let past : length c.put_long-4.new.bytes - 444 ≡ 68 = omega arith in
    let name : 428 + length c.args.self.now.s_fname ≡ 434 = omega arith in
    let pack : 434 + length c.args.self.now.s_fpack ≡ 440 = omega arith in
    let to6 = grow _ _ 6 2 c.put_long.new.bytes c.put_short.new.bytes c.put_long.ensures.put.front c.put_short.ensures.put.front in
    let to8 = grow _ _ 8 6 c.put_short-2.new.bytes c.put_long.new.bytes c.put_short-2.ensures.put.front to6 in
    let to208 = grow _ _ 208 8 c.put_blocks.new.bytes c.put_short-2.new.bytes c.put_blocks.ensures.put.front to8 in
    let to210 = grow _ _ 210 208 c.put_short-3.new.bytes c.put_blocks.new.bytes c.put_short-3.ensures.put.front to208 in
    let to410 = grow _ _ 410 210 c.put_numbers.new.bytes c.put_short-3.new.bytes c.put_numbers.ensures.put.front to210 in
    let to414 = grow _ _ 414 410 c.put_bytes.new.bytes c.put_numbers.new.bytes c.put_bytes.ensures.front to410 in
    let to418 = grow _ _ 418 414 c.put_long-2.new.bytes c.put_bytes.new.bytes c.put_long-2.ensures.put.front to414 in
    let to422 = grow _ _ 422 418 c.put_long-3.new.bytes c.put_long-2.new.bytes c.put_long-3.ensures.put.front to418 in
    let to424 = grow _ _ 424 422 c.put_short-4.new.bytes c.put_long-3.new.bytes c.put_short-4.ensures.put.front to422 in
    let to426 = grow _ _ 426 424 c.put_short-5.new.bytes c.put_short-4.new.bytes c.put_short-5.ensures.put.front to424 in
    let to428 = grow _ _ 428 426 c.put_short-6.new.bytes c.put_short-5.new.bytes c.put_short-6.ensures.put.front to426 in
    let to434 = grow _ _ 434 428 c.put_bytes-2.new.bytes c.put_short-6.new.bytes
    (ap (λ (n : ℕ). take n c.put_bytes-2.new.bytes) (sym name) ∙ c.put_bytes-2.ensures.front) to428 in
    let to440 = grow _ _ 440 434 c.put_bytes-3.new.bytes c.put_bytes-2.new.bytes
    (ap (λ (n : ℕ). take n c.put_bytes-3.new.bytes) (sym pack) ∙ c.put_bytes-3.ensures.front) to434 in
    let to444 = grow _ _ 444 440 c.put_long-4.new.bytes c.put_bytes-3.new.bytes c.put_long-4.ensures.put.front to440 in
    c.put_zeros.ensures
    ∙ ap (λ (n : ℕ). take 444 c.put_long-4.new.bytes ++ zeros n) past
    ∙ ap (λ (l : List ℕ). l ++ zeros 68) to444

pub returns-clause-reads_back : goal.returns-clause-reads_back
returns-clause-reads_back c =
    super-reads_back c.put_zeros.new.bytes c.args.self.now (returns-clause-bytes c)
    (record {
      s_isize = c.put_short.ensures.fits;
      s_fsize = c.put_long.ensures.fits;
      s_nfree = c.put_short-2.ensures.fits;
      s_free = c.put_blocks.ensures.fits;
      blocks = omega arith;
      s_ninode = c.put_short-3.ensures.fits;
      s_inode = c.put_numbers.ensures.fits;
      numbers = omega arith;
      s_time = c.put_long-2.ensures.fits;
      s_tfree = c.put_long-3.ensures.fits;
      s_tinode = c.put_short-4.ensures.fits;
      s_m = c.put_short-5.ensures.fits;
      s_n = c.put_short-6.ensures.fits;
      s_fname = omega arith;
      s_fpack = omega arith;
      mark = c.put_long-4.ensures.fits;
    })
