use Rattle.std.proofs.Common.{◌∙◌, List, Bool, refl, sym, ap}
use Rattle.index_sets.specs.Free.{is_free}
use Rattle.stable.specs.Store.{Image}
use Rattle.v7_damage.proofs.Supers.{numbers_read}
use Rattle.v7_repair.specs.Free.{is_left}
use Rattle.v7_repair.proofs.free.find_free.Goals as goal

pub returns-clause-left : goal.returns-clause-left
returns-clause-left g c = λ tells is.
    let image : Image = g.S.Stable.image c.args.store.now in
    let s = c.args.known.now.super_block in
    let starts = (numbers_read image s _ is.super_is refl).starts in
    record {
      blocks = λ b. ap (λ (x : List Bool). is_free x b) c.in_ok-give_numbers.ensures.blocks ∙ c.give_blocks.ensures.blocks b ∙ sym (ap (λ n. is_left n c.args.needed.now b) starts);
      inodes = c.in_ok-give_numbers.ensures.numbers tells is;
    }
