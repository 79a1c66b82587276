use Rattle.std.proofs.Common.{rules, arith, ◌≡◌, ◌+◌, ◌-◌, ◌*◌, ◌++◌, get_or, min, max, take, drop, ap, sym, ◌∙◌}
use Rattle.files_model.specs.Step.{most_read}
use Rattle.plan_file.specs.Contents.{old_content}
use Rattle.v7_map.specs.Stored.{sector_in, stored_content}
use Rattle.v7_contents.proofs.Bytes.{part_stored, read_whole, read_more}
use Rattle.v7_contents.proofs.body.read_body.Goals as goal

pub returns-then-offset-end-clause-read : goal.returns-then-offset-end-clause-read
returns-then-offset-end-clause-read g c = λ tells whole at.
    let image = g.S.Stable.image c.args.store.now in
    let n = c.args.inode.now in
    let end : c.min-end.result ≡ min (c.args.offset + min c.args.count most_read) n.size = omega arith in
    let none : 0 ≡ c.min-end.result - c.args.offset = omega arith in
    c.in_ok-bytes.ensures.items
    ∙ ap (λ m. take m (drop c.args.offset (stored_content image n))) none
    ∙ read_whole image n whole c.args.offset c.args.count c.min-end.result end

pub loop-index-preserved : goal.loop-index-preserved
loop-index-preserved g c =
    let S = g.S.Stable in
    let i = c.loop-index.invariant in
    let image = S.image c.args.store.now in
    let n = c.args.inode.now in
    record {
      read = λ tells whole at.
          let next : 512 * (c.loop-index.index + 1) ≡ 512 * c.loop-index.index + 512 = omega arith in
          let below = c.requires.size in
          let here : get_or c.args.places.now.body c.loop-index.index 0 ≡ sector_in image n c.loop-index.index = at c.loop-index.index (omega arith) in
          c.in_ok-add_part.ensures.added tells
          ∙ (λ z. i.read tells whole at z ++ take (min c.min-end.result (512 * c.loop-index.index + 512) - max c.args.offset (512 * c.loop-index.index)) (drop (max c.args.offset (512 * c.loop-index.index) - 512 * c.loop-index.index) (old_content (i.looked.image z) n.size c.loop-index.index (get_or c.args.places.now.body c.loop-index.index 0))))
          ∙ ap (λ ys. take (min (512 * c.loop-index.index) c.min-end.result - c.args.offset) (drop c.args.offset (stored_content image n)) ++ take (min c.min-end.result (512 * c.loop-index.index + 512) - max c.args.offset (512 * c.loop-index.index)) (drop (max c.args.offset (512 * c.loop-index.index) - 512 * c.loop-index.index) ys)) (part_stored image n whole c.loop-index.index _ here)
          ∙ sym (read_more image n whole c.args.offset c.min-end.result c.loop-index.index (omega arith) (omega arith) (omega arith) (omega arith))
          ∙ ap (λ m. take (min m c.min-end.result - c.args.offset) (drop c.args.offset (stored_content image n))) (sym next);
      long =
          let more = c.in_ok-add_part.ensures.longer in
          let was = i.long in
          omega arith;
      looked = search rules;
    }

pub returns-clause-read : goal.returns-clause-read
returns-clause-read g c = λ tells whole at.
    let image = g.S.Stable.image c.args.store.now in
    let n = c.args.inode.now in
    let end : c.min-end.result ≡ min (c.args.offset + min c.args.count most_read) n.size = omega arith in
    let all : min (512 * c.loop-index.index) c.min-end.result - c.args.offset ≡ c.min-end.result - c.args.offset = omega arith in
    c.loop-index.invariant.read tells whole at
    ∙ ap (λ m. take m (drop c.args.offset (stored_content image n))) all
    ∙ read_whole image n whole c.args.offset c.args.count c.min-end.result end
