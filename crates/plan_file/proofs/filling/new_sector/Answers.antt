use Rattle.std.proofs.Common.{◌≡◌, ◌<◌, length, ap, subst, sym, ◌∙◌}
use Rattle.stable.specs.Store.{Image}
use Rattle.v7_map.proofs.Whole.{as_long, whole_image}
use Rattle.plan_file.specs.Accepted.{kept_of, spliced_by}
use Rattle.plan_file.specs.Contents.{old_content}
use Rattle.plan_file.proofs.Covered.{covered-content}
use Rattle.plan_file.proofs.filling.new_sector.Goals as goal

pub returns-clause-content : goal.returns-clause-content
returns-clause-content g c = λ tells.
    let S = g.S.Stable in
    let image : Image = S.image c.args.store.now in
    let ws = kept_of c.args.batch.now c.args.replies.now in
    let whole = whole_image S.sector_count g.met.S.Stable.clocked g.met.S.Stable.shape c.args.store.now tells in
    let long : length image ≡ S.sector_count c.args.store.now = (as_long S.sector_count g.met.S.Stable.clocked g.met.S.Stable.shape c.args.store.now tells).size in
    c.write_over.ensures
    ∙ ap (spliced_by ws c.args.index) (c.in_ok-bytes.ensures.content tells ∙ ap (old_content image c.args.size c.args.index) c.read_at-from.ensures)
    ∙ covered-content image c.args.size c.args.index c.args.address ws whole (λ nz. subst (λ n. c.args.address < n) (sym long) (c.requires.stands nz))
