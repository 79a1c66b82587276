use Rattle.std.proofs.Common.{rules, ◌≡◌, length, ap, sym, subst, ◌∙◌}
use Rattle.stable.specs.Puts.{put_all}
use Rattle.v7_map.specs.Image.{sector_at, inode_sector}
use Rattle.v7_strokes.specs.Over.{ReplacesInode}
use Rattle.v7_strokes.proofs.Replacing.{replaces-inode}
use Rattle.v7_strokes.proofs.added.add_inode.Goals as goal

pub returns-clause-put : goal.returns-clause-put
returns-clause-put g c = λ tells inside.
    let long : length c.in_ok-sector.sector ≡ 512 = search rules in
    let image = put_all c.args.plan.now.puts (g.S.Stable.image c.args.store.now) in
    let at : c.in_ok-sector.sector ≡ sector_at image (inode_sector c.args.ino) = c.in_ok-sector.ensures.done tells ∙ ap (sector_at image) c.inode_sector_of-place.ensures in
    replaces-inode image c.args.ino c.args.inode.now c.with_inode-changed.result inside (ap length (sym at) ∙ long)
    (subst (λ s. ReplacesInode s c.args.ino c.args.inode.now c.with_inode-changed.result) at c.with_inode-changed.ensures)
