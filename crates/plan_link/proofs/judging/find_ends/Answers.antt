use Rattle.std.proofs.Common.{◌≡◌, sym, subst}
use Rattle.stable.specs.Store.{Image}
use Rattle.v7_map.specs.Frame.{frame}
use Rattle.v7_map.specs.Weak.{IsStrong}
use Rattle.v7_read.specs.Found.{Finds}
use Rattle.plan_link.proofs.LinkJudged.{ends-stale_file, ends-stale_directory}
use Rattle.plan_link.proofs.judging.find_ends.Goals as goal

pub returns-in_default-clause-found : goal.returns-in_default-clause-found
returns-in_default-clause-found g c = λ tells strong.
    let image : Image = g.S.Stable.image c.args.store.now in
    ends-stale_file image c.args.file c.args.dir strong (subst (Finds image c.args.file) c.in_default.is (c.in_ok-node.ensures.found tells strong))

pub returns-in_default-2-clause-found : goal.returns-in_default-2-clause-found
returns-in_default-2-clause-found g c = λ tells strong.
    let image : Image = g.S.Stable.image c.args.store.now in
    let same = c.in_ok-node.ensures.looked.image in
    ends-stale_directory image c.args.file c.args.dir strong (subst (Finds image c.args.dir) c.in_default-2.is (subst (λ (z : Image). Finds z c.args.dir c.in_ok-directory.field-0) same
    (c.in_ok-directory.ensures.found tells (subst (λ (z : Image). IsStrong (frame z)) (sym same) strong))))

pub returns-clause-found : goal.returns-clause-found
returns-clause-found g c = λ tells strong.
    let image : Image = g.S.Stable.image c.args.store.now in
    let same = c.in_ok-node.ensures.looked.image in (
      subst (Finds image c.args.file) c.in-Some.is (c.in_ok-node.ensures.found tells strong),
      subst (Finds image c.args.dir) c.in-Some-2.is (subst (λ (z : Image). Finds z c.args.dir c.in_ok-directory.field-0) same
          (c.in_ok-directory.ensures.found tells (subst (λ (z : Image). IsStrong (frame z)) (sym same) strong))),
    )
