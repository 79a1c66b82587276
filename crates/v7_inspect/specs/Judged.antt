-- What the inodes of a volume without damage add up to.
use Rattle.std.specs.Prelude.{◌≡◌, ◌≤◌, true, length}
use Rattle.files_model.specs.Space.{usage}
use Rattle.stable.specs.Store.{Image}
use Rattle.v7_map.specs.Frame.{frame}
use Rattle.v7_map.specs.Tree.{tree}
use Rattle.v7_map.specs.Weak.{IsStrong}
use Rattle.v7_map.specs.View.{view}
use Rattle.v7_damage.specs.declared.tested.Undamaged.{Undamaged}
use Rattle.v7_inspect.specs.Usage.{AreNeeded}
use Rattle.v7_inspect.specs.declared.judged.Judged.{Judged}
use Rattle.v7_inspect.specs.declared.summed.Sum.{Sum}

-- the tables have a row for each inode
pub record HasRows (known : Undamaged) : Type 0 where
  pub some : 1 ≤ length known.types.items
  pub few : length known.types.items ≤ 65536
  pub counts : length known.counts.items ≡ length known.types.items
  pub summaries : length known.summaries.items ≡ length known.types.items

-- whether there is nothing to mend, and the usage of the view
pub record IsSummed (image : Image) (sum : Sum) : Type 0 where
  pub strong_only : sum.strong ≡ true → IsStrong (frame image)
  pub strong_always : IsStrong (frame image) → sum.strong ≡ true
  pub used_is : sum.used ≡ usage (view image)

-- whether there is nothing to mend, the usage of the view, and the blocks that its files take
pub record IsJudged (image : Image) (judged : Judged) : Type 0 where
  pub strong_only : judged.strong ≡ true → IsStrong (frame image)
  pub strong_always : IsStrong (frame image) → judged.strong ≡ true
  pub used_is : judged.used ≡ usage (view image)
  pub needed_are : AreNeeded image judged.needed (tree (frame image)).inodes
