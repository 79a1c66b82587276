use Rattle.v7_map.specs.Frame.{frame}
use Rattle.v7_map.proofs.AnyFrame.{frame-IsFrame}
use Rattle.v7_map.proofs.Undamaged.{weak_without_damage}
use Rattle.v7_map.proofs.laws.undamaged_is_weak.Goals as goal

pub returns : goal.returns
returns c image none = weak_without_damage (frame image) (frame-IsFrame image) none
