use Rattle.v7_map.specs.Frame.{frame}
use Rattle.v7_map.proofs.AnyFrame.{frame-IsFrame}
use Rattle.v7_map.proofs.Weakness.{no_damage_when_weak}
use Rattle.v7_map.proofs.laws.weak_is_undamaged.Goals as goal

pub returns : goal.returns
returns c image weak = no_damage_when_weak (frame image) (frame-IsFrame image) weak
