-- A volume that is stopped.
use Rattle.std.proofs.Common.{Bool, List, subst, sym}
use Rattle.stable.specs.Store.{Image}
use Rattle.v7_map.specs.Frame.{Frame, frame}
use Rattle.v7_map.specs.Weak.{IsWeak}
use Rattle.v7_make.specs.Chains.{AreIdle, KeepsVolume}
use Rattle.v7_sets.specs.Sets.{AreSetsOf}
use Rattle.volume.specs.Keeps.{SameVolume}

-- free blocks stand nowhere
pub idle_of : (image : Image) (blocks inodes : List Bool) → IsWeak (frame image) → AreSetsOf image blocks inodes → AreIdle image blocks
unfolding frame
idle_of image blocks inodes weak sets = record { weak = weak; past = λ b is. (sets.free b is).low; unheld = λ b is. (sets.free b is).nowhere }

-- where the chain is written the volume is the same
pub chain_same : (blocks : List Bool) (old new : Image) → IsWeak (frame old) → KeepsVolume blocks old new → SameVolume old new
chain_same blocks old new weak keeps = record { files = record { weak = subst (λ (f : Frame). IsWeak f) (sym keeps.frame) weak; view = keeps.view }; name = keeps.name }
