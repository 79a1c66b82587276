-- What each moment of a put leaves of the disk, one call after another.
use Rattle.std.proofs.Common.{ℕ, List, [], get_or, ap, ◌∙◌}
use Rattle.rig.specs.Devices.{Devices, Sizes}
use Rattle.presto_cache.specs.Board.{PutsOnBoard, PutsOnDisk, KeepsOnDisk}
use Rattle.presto_cache.proofs.Puts.{kept_puts, put_again}
use Rattle.presto_unit.specs.Disk.{PutsWithRoom}

module _ {sizes : Sizes} {s : ℕ} {x : List ℕ} (other : ℕ) where
  pub room_again : {old mid d : Devices} → PutsWithRoom sizes s other x old mid → PutsWithRoom sizes s other x mid d → PutsWithRoom sizes s other x old d
  room_again p q = record { puts = put_again p.puts q.puts; others = λ k ne no. q.others k ne no ∙ p.others k ne no }

  pub board_with_room : {old d : Devices} → PutsOnBoard sizes s x old d → PutsWithRoom sizes s other x old d
  board_with_room p = record { puts = p.puts; others = λ k ne no. ap (λ (l : List (List ℕ)). get_or l k []) p.disk }

  pub disk_with_room : {old d : Devices} → PutsOnDisk sizes s x old d → PutsWithRoom sizes s other x old d
  disk_with_room p = record { puts = p.puts; others = λ k ne no. p.others k ne }

  -- an entry goes to the disk before
  pub kept_with_room : {old d : Devices} → KeepsOnDisk sizes other old d → PutsWithRoom sizes s other x old d
  kept_with_room p = record { puts = kept_puts s x p.keeps; others = λ k ne no. p.others k no }

-- where no room is made, one sector may change
pub room_unused : {sizes : Sizes} {s : ℕ} {x : List ℕ} (other : ℕ) {old d : Devices} → PutsWithRoom sizes s s x old d → PutsWithRoom sizes s other x old d
room_unused other p = record { puts = p.puts; others = λ k ne no. p.others k ne ne }
