-- The super-block of a volume that is open.
use Rattle.std.specs.Prelude.{◌≡◌, ◌≢◌, ◌⊎◌, ℕ}
use Rattle.stable.specs.Store.{Image}
use Rattle.v7_layout.specs.declared.super_block.Super.{Super}
use Rattle.v7_layout.specs.Records.{super_of}
use Rattle.v7_layout.specs.Written.{super_bytes}
use Rattle.v7_map.specs.Image.{sector_at}
use Rattle.v7_map.specs.Frame.{frame}
use Rattle.v7_map.specs.View.{view}

-- the super-block of an open volume, put at that second; all else in it stays
abbrev pub running : Super → ℕ → Super
running s now = record s { s_fmod = 1; s_time = now }

-- The volume says that it is open, and nothing else has changed.
pub record IsMarked (old new : Image) (now : ℕ) : Type 0 where
  pub frame : frame new ≡ frame old
  pub view : view new ≡ view old
  pub super : super_of (sector_at new 1) ≡ running (super_of (sector_at old 1)) now
  pub whole : sector_at new 1 ≡ super_bytes (super_of (sector_at new 1))
  pub elsewhere : (s : ℕ) → s ≢ 1 → sector_at new s ≡ sector_at old s

-- a moment of it
abbrev pub MayMark : Image → ℕ → Image → Type 0
MayMark old now image = (image ≡ old) ⊎ IsMarked old image now
