-- What is said of a device whose contents nobody tells.
use Rattle.std.specs.Prelude.{ℕ, [], true}
use Rattle.rig.specs.Devices.{Devices, Sizes}

-- stands in the place of the contents that aren't told
abbrev pub nothing : Devices
nothing = record { disk = []; words = []; buffers = []; kept = true }

-- these sizes
abbrev pub sized : ℕ → ℕ → ℕ → Sizes
sized sectors words buffers = record { sectors = sectors; words = words; buffers = buffers }
