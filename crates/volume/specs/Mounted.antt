-- What an open volume has.
use Rattle.std.specs.Prelude.{◌≡◌, ℕ, Bool, List}
use Rattle.files_model.specs.declared.attributes.FileId.{FileId}
use Rattle.v7_sets.specs.declared.sets.Sets.{Sets}
use Rattle.volume.specs.declared.mounted.Volume.{Volume}

-- the store that it stands on
abbrev pub store_of : {S : Type 0} → Volume S → S
store_of volume = volume.store

-- whether it may have something to mend
abbrev pub is_hurt : {S : Type 0} → Volume S → Bool
is_hurt volume = volume.hurt

-- what it keeps as free
abbrev pub sets_of : {S : Type 0} → Volume S → Sets
sets_of volume = volume.sets

-- the blocks that it keeps as free
abbrev pub free_blocks : {S : Type 0} → Volume S → List Bool
free_blocks volume = volume.sets.blocks

-- the i-numbers that it keeps as free
abbrev pub free_inodes : {S : Type 0} → Volume S → List Bool
free_inodes volume = volume.sets.inodes

-- the name that its opening found
abbrev pub name_of : {S : Type 0} → Volume S → List ℕ
name_of volume = volume.title.name

-- the root that its opening found
abbrev pub root_of : {S : Type 0} → Volume S → FileId
root_of volume = volume.title.root

-- the name and the root stay as the opening found them
pub record KeepsTitle {S : Type 0} (old new : Volume S) : Type 0 where
  pub name : name_of new ≡ name_of old
  pub root : root_of new ≡ root_of old

-- all but the store stays
abbrev pub SameButStore : {S : Type 0} → Volume S → Volume S → Type 0
SameButStore old new = new ≡ record old { store = new.store }
