-- What an interrupted or failed group of calls may leave. It speaks of contents and names alone, and of no order of puts.
use Rattle.std.specs.Prelude.{◌≡◌, ◌≢◌, ◌⊎◌, ℕ, ◌+◌, ◌<◌, Bool, true, false, List, [], ◌∷◌, Option, Some, None, slice_get, slice_set}
use Rattle.std.specs.Option.{option_map}
use Rattle.std.specs.List.{AllByRecursion}
use Rattle.std.specs.FinMap.{get}
use Rattle.files_model.specs.declared.attributes.FileId.{FileId}
use Rattle.files_model.specs.declared.attributes.Kind.TheVariants.{Directory}
use Rattle.files_model.specs.declared.credential.Cred.{Cred}
use Rattle.files_model.specs.declared.call.Call.{Call}
use Rattle.files_model.specs.declared.call.Call.TheVariants as call
use Rattle.files_model.specs.Files.{Node, Files, Sectors, sectors_of, clipped, live}
use Rattle.files_model.specs.Step.{step, with_node}

-- a call with its caller
abbrev pub Asked : Type 0
Asked = Call × Cred

-- the files after calls in order, all at one time
abbrev pub after_calls : Files → List Asked → ℕ → Files
after_calls files [] now = files
after_calls files (asked ∷ calls) now = after_calls (step files asked.0 asked.1 now).1 calls now

abbrev pub is_write : Call → Bool
is_write (call.Write file offset bytes) = true
is_write _ = false

abbrev pub makes_node : Call → Bool
makes_node (call.Create dir name set) = true
makes_node (call.Symlink dir name text set) = true
makes_node (call.Mkdir dir name set) = true
makes_node _ = false

abbrev pub IsWriteTo : FileId → Asked → Type 0
IsWriteTo file (call.Write other offset bytes, cred) = other ≡ file
IsWriteTo file _ = ⊥

-- ---- writes to one file

-- The torn body: each sector below the size is the old one, or the new one with zeros at and past the size.
abbrev pub IsTornBody : ℕ → Sectors → Sectors → Sectors → Type 0
IsTornBody size old new torn =
    (k : ℕ) → (get torn k ≡ get old k) ⊎ ((k < sectors_of size) × (get torn k ≡ option_map (clipped size k) (get new k)))

-- All calls are writes to one file. Only its body may differ, sector by sector.
pub record TornWrites (files : Files) (calls : List Asked) (now : ℕ) (torn : Files) : Type 0 where
  pub file : FileId
  pub writes : AllByRecursion (IsWriteTo file) calls
  pub old : Node
  pub old_is : live files file ≡ Some old
  pub new : Node
  pub new_is : get (after_calls files calls now).nodes file.ino ≡ Some new
  pub sectors : Sectors
  pub body : IsTornBody old.size old.sectors new.sectors sectors
  pub torn_is : torn ≡ with_node files file.ino (record old { sectors = sectors })

-- ---- one call of another kind

-- a node with the times of another
abbrev pub with_times : Node → Node → Node
with_times n from = record n { mtime = from.mtime; ctime = from.ctime }

-- The node is that of `base`. Where it stands before and after, its times may be the old or the new ones.
abbrev pub IsTornNode : Option Node → Option Node → Option Node → Option Node → Type 0
IsTornNode (Some old) (Some new) (Some base) torn = (torn ≡ Some (with_times base old)) ⊎ (torn ≡ Some (with_times base new))
IsTornNode old new base torn = torn ≡ base

-- these files but for the times of nodes that stand before and after
pub record TimesOf (files after base torn : Files) : Type 0 where
  pub nodes : (i : ℕ) → IsTornNode (get files.nodes i) (get after.nodes i) (get base.nodes i) (get torn.nodes i)
  pub rest : torn ≡ record base { nodes = torn.nodes }

-- The files before or after one call that is no write, but for times.
pub record TornTimes (files : Files) (calls : List Asked) (now : ℕ) (torn : Files) : Type 0 where
  pub asked : Asked
  pub one : calls ≡ asked ∷ []
  pub kind : is_write asked.0 ≡ false
  pub base : Files
  pub is_base : (base ≡ files) ⊎ (base ≡ after_calls files calls now)
  pub times : TimesOf files (after_calls files calls now) base torn

-- The call renames what is no directory, and changes two slots. Both name it: the files after the call with the old slot back, and one link more.
pub record TornRename (files : Files) (calls : List Asked) (now : ℕ) (torn : Files) : Type 0 where
  pub asked : Asked
  pub one : calls ≡ asked ∷ []
  pub from : FileId
  pub name : List ℕ
  pub to : FileId
  pub new_name : List ℕ
  pub kind : asked.0 ≡ call.Rename from name to new_name
  pub slot : ℕ
  pub moved : ℕ
  pub directory : Node
  pub directory_is : get files.nodes from.ino ≡ Some directory
  pub slot_is : slice_get directory.slots slot ≡ Some (Some (moved, name))
  pub left : Node
  pub left_is : get (after_calls files calls now).nodes from.ino ≡ Some left
  pub emptied : slice_get left.slots slot ≡ Some None
  pub node : Node
  pub node_is : get (after_calls files calls now).nodes moved ≡ Some node
  pub no_directory : node.kind ≢ Directory
  pub times : TimesOf files (after_calls files calls now)
      (with_node (with_node (after_calls files calls now) from.ino (record left { slots = slice_set left.slots slot (Some (moved, name)) })) moved (record node { nlink = node.nlink + 1 }))
      torn

-- The call makes a node. Only the generation of its i-number is the new one.
pub record TornCreation (files : Files) (calls : List Asked) (now : ℕ) (torn : Files) : Type 0 where
  pub asked : Asked
  pub one : calls ≡ asked ∷ []
  pub kind : makes_node asked.0 ≡ true
  pub torn_is : torn ≡ record files { generations = (after_calls files calls now).generations }

-- what an interrupted or failed group of calls may leave
abbrev pub Torn : Files → List Asked → ℕ → Files → Type 0
Torn files calls now torn =
    (torn ≡ files) ⊎ ((torn ≡ after_calls files calls now)
    ⊎ (TornWrites files calls now torn ⊎ (TornTimes files calls now torn ⊎ (TornRename files calls now torn ⊎ TornCreation files calls now torn))))
