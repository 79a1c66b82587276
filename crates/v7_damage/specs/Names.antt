-- The tests of directories, and what is kept of the slots before.
use Rattle.std.specs.Prelude.{◌≡◌, ◌<◌, ◌≤◌, ◌/◌, ℕ, Bool, true, false, List, [], ◌∷◌, get_or, length, nat_lt, ◌==◌, ◌&&◌, if◌then◌else◌, not, count_by, Some, None}
use Rattle.std.specs.List.{range_with_len, list_any, flat_map}
use Rattle.files_model.specs.Files.{Slot}
use Rattle.stable.specs.Store.{Image}
use Rattle.v7_map.specs.Frame.{Frame, Body, frame, is_directory}
use Rattle.v7_map.specs.Weak.{slot_at, parent}
use Rattle.v7_map.specs.Tree.{Tree, tree, is_slot_of, is_walked, is_child}
use Rattle.v7_map.specs.Damage.{Test, Entry, directory_tests, slot_tests, slots_before, is_some_slot, has_entry, is_entry}
use Rattle.v7_damage.specs.Marks.{mark_at}
use Rattle.v7_damage.specs.Tests.{first_failing}
use Rattle.v7_damage.specs.Walk.{is_dir_in, AreWalked}
use Rattle.v7_damage.specs.Tables.{CanRead}
use Rattle.v7_damage.specs.declared.bodies.Bodies.{Bodies}
use Rattle.v7_damage.specs.declared.names.Kept.{Kept}
use Rattle.v7_damage.specs.declared.names.WrongSlot.{WrongSlot}
use Rattle.v7_damage.specs.declared.parents.Parents.{Parents}
use Rattle.v7_damage.specs.declared.walk.Walks.{Walks}

-- the tests of m slots of directory d from the k-th on
unfoldable pub tests_of_slots : Tree → ℕ → ℕ → ℕ → List Test
tests_of_slots t d k m = flat_map (slot_tests t d) (range_with_len k m)

-- the tests of directory d
unfoldable pub tests_of_directory : Tree → ℕ → List Test
tests_of_directory t d = directory_tests t d

-- those of m directories from the d-th on
unfoldable pub tests_of_directories : Tree → ℕ → ℕ → List Test
tests_of_directories t d m = flat_map (directory_tests t) (range_with_len d m)

-- the slots before slot k of directory d, without the first n of each
unfoldable pub slots_until : Tree → ℕ → ℕ → ℕ → List Slot
slots_until t n d k = slots_before t n d k

-- slot k of directory d is empty, or passes its test
abbrev pub slot_passes : Frame → ℕ → ℕ → Bool
slot_passes f d k = if is_some_slot (slot_at (tree f) d k) then has_entry f (tree f) d k else true

-- ---- slots

-- the types of the inodes; only a free one has none
pub record AreTypes (f : Frame) (types : List ℕ) : Type 0 where
  pub each : (i : ℕ) → get_or types i 0 ≡ (f.head i).type
  pub used : (i : ℕ) → (f.head i).is_used ≡ not ((f.head i).type == 0)

-- how many of these slots name each i-number
pub record AreCounts (counts : List ℕ) (slots : List Slot) : Type 0 where
  pub each : (i : ℕ) → 1 ≤ i → i < length counts → get_or counts i 0 ≡ count_by (is_slot_of i) slots

-- the marks of the directories that one of these slots names
pub record AreNamed (types : List ℕ) (named : List Bool) (slots : List Slot) : Type 0 where
  pub each : (i : ℕ) → is_dir_in types i ≡ true → mark_at named i ≡ list_any (is_slot_of i) slots

-- what is kept of the slots before slot k of directory d
pub record HasKept (f : Frame) (types counts : List ℕ) (named : List Bool) (d k : ℕ) : Type 0 where
  pub types_are : AreTypes f types
  pub counts_are : AreCounts counts (slots_until (tree f) 0 d k)
  pub named_are : AreNamed types named (slots_until (tree f) 2 d k)

-- each slot of the walked directories below d passes its test
pub record SlotsPass (f : Frame) (d : ℕ) : Type 0 where
  pub each : (i : ℕ) → 1 ≤ i → i < d → is_walked (tree f) i ≡ true → first_failing f (tests_of_slots (tree f) i 0 (length (f.slots i))) ≡ None

-- the first slot of the walked directories below d that fails its test
pub record IsWrong (f : Frame) (d : ℕ) (wrong : WrongSlot) : Type 0 where
  pub some : 1 ≤ wrong.ino
  pub below : wrong.ino < d
  pub walked : is_walked (tree f) wrong.ino ≡ true
  pub before : SlotsPass f wrong.ino
  pub inside : wrong.index < length (f.slots wrong.ino)
  pub stands : wrong.sector ≡ f.address wrong.ino (Body (wrong.index / 32))
  pub fails : first_failing f (tests_of_slots (tree f) wrong.ino 0 (length (f.slots wrong.ino))) ≡ Some (Entry wrong.ino wrong.index)

-- the slots of the directories below d were tested: none was wrong and all are counted, or the first wrong one is kept
pub record HasTested (f : Frame) (types : List ℕ) (kept : Kept) (d : ℕ) : Type 0 where
  pub passed : kept.wrong ≡ None → SlotsPass f d
  pub counted : kept.wrong ≡ None → HasKept f types kept.counts.items kept.named d 0
  pub failed : (wrong : WrongSlot) → kept.wrong ≡ Some wrong → IsWrong f d wrong

-- directory d isn't past the one with the first wrong slot
abbrev pub ComesBefore : ℕ → Kept → Type 0
ComesBefore d kept = (wrong : WrongSlot) → kept.wrong ≡ Some wrong → d ≤ wrong.ino

-- it comes before that one
abbrev pub PastWrong : ℕ → Kept → Type 0
PastWrong d kept = (wrong : WrongSlot) → kept.wrong ≡ Some wrong → d < wrong.ino

-- ---- parents

-- the parent of a directory is walked and has a slot past its first two for it; the root's is the root
abbrev pub is_held : Tree → ℕ → Bool
is_held t d = is_walked t (parent t d) && (if d == 2 then parent t d == 2 else is_child t (parent t d) d)

-- slot 0 is `.`, and slot 1 is `..`
abbrev pub begins_with_dots : Tree → ℕ → Bool
begins_with_dots t d = is_entry d (46 ∷ []) (slot_at t d 0) && is_entry (parent t d) (46 ∷ 46 ∷ []) (slot_at t d 1)

-- the marks of the directories that are held by their parent, where it is one of the walked ones below d
pub record AreHeld (t : Tree) (held : List Bool) (d : ℕ) : Type 0 where
  pub each : (i : ℕ) → is_walked t i ≡ true → mark_at held i ≡ (nat_lt (parent t i) d && (is_walked t (parent t i) && is_child t (parent t i) i))

-- the marks of the walked directories below d that begin with `.` and `..`
pub record AreDotted (t : Tree) (dotted : List Bool) (d : ℕ) : Type 0 where
  pub each : (i : ℕ) → i < d → is_walked t i ≡ true → mark_at dotted i ≡ begins_with_dots t i
  pub none : (i : ℕ) → d ≤ i → mark_at dotted i ≡ false

-- ---- the second reading

-- the directories below d were read a second time
pub record HasNoted (image : Image) (types : List ℕ) (bodies : Bodies) (walks : Walks) (parents : Parents) (kept : Kept) (d : ℕ) : Type 0 where
  pub can : (i : ℕ) → is_directory ((frame image).head i) ≡ true → CanRead image bodies i
  pub walks_are : AreWalked (tree (frame image)) walks.found walks.ups.items
  pub held : AreHeld (tree (frame image)) parents.held d
  pub dotted : AreDotted (tree (frame image)) parents.dotted d
  pub tested : HasTested (frame image) types kept d

-- tables with an entry for each of n i-numbers
pub record HasRoom (n : ℕ) (parents : Parents) (kept : Kept) : Type 0 where
  pub held : length parents.held ≡ n
  pub dotted : length parents.dotted ≡ n
  pub counts : length kept.counts.items ≡ n
  pub named : length kept.named ≡ n
