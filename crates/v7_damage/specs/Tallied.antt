-- What one reading of the walked directories tells, in whatever order they are read.
use Rattle.std.specs.Prelude.{◌≡◌, ◌≢◌, ◌<◌, ◌≤◌, ℕ, ◌-◌, Bool, true, false, List, [], ◌∷◌, ◌++◌, get_or, length, drop, nat_lt, ◌&&◌, if◌then◌else◌, not, count_by, replicate}
use Rattle.std.specs.List.{range_with_len, flat_map}
use Rattle.files_model.specs.Files.{Slot}
use Rattle.v7_map.specs.Frame.{Frame}
use Rattle.v7_map.specs.Weak.{slot_at}
use Rattle.v7_map.specs.Tree.{Tree, tree, is_slot_of, is_child, number_in}
use Rattle.v7_map.specs.Damage.{is_some_slot, is_nameless}
use Rattle.v7_damage.specs.Marks.{mark_at}
use Rattle.v7_damage.specs.Names.{AreCounts, begins_with_dots}
use Rattle.v7_damage.specs.Walk.{is_dir_in}
use Rattle.v7_damage.specs.declared.tally.Tally.{Tally}
use Rattle.v7_damage.specs.declared.walk.Walks.{Walks}

-- the slots of the directories with these marks, without the first n of each, of the m first i-numbers
unfoldable pub slots_read : Tree → ℕ → List Bool → ℕ → List Slot
slots_read t n read m = flat_map (λ d. if mark_at read d then drop n (t.slots d) else []) (range_with_len 1 m)

-- the slot is empty, or names a used inode by a name that isn't empty
abbrev pub is_good : Frame → Slot → Bool
is_good f s = if is_some_slot s then ((f.head (number_in s)).is_used && not (is_nameless s)) else true

-- these slots, and one more at this index of its directory where only those past the first two count
abbrev pub past_more : ℕ → List Slot → Slot → List Slot
past_more index past s = if nat_lt index 2 then past else (past ++ s ∷ [])

-- the marks of the directories that one of these slots names, each once, and the root not at all
pub record AreOnce (types : List ℕ) (named : List Bool) (past : List Slot) : Type 0 where
  pub once : (i : ℕ) → is_dir_in types i ≡ true → count_by (is_slot_of i) past ≡ (if mark_at named i then 1 else 0)
  pub root : is_dir_in types 2 ≡ true → mark_at named 2 ≡ false

-- what is kept of all these slots, and of those among them that stand past the first two of their directories
pub record AreTallied (types counts : List ℕ) (named : List Bool) (all past : List Slot) : Type 0 where
  pub counts_are : AreCounts counts all
  pub few : (i : ℕ) → count_by (is_slot_of i) all ≤ 65535
  pub once : AreOnce types named past

-- what was noted of the directories that were read, as long as none of them failed a test
pub record HasRead (f : Frame) (types : List ℕ) (tally : Tally) : Type 0 where
  pub kept : AreTallied types tally.kept.counts.items tally.kept.named (slots_read (tree f) 0 tally.read (length types - 1)) (slots_read (tree f) 2 tally.read (length types - 1))
  pub good : (d k : ℕ) → mark_at tally.read d ≡ true → k < length (f.slots d) → is_good f (slot_at (tree f) d k) ≡ true
  pub dotted : (d : ℕ) → mark_at tally.read d ≡ true → begins_with_dots (tree f) d ≡ true
  pub read : (i : ℕ) → i ≢ 0 → get_or tally.holders.items i 0 ≢ 0 → mark_at tally.read (get_or tally.holders.items i 0) ≡ true
  pub holds : (i : ℕ) → i ≢ 0 → get_or tally.holders.items i 0 ≢ 0 → is_child (tree f) (get_or tally.holders.items i 0) i ≡ true

abbrev pub HasTally : Frame → List ℕ → Tally → Type 0
HasTally f types tally = tally.fine ≡ true → HasRead f types tally

-- tables with an entry for each of n i-numbers
pub record HasTallyRoom (n : ℕ) (tally : Tally) : Type 0 where
  pub read : length tally.read ≡ n
  pub counts : length tally.kept.counts.items ≡ n
  pub named : length tally.kept.named ≡ n
  pub holders : length tally.holders.items ≡ n

-- nothing was read, and the tables have an entry for each of n i-numbers
pub record IsNoTally (n : ℕ) (tally : Tally) : Type 0 where
  pub read : tally.read ≡ replicate n false
  pub counts : tally.kept.counts.items ≡ replicate n 0
  pub named : tally.kept.named ≡ replicate n false
  pub holders : tally.holders.items ≡ replicate n 0

-- i is walked where it was read, and then the directory to which its `..` leads holds it; the root's leads to the root
pub record IsCovered (walks : Walks) (tally : Tally) (i : ℕ) : Type 0 where
  pub same : mark_at walks.found i ≡ mark_at tally.read i
  pub root : mark_at walks.found i ≡ true → i ≡ 2 → get_or walks.ups.items i 0 ≡ 2
  pub some : mark_at walks.found i ≡ true → i ≢ 2 → get_or walks.ups.items i 0 ≢ 0
  pub held : mark_at walks.found i ≡ true → i ≢ 2 → get_or tally.holders.items i 0 ≡ get_or walks.ups.items i 0
