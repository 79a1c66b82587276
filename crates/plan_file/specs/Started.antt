-- What is known of a file before a batch, and what is left of a free set after one.
use Rattle.std.specs.Prelude.{◌≡◌, ◌≢◌, ℕ, ◌<◌, Bool, true, List, length, get_or, not, ◌==◌}
use Rattle.v7_layout.specs.declared.inode.Inode.{Inode}
use Rattle.v7_map.specs.Stored.{stored_attr}
use Rattle.plan_file.specs.declared.draft.Draft.{Draft}
use Rattle.plan_file.specs.declared.places.Places.{Places}
use Rattle.plan_file.specs.Draft.{holds}
use Rattle.index_sets.specs.Free.{is_free}
use Rattle.plan_file.specs.Layout.{is_new}

-- the sectors that have a block are held
pub record AreHeld (body : List ℕ) (held : List Bool) : Type 0 where
  pub long : length held ≡ 138
  pub is : (k : ℕ) → holds held k ≡ not (get_or body k 0 == 0)

-- what is known of inode i, which has these places
pub record IsFirst (i : ℕ) (n : Inode) (places : Places) (free : ℕ) (d : Draft) : Type 0 where
  pub attr : d.attr ≡ stored_attr i n
  pub held : AreHeld places.body d.held
  pub mapped : d.mapped ≡ not (places.single == 0)
  pub room : d.free ≡ free

-- a set without the new blocks of the sectors below i
pub record AreTaken (set : List Bool) (body : List ℕ) (held : List Bool) (target : List ℕ) (i : ℕ) (left : List Bool) : Type 0 where
  pub long : length left ≡ length set
  pub lost : (a : ℕ) → is_free left a ≡ true → (is_free set a ≡ true) × ((k : ℕ) → k < i → is_new body held k ≡ true → get_or target k 0 ≢ a)
  pub kept : (a : ℕ) → is_free set a ≡ true → ((k : ℕ) → k < i → is_new body held k ≡ true → get_or target k 0 ≢ a) → is_free left a ≡ true

-- a set without all new blocks
pub record AreAllTaken (set : List Bool) (old : Places) (held : List Bool) (mapped : Bool) (new : Places) (left : List Bool) : Type 0 where
  pub long : length left ≡ length set
  pub lost : (a : ℕ) → is_free left a ≡ true → (is_free set a ≡ true) × ((k : ℕ) → k < 138 → is_new old.body held k ≡ true → get_or new.body k 0 ≢ a) × (old.single ≡ 0 → mapped ≡ true → new.single ≢ a)
  pub kept : (a : ℕ) → is_free set a ≡ true → ((k : ℕ) → k < 138 → is_new old.body held k ≡ true → get_or new.body k 0 ≢ a) → (old.single ≡ 0 → mapped ≡ true → new.single ≢ a) → is_free left a ≡ true
