-- Where the blocks of a file are to stand: those that it has stay, and each sector that is held and has none takes a free one.
use Rattle.std.specs.Prelude.{◌≡◌, ◌≢◌, ℕ, ◌+◌, ◌-◌, ◌<◌, ◌≤◌, Bool, true, false, List, length, get_or, ◌==◌, ◌&&◌, nat_lt, if◌then◌else◌}
use Rattle.v7_map.specs.Frame.{Place, Body, Single, Double}
use Rattle.std.specs.List.{range_with_len, count_by}
use Rattle.plan_file.specs.declared.places.Places.{Places}
use Rattle.plan_file.specs.Draft.{holds}
use Rattle.plan_file.specs.Free.{count_from}
use Rattle.index_sets.specs.Free.{is_free}

-- sector k is held and has no block
abbrev pub is_new : List ℕ → List Bool → ℕ → Bool
is_new body held k = holds held k && (get_or body k 0 == 0)

-- how many of the sectors from i on take a block
unfoldable pub new_from : List ℕ → List Bool → ℕ → ℕ
new_from body held i = count_by (is_new body held) (range_with_len i (length held - i))

-- the sectors below i have their blocks, in rising order from the free ones below a number
pub record ArePlaced (set : List Bool) (body : List ℕ) (held : List Bool) (target : List ℕ) (i from : ℕ) : Type 0 where
  pub old : (k : ℕ) → is_new body held k ≡ false → get_or target k 0 ≡ get_or body k 0
  pub rest : (k : ℕ) → i ≤ k → get_or target k 0 ≡ get_or body k 0
  pub there : (k : ℕ) → k < i → is_new body held k ≡ true → is_free set (get_or target k 0) ≡ true
  pub low : (k : ℕ) → k < i → is_new body held k ≡ true → get_or target k 0 < from
  pub rise : (k l : ℕ) → k < l → l < i → is_new body held k ≡ true → is_new body held l ≡ true → get_or target k 0 < get_or target l 0
  pub room : count_from set 0 + new_from body held i ≤ count_from set from + new_from body held 0

-- the places of a file with these places, of which these sectors are to be held
pub record AreLaidOut (set : List Bool) (old : Places) (held : List Bool) (mapped : Bool) (new : Places) : Type 0 where
  pub from : ℕ
  pub body : ArePlaced set old.body held new.body 138 from
  pub single_old : old.single ≢ 0 → new.single ≡ old.single
  pub single_none : mapped ≡ false → new.single ≡ old.single
  pub single_new : old.single ≡ 0 → mapped ≡ true → (is_free set new.single ≡ true) × (from ≤ new.single)

-- the block at a place
abbrev pub placed_at : Places → Place → ℕ
placed_at places (Body k) = if nat_lt k 138 then get_or places.body k 0 else 0
placed_at places Single = places.single
placed_at places Double = 0
