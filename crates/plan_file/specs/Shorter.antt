-- The blocks of a file that gets shorter.
use Rattle.std.specs.Prelude.{◌≡◌, ◌≢◌, ◌<◌, ◌≤◌, ℕ, Bool, true, false, List, [], get_or, not, ◌==◌, ◌&&◌, nat_lt, if◌then◌else◌}
use Rattle.files_model.specs.Among.{is_among}
use Rattle.plan_file.specs.declared.places.Places.{Places}
use Rattle.plan_file.specs.Contents.{MapPuts}

-- the places of the first sectors, and of the block of addresses where it has one of them
pub record AreCut (old : Places) (count : ℕ) (new : Places) : Type 0 where
  pub body : (k : ℕ) → get_or new.body k 0 ≡ (if nat_lt k count then get_or old.body k 0 else 0)
  pub kept : (k : ℕ) → 10 ≤ k → k < 138 → get_or new.body k 0 ≢ 0 → new.single ≡ old.single
  pub same : new.single ≢ 0 → new.single ≡ old.single
  pub left : ℕ
  pub is_left : new.single ≢ 0 → (10 ≤ left) × (left < 138) × (get_or new.body left 0 ≢ 0)

-- the put of a block of addresses that is kept: none where no address in it changes
pub data LeftPuts (old new : Places) : List (ℕ × List ℕ) → Type 0 where
  gone : new.single ≡ 0 → LeftPuts old new []
  left : (maps : List (ℕ × List ℕ)) → new.single ≢ 0 → MapPuts old new maps → LeftPuts old new maps

-- a block stood there, and none does
abbrev pub is_dropped : ℕ → ℕ → Bool
is_dropped old new = not (old == 0) && (new == 0)

-- the block of addresses if it is dropped, and the dropped blocks of the sectors below i
pub record AreDropped (old new : Places) (i : ℕ) (blocks : List ℕ) : Type 0 where
  pub body : (k : ℕ) → k < i → is_dropped (get_or old.body k 0) (get_or new.body k 0) ≡ true → is_among (get_or old.body k 0) blocks ≡ true
  pub single : is_dropped old.single new.single ≡ true → is_among old.single blocks ≡ true
  pub others : (a : ℕ) → ((k : ℕ) → k < i → is_dropped (get_or old.body k 0) (get_or new.body k 0) ≡ true → get_or old.body k 0 ≢ a) → (is_dropped old.single new.single ≡ true → old.single ≢ a) → is_among a blocks ≡ false
