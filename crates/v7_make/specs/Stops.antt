-- The super-block of a volume that is stopped cleanly.
use Rattle.std.specs.Prelude.{◌≡◌, ◌<◌, ◌≤◌, ◌+◌, ◌-◌, ℕ, min, Bool, List, length, get_or}
use Rattle.std.specs.List.{range_with_len, filter}
use Rattle.index_sets.specs.Free.{is_free, count_free}
use Rattle.v7_layout.specs.declared.chain.Chain.{Chain}
use Rattle.v7_layout.specs.declared.super_block.Super.{Super}
use Rattle.v7_make.specs.Sets.{rising}

-- the record that a super-block has
abbrev pub chain_in : Super → Chain
chain_in s = record { s_nfree = s.s_nfree; s_free = s.s_free }

-- It was stopped cleanly at that second, and has these counts; but for its two lists all else is as it was.
abbrev pub IsStopped : Super → Super → ℕ → ℕ → ℕ → Type 0
IsStopped old new tfree tinode now =
    new ≡ record old { s_nfree = new.s_nfree; s_free = new.s_free; s_ninode = new.s_ninode; s_inode = new.s_inode; s_fmod = 0; s_time = now; s_tfree = tfree; s_tinode = tinode }

-- the up to 100 lowest numbers of a set, the highest first, and zeros
pub record ListsLowest (free : List Bool) (numbers : List ℕ) (count : ℕ) : Type 0 where
  pub most : count ≡ min 100 (count_free free)
  pub listed : (k : ℕ) → k < count → get_or numbers k 0 ≡ get_or (rising free) (count - 1 - k) 0
  pub rest : (k : ℕ) → count ≤ k → get_or numbers k 0 ≡ 0

-- so many places are left for the numbers from the item-th on; the places after these have those before
pub record ListedTo (items : List Bool) (numbers : List ℕ) (count left item : ℕ) : Type 0 where
  pub places : left + min count (length (filter (is_free items) (range_with_len 0 item))) ≡ count
  pub listed : (k : ℕ) → left ≤ k → k < count → get_or numbers k 0 ≡ get_or (filter (is_free items) (range_with_len 0 item)) (count - 1 - k) 0
  pub low : (k : ℕ) → k < left → get_or numbers k 0 ≡ 0
  pub rest : (k : ℕ) → count ≤ k → get_or numbers k 0 ≡ 0
