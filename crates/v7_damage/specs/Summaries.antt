-- What an inode needs, whether its addresses are tidy, and what is kept of it.
use Rattle.std.specs.Prelude.{◌≡◌, ◌<◌, ℕ, ◌+◌, Bool, true, false, List, get_or, min, nat_lt, nat_le, ◌==◌, ◌&&◌, ◌||◌, not, count_by, if◌then◌else◌}
use Rattle.std.specs.List.{range_with_len, list_any, list_all}
use Rattle.files_model.specs.Files.{sectors_of}
use Rattle.v7_layout.specs.declared.inode.Inode.{Inode}
use Rattle.v7_map.specs.Frame.{Frame, Body, Single}
use Rattle.v7_damage.specs.Stored.{body_at}
use Rattle.v7_damage.specs.declared.summary.Summary.{Summary}

-- ---- what an inode needs

-- the blocks of the first n sectors of a body where these tests say that one stands, with the block of addresses that they need
abbrev pub needed_by : (ℕ → Bool) → ℕ → ℕ
needed_by there n = count_by there (range_with_len 0 n) + (if list_any (λ k. nat_le 10 k && there k) (range_with_len 0 n) then 1 else 0)

-- how many sectors below a size have a place
abbrev pub sectors_in_size : ℕ → ℕ
sectors_in_size size = min (sectors_of size) 138

-- a block stands at the place of sector k
abbrev pub is_at : List ℕ → ℕ → Bool
is_at places k = not (body_at places k == 0)

-- the blocks that inode i needs
unfoldable pub needs : Frame → ℕ → ℕ
needs f i = needed_by (λ k. not (f.address i (Body k) == 0)) (sectors_in_size (f.head i).size)

-- ---- whether its addresses are tidy

-- none of the first n sectors of a body stands past its size
unfoldable pub none_past : (ℕ → ℕ) → ℕ → ℕ → Bool
none_past at size n = list_all (λ k. nat_lt k (sectors_of size) || (at k == 0)) (range_with_len 0 n)

-- one of n sectors of a body from the tenth on stands somewhere
unfoldable pub some_listed : (ℕ → ℕ) → ℕ → Bool
some_listed at n = list_any (λ k. not (at k == 0)) (range_with_len 10 n)

-- no sector stands past the size, and a block of addresses holds one
abbrev pub is_tidy : (ℕ → ℕ) → ℕ → ℕ → Bool
is_tidy at single size = none_past at size 138 && ((single == 0) || some_listed at 128)

-- ---- what is kept of it

-- the summary of an inode whose blocks stand at these places
abbrev pub summary_by : Inode → List ℕ → Summary
summary_by n places = record { nlink = n.nlink; needs = needed_by (is_at places) (sectors_in_size n.size); tidy = is_tidy (body_at places) (get_or places 10 0) n.size }

-- that of inode i
abbrev pub summary_at : Frame → ℕ → Summary
summary_at f i = record { nlink = (f.head i).nlink; needs = needs f i; tidy = is_tidy (λ k. f.address i (Body k)) (f.address i Single) (f.head i).size }

-- that of no inode
abbrev pub no_summary : Summary
no_summary = record { nlink = 0; needs = 0; tidy = false }

-- the summaries of the used inodes below n
pub record AreSummaries (f : Frame) (summaries : List Summary) (n : ℕ) : Type 0 where
  pub each : (i : ℕ) → i < n → (f.head i).is_used ≡ true → get_or summaries i no_summary ≡ summary_at f i
