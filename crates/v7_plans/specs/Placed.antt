-- Where the blocks of an inode that is put stand.
use Rattle.std.specs.Prelude.{◌≡◌, ◌≢◌, ℕ, ◌<◌, ◌≤◌, true, not, ◌==◌}
use Rattle.std.specs.List.{range_with_len, list_any}
use Rattle.files_model.specs.Files.{sectors_of}
use Rattle.stable.specs.Store.{Image}
use Rattle.v7_map.specs.Frame.{Frame, Head, Place, Body, Single, Double, is_directory, address_of, frame}
use Rattle.v7_map.specs.Weak.{IsGood}

-- a data block that no other inode has
pub record IsMine (f : Frame) (i a : ℕ) : Type 0 where
  pub low : f.isize ≤ a
  pub high : a < f.fsize
  pub others : (j : ℕ) → j ≢ i → (p : Place) → f.address j p ≢ a

-- Where the blocks of an inode with this head stand: at data blocks that no other inode has, each at one place, all that a directory needs, none past its size.
pub record IsPlaced (old : Image) (i : ℕ) (h : Head) : Type 0 where
  pub good : h.is_used ≡ true → IsGood h
  pub mine : (p : Place) → address_of old h p ≢ 0 → IsMine (frame old) i (address_of old h p)
  pub needed : (k : ℕ) → is_directory h ≡ true → k < sectors_of h.size → address_of old h (Body k) ≢ 0
  pub apart : (p q : Place) → address_of old h p ≢ 0 → address_of old h p ≡ address_of old h q → p ≡ q
  pub no_double : address_of old h Double ≡ 0
  pub past : (k : ℕ) → sectors_of h.size ≤ k → address_of old h (Body k) ≡ 0
  pub single : address_of old h Single ≢ 0 → list_any (λ k. not (address_of old h (Body k) == 0)) (range_with_len 10 128) ≡ true
