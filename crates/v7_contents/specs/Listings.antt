-- The entries that one reply takes.
use Rattle.std.specs.Prelude.{◌≡◌, ℕ, List, length, ◌==◌}
use Rattle.files_model.specs.declared.entries.Entry.{Entry}
use Rattle.files_model.specs.ReadingRows.{taken, entry_bytes_of}
use Rattle.v7_contents.specs.declared.listing.Listing.{Listing}

-- of the entries that are left those that a reply of so many bytes takes, and whether these are all
pub record IsListing (left : List Entry) (count : ℕ) (listing : Listing) : Type 0 where
  pub list : listing.list ≡ taken (entry_bytes_of count) left
  pub end : listing.end ≡ (length listing.list == length left)
