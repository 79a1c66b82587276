-- A page of entries while it is filled.
use Rattle.std.specs.Prelude.{◌≡◌, ◌≤◌, ℕ, ◌+◌, Bool, true, false, List, [], ◌∷◌, ◌++◌, length, Option, Some, None, ◌==◌}
use Rattle.std.specs.List.{sum_by}
use Rattle.files_model.specs.declared.entries.Entry.{Entry}
use Rattle.files_model.specs.Files.{Slot}
use Rattle.files_model.specs.ReadingRows.{entry_size, fitting, taken}
use Rattle.v7_contents.specs.declared.page.Page.{Page}

-- the entry in slot number k, none in an empty one
abbrev pub entry_of : ℕ → Slot → Option Entry
entry_of k None = None
entry_of k (Some e) = Some (record { fileid = e.0; name = e.1; cookie = k + 1 })

-- an entry, if there is one, and those after it
abbrev pub with_entry : Option Entry → List Entry → List Entry
with_entry None rest = rest
with_entry (Some e) rest = e ∷ rest

-- what a page with these entries and so much room left takes of the rest: its first entry whatever its size
abbrev pub more_of : List Entry → ℕ → List Entry → List Entry
more_of [] room rest = taken room rest
more_of (e ∷ list) room rest = fitting room rest

-- A page for so many bytes of the entries that are left has all but these.
pub record IsOpen (room : ℕ) (left : List Entry) (page : Page) (rest : List Entry) : Type 0 where
  pub all : left ≡ page.list.items ++ rest
  pub takes : taken room left ≡ page.list.items ++ more_of page.list.items page.room rest

-- It has what it takes, and an entry is left.
pub record IsFull (room : ℕ) (left : List Entry) (page : Page) : Type 0 where
  pub takes : taken room left ≡ page.list.items
  pub more : (length page.list.items == length left) ≡ false

-- It has gone on to these, or is full.
abbrev pub GoesOn : Bool → ℕ → List Entry → Page → List Entry → Type 0
GoesOn true room left page rest = IsOpen room left page rest
GoesOn false room left page rest = IsFull room left page

-- With its room it fits a reply of at most 8,192 bytes.
abbrev pub FitsReply : Page → Type 0
FitsReply page = 12 + sum_by entry_size page.list.items + page.room ≤ 8192
