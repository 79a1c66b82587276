-- Names that may be made (filsys(5); RFC 1094 2.3.8, filename).
use Rattle.std.specs.Prelude.{ℕ, Bool, List, length, nat_le, not, ◌&&◌, ◌||◌}
use Rattle.files_model.specs.Names.{is_bad, is_dots, most_name}

-- the name may be made: it fits a slot, isn't empty, has neither a byte 0 nor a slash, and is neither `.` nor `..`
unfoldable pub is_good_name : List ℕ → Bool
is_good_name name = not (is_bad name || is_dots name) && nat_le (length name) most_name
