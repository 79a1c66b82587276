-- Who may do what to a file (docs/CALLS.md, "Permission").
use Rattle.std.specs.Prelude.{ℕ, ◌/◌, ◌%◌, Bool, true, false, ◌==◌, if◌then◌else◌, ◌&&◌, ◌||◌}
use Rattle.std.specs.List.{list_any}
use Rattle.files_model.specs.declared.attributes.Attr.{Attr}
use Rattle.files_model.specs.declared.attributes.Kind.{Kind}
use Rattle.files_model.specs.declared.attributes.Kind.TheVariants.{Regular, Directory, Link}
use Rattle.files_model.specs.declared.credential.Cred.{Cred}
use Rattle.files_model.specs.declared.permission.Want.{Want}
use Rattle.files_model.specs.declared.permission.Want.TheVariants as want

abbrev pub is_regular : Kind → Bool
is_regular Regular = true
is_regular Directory = false
is_regular Link = false

abbrev pub is_directory : Kind → Bool
is_directory Directory = true
is_directory Regular = false
is_directory Link = false

abbrev pub is_link : Kind → Bool
is_link Link = true
is_link Regular = false
is_link Directory = false

-- the three bits of the caller's class: owner, else group, else others
abbrev pub class_bits : Cred → Attr → ℕ
class_bits cred n =
    if cred.uid == n.uid then n.mode / 64 % 8
    else if (cred.gid == n.gid) || list_any (λ g. g == n.gid) cred.gids then n.mode / 8 % 8
    else n.mode % 8

-- the owner of a regular file reads and writes it whatever its bits
abbrev pub is_owner_of_file : Cred → Attr → Bool
is_owner_of_file cred n = (cred.uid == n.uid) && is_regular n.kind

-- what the bits of the class allow
abbrev pub bits_allow : ℕ → Cred → Attr → Want → Bool
bits_allow bits cred n want.Read = is_owner_of_file cred n || ((bits / 4 == 1) || (is_regular n.kind && (bits % 2 == 1)))
bits_allow bits cred n want.Write = is_owner_of_file cred n || (bits / 2 % 2 == 1)
bits_allow bits cred n want.Search = bits % 2 == 1

-- user 0 may all
abbrev pub allows : Cred → Attr → Want → Bool
allows cred n w = (cred.uid == 0) || bits_allow (class_bits cred n) cred n w
